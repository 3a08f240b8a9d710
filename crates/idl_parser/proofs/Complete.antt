-- A phrase is read where nothing behind it could go on with it.
use Rattle.std.proofs.Common.{◌≡◌, Bool, true, false, ℕ, zero, suc, ◌≤◌, List, ◌∷◌, ◌++◌, length, ◌⊎◌, sym, ap, ◌∙◌, subst, inl, inr, arith}
use Rattle.idl_token.specs.declared.terminal.Terminal.{Terminal}
use Rattle.idl_token.specs.Terminals.{same}
use Rattle.idl_parser.specs.Phrases.{Lexeme, Node, none, placed, place_at, Phrase, one, deep, chain, either, maybe, many, marked, Times, Derives}
use Rattle.idl_parser.specs.Shapes.{starts_in, apart, first, more, may_be_empty, IsClear}
use Rattle.idl_parser.specs.Reading.{ParseResult, done, failed, map_tree, parse_then, read_one, repeat, read}
use Rattle.idl_parser.proofs.Outcomes.{chosen, passed}
use Rattle.idl_parser.proofs.Sound.{shrinks}
use Rattle.idl_parser.proofs.Sets.{starts_apart, starts_false, begins_row, full, begins, proper}

free_left : (b : Bool) (xs ys : List Terminal) (ts : List Lexeme) → b ≡ true → starts_in (elim b [ true ↦ xs ++ ys | false ↦ ys ]) ts ≡ false → starts_in xs ts ≡ false
free_left true xs ys ts is h = (starts_false xs ys ts h).0
free_left false xs ys ts is h = cc

free_right : (b : Bool) (xs ys : List Terminal) (ts : List Lexeme) → starts_in (elim b [ true ↦ xs ++ ys | false ↦ ys ]) ts ≡ false → starts_in ys ts ≡ false
free_right true xs ys ts h = (starts_false xs ys ts h).1
free_right false xs ys ts h = h

then_done : (join : Node → Node → Node) (o : ParseResult) (go : List Lexeme → ParseResult) (mid : List Lexeme) (a b x : Node) (rest : List Lexeme)
    → o ≡ done a mid → go mid ≡ done b rest → x ≡ join a b → parse_then join o go ≡ done x rest
then_done join o go mid a b x rest l r e =
    ap (λ o. parse_then join o go) l ∙ ap (map_tree (join a)) r ∙ ap (λ y. done y rest) (sym e)

row : (n : ℕ) (join : Node → Node → Node) (p : Phrase) → IsClear p → may_be_empty p ≡ false → apart (more p) (first p) ≡ true
    → ((ts : List Lexeme) (x : Node) (rest : List Lexeme) → Derives p ts x rest → starts_in (more p) rest ≡ false → length ts ≤ n → read n p ts ≡ done x rest)
    → (m count : ℕ) (ts : List Lexeme) (x : Node) (rest : List Lexeme) → Times join (Derives p) count ts x rest
    → starts_in (first p) rest ≡ false → starts_in (more p) rest ≡ false → length ts ≤ m → length ts ≤ n
    → repeat m join (starts_in (first p)) (read n p) ts ≡ done x rest
row n join p clear some split each zero zero ts x rest h free over room most = λ i. done (sym h.1 i) (h.0 i)
row n join p clear some split each (suc m) zero ts x rest h free over room most =
    passed (starts_in (first p) ts) _ (done none ts) (subst (λ t. starts_in (first p) t ≡ false) (sym h.0) free) ∙ (λ i. done (sym h.1 i) (h.0 i))
row n join p clear some split each zero (suc count) ts x rest h free over room most =
    let less = proper p ts h.1 h.0 clear some h.3 in absurd (let no_room : ⊥ = omega arith in no_room)
row n join p clear some split each (suc m) (suc count) ts x rest h free over room most =
    let less = proper p ts h.1 h.0 clear some h.3 in
    let here = full ts h.0 (may_be_empty p) (first p) some (begins p ts h.1 h.0 clear h.3) in
    let next : (starts_in (first p) h.0 ≡ true) ⊎ (h.0 ≡ rest) =
    begins_row join p count h.0 h.2 rest (λ ts x rest i. full ts rest (may_be_empty p) (first p) some (begins p ts x rest clear i)) h.4 in
    let stops : starts_in (more p) h.0 ≡ false = elim next [
      | inl s ↦ starts_apart (more p) (first p) h.0 split s
      | inr e ↦ subst (λ t. starts_in (more p) t ≡ false) (sym e) over
    ] in
    chosen (starts_in (first p) ts) (parse_then join (read n p ts) (repeat m join (starts_in (first p)) (read n p))) (done none ts) here
    ∙ then_done join (read n p ts) (repeat m join (starts_in (first p)) (read n p)) h.0 h.1 h.2 x rest
    (each ts h.1 h.0 h.3 stops most)
    (row n join p clear some split each m count h.0 h.2 rest h.4 free over (omega arith) (omega arith))
    h.5

pub complete : (n : ℕ) (p : Phrase) (ts : List Lexeme) (x : Node) (rest : List Lexeme) → IsClear p → Derives p ts x rest
    → starts_in (more p) rest ≡ false → length ts ≤ n → read n p ts ≡ done x rest
complete n (one k f) ts x rest clear h free most =
    ap (read_one k f) h.2 ∙ chosen (same h.0.what k) (done (f h.0) rest) (failed false (h.0 ∷ rest)) h.1 ∙ ap (λ y. done y rest) (sym h.3)
complete n (deep k) ts x rest clear h free most = absurd h
complete n (chain join p q) ts x rest clear h free most =
    let stops : starts_in (more p) h.0 ≡ false = elim (begins q h.0 h.2 rest clear.1 h.4) [
      | inl s ↦ starts_apart (more p) (first q) h.0 clear.2 s
      | inr e ↦ subst (λ t. starts_in (more p) t ≡ false) (sym e.0) (free_left (may_be_empty q) (more p) (more q) rest e.1 free)
    ] in
    let less = shrinks p ts h.1 h.0 h.3 in
    then_done join (read n p ts) (read n q) h.0 h.1 h.2 x rest
    (complete n p ts h.1 h.0 clear.0 h.3 stops most)
    (complete n q h.0 h.2 rest clear.1 h.4 (free_right (may_be_empty q) (more p) (more q) rest free) (omega arith))
    h.5
complete n (either p q) ts x rest clear (inl h) free most =
    chosen (starts_in (first p) ts) (read n p ts) (read n q ts)
    (full ts rest (may_be_empty p) (first p) clear.3 (begins p ts x rest clear.0 h))
    ∙ complete n p ts x rest clear.0 h (starts_false (more p) (more q) rest free).0 most
complete n (either p q) ts x rest clear (inr h) free most =
    passed (starts_in (first p) ts) (read n p ts) (read n q ts)
    (starts_apart (first p) (first q) ts clear.2 (full ts rest (may_be_empty q) (first q) clear.4 (begins q ts x rest clear.1 h)))
    ∙ complete n q ts x rest clear.1 h (starts_false (more p) (more q) rest free).1 most
complete n (maybe f p) ts x rest clear (inl h) free most =
    passed (starts_in (first p) ts) (map_tree f (read n p ts)) (done none ts)
    (subst (λ t. starts_in (first p) t ≡ false) (sym h.0) (starts_false (first p) (more p) rest free).0)
    ∙ (λ i. done (sym h.1 i) (h.0 i))
complete n (maybe f p) ts x rest clear (inr h) free most =
    chosen (starts_in (first p) ts) (map_tree f (read n p ts)) (done none ts)
    (full ts rest (may_be_empty p) (first p) clear.1 (begins p ts h.0 rest clear.0 h.1))
    ∙ ap (map_tree f) (complete n p ts h.0 rest clear.0 h.1 (starts_false (first p) (more p) rest free).1 most)
    ∙ ap (λ y. done y rest) (sym h.2)
complete n (many join p) ts x rest clear h free most =
    row n join p clear.0 clear.1 clear.2 (λ ts x rest i. complete n p ts x rest clear.0 i) n h.0 ts x rest h.1
    (starts_false (first p) (more p) rest free).0 (starts_false (first p) (more p) rest free).1 most most
complete n (marked p) ts x rest clear h free most =
    ap (map_tree (placed (place_at ts))) (complete n p ts h.0 rest clear.0 h.1 free most) ∙ ap (λ y. done y rest) (sym h.2)
