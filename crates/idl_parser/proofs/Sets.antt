-- Sets of symbols, and the symbols with which a phrase begins.
use Rattle.std.proofs.Common.{◌≡◌, Bool, true, false, not, ◌&&◌, ◌||◌, ◌==◌, ℕ, zero, suc, ◌+◌, ◌<◌, List, [], ◌∷◌, ◌++◌, length, ◌⊎◌, refl, sym, ap, ◌∙◌, subst, inl, inr, arith}
use Rattle.std.specs.List.{list_any}
use Rattle.std.proofs.lemmas.Bool.{eqb-true}
use Rattle.std.proofs.lemmas.List.{length-append}
use Rattle.idl_token.specs.declared.terminal.Terminal.{Terminal}
use Rattle.idl_token.specs.Terminals.{code, same}
use Rattle.idl_parser.specs.Phrases.{Lexeme, Node, Phrase, one, deep, chain, either, maybe, many, marked, Times, Derives}
use Rattle.idl_parser.specs.Shapes.{contains_terminal, starts_in, apart, first, may_be_empty, IsClear}
use Rattle.idl_parser.proofs.Outcomes.{cases, never}
use Rattle.idl_parser.proofs.Sound.{cut}

pub append_false : (xs ys : List Terminal) (k : Terminal) → contains_terminal (xs ++ ys) k ≡ false → (contains_terminal xs k ≡ false) × (contains_terminal ys k ≡ false)
append_false [] ys k h = (refl, h)
append_false (x ∷ xs) ys k h = go (same k x) h (append_false xs ys k)
  where
    go : (b : Bool) → (b || contains_terminal (xs ++ ys) k) ≡ false → (contains_terminal (xs ++ ys) k ≡ false → (contains_terminal xs k ≡ false) × (contains_terminal ys k ≡ false))
        → ((b || contains_terminal xs k) ≡ false) × (contains_terminal ys k ≡ false)
    go true e next = cc
    go false e next = next e

has_left : (xs ys : List Terminal) (k : Terminal) → contains_terminal xs k ≡ true → contains_terminal (xs ++ ys) k ≡ true
has_left xs ys k h = elim (cases (contains_terminal (xs ++ ys) k)) [ inl e ↦ e | inr e ↦ never (contains_terminal xs k) h (append_false xs ys k e).0 ]

has_right : (xs ys : List Terminal) (k : Terminal) → contains_terminal ys k ≡ true → contains_terminal (xs ++ ys) k ≡ true
has_right xs ys k h = elim (cases (contains_terminal (xs ++ ys) k)) [ inl e ↦ e | inr e ↦ never (contains_terminal ys k) h (append_false xs ys k e).1 ]

has_alike : (ys : List Terminal) (k x : Terminal) → code k ≡ code x → contains_terminal ys k ≡ contains_terminal ys x
has_alike [] k x e = refl
has_alike (y ∷ ys) k x e = λ i. (e i == code y) || (has_alike ys k x e i)

apart_has : (xs ys : List Terminal) (k : Terminal) → apart xs ys ≡ true → contains_terminal xs k ≡ true → contains_terminal ys k ≡ false
apart_has [] ys k a h = cc
apart_has (x ∷ xs) ys k a h = go (contains_terminal ys x) (same k x) refl refl a h (apart_has xs ys k)
  where
    go : (b c : Bool) → contains_terminal ys x ≡ b → same k x ≡ c → (not b && apart xs ys) ≡ true → (c || contains_terminal xs k) ≡ true
        → (apart xs ys ≡ true → contains_terminal xs k ≡ true → contains_terminal ys k ≡ false) → contains_terminal ys k ≡ false
    go true c is is2 a h next = cc
    go false true is is2 a h next = has_alike ys k x (eqb-true (code k) (code x) is2) ∙ is
    go false false is is2 a h next = next a h

pub starts_apart : (xs ys : List Terminal) (ts : List Lexeme) → apart xs ys ≡ true → starts_in ys ts ≡ true → starts_in xs ts ≡ false
starts_apart xs ys [] a h = refl
starts_apart xs ys (t ∷ ts) a h =
    elim (cases (contains_terminal xs t.what)) [ inl e ↦ never (contains_terminal ys t.what) h (apart_has xs ys t.what a e) | inr e ↦ e ]

pub starts_false : (xs ys : List Terminal) (ts : List Lexeme) → starts_in (xs ++ ys) ts ≡ false → (starts_in xs ts ≡ false) × (starts_in ys ts ≡ false)
starts_false xs ys [] h = (refl, refl)
starts_false xs ys (t ∷ ts) h = append_false xs ys t.what h

starts_left : (xs ys : List Terminal) (ts : List Lexeme) → starts_in xs ts ≡ true → starts_in (xs ++ ys) ts ≡ true
starts_left xs ys [] h = cc
starts_left xs ys (t ∷ ts) h = has_left xs ys t.what h

starts_right : (xs ys : List Terminal) (ts : List Lexeme) → starts_in ys ts ≡ true → starts_in (xs ++ ys) ts ≡ true
starts_right xs ys [] h = cc
starts_right xs ys (t ∷ ts) h = has_right xs ys t.what h

-- the first symbols of a chain
grow_left : (b : Bool) (xs ys : List Terminal) (ts : List Lexeme) → starts_in xs ts ≡ true → starts_in (elim b [ true ↦ xs ++ ys | false ↦ xs ]) ts ≡ true
grow_left true xs ys ts h = starts_left xs ys ts h
grow_left false xs ys ts h = h

grow_right : (b : Bool) (xs ys : List Terminal) (ts : List Lexeme) → b ≡ true → starts_in ys ts ≡ true → starts_in (elim b [ true ↦ xs ++ ys | false ↦ xs ]) ts ≡ true
grow_right true xs ys ts is h = starts_right xs ys ts h
grow_right false xs ys ts is h = cc

pub begins_row : (join : Node → Node → Node) (p : Phrase) (count : ℕ) (ts : List Lexeme) (x : Node) (rest : List Lexeme)
    → ((ts : List Lexeme) (x : Node) (rest : List Lexeme) → Derives p ts x rest → starts_in (first p) ts ≡ true)
    → Times join (Derives p) count ts x rest → (starts_in (first p) ts ≡ true) ⊎ (ts ≡ rest)
begins_row join p zero ts x rest each h = inr h.0
begins_row join p (suc count) ts x rest each h = inl (each ts h.1 h.0 h.3)

pub full : (ts rest : List Lexeme) (b : Bool) (set : List Terminal) → b ≡ false → (starts_in set ts ≡ true) ⊎ ((ts ≡ rest) × (b ≡ true)) → starts_in set ts ≡ true
full ts rest b set is (inl h) = h
full ts rest b set is (inr h) = never b h.1 is

-- a phrase begins with one of its first symbols, or it is empty
pub begins : (p : Phrase) (ts : List Lexeme) (x : Node) (rest : List Lexeme) → IsClear p → Derives p ts x rest
    → (starts_in (first p) ts ≡ true) ⊎ ((ts ≡ rest) × (may_be_empty p ≡ true))
begins (one k f) ts x rest clear h =
    let one_has : (same h.0.what k || false) ≡ true = ap (λ b. b || false) h.1 in
    inl (subst (λ ts. starts_in (k ∷ []) ts ≡ true) (sym h.2) one_has)
begins (deep k) ts x rest clear h = absurd h
begins (chain join p q) ts x rest clear h =
    elim (begins p ts h.1 h.0 clear.0 h.3) [
      | inl s ↦ inl (grow_left (may_be_empty p) (first p) (first q) ts s)
      | inr e ↦ elim (begins q h.0 h.2 rest clear.1 h.4) [
        | inl s ↦ inl (grow_right (may_be_empty p) (first p) (first q) ts e.1 (subst (λ m. starts_in (first q) m ≡ true) (sym e.0) s))
        | inr g ↦ inr (e.0 ∙ g.0, ap (λ b. elim b [ true ↦ may_be_empty p | false ↦ false ]) g.1 ∙ e.1)
      ]
    ]
begins (either p q) ts x rest clear (inl h) =
    inl (starts_left (first p) (first q) ts (full ts rest (may_be_empty p) (first p) clear.3 (begins p ts x rest clear.0 h)))
begins (either p q) ts x rest clear (inr h) =
    inl (starts_right (first p) (first q) ts (full ts rest (may_be_empty q) (first q) clear.4 (begins q ts x rest clear.1 h)))
begins (maybe f p) ts x rest clear (inl h) = inr (h.0, refl)
begins (maybe f p) ts x rest clear (inr h) =
    inl (full ts rest (may_be_empty p) (first p) clear.1 (begins p ts h.0 rest clear.0 h.1))
begins (many join p) ts x rest clear h =
    elim (begins_row join p h.0 ts x rest
    (λ ts x rest i. full ts rest (may_be_empty p) (first p) clear.1 (begins p ts x rest clear.0 i)) h.1) [
      | inl s ↦ inl s
      | inr e ↦ inr (e, refl)
    ]
begins (marked p) ts x rest clear h =
    inl (full ts rest (may_be_empty p) (first p) clear.1 (begins p ts h.0 rest clear.0 h.1))

-- a phrase that isn't empty takes a symbol
pub proper : (p : Phrase) (ts : List Lexeme) (x : Node) (rest : List Lexeme) → IsClear p → may_be_empty p ≡ false → Derives p ts x rest → length rest < length ts
proper p ts x rest clear some h = let c = cut p ts x rest h in go c.front c.is (c.again [])
  where
    go : (front : List Lexeme) → ts ≡ front ++ rest → ((y : Node) × Derives p (front ++ []) y []) → length rest < length ts
    go [] is i = let s : false ≡ true = full [] [] (may_be_empty p) (first p) some (begins p [] i.0 [] clear i.1) in cc
    go (t ∷ front) is i = let e : length ts ≡ suc (length front + length rest) = ap length is ∙ ap suc (length-append front rest) in omega arith

-- `has` as the library's word for it
pub any_has : (set : List Terminal) (k : Terminal) → list_any (λ x. same k x) set ≡ contains_terminal set k
any_has [] k = refl
any_has (x ∷ set) k = ap (λ b. same k x || b) (any_has set k)
