-- What is read is a phrase, and a phrase is read where nothing lets it go on.
use Rattle.std.proofs.Common.{◌≡◌, Bool, true, false, ℕ, zero, suc, ◌+◌, ◌≤◌, List, [], ◌∷◌, ◌++◌, length, refl, sym, ap, ◌∙◌, subst, inl, inr, arith}
use Rattle.std.proofs.lemmas.List.{append_assoc, length-append}
use Rattle.idl_token.specs.declared.terminal.Terminal.{Terminal}
use Rattle.idl_token.specs.Terminals.{same}
use Rattle.idl_parser.specs.Phrases.{Lexeme, Node, none, placed, place_at, Phrase, one, deep, chain, either, maybe, many, marked, Times, Derives}
use Rattle.idl_parser.specs.Shapes.{starts_in, first}
use Rattle.idl_parser.specs.Reading.{ParseResult, done, failed, map_tree, parse_then, choose, read_one, repeat, read}
use Rattle.idl_parser.proofs.Outcomes.{which, made_done, both_done}

-- one symbol
one_done : (k : Terminal) (f : Lexeme → Node) (ts : List Lexeme) (x : Node) (rest : List Lexeme) → read_one k f ts ≡ done x rest → Derives (one k f) ts x rest
one_done k f [] x rest e = cc
one_done k f (t ∷ ts) x rest e = go (same t.what k) refl e
  where
    go : (b : Bool) → same t.what k ≡ b → choose b (done (f t) ts) (failed false (t ∷ ts)) ≡ done x rest → Derives (one k f) (t ∷ ts) x rest
    go true is h = let r : ts ≡ rest = cc in (t, is, ap (λ r. t ∷ r) r, cc)
    go false is h = cc

-- a row
repeat_done : (n : ℕ) (join : Node → Node → Node) (begins : List Lexeme → Bool) (go : List Lexeme → ParseResult) (P : List Lexeme → Node → List Lexeme → Type 0)
    → ((ts : List Lexeme) (x : Node) (rest : List Lexeme) → go ts ≡ done x rest → P ts x rest)
    → (ts : List Lexeme) (x : Node) (rest : List Lexeme) → repeat n join begins go ts ≡ done x rest → (count : ℕ) × Times join P count ts x rest
repeat_done zero join begins go P each ts x rest e = (zero, (cc, cc))
repeat_done (suc n) join begins go P each ts x rest e =
    elim (which (begins ts) (parse_then join (go ts) (repeat n join begins go)) (done none ts) (done x rest) e) [
      | inl h ↦
          let s = both_done join (go ts) (repeat n join begins go) x rest h.1 in
          let r = repeat_done n join begins go P each s.mid s.b rest s.right in
          (suc r.0, (s.mid, s.a, s.b, each ts s.a s.mid s.left, r.1, s.is))
      | inr h ↦ let e : done none ts ≡ done x rest = h.1 in (zero, (cc, cc))
    ]

-- what is read is a phrase
pub sound : (n : ℕ) (p : Phrase) (ts : List Lexeme) (x : Node) (rest : List Lexeme) → read n p ts ≡ done x rest → Derives p ts x rest
sound n (one k f) ts x rest e = one_done k f ts x rest e
sound n (deep k) ts x rest e = cc
sound n (chain join p q) ts x rest e =
    let s = both_done join (read n p ts) (read n q) x rest e in
    (s.mid, s.a, s.b, sound n p ts s.a s.mid s.left, sound n q s.mid s.b rest s.right, s.is)
sound n (either p q) ts x rest e =
    elim (which (starts_in (first p) ts) (read n p ts) (read n q ts) (done x rest) e) [
      | inl h ↦ inl (sound n p ts x rest h.1)
      | inr h ↦ inr (sound n q ts x rest h.1)
    ]
sound n (maybe f p) ts x rest e =
    elim (which (starts_in (first p) ts) (map_tree f (read n p ts)) (done none ts) (done x rest) e) [
      | inl h ↦ let m = made_done f (read n p ts) x rest h.1 in inr (m.tree, sound n p ts m.tree rest m.was, m.is)
      | inr h ↦ let e : done none ts ≡ done x rest = h.1 in inl (cc, cc)
    ]
sound n (many join p) ts x rest e = repeat_done n join (starts_in (first p)) (read n p) (Derives p) (sound n p) ts x rest e
sound n (marked p) ts x rest e =
    let m = made_done (placed (place_at ts)) (read n p ts) x rest e in (m.tree, sound n p ts m.tree rest m.was, m.is)

-- what stands in front of the rest is such a phrase, whatever follows
pub record Cut (p : Phrase) (ts rest : List Lexeme) : Type 0 where
  pub front : List Lexeme
  pub is : ts ≡ front ++ rest
  pub again : (tail : List Lexeme) → (x : Node) × Derives p (front ++ tail) x tail

record RowCut (join : Node → Node → Node) (P : List Lexeme → Node → List Lexeme → Type 0) (ts rest : List Lexeme) : Type 0 where
  front : List Lexeme
  is : ts ≡ front ++ rest
  again : (tail : List Lexeme) → (x : Node) × ((count : ℕ) × Times join P count (front ++ tail) x tail)

cut_row : (join : Node → Node → Node) (p : Phrase)
    → ((ts : List Lexeme) (x : Node) (rest : List Lexeme) → Derives p ts x rest → Cut p ts rest)
    → (count : ℕ) (ts : List Lexeme) (x : Node) (rest : List Lexeme) → Times join (Derives p) count ts x rest → RowCut join (Derives p) ts rest
cut_row join p each zero ts x rest h = record { front = []; is = h.0; again = λ tail. (none, (zero, (refl, refl))) }
cut_row join p each (suc count) ts x rest h =
    let l = each ts h.1 h.0 h.3 in
    let r = cut_row join p each count h.0 h.2 rest h.4 in
    record {
      front = l.front ++ r.front;
      is = l.is ∙ ap (λ m. l.front ++ m) r.is ∙ sym (append_assoc l.front r.front rest);
      again = λ tail.
          let b = r.again tail in
          let a = l.again (r.front ++ tail) in (
            join a.0 b.0,
            (
              suc b.1.0,
              (
                r.front ++ tail,
                a.0,
                b.0,
                subst (λ m. Derives p m a.0 (r.front ++ tail)) (sym (append_assoc l.front r.front tail)) a.1,
                b.1.1,
                refl,
              ),
            ),
          );
    }

pub cut : (p : Phrase) (ts : List Lexeme) (x : Node) (rest : List Lexeme) → Derives p ts x rest → Cut p ts rest
cut (one k f) ts x rest h = record { front = h.0 ∷ []; is = h.2; again = λ tail. (f h.0, (h.0, h.1, refl, refl)) }
cut (deep k) ts x rest h = absurd h
cut (chain join p q) ts x rest h =
    let l = cut p ts h.1 h.0 h.3 in
    let r = cut q h.0 h.2 rest h.4 in
    record {
      front = l.front ++ r.front;
      is = l.is ∙ ap (λ m. l.front ++ m) r.is ∙ sym (append_assoc l.front r.front rest);
      again = λ tail.
          let b = r.again tail in
          let a = l.again (r.front ++ tail) in (
            join a.0 b.0,
            (
              r.front ++ tail,
              a.0,
              b.0,
              subst (λ m. Derives p m a.0 (r.front ++ tail)) (sym (append_assoc l.front r.front tail)) a.1,
              b.1,
              refl,
            ),
          );
    }
cut (either p q) ts x rest (inl h) =
    let l = cut p ts x rest h in
    record { front = l.front; is = l.is; again = λ tail. ((l.again tail).0, inl (l.again tail).1) }
cut (either p q) ts x rest (inr h) =
    let l = cut q ts x rest h in
    record { front = l.front; is = l.is; again = λ tail. ((l.again tail).0, inr (l.again tail).1) }
cut (maybe f p) ts x rest (inl h) = record { front = []; is = h.0; again = λ tail. (none, inl (refl, refl)) }
cut (maybe f p) ts x rest (inr h) =
    let l = cut p ts h.0 rest h.1 in
    record { front = l.front; is = l.is; again = λ tail. (f (l.again tail).0, inr ((l.again tail).0, (l.again tail).1, refl)) }
cut (many join p) ts x rest h =
    let r = cut_row join p (cut p) h.0 ts x rest h.1 in record { front = r.front; is = r.is; again = r.again }
cut (marked p) ts x rest h =
    let l = cut p ts h.0 rest h.1 in
    record {
      front = l.front;
      is = l.is;
      again = λ tail. (placed (place_at (l.front ++ tail)) (l.again tail).0, ((l.again tail).0, (l.again tail).1, refl));
    }

pub shrinks : (p : Phrase) (ts : List Lexeme) (x : Node) (rest : List Lexeme) → Derives p ts x rest → length rest ≤ length ts
shrinks p ts x rest h =
    let l = cut p ts x rest h in
    let e : length ts ≡ length l.front + length rest = ap length l.is ∙ length-append l.front rest in
    omega arith
