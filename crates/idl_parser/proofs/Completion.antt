-- What was read before a reading failed can be completed.
use Rattle.std.proofs.Common.{◌≡◌, Bool, true, false, ◌&&◌, ℕ, zero, suc, List, [], ◌∷◌, ◌++◌, ◌⊎◌, refl, sym, ap, ◌∙◌, subst, inl, inr}
use Rattle.std.proofs.lemmas.Bool.{eq-eqb}
use Rattle.std.proofs.lemmas.List.{append_assoc}
use Rattle.idl_token.specs.declared.terminal.Terminal.{Terminal}
use Rattle.idl_token.specs.Terminals.{code, same}
use Rattle.idl_parser.specs.Phrases.{Lexeme, Node, none, placed, place_at, Phrase, one, deep, chain, either, maybe, many, marked, Derives}
use Rattle.idl_parser.specs.Shapes.{starts_in, first, can_be, IsClear}
use Rattle.idl_parser.specs.Reading.{done, failed, map_tree, parse_then, read_one, repeat, read}
use Rattle.idl_parser.proofs.Outcomes.{which, one_failed, made_failed}
use Rattle.idl_parser.proofs.Sound.{Cut, cut, sound}

-- what stands before the rest is the front of some such phrase
pub record Completable (p : Phrase) (ts rest : List Lexeme) : Type 0 where
  pub front : List Lexeme
  pub more : List Lexeme
  pub is : ts ≡ front ++ rest
  pub goes : (tail : List Lexeme) → (x : Node) × Derives p (front ++ (more ++ tail)) x tail

-- some such phrase
record Sample (p : Phrase) : Type 0 where
  symbols : List Lexeme
  goes : (tail : List Lexeme) → (x : Node) × Derives p (symbols ++ tail) x tail

and_left : (a b : Bool) → (a && b) ≡ true → a ≡ true
and_left true b e = refl
and_left false b e = e

and_right : (a b : Bool) → (a && b) ≡ true → b ≡ true
and_right true b e = e
and_right false b e = cc

same_refl : (k : Terminal) → same k k ≡ true
same_refl k = eq-eqb (code k) (code k) refl

sample : (p : Phrase) → can_be p ≡ true → Sample p
sample (one k f) is =
    let t : Lexeme = record { what = k; bytes = []; place = record { line = 0; column = 0 } } in
    record { symbols = t ∷ []; goes = λ tail. (f t, (t, same_refl k, refl, refl)) }
sample (deep k) is = cc
sample (chain join p q) is =
    let l = sample p (and_left (can_be p) (can_be q) is) in
    let r = sample q (and_right (can_be p) (can_be q) is) in
    record {
      symbols = l.symbols ++ r.symbols;
      goes = λ tail.
          let b = r.goes tail in
          let a = l.goes (r.symbols ++ tail) in (
            join a.0 b.0,
            (
              r.symbols ++ tail,
              a.0,
              b.0,
              subst (λ m. Derives p m a.0 (r.symbols ++ tail)) (sym (append_assoc l.symbols r.symbols tail)) a.1,
              b.1,
              refl,
            ),
          );
    }
sample (either p q) is = let l = sample p is in record { symbols = l.symbols; goes = λ tail. ((l.goes tail).0, inl (l.goes tail).1) }
sample (maybe f p) is = record { symbols = []; goes = λ tail. (none, inl (refl, refl)) }
sample (many join p) is = record { symbols = []; goes = λ tail. (none, (zero, (refl, refl))) }
sample (marked p) is =
    let l = sample p is in
    record { symbols = l.symbols; goes = λ tail. (placed (place_at (l.symbols ++ tail)) (l.goes tail).0, ((l.goes tail).0, (l.goes tail).1, refl)) }

from_sample : (p : Phrase) (ts rest : List Lexeme) → Sample p → rest ≡ ts → Completable p ts rest
from_sample p ts rest s is = record { front = []; more = s.symbols; is = sym is; goes = s.goes }

-- a chain whose first part can be completed
chain_left : (join : Node → Node → Node) (p q : Phrase) (ts rest : List Lexeme) → Sample q → Completable p ts rest → Completable (chain join p q) ts rest
chain_left join p q ts rest s l = record {
  front = l.front;
  more = l.more ++ s.symbols;
  is = l.is;
  goes = λ tail.
      let b = s.goes tail in
      let a = l.goes (s.symbols ++ tail) in (
        join a.0 b.0,
        (
          s.symbols ++ tail,
          a.0,
          b.0,
          subst (λ m. Derives p (l.front ++ m) a.0 (s.symbols ++ tail)) (sym (append_assoc l.more s.symbols tail)) a.1,
          b.1,
          refl,
        ),
      );
}

-- a chain whose first part was read, and the second can be completed
chain_right : (join : Node → Node → Node) (p q : Phrase) (ts mid rest : List Lexeme) → Cut p ts mid → Completable q mid rest → Completable (chain join p q) ts rest
chain_right join p q ts mid rest c r = record {
  front = c.front ++ r.front;
  more = r.more;
  is = c.is ∙ ap (λ m. c.front ++ m) r.is ∙ sym (append_assoc c.front r.front rest);
  goes = λ tail.
      let b = r.goes tail in
      let a = c.again (r.front ++ (r.more ++ tail)) in (
        join a.0 b.0,
        (
          r.front ++ (r.more ++ tail),
          a.0,
          b.0,
          subst (λ m. Derives p m a.0 (r.front ++ (r.more ++ tail))) (sym (append_assoc c.front r.front (r.more ++ tail))) a.1,
          b.1,
          refl,
        ),
      );
}

-- the same of a row
row_left : (join : Node → Node → Node) (p : Phrase) (ts rest : List Lexeme) → Completable p ts rest → Completable (many join p) ts rest
row_left join p ts rest l = record {
  front = l.front;
  more = l.more;
  is = l.is;
  goes = λ tail. let a = l.goes tail in (join a.0 none, (suc zero, (tail, a.0, none, a.1, (refl, refl), refl)));
}

row_right : (join : Node → Node → Node) (p : Phrase) (ts mid rest : List Lexeme) → Cut p ts mid → Completable (many join p) mid rest → Completable (many join p) ts rest
row_right join p ts mid rest c r = record {
  front = c.front ++ r.front;
  more = r.more;
  is = c.is ∙ ap (λ m. c.front ++ m) r.is ∙ sym (append_assoc c.front r.front rest);
  goes = λ tail.
      let b = r.goes tail in
      let a = c.again (r.front ++ (r.more ++ tail)) in (
        join a.0 b.0,
        (
          suc b.1.0,
          (
            r.front ++ (r.more ++ tail),
            a.0,
            b.0,
            subst (λ m. Derives p m a.0 (r.front ++ (r.more ++ tail))) (sym (append_assoc c.front r.front (r.more ++ tail))) a.1,
            b.1.1,
            refl,
          ),
        ),
      );
}

row_empty : (join : Node → Node → Node) (p : Phrase) (ts rest : List Lexeme) → rest ≡ ts → Completable (many join p) ts rest
row_empty join p ts rest is = from_sample (many join p) ts rest (sample (many join p) refl) is

row_fails : (n m : ℕ) (join : Node → Node → Node) (p : Phrase)
    → ((ts rest : List Lexeme) (d : Bool) → read n p ts ≡ failed d rest → (rest ≡ ts) ⊎ Completable p ts rest)
    → (ts rest : List Lexeme) (d : Bool) → repeat m join (starts_in (first p)) (read n p) ts ≡ failed d rest → Completable (many join p) ts rest
row_fails n zero join p each ts rest d e = cc
row_fails n (suc m) join p each ts rest d e =
    elim (which (starts_in (first p) ts) (parse_then join (read n p ts) (repeat m join (starts_in (first p)) (read n p))) (done none ts) (failed d rest) e) [
      | inr h ↦ let e : done none ts ≡ failed d rest = h.1 in cc
      | inl h ↦ elim (one_failed join (read n p ts) (repeat m join (starts_in (first p)) (read n p)) d rest h.1) [
        | inl l ↦ elim (each ts rest d l) [ inl is ↦ row_empty join p ts rest is | inr c ↦ row_left join p ts rest c ]
        | inr s ↦ row_right join p ts s.mid rest (cut p ts s.a s.mid (sound n p ts s.a s.mid s.left)) (row_fails n m join p each s.mid rest d s.right)
      ]
    ]

one_fails : (k : Terminal) (f : Lexeme → Node) (ts rest : List Lexeme) (d : Bool) → read_one k f ts ≡ failed d rest → rest ≡ ts
one_fails k f [] rest d e = cc
one_fails k f (t ∷ ts) rest d e =
    elim (which (same t.what k) (done (f t) ts) (failed false (t ∷ ts)) (failed d rest) e) [
      | inl h ↦ let e : done (f t) ts ≡ failed d rest = h.1 in cc
      | inr h ↦ let e : failed false (t ∷ ts) ≡ failed d rest = h.1 in cc
    ]

-- at the end of a reading that failed, nothing was read or what was read can be completed
pub fails : (n : ℕ) (p : Phrase) (ts rest : List Lexeme) (d : Bool) → IsClear p → read n p ts ≡ failed d rest → (rest ≡ ts) ⊎ Completable p ts rest
fails n (one k f) ts rest d clear e = inl (one_fails k f ts rest d e)
fails n (deep k) ts rest d clear e = inl cc
fails n (chain join p q) ts rest d clear e =
    elim (one_failed join (read n p ts) (read n q) d rest e) [
      | inl l ↦ elim (fails n p ts rest d clear.0 l) [
        | inl is ↦ inl is
        | inr c ↦ inr (chain_left join p q ts rest (sample q clear.3) c)
      ]
      | inr s ↦
          let c = cut p ts s.a s.mid (sound n p ts s.a s.mid s.left) in
          elim (fails n q s.mid rest d clear.1 s.right) [
            | inl is ↦ inr (chain_right join p q ts s.mid rest c (from_sample q s.mid rest (sample q clear.3) is))
            | inr r ↦ inr (chain_right join p q ts s.mid rest c r)
          ]
    ]
fails n (either p q) ts rest d clear e =
    elim (which (starts_in (first p) ts) (read n p ts) (read n q ts) (failed d rest) e) [
      | inl h ↦ elim (fails n p ts rest d clear.0 h.1) [
        | inl is ↦ inl is
        | inr c ↦ inr (record { front = c.front; more = c.more; is = c.is; goes = λ tail. ((c.goes tail).0, inl (c.goes tail).1) })
      ]
      | inr h ↦ elim (fails n q ts rest d clear.1 h.1) [
        | inl is ↦ inl is
        | inr c ↦ inr (record { front = c.front; more = c.more; is = c.is; goes = λ tail. ((c.goes tail).0, inr (c.goes tail).1) })
      ]
    ]
fails n (maybe f p) ts rest d clear e =
    elim (which (starts_in (first p) ts) (map_tree f (read n p ts)) (done none ts) (failed d rest) e) [
      | inr h ↦ let e : done none ts ≡ failed d rest = h.1 in cc
      | inl h ↦ elim (fails n p ts rest d clear.0 (made_failed f (read n p ts) d rest h.1)) [
        | inl is ↦ inl is
        | inr c ↦ inr (record { front = c.front; more = c.more; is = c.is; goes = λ tail. (f (c.goes tail).0, inr ((c.goes tail).0, (c.goes tail).1, refl)) })
      ]
    ]
fails n (many join p) ts rest d clear e = inr (row_fails n n join p (λ ts rest d i. fails n p ts rest d clear.0 i) ts rest d e)
fails n (marked p) ts rest d clear e =
    elim (fails n p ts rest d clear.0 (made_failed (placed (place_at ts)) (read n p ts) d rest e)) [
      | inl is ↦ inl is
      | inr c ↦ inr (record {
        front = c.front;
        more = c.more;
        is = c.is;
        goes = λ tail. (placed (place_at (c.front ++ (c.more ++ tail))) (c.goes tail).0, ((c.goes tail).0, (c.goes tail).1, refl));
      })
    ]

pub completable : (n : ℕ) (p : Phrase) (ts rest : List Lexeme) (d : Bool) → IsClear p → can_be p ≡ true → read n p ts ≡ failed d rest → Completable p ts rest
completable n p ts rest d clear is e =
    elim (fails n p ts rest d clear e) [ inl none_read ↦ from_sample p ts rest (sample p is) none_read | inr c ↦ c ]
