-- Three lists that are told place by place, one more at a time.
use Rattle.std.proofs.Common.{◌≡◌, ◌≤◌, ◌<◌, ◌+◌, ◌++◌, ℕ, zero, suc, List, [], ◌∷◌, map, length, get_or, take, drop, ap, sym, subst, ◌∙◌, arith}
use Rattle.std.specs.Prelude.{slice_set}
use Rattle.std.specs.List.{AllZip}
use Rattle.std.proofs.lemmas.List.{take_all, take_more_set, drop-set-lt}
use Rattle.idl_names.proofs.Marked.{left_more}
use Rattle.schema_bare.proofs.Zipped.{mapped_push, taken_push}
use Rattle.idl_check.specs.Sites.{AllZipped}

zipped_push : {A B C : Type 0} (F : A → B → C → Type 0) (ws : List A) (bs : List B) (cs : List C) (a : A) (b : B) (c : C)
    → AllZipped F ws bs cs → F a b c → AllZipped F (ws ++ a ∷ []) (bs ++ b ∷ []) (cs ++ c ∷ [])
zipped_push F [] [] [] a b c h f = (f, tt)
zipped_push F [] [] (z ∷ cs) a b c h f = absurd h
zipped_push F [] (y ∷ bs) cs a b c h f = absurd h
zipped_push F (x ∷ ws) [] cs a b c h f = absurd h
zipped_push F (x ∷ ws) (y ∷ bs) [] a b c h f = absurd h
zipped_push F (x ∷ ws) (y ∷ bs) (z ∷ cs) a b c h f = (h.0, zipped_push F ws bs cs a b c h.1 f)

-- what stands in front and behind, by what is left from a place on
front_more : {A : Type 0} (xs ys : List A) (i : ℕ) (y : A) → drop i xs ≡ y ∷ ys → (take (i + 1) xs ≡ take i xs ++ y ∷ []) × (drop (i + 1) xs ≡ ys)
front_more [] ys zero y e = absurd (cc)
front_more [] ys (suc i) y e = absurd (cc)
front_more (x ∷ xs) ys zero y e = (cc, cc)
front_more (x ∷ xs) ys (suc i) y e =
    let h = front_more xs ys i y e in
    let k : suc i + 1 ≡ suc (i + 1) = omega arith in
    (ap (λ j. take j (x ∷ xs)) k ∙ ap (λ zs. x ∷ zs) h.0, ap (λ j. drop j (x ∷ xs)) k ∙ h.1)

-- the first items of a list became what they are to be, in their places, and the others are what they were
pub record AreFilledBelow {A B D T : Type 0} (F : A → B → B → Type 0) (declared : D → A) (plain : T → B) (given : List D) (i : ℕ) (was has : List T) : Type 0 where
  pub rest : drop i has ≡ drop i was
  pub filled : AllZipped F (map declared (take i given)) (map plain (take i was)) (map plain (take i has))

pub filled_next : {A B D T : Type 0} (F : A → B → B → Type 0) (declared : D → A) (plain : T → B) (given : List D) (i : ℕ) (x : D) (y z : T) (was has : List T)
    → i < length given → i < length has → x ≡ get_or given i x → y ≡ get_or has i y → F (declared x) (plain y) (plain z)
    → AreFilledBelow F declared plain given i was has → AreFilledBelow F declared plain given (i + 1) was (slice_set has i z)
filled_next {A} {B} F declared plain given i x y z was has l m here there own so_far =
    let new = slice_set has i z in
    let old = front_more was (drop (i + 1) has) i y (sym so_far.rest ∙ left_more has i y m there) in
    let P : List A → Type 0 = λ xs. AllZipped F xs (map plain (take (i + 1) was)) (map plain (take (i + 1) new)) in
    let Q : List B → Type 0 = λ ps. AllZipped F (map declared (take i given) ++ declared x ∷ []) ps (map plain (take (i + 1) new)) in
    let R : List B → Type 0 = λ ps. AllZipped F (map declared (take i given) ++ declared x ∷ []) (map plain (take i was) ++ plain y ∷ []) ps in
    record {
      rest = drop-set-lt (i + 1) has i z (omega arith) ∙ sym old.1;
      filled =
          subst P (sym (taken_push declared given i x l here))
          (subst Q (sym (mapped_push plain (take i was) (take (i + 1) was) y old.0))
          (subst R (sym (mapped_push plain (take i has) (take (i + 1) new) z (take_more_set has i z m)))
          (zipped_push F (map declared (take i given)) (map plain (take i was)) (map plain (take i has)) (declared x) (plain y) (plain z) so_far.filled own)));
    }

pub zipped_as : {A B C : Type 0} {a d : List A} {b e : List B} {c f : List C} (F : A → B → C → Type 0) → a ≡ d → b ≡ e → c ≡ f → AllZipped F a b c → AllZipped F d e f
zipped_as {A} {B} {C} {a} {d} {b} {e} {c} {f} F p q r h =
    let P : List A → Type 0 = λ xs. AllZipped F xs e f in
    let Q : List B → Type 0 = λ ys. AllZipped F a ys f in
    let R : List C → Type 0 = λ zs. AllZipped F a b zs in
    subst P p (subst Q q (subst R r h))

pub all_filled : {A B D T : Type 0} (F : A → B → B → Type 0) (declared : D → A) (plain : T → B) (given : List D) (i : ℕ) (was has : List T)
    → length given ≤ i → length was ≤ i → length has ≤ i → AreFilledBelow F declared plain given i was has → AllZipped F (map declared given) (map plain was) (map plain has)
all_filled F declared plain given i was has l m n so_far =
    zipped_as F (ap (map declared) (take_all i given l)) (ap (map plain) (take_all i was m)) (ap (map plain) (take_all i has n)) so_far.filled

pub zip_as : {A B : Type 0} {a d : List A} {b e : List B} (R : A → B → Type 0) → a ≡ d → b ≡ e → AllZip R a b → AllZip R d e
zip_as {A} {B} {a} {d} {b} {e} R p q h =
    let P : List A → Type 0 = λ xs. AllZip R xs e in
    let Q : List B → Type 0 = λ ys. AllZip R a ys in
    subst P p (subst Q q h)
