-- What a sink took in one call, as a part of a text.
use Rattle.std.proofs.Common.{◌≡◌, ℕ, zero, suc, ◌+◌, ◌<◌, ◌≤◌, List, [], ◌∷◌, ◌++◌, codes, length, drop, take, get_or, Option, Result, Ok, Err, refl, sym, ap, ◌∙◌, subst, append_assoc, arith}
use Rattle.std.specs.Prelude.{◌≢◌, OnErr, MatchResult}
use Rattle.std.specs.List.{flat_map}
use Rattle.std.specs.Result.{IsErr}
use Rattle.streams.specs.Cause.{Rose, HasCause}
use Rattle.streams.specs.Content.{HasWritten, told_more}
use Rattle.streams.specs.Taken.{IsTakenBut}
use Rattle.streams.proofs.Taking.{taken_on, taken_of_more}
use Rattle.value_text.specs.Handing.{HandsOver, BreaksOff, HandsText}
use Rattle.value_text.proofs.Handed.{breaks_here, texts_left}
use Rattle.journal_text.specs.JournalStates.{IsTakenShort}

-- what the count says where a text was handed over only in part
pub cause_of_break : {A E : Type 0} (x y : Option (List ℕ)) (f g : ℕ) (text : List ℕ) (result : Result A E) → IsErr result → BreaksOff x y f g text → HasCause f g result
cause_of_break x y f g text (Ok a) e broken = absurd (let never : ⊥ = cc in never)
cause_of_break x y f g text (Err e) is broken = record { later = broken.later; failed = λ h. broken.rose; kept = tt }

-- the same of the parts that an entry's text has, with the blank behind the front
pub blank_parts : (front asked answer : List ℕ) → (front ++ codes " ") ++ (asked ++ answer) ≡ front ++ ((codes " " ++ asked) ++ answer)
blank_parts front asked answer = append_assoc front (codes " ") (asked ++ answer)

-- a call that failed says what it says then
pub failed_so : {A E Q : Type 0} (P : Type 0) (result : Result A E) → IsErr result → Q → MatchResult result (λ _. P) (λ _. Q)
failed_so P (Ok a) e q = absurd (let never : ⊥ = cc in never)
failed_so P (Err e) h q = q

pub on_err : {A E P : Type 0} (result : Result A E) → P → OnErr result P
on_err (Ok a) p = tt
on_err (Err e) p = p

-- a text with something in it is one, whatever stands behind it or in front
longer : (a b : List ℕ) → a ≢ [] → a ++ b ≢ []
longer [] b some = λ e. some refl
longer (x ∷ a) b some = λ e. let never : ⊥ = cc in never

-- of a longer text some is lost
pub short_of_more : (x y : Option (List ℕ)) (f g : ℕ) (text : List ℕ) (b : ℕ) (more : List ℕ) → BreaksOff x y f g text → IsTakenShort x y (text ++ b ∷ more)
short_of_more x y f g text b more one =
    record { lost = one.lost ++ b ∷ more; some = behind one.lost; taken = taken_of_more x y text one.lost (b ∷ more) one.part }
  where
    behind : (a : List ℕ) → a ++ b ∷ more ≢ []
    behind [] = λ e. let never : ⊥ = cc in never
    behind (x ∷ a) = λ e. let never : ⊥ = cc in never

-- nothing was taken of the last byte
pub short_at_end : (x y z : Option (List ℕ)) (f g : ℕ) (text : List ℕ) (b : ℕ) → HandsOver x y f g text [] → z ≡ y → IsTakenShort x z (text ++ b ∷ [])
short_at_end x y z f g text b one same =
    let all : IsTakenBut x y text [] = record { front = one.front; taken = one.taken; whole = one.whole } in
    subst (λ o. IsTakenShort x o (text ++ b ∷ [])) (sym same)
    (record { lost = b ∷ []; some = λ e. let never : ⊥ = cc in never; taken = taken_of_more x y text [] (b ∷ []) all })

pub short_last : {A E : Type 0} (x y z : Option (List ℕ)) (f g : ℕ) (text : List ℕ) (b : ℕ) (result : Result A E) → HandsOver x y f g text [] → OnErr result (z ≡ y)
    → OnErr result (IsTakenShort x z (text ++ b ∷ []))
short_last x y z f g text b (Ok a) one same = tt
short_last x y z f g text b (Err e) one same = short_at_end x y z f g text b one same

-- of the next of a list's texts some is lost
pub next_short : {X : Type 0} (t : X → List ℕ) (xs : List X) (i : ℕ) (d item : X) (x y z : Option (List ℕ)) (f g : ℕ) (text : List ℕ)
    → i < length xs → item ≡ get_or xs i d → HandsOver x y f g text (flat_map t (drop i xs)) → IsTakenShort y z (t item) → IsTakenShort x z text
next_short t xs i d item x y z f g text small is one two =
    let more : List ℕ = flat_map t (drop (i + 1) xs) in
    let first : IsTakenBut x y text (flat_map t (drop i xs)) = record { front = one.front; taken = one.taken; whole = one.whole } in
    let then_part : IsTakenBut y z (flat_map t (drop i xs)) (two.lost ++ more) =
    subst (λ s. IsTakenBut y z s (two.lost ++ more)) (sym (texts_left t xs i d item small is)) (taken_of_more y z (t item) two.lost more two.taken) in
    record { lost = two.lost ++ more; some = longer two.lost more two.some; taken = taken_on x y z text (flat_map t (drop i xs)) (two.lost ++ more) first then_part }

-- a write of one byte
one_taken : (b count : ℕ) → 0 < count → take count (b ∷ []) ≡ b ∷ []
one_taken b zero some = absurd (omega (arith, some))
one_taken b (suc zero) some = refl
one_taken b (suc (suc n)) some = refl

pub one_handed : (x y : Option (List ℕ)) (f g b count : ℕ) → HasWritten x y (b ∷ []) count → g ≡ f → HandsOver x y f g (b ∷ []) []
one_handed x y f g b count one kept =
    let all : take count (b ∷ []) ≡ b ∷ [] = one_taken b count (one.some (omega arith)) in
    record { front = b ∷ []; taken = one.told ∙ ap (told_more x) all; whole = refl; kept = kept }

pub one_broken : {A E : Type 0} (x y : Option (List ℕ)) (f g b : ℕ) (result : Result A E) → IsErr result → y ≡ x → f ≤ g → Rose f g → HandsText x y f g (b ∷ []) result
one_broken x y f g b (Ok a) e same later rose = absurd (let never : ⊥ = cc in never)
one_broken x y f g b (Err e) h same later rose = breaks_here x y f g (b ∷ []) same later rose
