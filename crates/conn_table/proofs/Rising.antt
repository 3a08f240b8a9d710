-- What each change makes of the numbers, which rise, of how many there are, and of the sizes.
use Rattle.std.proofs.Common.{◌≡◌, ℕ, suc, ◌+◌, ◌<◌, ◌≤◌, ◌⊎◌, Bool, true, false, ◌==◌, nat_lt, if◌then◌else◌, None, Some, List, [], ◌∷◌, length, refl, sym, ap, ◌∙◌, subst, inl, inr, arith, eq-eqb, ne_eqb, IsSome}
use Rattle.std.specs.List.{AllByRecursion}
use Rattle.std.proofs.lemmas.Bool.{false≢true, cases_eq, cases_lt, lt-ltb, le-ltb}
use Rattle.std.proofs.lemmas.Option.{none-some, same_Some}
use Rattle.slab.specs.Slab.{Slab}
use Rattle.conn_table.specs.declared.places.Row.{Row}
use Rattle.conn_table.specs.declared.places.Slot.{Slot}
use Rattle.conn_table.specs.Rows.{IsRising}
use Rattle.conn_table.specs.Slots.{slot_in, with_slot, with_added, without_number, HaveRisingNumbers}
use Rattle.conn_table.specs.Table.{size_given, sizes_given}
use Rattle.conn_table.specs.Places.{joined_to, kept_in, IsPlaced}

-- each number of these is above n
abbrev AreAbove : ℕ → List Slot → Type 0
AreAbove n slots = AllByRecursion (λ (slot : Slot). n < slot.number) slots

-- what is kept under rows that rise
kept_above : (slab : Slab Slot) (n : ℕ) (rows : List Row) → AllByRecursion (λ (row : Row). n < row.number) rows → AllByRecursion (IsPlaced slab) rows → AreAbove n (kept_in slab rows)
kept_above slab n [] a p = tt
kept_above slab n (row ∷ rows) a p =
    subst (λ o. AreAbove n (joined_to o (kept_in slab rows))) (sym p.0.1) (subst (λ k. n < k) (sym p.0.2) a.0, kept_above slab n rows a.1 p.1)

pub kept_rising : (slab : Slab Slot) (rows : List Row) → IsRising rows → AllByRecursion (IsPlaced slab) rows → HaveRisingNumbers (kept_in slab rows)
kept_rising slab [] r p = tt
kept_rising slab (row ∷ rows) r p =
    subst (λ o. HaveRisingNumbers (joined_to o (kept_in slab rows))) (sym p.0.1)
    (subst (λ k. AreAbove k (kept_in slab rows)) (sym p.0.2) (kept_above slab row.number rows r.0 p.1), kept_rising slab rows r.1 p.1)

-- a number below all isn't among them
not_above : (c : ℕ) (slots : List Slot) → AreAbove c slots → slot_in c slots ≡ None
not_above c [] a = refl
not_above c (x ∷ slots) a =
    ap (λ t. if t then Some x else slot_in c slots) (ne_eqb x.number c (λ e. let l : c < x.number = a.0 in let f : x.number ≡ c = e in let g : ⊥ = omega arith in g)) ∙ not_above c slots a.1

-- what is taken out is gone
pub gone : (c : ℕ) (slots : List Slot) → HaveRisingNumbers slots → slot_in c (without_number c slots) ≡ None
gone c [] r = refl
gone c (x ∷ slots) r = go (cases_eq x.number c) (gone c slots r.1)
  where
    go : (x.number ≡ c) ⊎ (x.number ≡ c → ⊥) → slot_in c (without_number c slots) ≡ None → slot_in c (without_number c (x ∷ slots)) ≡ None
    go (inl is) again =
        ap (λ t. slot_in c (if t then slots else x ∷ without_number c slots)) (eq-eqb x.number c is) ∙ not_above c slots (subst (λ k. AreAbove k slots) is r.0)
    go (inr n) again =
        ap (λ t. slot_in c (if t then slots else x ∷ without_number c slots)) (ne_eqb x.number c n)
        ∙ ap (λ t. if t then Some x else slot_in c (without_number c slots)) (ne_eqb x.number c n) ∙ again

above_put : (n : ℕ) (new : Slot) (slots : List Slot) → AreAbove n slots → AreAbove n (with_slot new slots)
above_put n new [] a = tt
above_put n new (x ∷ slots) a = go (cases_eq x.number new.number) (above_put n new slots a.1)
  where
    go : (x.number ≡ new.number) ⊎ (x.number ≡ new.number → ⊥) → AreAbove n (with_slot new slots) → AreAbove n (with_slot new (x ∷ slots))
    go (inl is) again =
        subst (λ t. AreAbove n (if t then new ∷ slots else x ∷ with_slot new slots)) (sym (eq-eqb x.number new.number is)) (subst (λ k. n < k) is a.0, a.1)
    go (inr other) again = subst (λ t. AreAbove n (if t then new ∷ slots else x ∷ with_slot new slots)) (sym (ne_eqb x.number new.number other)) (a.0, again)

pub rising_put : (new : Slot) (slots : List Slot) → HaveRisingNumbers slots → HaveRisingNumbers (with_slot new slots)
rising_put new [] r = tt
rising_put new (x ∷ slots) r = go (cases_eq x.number new.number) (rising_put new slots r.1)
  where
    go : (x.number ≡ new.number) ⊎ (x.number ≡ new.number → ⊥) → HaveRisingNumbers (with_slot new slots) → HaveRisingNumbers (with_slot new (x ∷ slots))
    go (inl is) again =
        subst (λ t. HaveRisingNumbers (if t then new ∷ slots else x ∷ with_slot new slots)) (sym (eq-eqb x.number new.number is)) (subst (λ k. AreAbove k slots) is r.0, r.1)
    go (inr other) again =
        subst (λ t. HaveRisingNumbers (if t then new ∷ slots else x ∷ with_slot new slots)) (sym (ne_eqb x.number new.number other)) (above_put x.number new slots r.0, again)

above_added : (n : ℕ) (new : Slot) (slots : List Slot) → AreAbove n slots → n < new.number → AreAbove n (with_added new slots)
above_added n new [] a l = (l, tt)
above_added n new (x ∷ slots) a l = step (nat_lt x.number new.number) (above_added n new slots a.1 l)
  where
    step : (b : Bool) → AreAbove n (with_added new slots) → AreAbove n (if b then x ∷ with_added new slots else new ∷ (x ∷ slots))
    step true rest = (a.0, rest)
    step false rest = (l, a)

above_more : (n m : ℕ) (slots : List Slot) → n < m → AreAbove m slots → AreAbove n slots
above_more n m [] l a = tt
above_more n m (x ∷ slots) l a = let k : m < x.number = a.0 in (omega arith, above_more n m slots l a.1)

pub rising_added : (new : Slot) (slots : List Slot) → HaveRisingNumbers slots → slot_in new.number slots ≡ None → HaveRisingNumbers (with_added new slots)
rising_added new [] r e = (tt, tt)
rising_added new (x ∷ slots) r e = go (cases_eq x.number new.number) (cases_lt x.number new.number) (λ f. rising_added new slots r.1 f)
  where
    go : (x.number ≡ new.number) ⊎ (x.number ≡ new.number → ⊥) → (x.number < new.number) ⊎ (new.number ≤ x.number)
        → (slot_in new.number slots ≡ None → HaveRisingNumbers (with_added new slots)) → HaveRisingNumbers (with_added new (x ∷ slots))
    go (inl is) l again = absurd (none-some x (sym e ∙ ap (λ t. if t then Some x else slot_in new.number slots) (eq-eqb x.number new.number is)))
    go (inr n) (inl l) again =
        subst (λ t. HaveRisingNumbers (if t then x ∷ with_added new slots else new ∷ (x ∷ slots))) (sym (lt-ltb x.number new.number l))
        (above_added x.number new slots r.0 l, again (sym (ap (λ t. if t then Some x else slot_in new.number slots) (ne_eqb x.number new.number n)) ∙ e))
    go (inr n) (inr l) again =
        let less : new.number < x.number = below l n in
        subst (λ t. HaveRisingNumbers (if t then x ∷ with_added new slots else new ∷ (x ∷ slots))) (sym (le-ltb x.number new.number l))
        ((less, above_more new.number x.number slots less r.0), r)
      where
        below : new.number ≤ x.number → (x.number ≡ new.number → ⊥) → new.number < x.number
        below l n = elim (cases_lt new.number x.number) [ inl m ↦ m | inr m ↦ absurd (n (let e : x.number ≡ new.number = omega arith in e)) ]

above_left : (n c : ℕ) (slots : List Slot) → AreAbove n slots → AreAbove n (without_number c slots)
above_left n c [] a = tt
above_left n c (x ∷ slots) a = step (x.number == c) (above_left n c slots a.1)
  where
    step : (b : Bool) → AreAbove n (without_number c slots) → AreAbove n (if b then slots else x ∷ without_number c slots)
    step true rest = a.1
    step false rest = (a.0, rest)

pub rising_left : (c : ℕ) (slots : List Slot) → HaveRisingNumbers slots → HaveRisingNumbers (without_number c slots)
rising_left c [] r = tt
rising_left c (x ∷ slots) r = step (x.number == c) (rising_left c slots r.1)
  where
    step : (b : Bool) → HaveRisingNumbers (without_number c slots) → HaveRisingNumbers (if b then slots else x ∷ without_number c slots)
    step true rest = r.1
    step false rest = (above_left x.number c slots r.0, rest)

-- how many there are
pub count_put : (new : Slot) (slots : List Slot) → length (with_slot new slots) ≡ length slots
count_put new [] = refl
count_put new (x ∷ slots) = step (x.number == new.number) (count_put new slots)
  where
    step : (b : Bool) → length (with_slot new slots) ≡ length slots → length (if b then new ∷ slots else x ∷ with_slot new slots) ≡ suc (length slots)
    step true rest = refl
    step false rest = ap suc rest

pub count_added : (new : Slot) (slots : List Slot) → length (with_added new slots) ≡ suc (length slots)
count_added new [] = refl
count_added new (x ∷ slots) = step (nat_lt x.number new.number) (count_added new slots)
  where
    step : (b : Bool) → length (with_added new slots) ≡ suc (length slots) → length (if b then x ∷ with_added new slots else new ∷ (x ∷ slots)) ≡ suc (suc (length slots))
    step true rest = ap suc rest
    step false rest = refl

pub count_left : (c : ℕ) (slots : List Slot) → IsSome (slot_in c slots) → suc (length (without_number c slots)) ≡ length slots
count_left c [] s = absurd (false≢true s)
count_left c (x ∷ slots) s = step (x.number == c) s (λ there. count_left c slots there)
  where
    step : (b : Bool) → IsSome (if b then Some x else slot_in c slots) → (IsSome (slot_in c slots) → suc (length (without_number c slots)) ≡ length slots)
        → suc (length (if b then slots else x ∷ without_number c slots)) ≡ suc (length slots)
    step true there rest = refl
    step false there rest = ap suc (rest there)

-- the sizes, where one is added, or taken out
pub sizes_added : (new : Slot) (slots : List Slot) → sizes_given (with_added new slots) ≡ size_given new.size + sizes_given slots
sizes_added new [] = refl
sizes_added new (x ∷ slots) = step (nat_lt x.number new.number) (sizes_added new slots)
  where
    step : (b : Bool) → sizes_given (with_added new slots) ≡ size_given new.size + sizes_given slots
        → sizes_given (if b then x ∷ with_added new slots else new ∷ (x ∷ slots)) ≡ size_given new.size + (size_given x.size + sizes_given slots)
    step true rest = omega arith
    step false rest = refl

pub sizes_left : (c : ℕ) (old : Slot) (slots : List Slot) → slot_in c slots ≡ Some old → size_given old.size + sizes_given (without_number c slots) ≡ sizes_given slots
sizes_left c old [] e = absurd (none-some old e)
sizes_left c old (x ∷ slots) e = step (x.number == c) e (λ there. sizes_left c old slots there)
  where
    step : (b : Bool) → (if b then Some x else slot_in c slots) ≡ Some old → (slot_in c slots ≡ Some old → size_given old.size + sizes_given (without_number c slots) ≡ sizes_given slots)
        → size_given old.size + sizes_given (if b then slots else x ∷ without_number c slots) ≡ size_given x.size + sizes_given slots
    step true there rest = let k : size_given x.size ≡ size_given old.size = ap (λ (s : Slot). size_given s.size) (same_Some x old there) in omega arith
    step false there rest = let t : size_given old.size + sizes_given (without_number c slots) ≡ sizes_given slots = rest there in omega arith
