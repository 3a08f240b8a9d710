-- What a slab and its rows keep, as one connection changes, comes or goes.
use Rattle.std.proofs.Common.{◌≡◌, ℕ, suc, ◌+◌, ◌<◌, ◌≤◌, ◌⊎◌, Bool, true, false, ◌==◌, nat_lt, if◌then◌else◌, Option, None, Some, List, [], ◌∷◌, length, refl, sym, ap, ◌∙◌, subst, inl, inr, arith, eq-eqb, ne_eqb, IsSome}
use Rattle.std.specs.Prelude.{insert, remove, is_some}
use Rattle.std.specs.List.{AllByRecursion}
use Rattle.std.proofs.lemmas.Bool.{false≢true, cases_eq, cases_lt, lt-ltb, le-ltb}
use Rattle.std.proofs.lemmas.Option.{none-some, same_Some}
use Rattle.slab.specs.Slab.{Slab, get}
use Rattle.conn_table.specs.declared.places.Row.{Row}
use Rattle.conn_table.specs.declared.places.Slot.{Slot}
use Rattle.conn_table.specs.Rows.{key_in, IsRising, rank_below}
use Rattle.conn_table.specs.Slots.{slot_in, with_slot, with_added, without_number}
use Rattle.conn_table.specs.Places.{joined_to, kept_in, IsPlaced}

-- an option that has a value
pub value_of : {X : Type 0} (o : Option X) → IsSome o → (x : X) × (o ≡ Some x)
value_of None s = absurd (false≢true s)
value_of (Some x) s = (x, refl)

pub has_value : {X : Type 0} (o : Option X) (x : X) → o ≡ Some x → IsSome o
has_value o x e = ap is_some e

-- what is under a key, where there is one
abbrev pub under : Slab Slot → Option ℕ → Option Slot
under slab None = None
under slab (Some key) = get slab key

module _ (slab : Slab Slot) where
  abbrev Placed : List Row → Type 0
  Placed rows = AllByRecursion (IsPlaced slab) rows

  pub length-kept : (rows : List Row) → Placed rows → length (kept_in slab rows) ≡ length rows
  length-kept [] p = refl
  length-kept (row ∷ rows) p = ap (λ o. length (joined_to o (kept_in slab rows))) p.0.1 ∙ ap suc (length-kept rows p.1)

  -- what is kept of a number is under its key
  pub slot_under : (c : ℕ) (rows : List Row) → Placed rows → slot_in c (kept_in slab rows) ≡ under slab (key_in c rows)
  slot_under c [] p = refl
  slot_under c (row ∷ rows) p =
      ap (λ o. slot_in c (joined_to o (kept_in slab rows))) p.0.1 ∙ ap (λ k. if k == c then Some p.0.0 else slot_in c (kept_in slab rows)) p.0.2
      ∙ step (row.number == c) (slot_under c rows p.1)
    where
      step : (b : Bool) → slot_in c (kept_in slab rows) ≡ under slab (key_in c rows)
          → (if b then Some p.0.0 else slot_in c (kept_in slab rows)) ≡ under slab (if b then Some row.key else key_in c rows)
      step true rest = sym p.0.1
      step false rest = rest

  key_there : (o : Option ℕ) (slot : Slot) → under slab o ≡ Some slot → (key : ℕ) × (o ≡ Some key) × (get slab key ≡ Some slot)
  key_there None slot e = absurd (none-some slot e)
  key_there (Some key) slot e = (key, refl, e)

  -- one that is kept has a key
  pub key_of_kept : (c : ℕ) (rows : List Row) (slot : Slot) → Placed rows → slot_in c (kept_in slab rows) ≡ Some slot → (key : ℕ) × (key_in c rows ≡ Some key) × (get slab key ≡ Some slot)
  key_of_kept c rows slot p e = key_there (key_in c rows) slot (sym (slot_under c rows p) ∙ e)

  none_there : (c : ℕ) (rows : List Row) (o : Option ℕ) → Placed rows → key_in c rows ≡ o → under slab o ≡ None → o ≡ None
  none_there c rows None p is e = refl
  none_there c rows (Some key) p is e = absurd (none-some (at rows p is).0 (sym e ∙ (at rows p is).1))
    where
      at : (rows : List Row) → Placed rows → key_in c rows ≡ Some key → (slot : Slot) × (get slab key ≡ Some slot)
      at [] p is = absurd (none-some key is)
      at (row ∷ rows) p is = go (cases_eq row.number c) (λ f. at rows p.1 f)
        where
          go : (row.number ≡ c) ⊎ (row.number ≡ c → ⊥) → (key_in c rows ≡ Some key → (slot : Slot) × (get slab key ≡ Some slot)) → (slot : Slot) × (get slab key ≡ Some slot)
          go (inl same) again =
              let k : row.key ≡ key = same_Some row.key key (sym (ap (λ t. if t then Some row.key else key_in c rows) (eq-eqb row.number c same)) ∙ is) in
              (p.0.0, subst (λ x. get slab x ≡ Some p.0.0) k p.0.1)
          go (inr other) again = again (sym (ap (λ t. if t then Some row.key else key_in c rows) (ne_eqb row.number c other)) ∙ is)

  pub has_key : (c : ℕ) (rows : List Row) (slots : List Slot) → Placed rows → kept_in slab rows ≡ slots → IsSome (slot_in c slots) → IsSome (key_in c rows)
  has_key c rows slots p is there =
      let v : (x : Slot) × (slot_in c slots ≡ Some x) = value_of (slot_in c slots) there in
      let t : (key : ℕ) × (key_in c rows ≡ Some key) × (get slab key ≡ Some v.0) = key_of_kept c rows v.0 p (ap (slot_in c) is ∙ v.1) in
      has_value (key_in c rows) t.0 t.1

  -- one that isn't kept has none
  pub none_kept : (c : ℕ) (rows : List Row) → Placed rows → slot_in c (kept_in slab rows) ≡ None → key_in c rows ≡ None
  none_kept c rows p e = none_there c rows (key_in c rows) p refl (sym (slot_under c rows p) ∙ e)

  -- the slot under a number's key has that number
  pub placed_key : (c key : ℕ) (rows : List Row) → Placed rows → key_in c rows ≡ Some key → (slot : Slot) × (get slab key ≡ Some slot) × (slot.number ≡ c)
  placed_key c key [] p e = absurd (none-some key e)
  placed_key c key (row ∷ rows) p e = go (cases_eq row.number c) (λ f. placed_key c key rows p.1 f)
    where
      go : (row.number ≡ c) ⊎ (row.number ≡ c → ⊥) → (key_in c rows ≡ Some key → (slot : Slot) × (get slab key ≡ Some slot) × (slot.number ≡ c)) → (slot : Slot) × (get slab key ≡ Some slot) × (slot.number ≡ c)
      go (inl same) again =
          let k : row.key ≡ key = same_Some row.key key (sym (ap (λ t. if t then Some row.key else key_in c rows) (eq-eqb row.number c same)) ∙ e) in
          (p.0.0, subst (λ x. get slab x ≡ Some p.0.0) k p.0.1, p.0.2 ∙ same)
      go (inr other) again = again (sym (ap (λ t. if t then Some row.key else key_in c rows) (ne_eqb row.number c other)) ∙ e)

  pub has_slot : (c key : ℕ) (rows : List Row) → Placed rows → key_in c rows ≡ Some key → IsSome (get slab key)
  has_slot c key rows p e = let t : (slot : Slot) × (get slab key ≡ Some slot) × (slot.number ≡ c) = placed_key c key rows p e in has_value (get slab key) t.0 t.1

  -- a row of another number has another key
  other_key : (c key : ℕ) (row : Row) → (slot : Slot) × (get slab key ≡ Some slot) × (slot.number ≡ c) → IsPlaced slab row → (row.number ≡ c → ⊥) → row.key ≡ key → ⊥
  other_key c key row at p n e =
      let same : p.0 ≡ at.0 = same_Some p.0 at.0 (sym p.1 ∙ ap (get slab) e ∙ at.1) in
      n (sym p.2 ∙ ap (λ (s : Slot). s.number) same ∙ at.2)

  -- a slab that differs under one key alone
  module _ (other : Slab Slot) (key : ℕ) (same : (k : ℕ) → (k ≡ key → ⊥) → get other k ≡ get slab k) where
    kept_same : (rows : List Row) → AllByRecursion (λ (row : Row). row.key ≡ key → ⊥) rows → kept_in other rows ≡ kept_in slab rows
    kept_same [] a = refl
    kept_same (row ∷ rows) a = (λ i. joined_to (same row.key a.0 i) (kept_same rows a.1 i))

    one_same : (row : Row) → (row.key ≡ key → ⊥) → IsPlaced slab row → IsPlaced other row
    one_same row n p = (p.0, same row.key n ∙ p.1, p.2)

    placed_same : (rows : List Row) → AllByRecursion (λ (row : Row). row.key ≡ key → ⊥) rows → Placed rows → AllByRecursion (IsPlaced other) rows
    placed_same [] a p = tt
    placed_same (row ∷ rows) a p = (one_same row a.0 p.0, placed_same rows a.1 p.1)

    -- rows behind one of this number have other keys
    behind_other : (c : ℕ) (row : Row) (rows : List Row) → (slot : Slot) × (get slab key ≡ Some slot) × (slot.number ≡ c) → row.number ≡ c
        → AllByRecursion (λ (o : Row). row.number < o.number) rows → Placed rows → AllByRecursion (λ (o : Row). o.key ≡ key → ⊥) rows
    behind_other c row [] at e a p = tt
    behind_other c row (x ∷ rows) at e a p =
        (other_key c key x at p.0 (λ f. let l : row.number < x.number = a.0 in let g : ⊥ = omega arith in g), behind_other c row rows at e a.1 p.1)

    head_key : (c : ℕ) (row : Row) (rows : List Row) → row.number ≡ c → key_in c (row ∷ rows) ≡ Some key → row.key ≡ key
    head_key c row rows is e = same_Some row.key key (sym (ap (λ t. if t then Some row.key else key_in c rows) (eq-eqb row.number c is)) ∙ e)

    tail_key : (c : ℕ) (row : Row) (rows : List Row) → (row.number ≡ c → ⊥) → key_in c (row ∷ rows) ≡ Some key → key_in c rows ≡ Some key
    tail_key c row rows n e = sym (ap (λ t. if t then Some row.key else key_in c rows) (ne_eqb row.number c n)) ∙ e

    -- Something else is kept of a number.
    pub replaced : (new : Slot) (rows : List Row) → get other key ≡ Some new → IsRising rows → Placed rows → key_in new.number rows ≡ Some key
        → (kept_in other rows ≡ with_slot new (kept_in slab rows)) × AllByRecursion (IsPlaced other) rows
    replaced new [] is r p e = absurd (none-some key e)
    replaced new (row ∷ rows) is r p e = go (cases_eq row.number new.number) (λ f. replaced new rows is r.1 p.1 f)
      where
        at : (slot : Slot) × (get slab key ≡ Some slot) × (slot.number ≡ new.number)
        at = placed_key new.number key (row ∷ rows) p e

        old_kept : with_slot new (kept_in slab (row ∷ rows)) ≡ (if row.number == new.number then new ∷ kept_in slab rows else p.0.0 ∷ with_slot new (kept_in slab rows))
        old_kept = ap (λ o. with_slot new (joined_to o (kept_in slab rows))) p.0.1 ∙ ap (λ k. if k == new.number then new ∷ kept_in slab rows else p.0.0 ∷ with_slot new (kept_in slab rows)) p.0.2

        go : (row.number ≡ new.number) ⊎ (row.number ≡ new.number → ⊥)
            → (key_in new.number rows ≡ Some key → (kept_in other rows ≡ with_slot new (kept_in slab rows)) × AllByRecursion (IsPlaced other) rows)
            → (kept_in other (row ∷ rows) ≡ with_slot new (kept_in slab (row ∷ rows))) × AllByRecursion (IsPlaced other) (row ∷ rows)
        go (inl here) again =
            let k : row.key ≡ key = head_key new.number row rows here e in
            let apart : AllByRecursion (λ (o : Row). o.key ≡ key → ⊥) rows = behind_other new.number row rows at here r.0 p.1 in
            let there : get other row.key ≡ Some new = ap (get other) k ∙ is in (
              (λ i. joined_to (there i) (kept_same rows apart i))
                  ∙ sym (old_kept ∙ ap (λ t. if t then new ∷ kept_in slab rows else p.0.0 ∷ with_slot new (kept_in slab rows)) (eq-eqb row.number new.number here)),
              ((new, there, sym here), placed_same rows apart p.1),
            )
        go (inr away) again =
            let n : row.key ≡ key → ⊥ = other_key new.number key row at p.0 away in
            let t : (kept_in other rows ≡ with_slot new (kept_in slab rows)) × AllByRecursion (IsPlaced other) rows = again (tail_key new.number row rows away e) in (
              (λ i. joined_to ((same row.key n ∙ p.0.1) i) (t.0 i))
                  ∙ sym (old_kept ∙ ap (λ t. if t then new ∷ kept_in slab rows else p.0.0 ∷ with_slot new (kept_in slab rows)) (ne_eqb row.number new.number away)),
              (one_same row n p.0, t.1),
            )

    -- where nothing was under the key, no row has it
    vacant_apart : (rows : List Row) → get slab key ≡ None → Placed rows → AllByRecursion (λ (o : Row). o.key ≡ key → ⊥) rows
    vacant_apart [] v p = tt
    vacant_apart (row ∷ rows) v p = (λ e. none-some p.0.0 (sym v ∙ ap (get slab) (sym e) ∙ p.0.1), vacant_apart rows v p.1)

    all_ranked : (P : Row → Type 0) (c : ℕ) (row : Row) (rows : List Row) → AllByRecursion P rows → P row → AllByRecursion P (insert rows (rank_below c rows) row)
    all_ranked P c row [] a x = (x, tt)
    all_ranked P c row (z ∷ rows) a x = step (nat_lt z.number c) (all_ranked P c row rows a.1 x)
      where
        step : (b : Bool) → AllByRecursion P (insert rows (rank_below c rows) row) → AllByRecursion P (insert (z ∷ rows) (if b then suc (rank_below c rows) else 0) row)
        step true rest = (a.0, rest)
        step false rest = (x, a)

    rising_ranked : (row : Row) (rows : List Row) → IsRising rows → key_in row.number rows ≡ None → IsRising (insert rows (rank_below row.number rows) row)
    rising_ranked row [] r e = (tt, tt)
    rising_ranked row (z ∷ rows) r e = go (cases_lt z.number row.number) (cases_eq z.number row.number) (λ f. rising_ranked row rows r.1 f)
      where
        above : (n : ℕ) (xs : List Row) → row.number < n → AllByRecursion (λ (o : Row). n < o.number) xs → AllByRecursion (λ (o : Row). row.number < o.number) xs
        above n [] l a = tt
        above n (x ∷ xs) l a = let m : n < x.number = a.0 in (omega arith, above n xs l a.1)

        go : (z.number < row.number) ⊎ (row.number ≤ z.number) → (z.number ≡ row.number) ⊎ (z.number ≡ row.number → ⊥) → (key_in row.number rows ≡ None → IsRising (insert rows (rank_below row.number rows) row))
            → IsRising (insert (z ∷ rows) (rank_below row.number (z ∷ rows)) row)
        go l (inl is) again = absurd (none-some z.key (sym e ∙ ap (λ t. if t then Some z.key else key_in row.number rows) (eq-eqb z.number row.number is)))
        go (inl l) (inr n) again =
            let absent : key_in row.number rows ≡ None = sym (ap (λ t. if t then Some z.key else key_in row.number rows) (ne_eqb z.number row.number n)) ∙ e in
            subst (λ b. IsRising (insert (z ∷ rows) (if b then suc (rank_below row.number rows) else 0) row)) (sym (lt-ltb z.number row.number l))
            (all_ranked (λ (o : Row). z.number < o.number) row.number row rows r.0 l, again absent)
        go (inr l) (inr n) again =
            let less : row.number < z.number = below l n in
            subst (λ b. IsRising (insert (z ∷ rows) (if b then suc (rank_below row.number rows) else 0) row)) (sym (le-ltb z.number row.number l)) ((less, above z.number rows less r.0), r)
          where
            below : row.number ≤ z.number → (z.number ≡ row.number → ⊥) → row.number < z.number
            below l n = elim (cases_lt row.number z.number) [ inl m ↦ m | inr m ↦ absurd (n (let e : z.number ≡ row.number = omega arith in e)) ]

    -- One more is kept.
    pub added : (new : Slot) (row : Row) (rows : List Row) → get other key ≡ Some new → row.key ≡ key → row.number ≡ new.number → get slab key ≡ None → Placed rows
        → kept_in other (insert rows (rank_below row.number rows) row) ≡ with_added new (kept_in slab rows)
    added new row [] is k n v p = ap (λ o. joined_to o []) (ap (get other) k ∙ is)
    added new row (z ∷ rows) is k n v p =
        step (nat_lt z.number row.number) (added new row rows is k n v p.1)
        ∙ sym (ap (λ o. with_added new (joined_to o (kept_in slab rows))) p.0.1
        ∙ (λ i. if nat_lt (p.0.2 i) (sym n i) then p.0.0 ∷ with_added new (kept_in slab rows) else new ∷ (p.0.0 ∷ kept_in slab rows)))
      where
        apart : AllByRecursion (λ (o : Row). o.key ≡ key → ⊥) (z ∷ rows)
        apart = vacant_apart (z ∷ rows) v p

        step : (b : Bool) → kept_in other (insert rows (rank_below row.number rows) row) ≡ with_added new (kept_in slab rows)
            → kept_in other (insert (z ∷ rows) (if b then suc (rank_below row.number rows) else 0) row) ≡ (if b then p.0.0 ∷ with_added new (kept_in slab rows) else new ∷ (p.0.0 ∷ kept_in slab rows))
        step true rest = (λ i. joined_to ((same z.key apart.0 ∙ p.0.1) i) (rest i))
        step false rest = (λ i. joined_to ((ap (get other) k ∙ is) i) (joined_to ((same z.key apart.0 ∙ p.0.1) i) (kept_same rows apart.1 i)))

    pub added_placed : (new : Slot) (row : Row) (rows : List Row) → get other key ≡ Some new → row.key ≡ key → row.number ≡ new.number → get slab key ≡ None → Placed rows
        → AllByRecursion (IsPlaced other) (insert rows (rank_below row.number rows) row)
    added_placed new row rows is k n v p =
        all_ranked (IsPlaced other) row.number row rows (placed_same rows (vacant_apart rows v p) p) (new, ap (get other) k ∙ is, sym n)

    pub added_rising : (row : Row) (rows : List Row) → IsRising rows → key_in row.number rows ≡ None → IsRising (insert rows (rank_below row.number rows) row)
    added_rising row rows r e = rising_ranked row rows r e

    less_than_key : (n c : ℕ) (rows : List Row) → AllByRecursion (λ (o : Row). n < o.number) rows → key_in c rows ≡ Some key → n < c
    less_than_key n c [] a e = absurd (none-some key e)
    less_than_key n c (x ∷ rows) a e = go (cases_eq x.number c) (λ f. less_than_key n c rows a.1 f)
      where
        go : (x.number ≡ c) ⊎ (x.number ≡ c → ⊥) → (key_in c rows ≡ Some key → n < c) → n < c
        go (inl is) again = let l : n < x.number = a.0 in omega arith
        go (inr away) again = again (tail_key c x rows away e)

    all_removed : (P : Row → Type 0) (c : ℕ) (rows : List Row) → AllByRecursion P rows → AllByRecursion P (remove rows (rank_below c rows))
    all_removed P c [] a = tt
    all_removed P c (z ∷ rows) a = step (nat_lt z.number c) (all_removed P c rows a.1)
      where
        step : (b : Bool) → AllByRecursion P (remove rows (rank_below c rows)) → AllByRecursion P (remove (z ∷ rows) (if b then suc (rank_below c rows) else 0))
        step true rest = (a.0, rest)
        step false rest = a.1

    pub removed_rising : (c : ℕ) (rows : List Row) → IsRising rows → IsRising (remove rows (rank_below c rows))
    removed_rising c [] r = tt
    removed_rising c (z ∷ rows) r = step (nat_lt z.number c) (removed_rising c rows r.1)
      where
        step : (b : Bool) → IsRising (remove rows (rank_below c rows)) → IsRising (remove (z ∷ rows) (if b then suc (rank_below c rows) else 0))
        step true rest = (all_removed (λ (o : Row). z.number < o.number) c rows r.0, rest)
        step false rest = r.1

    -- One is no longer kept.
    pub removed : (c : ℕ) (rows : List Row) → IsRising rows → Placed rows → key_in c rows ≡ Some key
        → (kept_in other (remove rows (rank_below c rows)) ≡ without_number c (kept_in slab rows)) × AllByRecursion (IsPlaced other) (remove rows (rank_below c rows))
    removed c [] r p e = absurd (none-some key e)
    removed c (row ∷ rows) r p e = go (cases_eq row.number c) (λ f. removed c rows r.1 p.1 f)
      where
        at : (slot : Slot) × (get slab key ≡ Some slot) × (slot.number ≡ c)
        at = placed_key c key (row ∷ rows) p e

        old_kept : without_number c (kept_in slab (row ∷ rows)) ≡ (if row.number == c then kept_in slab rows else p.0.0 ∷ without_number c (kept_in slab rows))
        old_kept = ap (λ o. without_number c (joined_to o (kept_in slab rows))) p.0.1 ∙ ap (λ k. if k == c then kept_in slab rows else p.0.0 ∷ without_number c (kept_in slab rows)) p.0.2

        go : (row.number ≡ c) ⊎ (row.number ≡ c → ⊥)
            → (key_in c rows ≡ Some key → (kept_in other (remove rows (rank_below c rows)) ≡ without_number c (kept_in slab rows)) × AllByRecursion (IsPlaced other) (remove rows (rank_below c rows)))
            → (kept_in other (remove (row ∷ rows) (rank_below c (row ∷ rows))) ≡ without_number c (kept_in slab (row ∷ rows))) × AllByRecursion (IsPlaced other) (remove (row ∷ rows) (rank_below c (row ∷ rows)))
        go (inl here) again =
            let apart : AllByRecursion (λ (o : Row). o.key ≡ key → ⊥) rows = behind_other c row rows at here r.0 p.1 in
            subst
            (λ b. (kept_in other (remove (row ∷ rows) (if b then suc (rank_below c rows) else 0)) ≡ without_number c (kept_in slab (row ∷ rows)))
            × AllByRecursion (IsPlaced other) (remove (row ∷ rows) (if b then suc (rank_below c rows) else 0)))
            (sym (le-ltb row.number c (omega arith))) (
              kept_same rows apart ∙ sym (old_kept ∙ ap (λ t. if t then kept_in slab rows else p.0.0 ∷ without_number c (kept_in slab rows)) (eq-eqb row.number c here)),
              placed_same rows apart p.1,
            )
        go (inr away) again =
            let found : key_in c rows ≡ Some key = tail_key c row rows away e in
            let n : row.key ≡ key → ⊥ = other_key c key row at p.0 away in
            let t : (kept_in other (remove rows (rank_below c rows)) ≡ without_number c (kept_in slab rows)) × AllByRecursion (IsPlaced other) (remove rows (rank_below c rows)) = again found in
            subst
            (λ b. (kept_in other (remove (row ∷ rows) (if b then suc (rank_below c rows) else 0)) ≡ without_number c (kept_in slab (row ∷ rows)))
            × AllByRecursion (IsPlaced other) (remove (row ∷ rows) (if b then suc (rank_below c rows) else 0)))
            (sym (lt-ltb row.number c (less_than_key row.number c rows r.0 found))) (
              (λ i. joined_to ((same row.key n ∙ p.0.1) i) (t.0 i))
                  ∙ sym (old_kept ∙ ap (λ t. if t then kept_in slab rows else p.0.0 ∷ without_number c (kept_in slab rows)) (ne_eqb row.number c away)),
              (one_same row n p.0, t.1),
            )

pub length-inserted : (rows : List Row) (c : ℕ) (row : Row) → length (insert rows (rank_below c rows) row) ≡ suc (length rows)
length-inserted [] c row = refl
length-inserted (z ∷ rows) c row = step (nat_lt z.number c) (length-inserted rows c row)
  where
    step : (b : Bool) → length (insert rows (rank_below c rows) row) ≡ suc (length rows) → length (insert (z ∷ rows) (if b then suc (rank_below c rows) else 0) row) ≡ suc (suc (length rows))
    step true rest = ap suc rest
    step false rest = refl

pub length-removed : (rows : List Row) (c : ℕ) → rank_below c rows < length rows → length (remove rows (rank_below c rows)) + 1 ≡ length rows
length-removed [] c l = absurd (let f : ⊥ = omega arith in f)
length-removed (z ∷ rows) c l = step (nat_lt z.number c) l (λ k. length-removed rows c k)
  where
    step : (b : Bool) → (if b then suc (rank_below c rows) else 0) < suc (length rows) → (rank_below c rows < length rows → length (remove rows (rank_below c rows)) + 1 ≡ length rows)
        → length (remove (z ∷ rows) (if b then suc (rank_below c rows) else 0)) + 1 ≡ suc (length rows)
    step true m rest = let t : length (remove rows (rank_below c rows)) + 1 ≡ length rows = rest (omega arith) in omega arith
    step false m rest = omega arith
