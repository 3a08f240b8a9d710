-- The rank of a number among rows: what is in front of it and behind it.
use Rattle.std.proofs.Common.{◌≡◌, ℕ, zero, suc, ◌+◌, ◌<◌, ◌≤◌, ◌⊎◌, if◌then◌else◌, Some, List, [], ◌∷◌, length, slice_get, refl, sym, ap, ◌∙◌, subst, inl, inr, arith, eq-eqb, ne_eqb}
use Rattle.std.specs.List.{AllByRecursion}
use Rattle.std.proofs.lemmas.Bool.{cases_eq, cases_lt, lt-ltb, le-ltb}
use Rattle.std.proofs.lemmas.Option.{none-some, same_Some, slice_get_within}
use Rattle.conn_table.specs.declared.places.Row.{Row}
use Rattle.conn_table.specs.Rows.{key_in, IsRising, rank_below}

-- the numbers of these rows before place i are below c, and from place j on they aren't
pub record IsBetween (c : ℕ) (rows : List Row) (low high : ℕ) : Type 0 where
  pub order : low ≤ high
  pub within : high ≤ length rows
  pub below : (k : ℕ) (row : Row) → slice_get rows k ≡ Some row → k < low → row.number < c
  pub above : (k : ℕ) (row : Row) → slice_get rows k ≡ Some row → high ≤ k → c ≤ row.number

all_get : (P : Row → Type 0) (rows : List Row) (k : ℕ) (row : Row) → AllByRecursion P rows → slice_get rows k ≡ Some row → P row
all_get P [] k row a e = absurd (none-some row e)
all_get P (x ∷ rows) zero row a e = subst P (same_Some x row e) a.0
all_get P (x ∷ rows) (suc k) row a e = all_get P rows k row a.1 e

pub rising_at : (rows : List Row) (j k : ℕ) (x y : Row) → IsRising rows → slice_get rows j ≡ Some x → slice_get rows k ≡ Some y → j < k → x.number < y.number
rising_at [] j k x y r ex ey l = absurd (none-some x ex)
rising_at (z ∷ rows) zero zero x y r ex ey l = absurd (let f : ⊥ = omega arith in f)
rising_at (z ∷ rows) zero (suc k) x y r ex ey l = subst (λ (w : Row). w.number < y.number) (same_Some z x ex) (all_get (λ (o : Row). z.number < o.number) rows k y r.0 ey)
rising_at (z ∷ rows) (suc j) zero x y r ex ey l = absurd (let f : ⊥ = omega arith in f)
rising_at (z ∷ rows) (suc j) (suc k) x y r ex ey l = rising_at rows j k x y r.1 ex ey (omega arith)

pub rising_to : (rows : List Row) (j k : ℕ) (x y : Row) → IsRising rows → slice_get rows j ≡ Some x → slice_get rows k ≡ Some y → j ≤ k → x.number ≤ y.number
rising_to rows j k x y r ex ey l = go (cases_lt j k)
  where
    go : (j < k) ⊎ (k ≤ j) → x.number ≤ y.number
    go (inl m) = let h : x.number < y.number = rising_at rows j k x y r ex ey m in omega arith
    go (inr m) =
        let e : j ≡ k = omega arith in
        let same : x.number ≡ y.number = ap (λ (w : Row). w.number) (same_Some x y (sym ex ∙ ap (slice_get rows) e ∙ ey)) in
        omega arith

pub between_up : (c : ℕ) (rows : List Row) (low high middle : ℕ) (row : Row) → IsRising rows → IsBetween c rows low high → middle < high → slice_get rows middle ≡ Some row → row.number < c
    → IsBetween c rows (middle + 1) high
between_up c rows low high middle row r b l at less =
    record {
      order = omega arith;
      within = b.within;
      below = λ k x e m. let h : x.number ≤ row.number = rising_to rows k middle x row r e at (omega arith) in omega arith;
      above = b.above;
    }

pub between_down : (c : ℕ) (rows : List Row) (low high middle : ℕ) (row : Row) → IsRising rows → IsBetween c rows low high → low ≤ middle → middle < high → slice_get rows middle ≡ Some row
    → c ≤ row.number → IsBetween c rows low middle
between_down c rows low high middle row r b l m at more =
    let w : high ≤ length rows = b.within in
    record {
      order = l;
      within = omega arith;
      below = b.below;
      above = λ k x e n. let h : row.number ≤ x.number = rising_to rows middle k row x r at e n in omega arith;
    }

pub rank_between : (c : ℕ) (rows : List Row) (i : ℕ) → IsBetween c rows i i → i ≡ rank_below c rows
rank_between c [] i b = let w : i ≤ 0 = b.within in omega arith
rank_between c (x ∷ rows) zero b = sym (ap (λ t. if t then suc (rank_below c rows) else 0) (le-ltb x.number c (b.above 0 x refl (omega arith))))
rank_between c (x ∷ rows) (suc i) b =
    let w : suc i ≤ suc (length rows) = b.within in
    let t : i ≡ rank_below c rows = rank_between c rows i (record {
      order = omega arith;
      within = omega arith;
      below = λ k row e l. b.below (suc k) row e (omega arith);
      above = λ k row e l. b.above (suc k) row e (omega arith);
    }) in
    ap suc t ∙ sym (ap (λ t. if t then suc (rank_below c rows) else 0) (lt-ltb x.number c (b.below 0 x refl (omega arith))))

-- a number that stands at place k has the rank k
pub rank_at : (c k : ℕ) (row : Row) (rows : List Row) → IsRising rows → slice_get rows k ≡ Some row → row.number ≡ c → k ≡ rank_below c rows
rank_at c k row rows r at own =
    let w : k < length rows = slice_get_within rows k row at in
    rank_between c rows k (record {
      order = omega arith;
      within = omega arith;
      below = λ j x e l. let h : x.number < row.number = rising_at rows j k x row r e at l in omega arith;
      above = λ j x e l. let h : row.number ≤ x.number = rising_to rows k j row x r at e l in omega arith;
    })

-- a row of a number is at its rank
pub rank_found : (c key : ℕ) (rows : List Row) → IsRising rows → key_in c rows ≡ Some key → (row : Row) × (slice_get rows (rank_below c rows) ≡ Some row) × (row.number ≡ c) × (row.key ≡ key)
rank_found c key [] r e = absurd (none-some key e)
rank_found c key (x ∷ rows) r e = go (cases_eq x.number c) (λ f. rank_found c key rows r.1 f)
  where
    go : (x.number ≡ c) ⊎ (x.number ≡ c → ⊥) → (key_in c rows ≡ Some key → (row : Row) × (slice_get rows (rank_below c rows) ≡ Some row) × (row.number ≡ c) × (row.key ≡ key))
        → (row : Row) × (slice_get (x ∷ rows) (rank_below c (x ∷ rows)) ≡ Some row) × (row.number ≡ c) × (row.key ≡ key)
    go (inl same) again = (
      x,
      ap (λ t. slice_get (x ∷ rows) (if t then suc (rank_below c rows) else 0)) (le-ltb x.number c (omega arith)),
      same,
      same_Some x.key key (sym (ap (λ t. if t then Some x.key else key_in c rows) (eq-eqb x.number c same)) ∙ e),
    )
    go (inr other) again =
        let found : key_in c rows ≡ Some key = sym (ap (λ t. if t then Some x.key else key_in c rows) (ne_eqb x.number c other)) ∙ e in
        let t : (row : Row) × (slice_get rows (rank_below c rows) ≡ Some row) × (row.number ≡ c) × (row.key ≡ key) = again found in
        let less : x.number < t.0.number = all_get (λ (o : Row). x.number < o.number) rows (rank_below c rows) t.0 r.0 t.1 in
        let n : t.0.number ≡ c = t.2 in
        (t.0, ap (λ b. slice_get (x ∷ rows) (if b then suc (rank_below c rows) else 0)) (lt-ltb x.number c (omega arith)) ∙ t.1, t.2, t.3)
