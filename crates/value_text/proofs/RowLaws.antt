-- Entries with commas between them are read back, and what is read stands there.
use Rattle.std.proofs.Common.{◌≡◌, ℕ, zero, suc, ◌<◌, Bool, true, false, cond, eqb, List, [], ◌∷◌, ◌++◌, length, Option, Some, None, Result, Ok, Err, refl, sym, ap, subst, ◌∙◌, append_assoc, arith, inl, inr, eq-eqb, eqb-true}
use Rattle.value_text.specs.Fronts.{◌>>=◌}
use Rattle.value_text.specs.Rows.{rest_behind, found_or, next_at, row_at, entries_behind, rows_at, list_at}
use Rattle.value_text.proofs.Choices.{went_on, chosen, one_ok, was_found, had_to}

some_same : (x y : List ℕ) → Some x ≡ Some y → x ≡ y
some_same x y e = cc

-- what stood in front
rest_found : (c : ℕ) (text rest : List ℕ) → rest_behind c text ≡ Some rest → text ≡ c ∷ rest
rest_found c [] rest e = absurd cc
rest_found c (b ∷ bs) rest e =
    elim (chosen (eqb b c) (Some bs) None (Some rest) e) [
      | inl so ↦ ap (λ x. x ∷ bs) (eqb-true b c so.0) ∙ ap (λ r. c ∷ r) (some_same bs rest so.1)
      | inr not ↦ absurd cc
    ]

pub rest_again : (c : ℕ) (rest : List ℕ) → rest_behind c (c ∷ rest) ≡ Some rest
rest_again c rest = ap (λ t. cond t (Some rest) None) (eq-eqb c c refl)

-- what stands behind an entry: a comma or the byte that closes
abbrev next_byte : ℕ → Bool → ℕ
next_byte close more = cond more 44 close

next_found : (close : ℕ) (text : List ℕ) (more : Bool) (rest : List ℕ) → next_at close text ≡ Ok (more, rest) → text ≡ next_byte close more ∷ rest
next_found close text more rest e =
    elim (was_found (rest_behind 44 text) (λ r. Ok (true, r)) (found_or (rest_behind close text) (λ r. Ok (false, r)) (Err (length text))) (Ok (more, rest)) e) [
      | inl comma ↦ subst (λ (x : Bool × List ℕ). text ≡ next_byte close x.0 ∷ x.1) (one_ok (true, comma.0) (more, rest) comma.2) (rest_found 44 text comma.0 comma.1)
      | inr other ↦
          let closing = had_to (rest_behind close text) (λ r. Ok (false, r)) (length text) (more, rest) other.1 in
          subst (λ (x : Bool × List ℕ). text ≡ next_byte close x.0 ∷ x.1) (one_ok (false, closing.0) (more, rest) closing.2) (rest_found close text closing.0 closing.1)
    ]

next_close : (close : ℕ) (rest : List ℕ) → eqb close 44 ≡ false → next_at close (close ∷ rest) ≡ Ok (false, rest)
next_close close rest other =
    ap (λ t. found_or (cond t (Some rest) None) (λ r. Ok (true, r)) (found_or (rest_behind close (close ∷ rest)) (λ r. Ok (false, r)) (Err (length (close ∷ rest))))) other
    ∙ ap (λ o. found_or o (λ r. Ok (false, r)) (Err (length (close ∷ rest)))) (rest_again close rest)

-- each entry fits behind the one before it
abbrev pub AreChained : {A : Type 0} → (Option A → A → Type 0) → Option A → List A → Type 0
AreChained Fits last [] = Unit {0}
AreChained Fits last (x ∷ xs) = Fits last x × AreChained Fits (Some x) xs

module _ {A : Type 0} (show : A → List ℕ) where
  -- the texts of entries, each behind a comma
  abbrev pub shown_behind : List A → List ℕ
  shown_behind [] = []
  shown_behind (x ∷ xs) = 44 ∷ (show x ++ shown_behind xs)

  -- the texts of entries with commas between them
  abbrev pub shown : List A → List ℕ
  shown [] = []
  shown (x ∷ xs) = show x ++ shown_behind xs

  module _ (Fits : Option A → A → Type 0) (entry : Option A → List ℕ → Result (A × List ℕ) ℕ) (close : ℕ) where
    -- what the entries that are read are
    abbrev pub ReadsEntry : Type 0
    ReadsEntry = (last : Option A) (text : List ℕ) (x : A) (rest : List ℕ) → entry last text ≡ Ok (x, rest) → (text ≡ show x ++ rest) × Fits last x

    abbrev pub AreShown : Option A → List ℕ → List A → List ℕ → Type 0
    AreShown last text xs rest = (text ≡ shown xs ++ close ∷ rest) × AreChained Fits last xs

    -- rows that were read, one at least
    abbrev AreRows : Option A → List ℕ → List A → List ℕ → Type 0
    AreRows last text xs rest = (x : A) × (more : List A) × (xs ≡ x ∷ more) × (text ≡ show x ++ (shown_behind more ++ close ∷ rest)) × Fits last x × AreChained Fits (Some x) more

    behind_entry : (others : Option A → List ℕ → Result (List A × List ℕ) ℕ)
        → ((last : Option A) (text : List ℕ) (xs : List A) (rest : List ℕ) → others last text ≡ Ok (xs, rest) → AreRows last text xs rest)
        → (last : Option A) (text : List ℕ) (x : A) (more : Bool) (after : List ℕ) (xs : List A) (rest : List ℕ)
        → text ≡ show x ++ next_byte close more ∷ after → Fits last x → entries_behind (x, more, after) others ≡ Ok (xs, rest) → AreRows last text xs rest
    behind_entry others found last text x true after xs rest is fits e =
        let read = went_on (others (Some x) after) (λ more. Ok (x ∷ more.0, more.1)) (xs, rest) e in
        let rows = found (Some x) after read.0.0 read.0.1 read.1 in
        let same = one_ok (x ∷ read.0.0, read.0.1) (xs, rest) read.2 in
        subst (λ (y : List A × List ℕ). AreRows last text y.0 y.1) same (
          x,
          rows.0 ∷ rows.1,
          ap (λ zs. x ∷ zs) rows.2,
          is ∙ ap (λ t. show x ++ 44 ∷ t) rows.3 ∙ ap (λ t. show x ++ 44 ∷ t) (sym (append_assoc (show rows.0) (shown_behind rows.1) (close ∷ read.0.1))),
          fits,
          (rows.4, rows.5),
        )
    behind_entry others found last text x false after xs rest is fits e =
        let same = one_ok (x ∷ [], after) (xs, rest) e in
        subst (λ (y : List A × List ℕ). AreRows last text y.0 y.1) same (x, [], refl, is, fits, tt)

    rows_found : ReadsEntry → (most : ℕ) (last : Option A) (text : List ℕ) (xs : List A) (rest : List ℕ)
        → rows_at entry close most last text ≡ Ok (xs, rest) → AreRows last text xs rest
    unfolding rows_at
    rows_found reads zero last text xs rest e = absurd cc
    rows_found reads (suc most) last text xs rest e =
        let row = went_on (row_at entry close last text) (λ row. entries_behind row (rows_at entry close most)) (xs, rest) e in
        let one = went_on (entry last text) (λ x. next_at close x.1 >>= λ n. Ok (x.0, n.0, n.1)) row.0 row.1 in
        let next = went_on (next_at close one.0.1) (λ n. Ok (one.0.0, n.0, n.1)) row.0 one.2 in
        let first = reads last text one.0.0 one.0.1 one.1 in
        let behind = next_found close one.0.1 next.0.0 next.0.1 next.1 in
        let same = one_ok (one.0.0, next.0.0, next.0.1) row.0 next.2 in
        behind_entry (rows_at entry close most) (rows_found reads most) last text one.0.0 next.0.0 next.0.1 xs rest
        (first.0 ∙ ap (λ t. show one.0.0 ++ t) behind) first.1 (ap (λ r. entries_behind r (rows_at entry close most)) same ∙ row.2)

    as_shown : (last : Option A) (text : List ℕ) (xs : List A) (rest : List ℕ) → AreRows last text xs rest → AreShown last text xs rest
    as_shown last text xs rest rows = (
      rows.3 ∙ sym (append_assoc (show rows.0) (shown_behind rows.1) (close ∷ rest)) ∙ ap (λ ys. shown ys ++ close ∷ rest) (sym rows.2),
      subst (λ ys. AreChained Fits last ys) (sym rows.2) (rows.4, rows.5),
    )

    pub list_found : ReadsEntry → (most : ℕ) (text : List ℕ) (xs : List A) (rest : List ℕ) → list_at entry close most text ≡ Ok (xs, rest) → AreShown None text xs rest
    list_found reads most text xs rest e =
        elim (was_found (rest_behind close text) (λ r. Ok ([], r)) (rows_at entry close most None text) (Ok (xs, rest)) e) [
          | inl none ↦ subst (λ (y : List A × List ℕ). AreShown None text y.0 y.1) (one_ok ([], none.0) (xs, rest) none.2) (rest_found close text none.0 none.1, tt)
          | inr some ↦ as_shown None text xs rest (rows_found reads most None text xs rest some.1)
        ]

    -- an entry that fits is read, whatever follows
    abbrev pub ReadsAgain : Type 0
    ReadsAgain = (last : Option A) (x : A) (rest : List ℕ) → Fits last x → entry last (show x ++ rest) ≡ Ok (x, rest)

    -- one entry and what stands behind it
    row_again : ReadsAgain → (last : Option A) (x : A) (more : Bool) (text rest : List ℕ) → Fits last x → next_at close text ≡ Ok (more, rest) → row_at entry close last (show x ++ text) ≡ Ok (x, more, rest)
    row_again reads last x more text rest fits next =
        ap (λ r. r >>= λ y. next_at close y.1 >>= λ n. Ok (y.0, n.0, n.1)) (reads last x text fits)
        ∙ ap (λ r. r >>= λ n. Ok (x, n.0, n.1)) next

    rows_again : ReadsAgain → eqb close 44 ≡ false → (most : ℕ) (last : Option A) (x : A) (xs : List A) (rest : List ℕ) → length xs < most → Fits last x → AreChained Fits (Some x) xs
        → rows_at entry close most last (show x ++ (shown_behind xs ++ close ∷ rest)) ≡ Ok (x ∷ xs, rest)
    unfolding rows_at
    rows_again reads other zero last x xs rest room fits chained = absurd (omega (arith, room))
    rows_again reads other (suc most) last x [] rest room fits chained =
        ap (λ r. r >>= λ row. entries_behind row (rows_at entry close most)) (row_again reads last x false (close ∷ rest) rest fits (next_close close rest other))
    rows_again reads other (suc most) last x (y ∷ ys) rest room fits chained =
        let behind : List ℕ = show y ++ (shown_behind ys ++ close ∷ rest) in
        ap (λ t. rows_at entry close (suc most) last (show x ++ 44 ∷ t)) (append_assoc (show y) (shown_behind ys) (close ∷ rest))
        ∙ ap (λ r. r >>= λ row. entries_behind row (rows_at entry close most)) (row_again reads last x true (44 ∷ behind) behind fits refl)
        ∙ ap (λ r. r >>= λ more. Ok (x ∷ more.0, more.1)) (rows_again reads other most (Some x) y ys rest (omega (arith, room)) chained.0 chained.1)

    pub list_again : ReadsAgain → eqb close 44 ≡ false → ((x : A) (rest : List ℕ) → Fits None x → rest_behind close (show x ++ rest) ≡ None)
        → (most : ℕ) (xs : List A) (rest : List ℕ) → length xs < most → AreChained Fits None xs → list_at entry close most (shown xs ++ close ∷ rest) ≡ Ok (xs, rest)
    list_again reads other begins most [] rest room chained = ap (λ o. found_or o (λ r. Ok ([], r)) (rows_at entry close most None (close ∷ rest))) (rest_again close rest)
    list_again reads other begins most (x ∷ xs) rest room chained =
        ap (list_at entry close most) (append_assoc (show x) (shown_behind xs) (close ∷ rest))
        ∙ ap (λ o. found_or o (λ r. Ok ([], r)) (rows_at entry close most None (show x ++ (shown_behind xs ++ close ∷ rest)))) (begins x (shown_behind xs ++ close ∷ rest) chained.0)
        ∙ rows_again reads other most None x xs rest (omega (arith, room)) chained.0 chained.1
