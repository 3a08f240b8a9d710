-- How marks in rows grow, and what is left of them behind the first.
use Rattle.std.proofs.Common.{◌≡◌, ℕ, suc, ◌+◌, ◌-◌, ◌≤◌, Result, Ok, Err, IsOk, Vec, Global, List, [], ◌∷◌, ◌++◌, length, take, drop, refl, ap, ◌∙◌, arith, length-append, length-drop}
use Rattle.std.specs.Prelude.{cond, is_ok}
use Rattle.std.specs.Vec.{vec_len, vec_capacity}
use Rattle.std.proofs.lemmas.List.{take-append-le, drop-append-le}
use Rattle.std.proofs.Math.Seq.{take-length}
use Rattle.std.proofs.lemmas.Bool.{false≢true}
use Rattle.streams.specs.declared.mark_row.MarkRow.{MarkRow}
use Rattle.streams.specs.Rows.{mark_of, marks_in, bytes_owed}

-- there is a mark for each row
pub as_many_marks : (rows : List MarkRow) (bytes : List ℕ) → length (marks_in rows bytes) ≡ length rows
as_many_marks [] bytes = refl
as_many_marks (row ∷ rows) bytes = ap suc (as_many_marks rows (drop row.len bytes))

-- no bytes are behind no rows
nothing_owed : (bytes : List ℕ) → 0 ≡ length bytes → bytes ≡ []
nothing_owed [] none = refl
nothing_owed (byte ∷ bytes) none = absurd (omega arith)

-- what is behind the first row is owed to those behind it
pub owed_behind : (row : MarkRow) (rows : List MarkRow) (bytes : List ℕ) → row.len + bytes_owed rows ≡ length bytes → bytes_owed rows ≡ length (drop row.len bytes)
owed_behind row rows bytes owed = omega (arith, length-drop row.len bytes)

-- a row more, with its bytes
pub mark_added : (rows : List MarkRow) (bytes more : List ℕ) (row : MarkRow) → bytes_owed rows ≡ length bytes → row.len ≡ length more
    → marks_in (rows ++ row ∷ []) (bytes ++ more) ≡ marks_in rows bytes ++ mark_of row more ∷ []
mark_added [] bytes more row owed own =
    let none = nothing_owed bytes owed in
    ap (λ bs. mark_of row (take row.len (bs ++ more)) ∷ []) none ∙ ap (λ n. mark_of row (take n more) ∷ []) own ∙ ap (λ bs. mark_of row bs ∷ []) (take-length more)
mark_added (first ∷ rows) bytes more row owed own =
    let within : first.len ≤ length bytes = omega (arith, owed) in
    ap (λ bs. mark_of first bs ∷ marks_in (rows ++ row ∷ []) (drop first.len (bytes ++ more))) (take-append-le first.len bytes more within)
    ∙ ap (λ bs. mark_of first (take first.len bytes) ∷ marks_in (rows ++ row ∷ []) bs) (drop-append-le first.len bytes more within)
    ∙ ap (λ ms. mark_of first (take first.len bytes) ∷ ms) (mark_added rows (drop first.len bytes) more row (owed_behind first rows bytes owed) own)

-- what they owe grows as the bytes do
pub owed_added : (rows : List MarkRow) (bytes more : List ℕ) (row : MarkRow) → bytes_owed rows ≡ length bytes → row.len ≡ length more
    → bytes_owed (rows ++ row ∷ []) ≡ length (bytes ++ more)
owed_added rows bytes more row owed own = omega (arith, owes rows, length-append bytes more)
  where
    owes : (all : List MarkRow) → bytes_owed (all ++ row ∷ []) ≡ bytes_owed all + row.len
    owes [] = omega arith
    owes (first ∷ all) = omega (arith, owes all)

-- what was taken where all fits
taken_all : {A E : Type 0} (result : Result A E) (now was more : List ℕ) → IsOk result → now ≡ cond (is_ok result) (was ++ more) was → now ≡ was ++ more
taken_all (Ok x) now was more ok is = is
taken_all (Err e) now was more ok is = absurd (false≢true ok)

-- bytes for which there is room are behind those that were there
pub bytes_added : {A E : Type 0} (result : Result A E) (bytes now : Vec ℕ Global) (own more : List ℕ) → more ≡ own → length own ≤ vec_capacity bytes - length bytes.items
    → (vec_len bytes + length more ≤ vec_capacity bytes → IsOk result) → now.items ≡ cond (is_ok result) (bytes.items ++ more) bytes.items → now.items ≡ bytes.items ++ more
bytes_added result bytes now own more is room succeeds items =
    let same : length more ≡ length own = ap length is in
    taken_all result now.items bytes.items more (succeeds (omega (arith, bytes.ok.0, bytes.ok.1))) items
