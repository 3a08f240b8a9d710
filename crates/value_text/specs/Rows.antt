-- Reading entries with commas between them: fields, elements or pairs.
use Rattle.std.specs.Prelude.{ℕ, zero, suc, ◌==◌, Bool, true, false, List, [], ◌∷◌, Option, Some, None, Result, Ok, if◌then◌else◌}
use Rattle.value_text.specs.Fronts.{◌>>=◌, stuck}

-- what stands behind this byte, where it stands in front
abbrev pub rest_behind : ℕ → List ℕ → Option (List ℕ)
rest_behind c [] = None
rest_behind c (b ∷ bs) = if b == c then Some bs else None

-- one answer, where something was found, or another
abbrev pub found_or : {A B : Type 0} → Option A → (A → B) → B → B
found_or (Some x) f other = f x
found_or None f other = other

-- what stands behind an entry: a comma, so that another has to come, or the byte that closes them
abbrev pub next_at : ℕ → List ℕ → Result (Bool × List ℕ) ℕ
next_at close text =
    found_or (rest_behind 44 text) (λ rest. Ok (true, rest)) (found_or (rest_behind close text) (λ rest. Ok (false, rest)) (stuck text))

-- the last of some entries
abbrev pub last_of : {A : Type 0} → List A → Option A
last_of [] = None
last_of (x ∷ []) = Some x
last_of (x ∷ (y ∷ ys)) = last_of (y ∷ ys)

-- An entry behind the last one, and what stands behind it. A reader of entries is told the last one, since entries may have to rise:
-- one that doesn't is at fault at the first byte behind what has to rise, an id, a key or a member.
abbrev pub row_at : {A : Type 0} → (Option A → List ℕ → Result (A × List ℕ) ℕ) → ℕ → Option A → List ℕ → Result (A × Bool × List ℕ) ℕ
row_at entry close last text = entry last text >>= λ x. next_at close x.1 >>= λ n. Ok (x.0, n.0, n.1)

-- an entry in front of those behind it, where others have to come
abbrev pub entries_behind : {A : Type 0} → A × Bool × List ℕ → (Option A → List ℕ → Result (List A × List ℕ) ℕ) → Result (List A × List ℕ) ℕ
entries_behind row others = if row.1 then (others (Some row.0) row.2 >>= λ more. Ok (row.0 ∷ more.0, more.1)) else Ok (row.0 ∷ [], row.2)

-- entries up to the byte that closes them, one at least. An entry takes a byte at least, so `most` may be any number above that of
-- the bytes
unfoldable pub rows_at : {A : Type 0} → (Option A → List ℕ → Result (A × List ℕ) ℕ) → ℕ → ℕ → Option A → List ℕ → Result (List A × List ℕ) ℕ
rows_at entry close zero last text = stuck text
rows_at entry close (suc most) last text = row_at entry close last text >>= λ row. entries_behind row (rows_at entry close most)

-- entries, if any, up to the byte that closes them
abbrev pub list_at : {A : Type 0} → (Option A → List ℕ → Result (A × List ℕ) ℕ) → ℕ → ℕ → List ℕ → Result (List A × List ℕ) ℕ
list_at entry close most text = found_or (rest_behind close text) (λ rest. Ok ([], rest)) (rows_at entry close most None text)
