-- The content of an outside object, which may be untold: None says nothing of it.
use Rattle.std.specs.Prelude.{◌≡◌, ℕ, ◌<◌, ◌≤◌, List, [], ◌++◌, length, take, Option, Some, None, ⊤}

-- what was moved so far, once these bytes were moved too
abbrev pub told_more : Option (List ℕ) → List ℕ → Option (List ℕ)
told_more None bytes = None
told_more (Some content) bytes = Some (content ++ bytes)

-- what was left before these bytes were taken from its front
abbrev pub told_before : List ℕ → Option (List ℕ) → Option (List ℕ)
told_before bytes None = None
told_before bytes (Some rest) = Some (bytes ++ rest)

-- where the content is told, nothing is left of it
abbrev pub IsSpent : Option (List ℕ) → Type 0
IsSpent None = ⊤
IsSpent (Some rest) = rest ≡ []

-- a read put the first `count` bytes of what was left at the front of `into`, none of them only at the end
pub record HasRead (given_before given left_before left : Option (List ℕ)) (into : List ℕ) (count : ℕ) : Type 0 where
  pub bound : count ≤ length into
  pub given_more : given ≡ told_more given_before (take count into)
  pub taken_off : left_before ≡ told_before (take count into) left
  pub ended : count ≡ 0 → 0 < length into → IsSpent left

-- a write took the first `count` of these bytes, at least one where there are any
pub record HasWritten (taken_before taken : Option (List ℕ)) (bytes : List ℕ) (count : ℕ) : Type 0 where
  pub bound : count ≤ length bytes
  pub some : 0 < length bytes → 0 < count
  pub told : taken ≡ told_more taken_before (take count bytes)
