-- Content that may be untold: None says nothing of it.
use Rattle.std.specs.Prelude.{◌≡◌, List, [], ◌++◌, Option, Some, None, IfSome}

-- a list that has these items more, where it is told
abbrev pub told_with : {A : Type 0} → Option (List A) → List A → Option (List A)
told_with None more = None
told_with (Some items) more = Some (items ++ more)

-- a list has nothing yet, and is told where this is told
abbrev pub StartsEmpty : {A B : Type 0} → Option A → Option (List B) → Type 0
StartsEmpty None items = IfSome items (λ all. all ≡ [])
StartsEmpty (Some told) items = items ≡ Some []
