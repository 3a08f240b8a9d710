-- That what is told is what is told inside, where that is told too.
use Rattle.std.specs.Prelude.{◌≡◌, ℕ, Bool, List, ◌++◌, Option, Some, None, IfSome}
use Rattle.outside.specs.Pipes.{PipeState}

-- where it is told inside, it is this
abbrev pub IsSameIfTold : {A : Type 0} → Option A → A → Type 0
IsSameIfTold inside own = IfSome inside (λ told. told ≡ own)

-- where a pipe tells what was written to it, what was read of it, and whether a read has answered the end, it is this
pub record TellsTheSame (inner : PipeState) (sent heard : List ℕ) (over : Bool) : Type 0 where
  pub written : IsSameIfTold inner.written sent
  pub given : IsSameIfTold inner.given heard
  pub ended : IsSameIfTold inner.ended over

-- where a list was told at first and is told now, it has these items more
abbrev pub HasTheseMore : {A : Type 0} → Option (List A) → List A → Option (List A) → Type 0
HasTheseMore (Some before) items (Some now) = now ≡ before ++ items
HasTheseMore None items now = Unit {0}
HasTheseMore (Some before) items None = Unit {0}
