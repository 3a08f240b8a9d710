-- What a binder over sockets tells.
use Rattle.std.specs.Prelude.{ℕ}
use Rattle.outside.specs.Binding.{HandedOut}

-- how many faults were counted, and what was handed out and has come back
pub record BoundSoFar : Type 0 where
  pub faults : ℕ
  pub handed : HandedOut
