use Rattle.std.proofs.Common.{◌≡◌, ℕ, None}
use Rattle.idl_types.specs.Known.{known_kind}
use Rattle.idl_types.proofs.aliases.none_made.Given as goal

abbrev pub invariant-loop-place : goal.invariant-loop-place
invariant-loop-place l = (number : ℕ) → known_kind l.made.items number ≡ None
