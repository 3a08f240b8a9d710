use Rattle.std.proofs.Common.{◌≡◌, ◌++◌, map, drop}
use Rattle.struct_skew.specs.Plan.{unsent_choice}
use Rattle.struct_skew.proofs.plan.put_unsent.Given as goal

-- what was appended, and what is left, is all
abbrev pub invariant-loop-place : goal.invariant-loop-place
invariant-loop-place l = l.into.items ++ map unsent_choice (drop l.place-index l.places) ≡ l.initial.into.items ++ map unsent_choice l.places
