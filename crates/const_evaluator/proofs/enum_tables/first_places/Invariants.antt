use Rattle.std.proofs.Common.{take}
use Rattle.const_evaluator.proofs.Valued.{FindsValues}
use Rattle.const_evaluator.proofs.enum_tables.first_places.Given as goal

abbrev pub invariant-loop-place : goal.invariant-loop-place
invariant-loop-place l = FindsValues l.places (take l.place l.values)
