use Rattle.const_evaluator.proofs.RisingIds.{RiseBelow}
use Rattle.const_evaluator.proofs.struct_tables.ids_rise.Given as goal

-- the ids so far
abbrev pub invariant-loop-place : goal.invariant-loop-place
invariant-loop-place l = RiseBelow l.fields l.place
