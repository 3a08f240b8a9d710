use Rattle.std.proofs.Common.{map, take}
use Rattle.schema.specs.SchemaOf.{schema_of}
use Rattle.service_binding.specs.Steps.{IsBoundSoFar, IsHanded}
use Rattle.service_binding.proofs.binding.bound_pairs.Given as goal

-- the pairs so far are bound, and the tests of kinds are right
abbrev pub invariant-loop-place : goal.invariant-loop-place
invariant-loop-place g l =
    IsBoundSoFar (schema_of l.schema) (map g.H.Handler.service l.fn.handlers.items) (take l.place l.pairs) l.progress.names.items (map g.H.Handler.service l.progress.bound.items) (map g.H.Handler.service l.progress.left.items)
    × IsHanded l.handed (map g.H.Handler.service l.fn.handlers.items)
