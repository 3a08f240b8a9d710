use Rattle.std.proofs.Common.{map}
use Rattle.schema.specs.SchemaOf.{plain_struct}
use Rattle.schema_bare.proofs.Ranked.{AreToldBelow}
use Rattle.schema_bare.proofs.finite.are_told.Given as goal

abbrev pub invariant-loop-place : goal.invariant-loop-place
invariant-loop-place l = AreToldBelow (map plain_struct l.structs) l.ranks l.place
