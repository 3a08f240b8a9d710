use Rattle.std.proofs.Common.{◌≡◌, map, take}
use Rattle.idl_include.specs.SourcesOf.{program_in}
use Rattle.idl_types.proofs.RowsMade.{aliases_of}
use Rattle.idl_types.proofs.rows.typedef_rows.Given as goal

abbrev pub invariant-loop-typedef : goal.invariant-loop-typedef
invariant-loop-typedef l = map (λ row. row.items) l.rows.items ≡ map (aliases_of (program_in l.names)) (take l.typedef-index l.typedefs)
