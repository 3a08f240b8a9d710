use Rattle.std.proofs.Common.{◌≡◌, ◌++◌, map, drop}
use Rattle.schema.specs.SchemaOf.{plain_struct}
use Rattle.struct_skew.specs.Needs.{needs_of, plain_needs}
use Rattle.struct_skew.proofs.needs.needed_fields.Given as goal

-- what is known, and what is left, is the needs of all
abbrev pub invariant-loop-desc : goal.invariant-loop-desc
invariant-loop-desc l =
    map plain_needs l.rows.items ++ map needs_of (map plain_struct (drop l.desc-index l.desc-items)) ≡ map needs_of (map plain_struct l.desc-items)
