use Rattle.std.proofs.Common.{◌≡◌, ◌++◌, map, take}
use Rattle.idl_const.specs.FieldEntries.{entry_in}
use Rattle.idl_const.specs.FieldRows.{owed_in}
use Rattle.idl_const.proofs.field_rows.put_owed.Given as goal

-- the owed fields so far
abbrev pub invariant-loop-one : goal.invariant-loop-one
invariant-loop-one l = map entry_in l.row.items ≡ map entry_in l.fn.row.items ++ map owed_in (take l.one-index l.owed)
