-- A struct of fields that were found.
use Rattle.std.specs.Prelude.{ℕ, ℤ, not, ◌&&◌, ◌==◌, if◌then◌else◌, List, length, Result, Ok, Err}
use Rattle.thrift_value.specs.Tree.{Tree, of_struct}
use Rattle.thrift_value.specs.TreeOf.{field_trees}
use Rattle.schema.specs.declared.types.FieldsKind.{FieldsKind}
use Rattle.struct_skew.specs.declared.fault.SkewFault.{SkewFault}
use Rattle.struct_skew.specs.declared.fault.SkewFault.TheVariants.{UnionFields}
use Rattle.struct_skew.specs.Projection.{is_union}

-- of a union exactly one has a value; since its defaults don't count, this is the one that was sent
abbrev pub one_of_union : ℕ → FieldsKind → List (ℤ × Tree) → Result Tree SkewFault
one_of_union which kind fields = if is_union kind && not (length fields == 1) then Err (UnionFields which) else Ok (of_struct (field_trees fields))
