-- The arguments of a call, and the fields of a struct among them.
use Rattle.std.specs.Prelude.{ℕ, ℤ, pos, List, Option, None, Some, if◌then◌else◌}
use Rattle.std.specs.Ordering.{int_eq}
use Rattle.thrift_value.specs.Tree.{Tree, of_i32, of_bytes, of_struct, FieldTrees, no_fields, field}

-- the fields of a struct; what is no struct has none
abbrev pub fields_in : Tree → FieldTrees
fields_in (of_struct fields) = fields
fields_in _ = no_fields

-- the value of the first field with this id
abbrev pub value_with_id : ℤ → FieldTrees → Option Tree
value_with_id id no_fields = None
value_with_id id (field i value more) = if int_eq id i then Some value else value_with_id id more

-- the value of the first field
abbrev pub first_value : FieldTrees → Option Tree
first_value no_fields = None
first_value (field _ value _) = Some value

-- an argument, where it is present
abbrev pub argument : ℤ → Tree → Option Tree
argument id args = value_with_id id (fields_in args)

-- the number that is passed: 0 where it is absent, and nothing where it is no i32
abbrev pub number_passed : Option Tree → Option ℤ
number_passed None = Some (pos 0)
number_passed (Some (of_i32 n)) = Some n
number_passed (Some _) = None

-- the bytes that are passed: nothing where they are absent or no bytes
abbrev pub bytes_passed : Option Tree → Option (List ℕ)
bytes_passed (Some (of_bytes bytes)) = Some bytes
bytes_passed _ = None

-- the fields that are passed: nothing where the struct is absent or no struct
abbrev pub fields_passed : Option Tree → Option FieldTrees
fields_passed (Some (of_struct fields)) = Some fields
fields_passed _ = None
