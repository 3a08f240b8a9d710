-- Tests that decide whether a service is the calculator that a workload calls.
use Rattle.std.specs.Prelude.{ℕ, ℤ, pos, Bool, true, false, not, ◌&&◌, codes, List, [], ◌∷◌, is_none}
use Rattle.std.specs.List.{slice_get}
use Rattle.std.specs.Ordering.{int_eq}
use Rattle.schema.specs.PlainKind.{PlainKind, kind_i32, kind_enum}
use Rattle.schema.specs.PlainSchema.{PlainField, PlainStruct, PlainFunction, PlainSchema}
use Rattle.schema.specs.LookUp.{function_named}
use Rattle.known_parts.specs.Parts.{struct_of_kind}
use Rattle.struct_skew.specs.Projection.{is_required, is_union}
use Rattle.struct_skew.specs.WrittenTests.{some_passes}

-- the type is i32
abbrev pub is_number : PlainKind → Bool
is_number kind_i32 = true
is_number _ = false

-- the type is an enum
abbrev pub is_enum : PlainKind → Bool
is_enum (kind_enum _) = true
is_enum _ = false

-- a field of this id holds an i32
abbrev pub holds_number : ℤ → PlainField → Bool
holds_number id f = int_eq f.id id && is_number f.kind

-- a field of this id holds an enum
abbrev pub holds_enum : ℤ → PlainField → Bool
holds_enum id f = int_eq f.id id && is_enum f.kind

-- a field of this id may be missing, and then has no value
abbrev pub may_be_missing : ℤ → PlainField → Bool
may_be_missing id f = int_eq f.id id && (not (is_required f.need) && is_none f.default)

-- the fields are those of a work
abbrev pub are_work_fields : List PlainField → Bool
are_work_fields (a ∷ b ∷ op ∷ comment ∷ []) =
    holds_number (pos 1) a && (holds_number (pos 2) b && (holds_enum (pos 3) op && may_be_missing (pos 4) comment))
are_work_fields _ = false

-- a struct that is no union, whose fields pass a test
abbrev pub is_struct_with : (List PlainField → Bool) → PlainStruct → Bool
is_struct_with test d = not (is_union d.kind) && test d.fields

-- a struct at a number passes a test
abbrev pub passes_as_struct : List PlainStruct → (List PlainField → Bool) → ℕ → Bool
passes_as_struct structs test which = some_passes (slice_get structs which) (is_struct_with test)

-- the type is the struct of a work
abbrev pub is_work : List PlainStruct → PlainKind → Bool
is_work structs kind = some_passes (struct_of_kind kind) (passes_as_struct structs are_work_fields)

-- the fields are the arguments of add
abbrev pub are_two_numbers : List PlainField → Bool
are_two_numbers (a ∷ b ∷ []) = holds_number (pos 1) a && holds_number (pos 2) b
are_two_numbers _ = false

-- the fields are the arguments of calculate
abbrev pub are_number_and_work : List PlainStruct → List PlainField → Bool
are_number_and_work structs (logid ∷ work ∷ []) = holds_number (pos 1) logid && (int_eq work.id (pos 2) && is_work structs work.kind)
are_number_and_work structs _ = false

-- the function is answered with an i32
abbrev pub gives_number : PlainFunction → Bool
gives_number f = not f.oneway && some_passes f.result is_number

-- the function is add
abbrev pub is_add : PlainSchema → PlainFunction → Bool
is_add s f = gives_number f && passes_as_struct s.structs are_two_numbers f.args

-- the function is calculate
abbrev pub is_calculate : PlainSchema → PlainFunction → Bool
is_calculate s f = gives_number f && passes_as_struct s.structs (are_number_and_work s.structs) f.args

-- the service at a number has the functions that a workload calls
abbrev pub is_calculator : PlainSchema → ℕ → Bool
is_calculator s service = some_passes (function_named s service (codes "add")) (is_add s) && some_passes (function_named s service (codes "calculate")) (is_calculate s)
