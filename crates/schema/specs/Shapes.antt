-- The shapes of functions: what a handler has to know of the services that it serves, a line each.
use Rattle.std.specs.Prelude.{◌≡◌, ℕ, Bool, true, false, List, [], ◌∷◌, ◌++◌, codes, map, flat_map, Option, Some, None, IsPermutation}
use Rattle.std.specs.Borrow.{Bor}
use Rattle.std.specs.List.Sorted.{IsSortedBy}
use Rattle.std.specs.Ordering.{nat_cmp, is_lt}
use Rattle.std.specs.Cmp.Lexicographic.{slice_cmp}
use Rattle.text_out.specs.Decimal.{decimal_of}
use Rattle.schema.specs.declared.types.FnDesc.{FnDesc}
use Rattle.schema.specs.SchemaOf.{plain_function}
use Rattle.schema.specs.Inherited.{functions_of}
use Rattle.schema.specs.LookUp.{fields_at}
use Rattle.schema.specs.PlainKind.{PlainKind, kind_bool, kind_i8, kind_i16, kind_i32, kind_i64, kind_double, kind_text, kind_binary, kind_uuid, kind_enum, kind_struct, kind_map, kind_set, kind_list}
use Rattle.schema.specs.PlainSchema.{PlainField, PlainFunction, PlainSchema}

-- texts with a separator between them
abbrev pub joined : List ℕ → List (List ℕ) → List ℕ
joined separator [] = []
joined separator (x ∷ xs) = x ++ flat_map (λ y. separator ++ y) xs

-- a type as the tags of its values
abbrev pub kind_tags : PlainKind → List ℕ
kind_tags kind_bool = codes "bool"
kind_tags kind_i8 = codes "i8"
kind_tags kind_i16 = codes "i16"
kind_tags kind_i32 = codes "i32"
kind_tags kind_i64 = codes "i64"
kind_tags kind_double = codes "double"
kind_tags kind_text = codes "bytes"
kind_tags kind_binary = codes "bytes"
kind_tags kind_uuid = codes "uuid"
kind_tags (kind_enum _) = codes "i32"
kind_tags (kind_struct _) = codes "struct"
kind_tags (kind_map key value) = codes "map<" ++ (kind_tags key ++ (codes "," ++ (kind_tags value ++ codes ">")))
kind_tags (kind_set member) = codes "set<" ++ (kind_tags member ++ codes ">")
kind_tags (kind_list element) = codes "list<" ++ (kind_tags element ++ codes ">")

-- a field's id and its tags
abbrev pub id_and_tags : PlainField → List ℕ
id_and_tags f = decimal_of f.id ++ (codes ":" ++ kind_tags f.kind)

-- the same of fields, in parentheses
abbrev pub ids_and_tags : List PlainField → List ℕ
ids_and_tags fields = codes "(" ++ (joined (codes ",") (map id_and_tags fields) ++ codes ")")

-- the word in front of a function to which no reply follows
abbrev pub oneway_front : Bool → List ℕ
oneway_front true = codes "oneway "
oneway_front false = []

-- the tags of a result
abbrev pub result_tags : Option PlainKind → List ℕ
result_tags None = codes "void"
result_tags (Some kind) = kind_tags kind

-- the exceptions of a function, where it has some
abbrev pub throws_tags : List PlainField → List ℕ
throws_tags [] = []
throws_tags (f ∷ fs) = codes " throws" ++ ids_and_tags (f ∷ fs)

-- the shape of a function
abbrev pub shape_line : PlainSchema → PlainFunction → List ℕ
shape_line s f =
    oneway_front f.oneway ++ (f.name ++ (ids_and_tags (fields_at s f.args) ++ (codes ":" ++ (result_tags f.result ++ throws_tags f.throws))))

-- one function stands before another by its name's bytes
abbrev pub is_named_before : PlainFunction → PlainFunction → Bool
is_named_before f g = is_lt (slice_cmp nat_cmp f.name g.name)

-- a function that is lent
abbrev pub shown_function : Bor FnDesc → PlainFunction
shown_function f = plain_function f.now

-- the same of functions that are lent
abbrev pub is_shown_before : Bor FnDesc → Bor FnDesc → Bool
is_shown_before f g = is_named_before (shown_function f) (shown_function g)

-- the shapes of a service: of all its functions, inherited ones included, by their names
pub record AreShapesOf (s : PlainSchema) (which : ℕ) (lines : List (List ℕ)) : Type 0 where
  pub functions : List PlainFunction
  pub all : IsPermutation (functions_of s.services which) functions
  pub by_name : IsSortedBy is_named_before functions
  pub each : lines ≡ map (shape_line s) functions
