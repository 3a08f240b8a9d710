-- What is served in the worked examples: the services of the Thrift tutorial, a service with an argument that has to be there, one
-- that takes and gives bytes, one with a union and structs in structs, and that of the schema that is known to be sound.
use Rattle.std.specs.Prelude.{ℕ, zero, suc, ℤ, pos, ◌*◌, Bool, true, false, List, [], ◌∷◌, ◌++◌, codes, length, Option, Some, None}
use Rattle.envelope.specs.declared.head.Protocol.{Protocol}
use Rattle.envelope.specs.declared.head.Protocol.TheVariants.{Binary}
use Rattle.thrift_value.specs.Tree.{Tree, of_i32, of_struct, field, no_fields}
use Rattle.schema.specs.declared.types.FieldNeed.{FieldNeed}
use Rattle.schema.specs.declared.types.FieldNeed.TheVariants.{Default, Optional, Required}
use Rattle.schema.specs.declared.types.FieldsKind.TheVariants as of_kind
use Rattle.schema.specs.PlainKind.{PlainKind, kind_bool, kind_i32, kind_text, kind_binary, kind_enum, kind_struct}
use Rattle.schema.specs.PlainSchema.{PlainField, PlainStruct, PlainFunction, PlainSchema}
use Rattle.schema.specs.Example.{example_schema}
use Rattle.call_rules.specs.Desks.{longest_payload}
use Rattle.call_model.specs.Offices.{PlainOffice}

-- a field without a default
abbrev pub declared_field : ℤ → FieldNeed → PlainKind → List ℕ → PlainField
declared_field id need kind name = record { id = id; need = need; kind = kind; name = name; default = None }

-- a field of which nothing is said
abbrev pub usual_field : ℕ → PlainKind → List ℕ → PlainField
usual_field id kind name = declared_field (pos id) Default kind name

-- the arguments of a function of the main file
abbrev pub declared_args : List ℕ → List PlainField → PlainStruct
declared_args name fields = record { file = 0; name = name; kind = of_kind.Args; fields = fields }

-- struct Work { 1: i32 num1 = 0, 2: i32 num2, 3: Operation op, 4: optional string comment }
abbrev pub tutorial_work : PlainStruct
tutorial_work = record {
  file = 0;
  name = codes "Work";
  kind = of_kind.Struct;
  fields =
      record { id = pos 1; need = Default; kind = kind_i32; name = codes "num1"; default = Some (of_i32 (pos 0)) }
      ∷ usual_field 2 kind_i32 (codes "num2") ∷ usual_field 3 (kind_enum 0) (codes "op") ∷ declared_field (pos 4) Optional kind_text (codes "comment") ∷ [];
}

-- exception InvalidOperation { 1: i32 whatOp, 2: string why }
abbrev pub tutorial_exception : PlainStruct
tutorial_exception = record {
  file = 0;
  name = codes "InvalidOperation";
  kind = of_kind.Exception;
  fields = usual_field 1 kind_i32 (codes "whatOp") ∷ usual_field 2 kind_text (codes "why") ∷ [];
}

-- struct SharedStruct { 1: i32 key, 2: string value }
abbrev pub tutorial_shared : PlainStruct
tutorial_shared = record {
  file = 1;
  name = codes "SharedStruct";
  kind = of_kind.Struct;
  fields = usual_field 1 kind_i32 (codes "key") ∷ usual_field 2 kind_text (codes "value") ∷ [];
}

-- a function that throws nothing
abbrev pub declared_function : List ℕ → Bool → ℕ → Option PlainKind → PlainFunction
declared_function name oneway args result = record { name = name; oneway = oneway; args = args; result = result; throws = [] }

-- i32 calculate(1: i32 logid, 2: Work w) throws (1: InvalidOperation ouch)
abbrev pub tutorial_calculate : PlainFunction
tutorial_calculate = record {
  name = codes "calculate";
  oneway = false;
  args = 5;
  result = Some kind_i32;
  throws = usual_field 1 (kind_struct 1) (codes "ouch") ∷ [];
}

-- The program of the tutorial: service Calculator extends shared.SharedService { void ping(), i32 add(1: i32 num1, 2: i32 num2),
-- i32 calculate(..), oneway void zip() }, service SharedService { SharedStruct getStruct(1: i32 key) }; its typedef and constants left out
abbrev pub tutorial_schema : PlainSchema
tutorial_schema = record {
  files = record { base = codes "tutorial"; includes = 1 ∷ []; defs = [] } ∷ record { base = codes "shared"; includes = []; defs = [] } ∷ [];
  structs =
      tutorial_work ∷ tutorial_exception ∷ tutorial_shared ∷ declared_args (codes "ping") []
      ∷ declared_args (codes "add") (usual_field 1 kind_i32 (codes "num1") ∷ usual_field 2 kind_i32 (codes "num2") ∷ [])
      ∷ declared_args (codes "calculate") (usual_field 1 kind_i32 (codes "logid") ∷ usual_field 2 (kind_struct 0) (codes "w") ∷ [])
      ∷ declared_args (codes "zip") [] ∷ declared_args (codes "getStruct") (usual_field 1 kind_i32 (codes "key") ∷ []) ∷ [];
  enums = record { file = 0; name = codes "Operation"; values = (codes "ADD", pos 1) ∷ (codes "SUBTRACT", pos 2) ∷ (codes "MULTIPLY", pos 3) ∷ (codes "DIVIDE", pos 4) ∷ [] } ∷ [];
  services =
      record {
        file = 0;
        name = codes "Calculator";
        parent = Some 1;
        functions =
            declared_function (codes "ping") false 3 None ∷ declared_function (codes "add") false 4 (Some kind_i32) ∷ tutorial_calculate
            ∷ declared_function (codes "zip") true 6 None ∷ [];
      }
      ∷ record { file = 1; name = codes "SharedService"; parent = None; functions = declared_function (codes "getStruct") false 7 (Some (kind_struct 2)) ∷ [] } ∷ [];
  aliases = [];
  constants = [];
}

-- struct P { 1: required i32 x } service R { i32 f(1: P p) }
abbrev pub needy_schema : PlainSchema
needy_schema = record {
  files = record { base = codes "r"; includes = []; defs = [] } ∷ [];
  structs =
      record { file = 0; name = codes "P"; kind = of_kind.Struct; fields = declared_field (pos 1) Required kind_i32 (codes "x") ∷ [] }
      ∷ declared_args (codes "f") (usual_field 1 (kind_struct 0) (codes "p") ∷ []) ∷ [];
  enums = [];
  services = record { file = 0; name = codes "R"; parent = None; functions = declared_function (codes "f") false 1 (Some kind_i32) ∷ [] } ∷ [];
  aliases = [];
  constants = [];
}

-- service E { binary e(1: binary x) }
abbrev pub echo_schema : PlainSchema
echo_schema = record {
  files = record { base = codes "e"; includes = []; defs = [] } ∷ [];
  structs = declared_args (codes "e") (usual_field 1 kind_binary (codes "x") ∷ []) ∷ [];
  enums = [];
  services = record { file = 0; name = codes "E"; parent = None; functions = declared_function (codes "e") false 0 (Some kind_binary) ∷ [] } ∷ [];
  aliases = [];
  constants = [];
}

-- union U { 1: i32 a, 2: i32 b }
abbrev pub mixed_union : PlainStruct
mixed_union = record {
  file = 0;
  name = codes "U";
  kind = of_kind.Union;
  fields = declared_field (pos 1) Optional kind_i32 (codes "a") ∷ declared_field (pos 2) Optional kind_i32 (codes "b") ∷ [];
}

-- struct N { 1: optional N next }, union U { .. }, service M { bool b(1: U u), N n() }
abbrev pub mixed_schema : PlainSchema
mixed_schema = record {
  files = record { base = codes "m"; includes = []; defs = [] } ∷ [];
  structs =
      record { file = 0; name = codes "N"; kind = of_kind.Struct; fields = declared_field (pos 1) Optional (kind_struct 0) (codes "next") ∷ [] }
      ∷ mixed_union ∷ declared_args (codes "b") (usual_field 1 (kind_struct 1) (codes "u") ∷ []) ∷ declared_args (codes "n") [] ∷ [];
  enums = [];
  services =
      record {
        file = 0;
        name = codes "M";
        parent = None;
        functions = declared_function (codes "b") false 2 (Some kind_bool) ∷ declared_function (codes "n") false 3 (Some (kind_struct 0)) ∷ [];
      }
      ∷ [];
  aliases = [];
  constants = [];
}

-- one service under a name
abbrev pub serves_one : PlainSchema → List ℕ → ℕ → Protocol → ℕ → PlainOffice
serves_one s name service protocol max_frame =
    record { schema = s; bindings = (name, service) ∷ []; default_slot = None; protocol = protocol; max_frame = max_frame }

-- the tutorial's calculator alone
abbrev pub calculator_office : Protocol → PlainOffice
calculator_office protocol = serves_one tutorial_schema (codes "Calculator") 0 protocol longest_payload

-- the calculator, and the service that it extends
abbrev pub two_services : PlainOffice
two_services = record {
  schema = tutorial_schema;
  bindings = (codes "Calculator", 0) ∷ (codes "shared.SharedService", 1) ∷ [];
  default_slot = None;
  protocol = Binary;
  max_frame = longest_payload;
}

-- the same, with the service at a slot as the default
abbrev pub two_by_default : ℕ → PlainOffice
two_by_default slot = record two_services { default_slot = Some slot }

-- the service that gives back its argument, with replies of at most so many bytes
abbrev pub echo_within : ℕ → PlainOffice
echo_within max_frame = serves_one echo_schema (codes "E") 0 Binary max_frame

-- the service with a union, a bool and structs in structs
abbrev pub mixed_office : Protocol → PlainOffice
mixed_office protocol = serves_one mixed_schema (codes "M") 0 protocol longest_payload

-- the service of the schema that is known to be sound
abbrev pub example_office : Protocol → PlainOffice
example_office protocol = serves_one example_schema (codes "V") 0 protocol longest_payload

-- the service whose argument has to be there
abbrev pub needy_office : PlainOffice
needy_office = serves_one needy_schema (codes "R") 0 Binary longest_payload

-- the service that the calculator extends, alone
abbrev pub shared_office : PlainOffice
shared_office = serves_one tutorial_schema (codes "shared.SharedService") 1 Binary longest_payload

-- a strict head of a type, a short name and a small sequence id
abbrev pub short_head : ℕ → List ℕ → ℕ → List ℕ
short_head kind name id = (128 ∷ 1 ∷ 0 ∷ kind ∷ 0 ∷ 0 ∷ 0 ∷ length name ∷ name) ++ (0 ∷ 0 ∷ 0 ∷ id ∷ [])

-- a call
abbrev pub sent_call : List ℕ → ℕ → List ℕ → List ℕ
sent_call name id args = short_head 1 name id ++ args

-- a field of 32 bits with a small id and a small number
abbrev pub sent_number : ℕ → ℕ → List ℕ
sent_number id n = 8 ∷ 0 ∷ id ∷ 0 ∷ 0 ∷ 0 ∷ n ∷ []

-- two such fields with the ids 1 and 2, and the end of their struct
abbrev pub sent_two : ℕ → ℕ → List ℕ
sent_two a b = sent_number 1 a ++ (sent_number 2 b ++ 0 ∷ [])

-- a whole exception of 255 bytes at most, its size included: the name, the sequence id, and its text of less than 256 bytes with its code
abbrev pub exception_sent : ℕ → List ℕ → ℕ → List ℕ → ℕ → List ℕ
exception_sent size name id text code =
    (0 ∷ 0 ∷ 0 ∷ size ∷ []) ++ (short_head 3 name id ++ ((11 ∷ 0 ∷ 1 ∷ 0 ∷ 0 ∷ 0 ∷ length text ∷ text) ++ (8 ∷ 0 ∷ 2 ∷ 0 ∷ 0 ∷ 0 ∷ code ∷ 0 ∷ [])))

-- a whole reply of 255 bytes at most, its size included, with the bytes of its struct
abbrev pub reply_sent : ℕ → List ℕ → ℕ → List ℕ → List ℕ
reply_sent size name id result = (0 ∷ 0 ∷ 0 ∷ size ∷ []) ++ (short_head 2 name id ++ result)

-- lists in a list, so many below it, the last one without elements
abbrev pub sent_lists : ℕ → List ℕ
sent_lists zero = 8 ∷ 0 ∷ 0 ∷ 0 ∷ 0 ∷ []
sent_lists (suc n) = 15 ∷ 0 ∷ 0 ∷ 0 ∷ 1 ∷ sent_lists n

-- structs in a struct, so many below it, each under the id 1; and the compact text of them
abbrev pub nested : ℕ → Tree
nested zero = of_struct no_fields
nested (suc n) = of_struct (field (pos 1) (nested n) no_fields)

abbrev pub nested_sent : ℕ → List ℕ
nested_sent zero = 0 ∷ []
nested_sent (suc n) = 28 ∷ (nested_sent n ++ 0 ∷ [])

-- a whole exception of 127 bytes at most in the compact protocol, of a small sequence id
abbrev pub compact_exception_sent : ℕ → List ℕ → ℕ → List ℕ → ℕ → List ℕ
compact_exception_sent size name id text code =
    (0 ∷ 0 ∷ 0 ∷ size ∷ 130 ∷ 97 ∷ id ∷ length name ∷ name) ++ ((24 ∷ length text ∷ text) ++ (21 ∷ 2 * code ∷ 0 ∷ []))
