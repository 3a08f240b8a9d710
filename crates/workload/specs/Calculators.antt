-- What a workload needs of the office that serves it: the calculator of the Thrift tutorial, alone, in the binary protocol.
use Rattle.std.specs.Prelude.{◌≡◌, ⊤, ℕ, ℤ, pos, ◌≤◌, false, codes, List, [], ◌∷◌, Some, None, MatchOption}
use Rattle.std.specs.List.{slice_get}
use Rattle.envelope.specs.declared.head.Protocol.TheVariants.{Binary}
use Rattle.schema.specs.PlainKind.{PlainKind, kind_i32, kind_enum, kind_struct}
use Rattle.schema.specs.PlainSchema.{PlainField, PlainStruct, PlainFunction, PlainSchema}
use Rattle.schema.specs.LookUp.{function_named}
use Rattle.struct_skew.specs.Projection.{is_required, is_union}
use Rattle.call_model.specs.Offices.{Binding, PlainOffice}
use Rattle.workload.specs.Payloads.{most_payload_bytes}

-- a field of this id that holds an i32
abbrev pub HoldsNumber : ℤ → PlainField → Type 0
HoldsNumber id f = (f.id ≡ id) × (f.kind ≡ kind_i32)

-- an enum
abbrev pub IsEnumKind : PlainKind → Type 0
IsEnumKind (kind_enum which) = ⊤
IsEnumKind _ = ⊥

-- a field of this id that may be missing, and then has no value
abbrev pub MayBeMissing : ℤ → PlainField → Type 0
MayBeMissing id f = (f.id ≡ id) × (is_required f.need ≡ false) × (f.default ≡ None)

-- the fields of a work: two numbers, an operation, and a comment that may be missing
abbrev pub AreWorkFields : List PlainField → Type 0
AreWorkFields (a ∷ b ∷ op ∷ comment ∷ []) =
    HoldsNumber (pos 1) a × HoldsNumber (pos 2) b × ((op.id ≡ pos 3) × IsEnumKind op.kind) × MayBeMissing (pos 4) comment
AreWorkFields _ = ⊥

-- a struct that is no union, with fields of this kind
abbrev pub IsStructWith : (List PlainField → Type 0) → PlainStruct → Type 0
IsStructWith fields d = (is_union d.kind ≡ false) × fields d.fields

-- the struct of a work
abbrev pub IsWorkKind : List PlainStruct → PlainKind → Type 0
IsWorkKind structs (kind_struct which) = MatchOption (slice_get structs which) ⊥ (IsStructWith AreWorkFields)
IsWorkKind structs _ = ⊥

-- the arguments of add: two numbers
abbrev pub AreTwoNumbers : List PlainField → Type 0
AreTwoNumbers (a ∷ b ∷ []) = HoldsNumber (pos 1) a × HoldsNumber (pos 2) b
AreTwoNumbers _ = ⊥

-- the arguments of calculate: a log's number, and a work
abbrev pub AreNumberAndWork : List PlainStruct → List PlainField → Type 0
AreNumberAndWork structs (logid ∷ work ∷ []) = HoldsNumber (pos 1) logid × ((work.id ≡ pos 2) × IsWorkKind structs work.kind)
AreNumberAndWork structs _ = ⊥

-- a function that is answered with an i32, and whose arguments have fields of this kind
pub record TakesAndGivesNumber (structs : List PlainStruct) (fields : List PlainField → Type 0) (f : PlainFunction) : Type 0 where
  pub answered : f.oneway ≡ false
  pub result : f.result ≡ Some kind_i32
  pub args : MatchOption (slice_get structs f.args) ⊥ (IsStructWith fields)

-- the service at a number has the functions that a workload calls
pub record IsCalculator (s : PlainSchema) (service : ℕ) : Type 0 where
  pub add : MatchOption (function_named s service (codes "add")) ⊥ (TakesAndGivesNumber s.structs AreTwoNumbers)
  pub calculate : MatchOption (function_named s service (codes "calculate")) ⊥ (TakesAndGivesNumber s.structs (AreNumberAndWork s.structs))

-- one service alone is bound, and it has these functions
abbrev pub BindsCalculator : PlainSchema → List Binding → Type 0
BindsCalculator s (b ∷ []) = IsCalculator s b.1
BindsCalculator s _ = ⊥

-- an office that serves the calculator alone, without a default, in the binary protocol, and takes the frames of a workload
pub record IsCalculatorsOffice (office : PlainOffice) : Type 0 where
  pub protocol : office.protocol ≡ Binary
  pub bound : BindsCalculator office.schema office.bindings
  pub no_default : office.default_slot ≡ None
  pub room : most_payload_bytes ≤ office.max_frame
