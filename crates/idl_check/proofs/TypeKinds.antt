-- What a type means names enums and structs of the program; a service's parent is one of its services.
use Rattle.std.proofs.Common.{◌≡◌, ℕ, zero, suc, ◌+◌, ◌<◌, ◌≤◌, Bool, true, false, cond, List, [], ◌∷◌, length, Option, None, Some, slice_get, refl, subst, arith}
use Rattle.std.specs.Prelude.{MatchOption, ⊤}
use Rattle.std.specs.Option.{option_and_then, option_map, option_or}
use Rattle.std.specs.List.{position_from}
use Rattle.idl_parser.specs.declared.tree.Base.{Base}
use Rattle.idl_parser.specs.declared.tree.Base.TheVariants as base
use Rattle.idl_include.specs.Written.{Written}
use Rattle.idl_include.specs.TypeExpr.{TypeExpr, base_expr, name_expr, map_expr, set_expr, list_expr}
use Rattle.idl_include.specs.Declarations.{TypedefDecl, EnumDecl, StructDecl, ServiceDecl}
use Rattle.idl_include.specs.Program.{Program}
use Rattle.idl_include.specs.Numbering.{Filed, typedefs_of, enums_of, structs_of, services_of, is_filed_as, number_named}
use Rattle.idl_include.specs.Names.{Sought, sought, NamedType, an_alias, an_enum, a_struct, type_defined, type_named, service_defined, service_for_name}
use Rattle.idl_include.specs.Cycles.{parent_named}
use Rattle.schema.specs.PlainKind.{PlainKind, kind_enum, kind_struct, kind_map, kind_set, kind_list}
use Rattle.schema.specs.PlainSchema.{PlainSchema}
use Rattle.schema.specs.Sound.{IsKindIn}
use Rattle.check_model.specs.Resolved.{base_kind, map_kind, named_kind, kind_by, alias_kind, TypeMeans}
use Rattle.check_model.proofs.FirstOnes.{somes, none_some}

-- a place is within the list
within_case : (b : Bool) (i n : ℕ) (o : Option ℕ) → MatchOption o ⊤ (λ k. k < (i + 1) + n) → MatchOption (cond b (Some i) o) ⊤ (λ k. k < i + suc n)
within_case true i n o h = omega arith
within_case false i n None h = tt
within_case false i n (Some k) h = omega (arith, h)

position_within : {A : Type 0} (test : A → Bool) (i : ℕ) (xs : List A) → MatchOption (position_from test i xs) ⊤ (λ k. k < i + length xs)
position_within test i [] = tt
position_within test i (x ∷ xs) = within_case (test x) i (length xs) (position_from test (i + 1) xs) (position_within test (i + 1) xs)

from_zero : (n : ℕ) (o : Option ℕ) → MatchOption o ⊤ (λ k. k < 0 + n) → MatchOption o ⊤ (λ k. k < n)
from_zero n None h = tt
from_zero n (Some k) h = omega (arith, h)

named_number : {A : Type 0} (name_in : A → Written) (items : List (Filed A)) (file : ℕ) (name : List ℕ) → MatchOption (number_named name_in items file name) ⊤ (λ k. k < length items)
named_number name_in items file name =
    from_zero (length items) (number_named name_in items file name) (position_within (is_filed_as name_in file name) 0 items)

module _ (program : Program) where
  -- what a name stands for is defined by the program
  abbrev IsWithin : NamedType → Type 0
  IsWithin (an_alias n) = n < length (typedefs_of program)
  IsWithin (an_enum n) = n < length (enums_of program)
  IsWithin (a_struct n) = n < length (structs_of program)

  one_of_three : (a b c : Option ℕ) → MatchOption a ⊤ (λ k. k < length (typedefs_of program)) → MatchOption b ⊤ (λ k. k < length (enums_of program))
      → MatchOption c ⊤ (λ k. k < length (structs_of program)) → MatchOption (option_or (option_map an_alias a) (option_or (option_map an_enum b) (option_map a_struct c))) ⊤ IsWithin
  one_of_three (Some a) b c h k l = h
  one_of_three None (Some b) c h k l = k
  one_of_three None None (Some c) h k l = l
  one_of_three None None None h k l = tt

  type_within_by : (o : Option Sought) → MatchOption (option_and_then (type_defined program) o) ⊤ IsWithin
  type_within_by None = tt
  type_within_by (Some s) =
      one_of_three (number_named (λ (t : TypedefDecl). t.name) (typedefs_of program) s.file s.name) (number_named (λ (e : EnumDecl). e.name) (enums_of program) s.file s.name)
      (number_named (λ (t : StructDecl). t.name) (structs_of program) s.file s.name) (named_number (λ (t : TypedefDecl). t.name) (typedefs_of program) s.file s.name)
      (named_number (λ (e : EnumDecl). e.name) (enums_of program) s.file s.name) (named_number (λ (t : StructDecl). t.name) (structs_of program) s.file s.name)

  type_within : (file : ℕ) (name : List ℕ) → MatchOption (type_named program file name) ⊤ IsWithin
  unfolding type_named
  type_within file name = type_within_by (sought program file name)

  service_within_by : (o : Option Sought) → MatchOption (option_and_then (service_defined program) o) ⊤ (λ k. k < length (services_of program))
  service_within_by None = tt
  service_within_by (Some s) = named_number (λ (t : ServiceDecl). t.name) (services_of program) s.file s.name

  service_within : (file : ℕ) (name : List ℕ) → MatchOption (service_for_name program file name) ⊤ (λ k. k < length (services_of program))
  unfolding service_for_name
  service_within file name = service_within_by (sought program file name)

  parent_by : (file : ℕ) (o : Option Written) → MatchOption (option_and_then (λ (name : Written). service_for_name program file name.text) o) ⊤ (λ k. k < length (services_of program))
  parent_by file None = tt
  parent_by file (Some name) = service_within file name.text

  pub parent_within : (s : Filed ServiceDecl) → MatchOption (parent_named program s) ⊤ (λ k. k < length (services_of program))
  parent_within s = parent_by s.file s.item.parent

  -- the kinds of a schema that has the program's enums and structs
  module _ (schema : PlainSchema) (enums : length (enums_of program) ≤ length schema.enums) (structs : length (structs_of program) ≤ length schema.structs) where
    base_in : (b : Base) → IsKindIn schema (base_kind b)
    base_in base.Bool = tt
    base_in base.Byte = tt
    base_in base.I8 = tt
    base_in base.I16 = tt
    base_in base.I32 = tt
    base_in base.I64 = tt
    base_in base.Double = tt
    base_in base.Uuid = tt
    base_in base.String = tt
    base_in base.Binary = tt

    -- where there is a kind, it is one of the schema's
    abbrev AreKindsIn : Option PlainKind → Type 0
    AreKindsIn o = (k : PlainKind) → o ≡ Some k → IsKindIn schema k

    some_in : (j : PlainKind) → IsKindIn schema j → AreKindsIn (Some j)
    some_in j h k e = subst (IsKindIn schema) (somes j k e) h

    map_in : (a b : Option PlainKind) → AreKindsIn a → AreKindsIn b → AreKindsIn (map_kind a b)
    map_in (Some a) (Some b) h g = some_in (kind_map a b) (h a refl, g b refl)
    map_in (Some a) None h g = λ k e. absurd (none_some k e)
    map_in None (Some b) h g = λ k e. absurd (none_some k e)
    map_in None None h g = λ k e. absurd (none_some k e)

    set_in : (a : Option PlainKind) → AreKindsIn a → AreKindsIn (option_map kind_set a)
    set_in (Some a) h = some_in (kind_set a) (h a refl)
    set_in None h = λ k e. absurd (none_some k e)

    list_in : (a : Option PlainKind) → AreKindsIn a → AreKindsIn (option_map kind_list a)
    list_in (Some a) h = some_in (kind_list a) (h a refl)
    list_in None h = λ k e. absurd (none_some k e)

    named_in : (alias : ℕ → Option PlainKind) → ((n : ℕ) → AreKindsIn (alias n)) → (o : Option NamedType) → MatchOption o ⊤ IsWithin → AreKindsIn (option_and_then (named_kind alias) o)
    named_in alias by None h = λ k e. absurd (none_some k e)
    named_in alias by (Some (an_alias n)) h = by n
    named_in alias by (Some (an_enum n)) h = some_in (kind_enum n) (omega (arith, h))
    named_in alias by (Some (a_struct n)) h = some_in (kind_struct n) (omega (arith, h))

    type_in : (alias : ℕ → Option PlainKind) → ((n : ℕ) → AreKindsIn (alias n)) → (file : ℕ) (t : TypeExpr) → AreKindsIn (kind_by alias program file t)
    type_in alias by file (base_expr b) = some_in (base_kind b) (base_in b)
    type_in alias by file (name_expr name) = named_in alias by (type_named program file name.text) (type_within file name.text)
    type_in alias by file (map_expr key value) =
        map_in (kind_by alias program file key) (kind_by alias program file value) (type_in alias by file key) (type_in alias by file value)
    type_in alias by file (set_expr member) = set_in (kind_by alias program file member) (type_in alias by file member)
    type_in alias by file (list_expr element) = list_in (kind_by alias program file element) (type_in alias by file element)

    alias_by : (alias : ℕ → Option PlainKind) → ((n : ℕ) → AreKindsIn (alias n)) → (o : Option (Filed TypedefDecl))
        → AreKindsIn (option_and_then (λ (t : Filed TypedefDecl). kind_by alias program t.file t.item.type) o)
    alias_by alias by None = λ k e. absurd (none_some k e)
    alias_by alias by (Some t) = type_in alias by t.file t.item.type

    alias_in : (deep number : ℕ) → AreKindsIn (alias_kind program deep number)
    unfolding alias_kind
    alias_in zero number = λ k e. absurd (none_some k e)
    alias_in (suc deep) number = alias_by (alias_kind program deep) (λ n. alias_in deep n) (slice_get (typedefs_of program) number)

    pub meaning_in : (file : ℕ) (t : TypeExpr) (k : PlainKind) → TypeMeans program file t k → IsKindIn schema k
    meaning_in file t k means = type_in (alias_kind program means.0) (λ n. alias_in means.0 n) file t k means.1
