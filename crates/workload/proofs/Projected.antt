-- The arguments of a workload's calls are their own projection.
use Rattle.std.proofs.Common.{◌≡◌, ℕ, ℤ, pos, false, List, [], ◌∷◌, Option, Some, None, Result, Ok, refl, ap, ◌∙◌}
use Rattle.std.specs.Prelude.{MatchOption}
use Rattle.std.specs.List.{slice_get}
use Rattle.thrift_value.specs.Tree.{Tree, of_i32, of_struct, FieldTrees, no_fields, field}
use Rattle.thrift_value.specs.TreeOf.{field_trees}
use Rattle.schema.specs.declared.types.FieldNeed.{FieldNeed}
use Rattle.schema.specs.declared.types.FieldNeed.TheVariants as need
use Rattle.schema.specs.declared.types.FieldsKind.{FieldsKind}
use Rattle.schema.specs.declared.types.FieldsKind.TheVariants as of_kind
use Rattle.schema.specs.PlainKind.{PlainKind, kind_i32, kind_enum, kind_struct}
use Rattle.schema.specs.PlainSchema.{PlainField, PlainStruct, PlainSchema}
use Rattle.struct_skew.specs.declared.fault.SkewFault.{SkewFault}
use Rattle.struct_skew.specs.Results.{with_value, and_if_ok, with_field_value}
use Rattle.struct_skew.specs.Projection.{is_required, is_union, struct_value, offers_of, meaning_of, bounded, projection}
use Rattle.call_rules.specs.Examples.{two_numbers_passed, work_passed}
use Rattle.workload.specs.Calculators.{HoldsNumber, IsEnumKind, MayBeMissing, AreWorkFields, IsStructWith, IsWorkKind, AreTwoNumbers, AreNumberAndWork}

abbrev meant : Tree → Result Tree SkewFault
meant value = Ok value

no_union : is_union of_kind.Union ≡ false → ⊥
no_union e = cc

-- a field with another id and another type
abbrev typed : ℤ → PlainKind → PlainField → PlainField
typed id kind f = record { id = id; need = f.need; kind = kind; name = f.name; default = f.default }

same_typed : (id : ℤ) (kind : PlainKind) (f : PlainField) → f.id ≡ id → f.kind ≡ kind → f ≡ typed id kind f
same_typed id kind f is of = λ i. record { id = is i; need = f.need; kind = of i; name = f.name; default = f.default }

-- a struct of this kind with these fields
abbrev struct_of : FieldsKind → List PlainField → PlainStruct → PlainStruct
struct_of kind fields d = record { file = d.file; name = d.name; kind = kind; fields = fields }

abbrev two_fields : ℤ → ℤ → FieldTrees
two_fields a b = field (pos 1) (of_i32 a) (field (pos 2) (of_i32 b) no_fields)

-- two numbers that are sent
two_meant : (structs : List PlainStruct) (which : ℕ) (kind : FieldsKind) → is_union kind ≡ false → (f g : PlainField) (d : PlainStruct) (a b : ℤ)
    → struct_value which (Some (struct_of kind (typed (pos 1) kind_i32 f ∷ typed (pos 2) kind_i32 g ∷ []) d)) (offers_of structs (two_fields a b)) ≡ meant (two_numbers_passed a b)
two_meant structs which of_kind.Struct is f g d a b = refl
two_meant structs which of_kind.Union is f g d a b = absurd (no_union is)
two_meant structs which of_kind.Exception is f g d a b = refl
two_meant structs which of_kind.Args is f g d a b = refl

two_read : (structs : List PlainStruct) (which : ℕ) (d : PlainStruct) (fields : List PlainField) → d.fields ≡ fields → is_union d.kind ≡ false → AreTwoNumbers fields → (a b : ℤ)
    → struct_value which (Some d) (offers_of structs (two_fields a b)) ≡ meant (two_numbers_passed a b)
two_read structs which d [] e is are a b = absurd are
two_read structs which d (f ∷ []) e is are a b = absurd are
two_read structs which d (f ∷ g ∷ []) e is are a b =
    ap (λ fields. struct_value which (Some (struct_of d.kind fields d)) (offers_of structs (two_fields a b)))
    (e ∙ (λ i. same_typed (pos 1) kind_i32 f are.0.0 are.0.1 i ∷ same_typed (pos 2) kind_i32 g are.1.0 are.1.1 i ∷ []))
    ∙ two_meant structs which d.kind is f g d a b
two_read structs which d (f ∷ g ∷ h ∷ more) e is are a b = absurd are

abbrev work_fields : ℤ → ℤ → ℤ → FieldTrees
work_fields a b op = field (pos 1) (of_i32 a) (field (pos 2) (of_i32 b) (field (pos 3) (of_i32 op) no_fields))

-- a field that may be missing, with the value that it has then
abbrev left_out : PlainField → FieldNeed → PlainField
left_out f need = record { id = pos 4; need = need; kind = f.kind; name = f.name; default = None }

no_need : is_required need.Required ≡ false → ⊥
no_need e = cc

work_meant : (structs : List PlainStruct) (which : ℕ) (kind : FieldsKind) → is_union kind ≡ false → (needed : FieldNeed) → is_required needed ≡ false → (enum : ℕ)
    (f g op comment : PlainField) (d : PlainStruct) (a b o : ℤ)
    → struct_value which (Some (struct_of kind (typed (pos 1) kind_i32 f ∷ typed (pos 2) kind_i32 g ∷ typed (pos 3) (kind_enum enum) op ∷ left_out comment needed ∷ []) d))
    (offers_of structs (work_fields a b o)) ≡ meant (of_struct (work_fields a b o))
work_meant structs which of_kind.Union is needed may enum f g op comment d a b o = absurd (no_union is)
work_meant structs which kind is need.Required may enum f g op comment d a b o = absurd (no_need may)
work_meant structs which of_kind.Struct is need.Default may enum f g op comment d a b o = refl
work_meant structs which of_kind.Struct is need.Optional may enum f g op comment d a b o = refl
work_meant structs which of_kind.Exception is need.Default may enum f g op comment d a b o = refl
work_meant structs which of_kind.Exception is need.Optional may enum f g op comment d a b o = refl
work_meant structs which of_kind.Args is need.Default may enum f g op comment d a b o = refl
work_meant structs which of_kind.Args is need.Optional may enum f g op comment d a b o = refl

abbrev IsEnum : PlainKind → Type 0
IsEnum kind = (enum : ℕ) × (kind ≡ kind_enum enum)

work_of : (structs : List PlainStruct) (which : ℕ) (d : PlainStruct) (f g op comment : PlainField) → d.fields ≡ f ∷ g ∷ op ∷ comment ∷ [] → is_union d.kind ≡ false
    → HoldsNumber (pos 1) f → HoldsNumber (pos 2) g → op.id ≡ pos 3 → IsEnum op.kind → MayBeMissing (pos 4) comment → (a b o : ℤ)
    → struct_value which (Some d) (offers_of structs (work_fields a b o)) ≡ meant (of_struct (work_fields a b o))
work_of structs which d f g op comment e is one two third enum may a b o =
    ap (λ fields. struct_value which (Some (struct_of d.kind fields d)) (offers_of structs (work_fields a b o)))
    (e ∙ (λ i. same_typed (pos 1) kind_i32 f one.0 one.1 i ∷ same_typed (pos 2) kind_i32 g two.0 two.1 i ∷ same_typed (pos 3) (kind_enum enum.0) op third enum.1 i
    ∷ record { id = may.0 i; need = comment.need; kind = comment.kind; name = comment.name; default = may.2 i } ∷ []))
    ∙ work_meant structs which d.kind is comment.need may.1 enum.0 f g op comment d a b o

work_read : (structs : List PlainStruct) (which : ℕ) (d : PlainStruct) (fields : List PlainField) → d.fields ≡ fields → is_union d.kind ≡ false → AreWorkFields fields → (a b o : ℤ)
    → struct_value which (Some d) (offers_of structs (work_fields a b o)) ≡ meant (of_struct (work_fields a b o))
work_read structs which d (f ∷ g ∷ op ∷ comment ∷ []) e is are a b o =
    work_of structs which d f g op comment e is are.0 are.1 are.2.0 (enum_of op.kind are.2.1) are.3 a b o
  where
    enum_of : (kind : PlainKind) → IsEnumKind kind → IsEnum kind
    enum_of (kind_enum which) is = (which, refl)
    enum_of kind is = absurd is
work_read structs which d fields e is are a b o = absurd are

-- what a work means under its type
abbrev work_value : List PlainStruct → PlainKind → ℤ → ℤ → ℤ → Result Tree SkewFault
work_value structs kind a b o = meaning_of structs (of_struct (work_fields a b o)) kind

work_under : (structs : List PlainStruct) (which : ℕ) → MatchOption (slice_get structs which) ⊥ (IsStructWith AreWorkFields) → (a b o : ℤ)
    → work_value structs (kind_struct which) a b o ≡ meant (of_struct (work_fields a b o))
work_under structs which is a b o = go (slice_get structs which) refl is
  where
    go : (found : Option PlainStruct) → slice_get structs which ≡ found → MatchOption found ⊥ (IsStructWith AreWorkFields)
        → work_value structs (kind_struct which) a b o ≡ meant (of_struct (work_fields a b o))
    go None e is = absurd is
    go (Some d) e is = ap (λ x. struct_value which x (offers_of structs (work_fields a b o))) e ∙ work_read structs which d d.fields refl is.0 is.1 a b o

abbrev both_fields : ℤ → ℤ → ℤ → ℤ → FieldTrees
both_fields k a b o = field (pos 1) (of_i32 k) (field (pos 2) (of_struct (work_fields a b o)) no_fields)

-- a number and what a work means, as a struct
abbrev with_work : ℤ → Result Tree SkewFault → Result Tree SkewFault
with_work k value =
    and_if_ok (with_field_value (pos 1) (Ok (Some (of_i32 k))) (with_field_value (pos 2) (with_value Some value) (Ok []))) (λ fields. Ok (of_struct (field_trees fields)))

both_meant : (structs : List PlainStruct) (which work : ℕ) (kind : FieldsKind) → is_union kind ≡ false → (f g : PlainField) (d : PlainStruct) (k a b o : ℤ)
    → struct_value which (Some (struct_of kind (typed (pos 1) kind_i32 f ∷ typed (pos 2) (kind_struct work) g ∷ []) d)) (offers_of structs (both_fields k a b o))
    ≡ with_work k (work_value structs (kind_struct work) a b o)
both_meant structs which work of_kind.Struct is f g d k a b o = refl
both_meant structs which work of_kind.Union is f g d k a b o = absurd (no_union is)
both_meant structs which work of_kind.Exception is f g d k a b o = refl
both_meant structs which work of_kind.Args is f g d k a b o = refl

abbrev IsWorkStruct : List PlainStruct → PlainKind → Type 0
IsWorkStruct structs kind = (which : ℕ) × (kind ≡ kind_struct which) × MatchOption (slice_get structs which) ⊥ (IsStructWith AreWorkFields)

struct_kind : (structs : List PlainStruct) (kind : PlainKind) → IsWorkKind structs kind → IsWorkStruct structs kind
struct_kind structs (kind_struct which) is = (which, refl, is)
struct_kind structs kind is = absurd is

both_read : (structs : List PlainStruct) (which : ℕ) (d : PlainStruct) (fields : List PlainField) → d.fields ≡ fields → is_union d.kind ≡ false
    → AreNumberAndWork structs fields → (k a b o : ℤ)
    → struct_value which (Some d) (offers_of structs (both_fields k a b o)) ≡ meant (work_passed k a b o)
both_read structs which d (f ∷ g ∷ []) e is are k a b o =
    let work = struct_kind structs g.kind are.1.1 in
    ap (λ fields. struct_value which (Some (struct_of d.kind fields d)) (offers_of structs (both_fields k a b o)))
    (e ∙ (λ i. same_typed (pos 1) kind_i32 f are.0.0 are.0.1 i ∷ same_typed (pos 2) (kind_struct work.0) g are.1.0 work.1 i ∷ []))
    ∙ both_meant structs which work.0 d.kind is f g d k a b o
    ∙ ap (with_work k) (work_under structs work.0 work.2 a b o)
both_read structs which d fields e is are k a b o = absurd are

module _ (s : PlainSchema) (which : ℕ) where
  -- two numbers
  pub two_projected : MatchOption (slice_get s.structs which) ⊥ (IsStructWith AreTwoNumbers) → (a b : ℤ)
      → projection s which (two_numbers_passed a b) ≡ meant (two_numbers_passed a b)
  two_projected is a b = go (slice_get s.structs which) refl is
    where
      go : (found : Option PlainStruct) → slice_get s.structs which ≡ found → MatchOption found ⊥ (IsStructWith AreTwoNumbers)
          → projection s which (two_numbers_passed a b) ≡ meant (two_numbers_passed a b)
      go None e is = absurd is
      go (Some d) e is =
          ap (λ x. and_if_ok (struct_value which x (offers_of s.structs (two_fields a b))) bounded) e
          ∙ ap (λ x. and_if_ok x bounded) (two_read s.structs which d d.fields refl is.0 is.1 a b)

  -- a number and a work
  pub work_projected : MatchOption (slice_get s.structs which) ⊥ (IsStructWith (AreNumberAndWork s.structs)) → (k a b o : ℤ)
      → projection s which (work_passed k a b o) ≡ meant (work_passed k a b o)
  work_projected is k a b o = go (slice_get s.structs which) refl is
    where
      go : (found : Option PlainStruct) → slice_get s.structs which ≡ found → MatchOption found ⊥ (IsStructWith (AreNumberAndWork s.structs))
          → projection s which (work_passed k a b o) ≡ meant (work_passed k a b o)
      go None e is = absurd is
      go (Some d) e is =
          ap (λ x. and_if_ok (struct_value which x (offers_of s.structs (both_fields k a b o))) bounded) e
          ∙ ap (λ x. and_if_ok x bounded) (both_read s.structs which d d.fields refl is.0 is.1 k a b o)
