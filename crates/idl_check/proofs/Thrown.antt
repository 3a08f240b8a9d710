-- What a function throws are exceptions of the schema.
use Rattle.std.proofs.Common.{◌≡◌, ℕ, Bool, true, false, Option, None, Some, slice_get, refl, sym, ap, subst, ◌∙◌}
use Rattle.std.specs.Prelude.{MatchOption}
use Rattle.idl_parser.specs.declared.tree.StructKind.{StructKind}
use Rattle.idl_parser.specs.declared.tree.StructKind.TheVariants as kind
use Rattle.idl_include.specs.Declarations.{StructDecl}
use Rattle.idl_include.specs.Program.{Program}
use Rattle.idl_include.specs.TypeExpr.{TypeExpr}
use Rattle.idl_include.specs.Numbering.{Filed, structs_of}
use Rattle.schema.specs.declared.types.FieldsKind.{FieldsKind}
use Rattle.schema.specs.declared.types.FieldsKind.TheVariants as fields
use Rattle.schema.specs.PlainKind.{PlainKind, kind_bool, kind_i8, kind_i16, kind_i32, kind_i64, kind_double, kind_text, kind_binary, kind_uuid, kind_enum, kind_struct, kind_map, kind_set, kind_list}
use Rattle.schema.specs.PlainSchema.{PlainStruct, PlainSchema}
use Rattle.schema.specs.Sound.{IsStructOf, IsException}
use Rattle.check_model.specs.FieldLists.{kind_said, fields_of_struct, field_lists}
use Rattle.check_model.specs.Passes.{MeansException}
use Rattle.check_model.specs.Resolved.{TypeMeans}
use Rattle.check_model.specs.SchemaParts.{DefaultRule, IsStructFrom, IsSchemaWith}
use Rattle.check_model.proofs.FirstOnes.{somes, none_some}
use Rattle.check_model.proofs.Meanings.{one_meaning}
use Rattle.idl_check.proofs.FileParts.{zip_at, struct_list_at}

-- the number of a struct, if it is one
abbrev number_of : ℕ → PlainKind → ℕ
number_of d (kind_struct n) = n
number_of d _ = d

-- whether it is one
abbrev is_struct : PlainKind → Bool
is_struct (kind_struct n) = true
is_struct _ = false

pub struct_of_kind : (schema : PlainSchema) (k : ℕ) (p : PlainStruct) (of : FieldsKind) → slice_get schema.structs k ≡ Some p → p.kind ≡ of → IsStructOf schema of k
struct_of_kind schema k p of at is =
    let P : Option PlainStruct → Type 0 = λ o. MatchOption o ⊥ (λ d. d.kind ≡ of) in subst P (sym at) is

module _ (D : DefaultRule) (program : Program) (schema : PlainSchema) (is : IsSchemaWith D program schema) where
  module _ (file : ℕ) (t : TypeExpr) (thrown : (MeansException program file t → ⊥) → ⊥) where
    -- where the struct is said to be something else, it is none
    clash : (n : ℕ) (s : Filed StructDecl) → TypeMeans program file t (kind_struct n) → slice_get (structs_of program) n ≡ Some s → MeansException program file t → s.item.kind ≡ kind.Exception
    clash n s means at h =
        let one : h.0 ≡ n = ap (number_of 0) (one_meaning program file t (kind_struct h.0) (kind_struct n) h.1 means) in
        let P : ℕ → Type 0 = λ j. slice_get (structs_of program) j ≡ Some h.2 in
        let again : s ≡ h.2 = somes s h.2 (sym at ∙ subst P one h.3) in
        ap (λ (u : Filed StructDecl). u.item.kind) again ∙ h.4

    by_said : (n : ℕ) (s : Filed StructDecl) (said : StructKind) → TypeMeans program file t (kind_struct n) → slice_get (structs_of program) n ≡ Some s → s.item.kind ≡ said → IsStructOf schema fields.Exception n
    by_said n s kind.Exception means at same =
        let (p, place, made) = zip_at (IsStructFrom D program) (field_lists program) schema.structs is.structs n (fields_of_struct s) (struct_list_at program n s at) in
        struct_of_kind schema n p fields.Exception place (made.kind ∙ ap kind_said same)
    by_said n s kind.Struct means at same = absurd (thrown (λ h. let f : kind.Struct ≡ kind.Exception = sym same ∙ clash n s means at h in cc))
    by_said n s kind.Union means at same = absurd (thrown (λ h. let f : kind.Union ≡ kind.Exception = sym same ∙ clash n s means at h in cc))

    by_place : (n : ℕ) (o : Option (Filed StructDecl)) → TypeMeans program file t (kind_struct n) → slice_get (structs_of program) n ≡ o → IsStructOf schema fields.Exception n
    by_place n (Some s) means at = by_said n s s.item.kind means at refl
    by_place n None means at = absurd (thrown (λ h.
        let one : h.0 ≡ n = ap (number_of 0) (one_meaning program file t (kind_struct h.0) (kind_struct n) h.1 means) in
        let P : ℕ → Type 0 = λ j. slice_get (structs_of program) j ≡ Some h.2 in
        none_some h.2 (sym at ∙ subst P one h.3)))

    no_struct : (k : PlainKind) → TypeMeans program file t k → is_struct k ≡ false → IsException schema k
    no_struct k means e = absurd (thrown (λ h. let f : true ≡ false = ap is_struct (one_meaning program file t (kind_struct h.0) k h.1 means) ∙ e in cc))

    pub is_exception : (k : PlainKind) → TypeMeans program file t k → IsException schema k
    is_exception (kind_struct n) means = by_place n (slice_get (structs_of program) n) means refl
    is_exception kind_bool means = no_struct kind_bool means refl
    is_exception kind_i8 means = no_struct kind_i8 means refl
    is_exception kind_i16 means = no_struct kind_i16 means refl
    is_exception kind_i32 means = no_struct kind_i32 means refl
    is_exception kind_i64 means = no_struct kind_i64 means refl
    is_exception kind_double means = no_struct kind_double means refl
    is_exception kind_uuid means = no_struct kind_uuid means refl
    is_exception kind_text means = no_struct kind_text means refl
    is_exception kind_binary means = no_struct kind_binary means refl
    is_exception (kind_enum n) means = no_struct (kind_enum n) means refl
    is_exception (kind_map a b) means = no_struct (kind_map a b) means refl
    is_exception (kind_set a) means = no_struct (kind_set a) means refl
    is_exception (kind_list a) means = no_struct (kind_list a) means refl
