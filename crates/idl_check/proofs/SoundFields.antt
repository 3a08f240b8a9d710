-- Structs, enums and typedefs of a program's schema are sound.
use Rattle.std.proofs.Common.{ℕ, ◌<◌, ℤ, List, [], ◌∷◌, map, length, Option, All, sym, subst, arith}
use Rattle.std.specs.Prelude.{MatchOption, ⊤}
use Rattle.std.specs.List.{AllByRecursion, AllZip}
use Rattle.std.proofs.lemmas.List.Elements.{All-from_recursion}
use Rattle.thrift_value.specs.Tree.{Tree}
use Rattle.idl_include.specs.Declarations.{FieldDecl, TypedefDecl, EnumValueDecl, EnumDecl}
use Rattle.idl_include.specs.EnumNumbers.{enum_numbers}
use Rattle.idl_include.specs.Program.{Program}
use Rattle.idl_include.specs.Numbering.{Filed, typedefs_of, enums_of}
use Rattle.schema.specs.declared.types.FieldsKind.{FieldsKind}
use Rattle.schema.specs.PlainKind.{PlainKind}
use Rattle.schema.specs.PlainSchema.{PlainField, PlainStruct, PlainAlias, PlainSchema}
use Rattle.schema.specs.Sound.{IsSchemaName, IsValueOf, IsSoundField, AreSoundFields, IsSoundStruct, IsSoundEnum, IsSoundAlias}
use Rattle.check_model.specs.FieldLists.{NumberedField, FieldsDecl, fields_by_id, field_lists}
use Rattle.check_model.specs.Resolved.{TypeMeans}
use Rattle.check_model.specs.SchemaParts.{DefaultRule, IsAliasOf, IsFieldOf, AreFieldsOf, IsStructFrom, IsSchemaWith, named_numbers, enum_made}
use Rattle.check_model.proofs.Shown.{mapped, weaker}
use Rattle.idl_check.specs.Clean.{IsClean}
use Rattle.idl_check.specs.DeclaredTexts.{HasShortDefault, IsProgramOfTexts}
use Rattle.idl_check.proofs.RisingFields.{by_id_holds, AreFresh, fields_rise, zip_rises}
use Rattle.idl_check.proofs.SchemaSizes.{file_size, kind_in}
use Rattle.idl_check.proofs.Fine.{IsFineField, IsFineValue, IsFineList, IsFineTypedef, IsFineEnum, typedefs_fine, enums_fine, lists_fine}

-- what holds of each of some things holds of what is made of them, one by one
pub zip_turned : {A B : Type 0} (Q : A → Type 0) (R : A → B → Type 0) (S : B → Type 0) → ((x : A) (y : B) → Q x → R x y → S y) → (xs : List A) (ys : List B)
    → AllByRecursion Q xs → AllZip R xs ys → AllByRecursion S ys
zip_turned Q R S by [] [] h zip = tt
zip_turned Q R S by [] (y ∷ ys) h zip = absurd zip
zip_turned Q R S by (x ∷ xs) [] h zip = absurd zip
zip_turned Q R S by (x ∷ xs) (y ∷ ys) h zip = (by x y h.0 zip.0, zip_turned Q R S by xs ys h.1 zip.1)

-- what is said of a default makes it a value of its type
abbrev pub GivesValues : DefaultRule → Program → PlainSchema → Type 0
GivesValues D program schema = (file : ℕ) (f : FieldDecl) (k : PlainKind) (default : Option Tree) → HasShortDefault f → TypeMeans program file f.type k → D file f k default → MatchOption default ⊤ (IsValueOf schema k)

module _ (D : DefaultRule) (program : Program) (schema : PlainSchema) (texts : IsProgramOfTexts program) (is_clean : IsClean program) (whole : IsSchemaWith D program schema)
    (values : GivesValues D program schema) where
  sound_field : (file : ℕ) (list : FieldsKind) (f : NumberedField) (p : PlainField) → IsFineField f.decl → IsFieldOf D program file list f p → IsSoundField schema p
  sound_field file list f p fine of = record {
    name = subst IsSchemaName (sym of.name) fine.name;
    kind = kind_in D program schema whole file f.decl.type p.kind of.kind;
    default = values file f.decl p.kind p.default fine.short of.kind of.default;
  }

  pub sound_fields : (file : ℕ) (list : FieldsKind) (fs : List FieldDecl) (ps : List PlainField) → AllByRecursion IsFineField fs → AreFresh [] fs
      → AreFieldsOf D program file list fs ps → AreSoundFields schema ps
  sound_fields file list fs ps fine fresh are = record {
    rising = zip_rises (IsFieldOf D program file list) (λ f p of. of.id) (fields_by_id fs) ps are (fields_rise fs fresh);
    each = All-from_recursion (IsSoundField schema) ps
        (zip_turned (λ (f : NumberedField). IsFineField f.decl) (IsFieldOf D program file list) (IsSoundField schema) (sound_field file list)
        (fields_by_id fs) ps (by_id_holds IsFineField fs fine) are);
  }

  -- a file's number is a place among the schema's files
  pub file_in : (file : ℕ) → file < length program → file < length schema.files
  file_in file within = omega (arith, file_size D program schema whole)

  sound_struct : (d : FieldsDecl) (p : PlainStruct) → IsFineList (length program) d → IsStructFrom D program d p → IsSoundStruct schema p
  sound_struct d p fine from = record {
    file = subst (λ n. n < length schema.files) (sym from.file) (file_in d.file fine.file);
    name = subst IsSchemaName (sym from.name) fine.name;
    fields = sound_fields d.file d.kind d.fields p.fields fine.names fine.fresh from.fields;
  }

  pub sound_structs : All (IsSoundStruct schema) schema.structs
  sound_structs =
      All-from_recursion (IsSoundStruct schema) schema.structs
      (zip_turned (IsFineList (length program)) (IsStructFrom D program) (IsSoundStruct schema) sound_struct (field_lists program) schema.structs
      (lists_fine program texts is_clean) whole.structs)

  value_names : (vs : List EnumValueDecl) (numbers : List ℤ) → AllByRecursion IsFineValue vs → AllByRecursion (λ (v : List ℕ × ℤ). IsSchemaName v.0) (named_numbers vs numbers)
  value_names [] numbers h = tt
  value_names (v ∷ vs) [] h = tt
  value_names (v ∷ vs) (n ∷ numbers) h = (h.0, value_names vs numbers h.1)

  sound_enum : (e : Filed EnumDecl) → IsFineEnum program e → IsSoundEnum schema (enum_made e)
  sound_enum e fine = record {
    file = file_in e.file fine.file;
    name = fine.name;
    values = All-from_recursion (λ (v : List ℕ × ℤ). IsSchemaName v.0) (named_numbers e.item.values (enum_numbers e.item.values))
        (value_names e.item.values (enum_numbers e.item.values) fine.values);
  }

  pub sound_enums : All (IsSoundEnum schema) schema.enums
  sound_enums =
      subst (All (IsSoundEnum schema)) (sym whole.enums)
      (All-from_recursion (IsSoundEnum schema) (map enum_made (enums_of program))
      (mapped (IsSoundEnum schema) enum_made (enums_of program)
      (weaker (IsFineEnum program) (λ e. IsSoundEnum schema (enum_made e)) sound_enum (enums_of program) (enums_fine program texts is_clean))))

  sound_alias : (t : Filed TypedefDecl) (a : PlainAlias) → IsFineTypedef program t → IsAliasOf program t a → IsSoundAlias schema a
  sound_alias t a fine of = record {
    file = subst (λ n. n < length schema.files) (sym of.file) (file_in t.file fine.file);
    name = subst IsSchemaName (sym of.name) fine.name;
    kind = kind_in D program schema whole t.file t.item.type a.kind of.kind;
  }

  pub sound_aliases : All (IsSoundAlias schema) schema.aliases
  sound_aliases =
      All-from_recursion (IsSoundAlias schema) schema.aliases
      (zip_turned (IsFineTypedef program) (IsAliasOf program) (IsSoundAlias schema) sound_alias (typedefs_of program) schema.aliases
      (typedefs_fine program texts is_clean) whole.aliases)
