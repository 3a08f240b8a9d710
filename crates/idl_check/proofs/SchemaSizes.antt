-- The lists of a program's schema are as long as those of the program.
use Rattle.std.proofs.Common.{◌≡◌, ℕ, suc, ◌+◌, ◌<◌, ◌^◌, List, [], ◌∷◌, map, length, refl, ap, ◌∙◌, length-append, arith}
use Rattle.std.specs.List.{AllZip}
use Rattle.idl_include.specs.Declarations.{ServiceDecl}
use Rattle.idl_include.specs.TypeExpr.{TypeExpr}
use Rattle.idl_include.specs.Program.{Program}
use Rattle.idl_include.specs.Numbering.{Filed, Counts, none_counted, all_counted, typedefs_of, enums_of, structs_of, services_of, all_functions}
use Rattle.schema.specs.PlainKind.{PlainKind}
use Rattle.schema.specs.PlainSchema.{PlainService, PlainSchema}
use Rattle.schema.specs.Sound.{IsKindIn, HasShortLists}
use Rattle.check_model.specs.FieldLists.{fields_of_struct, args_of_function, field_lists}
use Rattle.check_model.specs.Resolved.{TypeMeans}
use Rattle.check_model.specs.SchemaParts.{DefaultRule, IsAliasOf, IsStructFrom, AreServicesOf, IsSchemaWith, enum_made, files_behind, files_of}
use Rattle.idl_check.specs.DeclaredTexts.{IsProgramOfTexts}
use Rattle.idl_check.proofs.TypeKinds.{meaning_in}
use Rattle.idl_check.proofs.Sizes.{same_length, few_typedefs, few_enums, few_services, few_lists}

pub zip_length : {A B : Type 0} (R : A → B → Type 0) (xs : List A) (ys : List B) → AllZip R xs ys → length ys ≡ length xs
zip_length R [] [] h = refl
zip_length R [] (y ∷ ys) h = absurd h
zip_length R (x ∷ xs) [] h = absurd h
zip_length R (x ∷ xs) (y ∷ ys) h = ap suc (zip_length R xs ys h.1)

files_length : (n : Counts) (fs : Program) → length (files_behind n fs) ≡ length fs
files_length n [] = refl
files_length n (f ∷ fs) = ap suc (files_length (all_counted n f.declarations) fs)

pub lists_length : (program : Program) → length (field_lists program) ≡ length (structs_of program) + length (all_functions program)
unfolding field_lists
lists_length program =
    omega (
      arith,
      length-append (map fields_of_struct (structs_of program)) (map args_of_function (all_functions program)),
      same_length fields_of_struct (structs_of program),
      same_length args_of_function (all_functions program),
    )

module _ (D : DefaultRule) (program : Program) where
  services_length : (args : ℕ) (ss : List (Filed ServiceDecl)) (ps : List PlainService) → AreServicesOf D program args ss ps → length ps ≡ length ss
  services_length args [] [] h = refl
  services_length args [] (p ∷ ps) h = absurd h
  services_length args (s ∷ ss) [] h = absurd h
  services_length args (s ∷ ss) (p ∷ ps) h = ap suc (services_length (args + length s.item.functions) ss ps h.1)

  module _ (schema : PlainSchema) (is : IsSchemaWith D program schema) where
    pub file_size : length schema.files ≡ length program
    unfolding files_of
    file_size = ap length is.files ∙ files_length none_counted program

    pub alias_size : length schema.aliases ≡ length (typedefs_of program)
    alias_size = zip_length (IsAliasOf program) (typedefs_of program) schema.aliases is.aliases

    pub enum_size : length schema.enums ≡ length (enums_of program)
    enum_size = ap length is.enums ∙ same_length enum_made (enums_of program)

    pub struct_size : length schema.structs ≡ length (structs_of program) + length (all_functions program)
    struct_size = zip_length (IsStructFrom D program) (field_lists program) schema.structs is.structs ∙ lists_length program

    pub service_size : length schema.services ≡ length (services_of program)
    service_size = services_length (length (structs_of program)) (services_of program) schema.services is.services

    -- what a type means names enums and structs of the schema
    pub kind_in : (file : ℕ) (t : TypeExpr) (k : PlainKind) → TypeMeans program file t k → IsKindIn schema k
    kind_in file t k means = meaning_in program schema (omega (arith, enum_size)) (omega (arith, struct_size)) file t k means

    -- lists are short where that of constants is
    pub short_lists : IsProgramOfTexts program → length schema.constants < 2 ^ 32 → HasShortLists schema
    short_lists texts few = record {
      files = omega (arith, file_size, texts.most);
      structs = omega (arith, struct_size, few_lists program texts);
      enums = omega (arith, enum_size, few_enums program texts);
      services = omega (arith, service_size, few_services program texts);
      aliases = omega (arith, alias_size, few_typedefs program texts);
      constants = few;
    }
