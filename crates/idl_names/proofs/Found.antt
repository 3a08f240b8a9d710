-- Numbers by name are those of the definitions of a program.
use Rattle.std.proofs.Common.{◌≡◌, ◌+◌, ◌==◌, ℕ, Bool, cond, List, [], ◌∷◌, map, Option, Some, refl, ap, sym, ◌∙◌}
use Rattle.std.specs.Prelude.{◌&&◌}
use Rattle.std.specs.List.{position_from}
use Rattle.std.specs.Str.{bytes_eq}
use Rattle.idl_include.specs.Written.{Written}
use Rattle.idl_include.specs.Numbering.{Filed, is_filed_as, number_named, typedefs_of, enums_of, structs_of}
use Rattle.std.specs.Option.{option_map, option_or}
use Rattle.idl_include.specs.Declarations.{TypedefDecl, EnumDecl, StructDecl}
use Rattle.idl_include.specs.Program.{Program}
use Rattle.idl_include.specs.Names.{an_alias, an_enum, a_struct, type_defined}
use Rattle.idl_names.specs.declared.filed.InFile.{InFile}
use Rattle.idl_names.specs.FiledIn.{filed_by}
use Rattle.idl_names.specs.NameMaps.{NameMap, number_in_file}
use Rattle.idl_names.specs.Tables.{GiveNumbers}

pub position_map : {A B : Type 0} (f : A → B) (p : B → Bool) (i : ℕ) (xs : List A) → position_from p i (map f xs) ≡ position_from (λ x. p (f x)) i xs
position_map f p i [] = refl
position_map f p i (x ∷ xs) = ap (λ r. cond (p (f x)) (Some i) r) (position_map f p (i + 1) xs)

-- equal functions make equal lists
pub mapped_alike : {A B : Type 0} (f g : A → B) → ((x : A) → f x ≡ g x) → (xs : List A) → map f xs ≡ map g xs
mapped_alike f g same [] = refl
mapped_alike f g same (x ∷ xs) = λ i. same x i ∷ mapped_alike f g same xs i

pub numbers_of : {D A : Type 0} (view : D → A) (name_of : A → Written) (items given : List (InFile D)) (all : List (Filed A)) (maps : List NameMap)
    → map (filed_by view) items ≡ all → given ≡ items
    → ((file : ℕ) (name : List ℕ) → number_in_file maps file name ≡ position_from (λ (x : InFile D). (x.file == file) && bytes_eq (name_of (view x.item.now)).text name) 0 given)
    → GiveNumbers maps (number_named name_of all)
numbers_of {D} view name_of items given all maps is same found file name =
    found file name
    ∙ ap (position_from (λ (x : InFile D). (x.file == file) && bytes_eq (name_of (view x.item.now)).text name) 0) same
    ∙ sym (position_map (filed_by view) (is_filed_as name_of file name) 0 items)
    ∙ ap (position_from (is_filed_as name_of file name) 0) is

-- the type of a name, by what there is of each kind
pub type_is : (program : Program) (file : ℕ) (name : List ℕ) (a e s : Option ℕ) → a ≡ number_named (λ (t : TypedefDecl). t.name) (typedefs_of program) file name
    → e ≡ number_named (λ (d : EnumDecl). d.name) (enums_of program) file name → s ≡ number_named (λ (d : StructDecl). d.name) (structs_of program) file name
    → option_or (option_map an_alias a) (option_or (option_map an_enum e) (option_map a_struct s)) ≡ type_defined program (record { file = file; name = name })
type_is program file name a e s p q r = λ i. option_or (option_map an_alias (p i)) (option_or (option_map an_enum (q i)) (option_map a_struct (r i)))
