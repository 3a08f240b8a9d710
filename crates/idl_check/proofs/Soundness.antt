-- A program's schema is sound, with its defaults and constants and without.
use Rattle.std.proofs.Common.{◌≡◌, ◌<◌, ◌^◌, ℕ, true, List, [], ◌∷◌, length, Option, None, Some, slice_get, All, filter, sym, ap, subst, arith}
use Rattle.std.specs.Prelude.{MatchOption, ⊤}
use Rattle.std.specs.List.{AllByRecursion}
use Rattle.std.proofs.lemmas.List.Elements.{All-from_recursion}
use Rattle.thrift_value.specs.Tree.{Tree}
use Rattle.idl_include.specs.ConstExpr.{ConstExpr}
use Rattle.idl_include.specs.Declarations.{FieldDecl, ConstDecl, of_const}
use Rattle.idl_include.specs.Program.{Program}
use Rattle.idl_include.specs.Numbering.{Filed, Counts, constants_of}
use Rattle.idl_include.specs.Spots.{GivenValue}
use Rattle.schema.specs.PlainKind.{PlainKind}
use Rattle.schema.specs.PlainSchema.{PlainConstant, PlainFile, PlainSchema}
use Rattle.schema.specs.Sound.{IsSchemaName, IsPlaceIn, IsDefIn, def_name, IsKindIn, IsValueOf, AreSoundDefs, is_no_constant, IsSoundFile, IsSoundConstant, IsSoundButConstants, IsSound}
use Rattle.check_model.specs.Resolved.{TypeMeans}
use Rattle.check_model.specs.Worths.{valued}
use Rattle.check_model.specs.Evaluation.{Setting, given_worth}
use Rattle.check_model.specs.SchemaParts.{DefaultRule, NoDefault, ref_behind, IsSchemaWith, IsPartialSchema}
use Rattle.check_model.specs.ProgramSchema.{HasWorth, IsDefault, DefaultIn, IsConstantOf, IsSchemaOf}
use Rattle.check_model.proofs.Resolving.{zip_all}
use Rattle.idl_check.specs.Clean.{IsClean}
use Rattle.idl_check.specs.DeclaredTexts.{IsProgramOfTexts}
use Rattle.idl_const.specs.ShortLiterals.{HasShortLiterals, GivesShortLiterals}
use Rattle.idl_check.proofs.Clear.{clean}
use Rattle.idl_check.proofs.Sizes.{few_constants}
use Rattle.idl_check.proofs.SchemaSizes.{zip_length, short_lists, kind_in}
use Rattle.idl_check.proofs.Fine.{IsFineConst, constants_fine}
use Rattle.idl_check.proofs.SoundFields.{GivesValues, zip_turned, file_in, sound_structs, sound_enums, sound_aliases}
use Rattle.idl_check.proofs.FileParts.{zip_at, named_at, all_pass, all_defs, all_included, different_bases}
use Rattle.idl_check.proofs.SoundServices.{sound_services}
use Rattle.idl_check.proofs.NoLoop.{no_loop}
use Rattle.idl_check.proofs.DifferentFunctions.{different_functions}
use Rattle.idl_check.proofs.ShortValues.{gives_short}
use Rattle.idl_check.proofs.SameStructs.{value_of_both}

-- but for constants
module _ (D : DefaultRule) (program : Program) (schema : PlainSchema) (texts : IsProgramOfTexts program) (is_clean : IsClean program) (whole : IsSchemaWith D program schema)
    (values : GivesValues D program schema) (few : length schema.constants < 2 ^ 32) where
  files_sound : All (IsSoundFile schema) schema.files
  files_sound =
      All-from_recursion (IsSoundFile schema) schema.files
      (zip_all (λ (f : PlainFile). All (IsPlaceIn schema.files) f.includes) (λ (f : PlainFile). AreSoundDefs schema (filter is_no_constant f.defs)) (IsSoundFile schema)
      (λ f includes defs. record { includes = includes; defs = defs }) schema.files (all_included D program schema texts whole)
      (all_defs D program schema texts is_clean whole is_no_constant (λ file n c passes. absurd (cc))))

  pub sound_but_constants : IsSoundButConstants schema
  sound_but_constants = record {
    short = short_lists D program schema whole texts few;
    files = files_sound;
    bases = different_bases D program schema texts whole;
    structs = sound_structs D program schema texts is_clean whole values;
    enums = sound_enums D program schema texts is_clean whole values;
    services = sound_services D program schema texts is_clean whole values;
    aliases = sound_aliases D program schema texts is_clean whole values;
    no_loop = no_loop D program schema whole texts is_clean;
    functions = different_functions D program schema texts is_clean whole;
  }

-- a schema without defaults and constants
no_values : (program : Program) (schema : PlainSchema) → GivesValues NoDefault program schema
no_values program schema file f k default short means none = subst (λ d. MatchOption d ⊤ (IsValueOf schema k)) (sym none) tt

pub partial_sound : (program : Program) (schema : PlainSchema) → IsProgramOfTexts program → IsClean program → IsPartialSchema program schema → IsSoundButConstants schema
partial_sound program schema texts is_clean is =
    let none : length schema.constants ≡ 0 = ap length is.constants in
    sound_but_constants NoDefault program schema texts is_clean is.made (no_values program schema) (omega arith)

-- the law of constants
abbrev WorthsAreWritten : Type 0
WorthsAreWritten =
    (s : Setting) → IsPartialSchema s.program s.schema → IsSoundButConstants s.schema → GivesShortLiterals s.program
    → (which : ℕ) (kind : PlainKind) (v : Filed GivenValue) (value : Tree) (count : ℕ) → IsKindIn s.schema kind → HasShortLiterals v.item.tree
    → given_worth s which kind v ≡ valued value count → IsValueOf s.schema kind value

-- a whole schema
module _ (program : Program) (schema : PlainSchema) (texts : IsProgramOfTexts program) (is : IsSchemaOf program schema) (written : WorthsAreWritten) where
  -- the rule of its defaults, and of its constants
  abbrev Default : DefaultRule
  Default = DefaultIn (record { program = program; schema = is.partial })

  abbrev IsConstant : Filed ConstDecl → PlainConstant → Type 0
  IsConstant = IsConstantOf (record { program = program; schema = is.partial })

  is_clean : IsClean program
  is_clean = clean program is.faultless

  worth_is_value : (v : Filed GivenValue) (k : PlainKind) (value : Tree) → HasShortLiterals v.item.tree → TypeMeans program v.file v.item.type k → HasWorth (record { program = program; schema = is.partial }) v k value → IsValueOf schema k value
  worth_is_value v k value short means worth =
      value_of_both NoDefault (DefaultIn (record { program = program; schema = is.partial })) program is.partial schema is.made.made is.whole k value
      (written (record { program = program; schema = is.partial }) is.made (partial_sound program is.partial texts (clean program is.faultless) is.made) (gives_short program texts) worth.which k v value worth.count
      (kind_in NoDefault program is.partial is.made.made v.file v.item.type k means) short worth.worth)

  default_value : (file : ℕ) (f : FieldDecl) (k : PlainKind) (tree : Option ConstExpr) (default : Option Tree) → MatchOption tree ⊤ HasShortLiterals → TypeMeans program file f.type k
      → IsDefault (record { program = program; schema = is.partial }) file f k tree default → MatchOption default ⊤ (IsValueOf schema k)
  default_value file f k None default short means said = subst (λ d. MatchOption d ⊤ (IsValueOf schema k)) (sym said) tt
  default_value file f k (Some tree) default short means said =
      let v : Filed GivenValue = record { file = file; item = record { owner = f.at; type = f.type; tree = tree } } in
      subst (λ d. MatchOption d ⊤ (IsValueOf schema k)) (sym said.1) (worth_is_value v k said.0 short means said.2)

  values : GivesValues Default program schema
  values file f k default short means said = default_value file f k f.default default short means said

  few : length schema.constants < 2 ^ 32
  few = omega (arith, zip_length IsConstant (constants_of program) schema.constants is.constants, few_constants program texts)

  sound_constant : (c : Filed ConstDecl) (p : PlainConstant) → IsFineConst program c → IsConstant c p → IsSoundConstant schema p
  sound_constant c p fine of =
      let v : Filed GivenValue = record { file = c.file; item = record { owner = c.item.name.at; type = c.item.type; tree = c.item.value } } in
      record {
        file = subst (λ n. n < length schema.files) (sym of.file) (file_in Default program schema texts is_clean is.whole values c.file fine.file);
        name = subst IsSchemaName (sym of.name) fine.name;
        kind = kind_in Default program schema is.whole c.file c.item.type p.kind of.kind;
        value = worth_is_value v p.kind p.value fine.short of.kind of.value;
      }

  constants_sound : All (IsSoundConstant schema) schema.constants
  constants_sound =
      All-from_recursion (IsSoundConstant schema) schema.constants
      (zip_turned (IsFineConst program) IsConstant (IsSoundConstant schema) sound_constant (constants_of program) schema.constants (constants_fine program texts is_clean) is.constants)

  constant_referred : (file : ℕ) (n : Counts) (c : ConstDecl) → slice_get (constants_of program) n.constants ≡ Some (record { file = file; item = c })
      → IsDefIn schema (ref_behind n (of_const c)) × (def_name schema (ref_behind n (of_const c)) ≡ Some c.name.text)
  constant_referred file n c at =
      let (p, found, made) = zip_at IsConstant (constants_of program) schema.constants is.constants n.constants (record { file = file; item = c }) at in
      named_at schema.constants (λ (x : PlainConstant). x.name) n.constants p c.name.text found made.name

  defs_sound : All (λ (f : PlainFile). AreSoundDefs schema f.defs) schema.files
  defs_sound =
      All-from_recursion (λ (f : PlainFile). AreSoundDefs schema f.defs) schema.files
      (unfiltered schema.files (all_defs Default program schema texts is_clean is.whole (λ r. true) (λ file n c passes at. constant_referred file n c at)))
    where
      unfiltered : (fs : List PlainFile) → AllByRecursion (λ (f : PlainFile). AreSoundDefs schema (filter (λ r. true) f.defs)) fs → AllByRecursion (λ (f : PlainFile). AreSoundDefs schema f.defs) fs
      unfiltered [] h = tt
      unfiltered (f ∷ fs) h = (subst (AreSoundDefs schema) (all_pass f.defs) h.0, unfiltered fs h.1)

  pub sound : IsSound schema
  sound = record {
    all_else = sound_but_constants Default program schema texts is_clean is.whole values few;
    constants = constants_sound;
    defs = defs_sound;
  }
