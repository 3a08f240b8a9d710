-- The files of a program's schema are sound: their base names, includes and definitions.
use Rattle.std.proofs.Common.{◌≡◌, ◌≢◌, inl, inr, ◌<◌, ◌+◌, ℕ, zero, suc, Bool, true, false, List, [], ◌∷◌, ◌++◌, map, length, Some, slice_get, All, AllPairs, filter, refl, sym, ap, subst, ◌∙◌, arith}
use Rattle.std.specs.Option.{option_map}
use Rattle.std.specs.List.{AllByRecursion, AllZip}
use Rattle.std.specs.Str.{bytes_eq}
use Rattle.std.proofs.lemmas.Bool.{or_cases, or_left, or_right, cond_both}
use Rattle.std.proofs.lemmas.List.Elements.{All-from_recursion, All-weaker}
use Rattle.std.proofs.lemmas.List.Kept.{AllPairs-cons}
use Rattle.std.proofs.lemmas.Option.{slice_get-map, slice_get_within}
use Rattle.std.proofs.lemmas.Slice.Eq.{bytes_eq-Decides}
use Rattle.idl_include.specs.Written.{Written}
use Rattle.idl_include.specs.Declarations.{Declaration, of_const, of_typedef, of_enum, of_struct_decl, of_service, declared_name, ConstDecl, EnumDecl, StructDecl, ServiceDecl}
use Rattle.idl_include.specs.Loading.{is_among}
use Rattle.idl_include.specs.Program.{Program, base_of_file}
use Rattle.idl_include.specs.Numbering.{Filed, Counts, none_counted, counted, all_counted, const_in, typedef_in, enum_in, struct_in, service_in, constants_of, typedefs_of, enums_of, structs_of, services_of, all_functions}
use Rattle.idl_include.specs.Spots.{type_spots, spots_in_declaration}
use Rattle.schema.specs.declared.types.DefRef.{DefRef}
use Rattle.schema.specs.declared.types.DefRef.TheVariants as ref
use Rattle.schema.specs.PlainSchema.{PlainStruct, PlainEnum, PlainService, PlainAlias, PlainFile, PlainSchema}
use Rattle.schema.specs.Sound.{AreDifferent, IsPlaceIn, IsDefIn, def_name, AreSoundDefs}
use Rattle.check_model.specs.FieldLists.{fields_of_struct, args_of_function, field_lists}
use Rattle.check_model.specs.Passes.{is_repeated}
use Rattle.check_model.specs.SchemaParts.{IsAliasOf, IsStructFrom, AreServicesOf, IsSchemaWith, DefaultRule, enum_made, ref_behind, refs_behind, files_behind, files_of}
use Rattle.check_model.proofs.FirstOnes.{somes, none_some}
use Rattle.check_model.proofs.Shown.{back_all}
use Rattle.idl_check.specs.Clean.{IsClean}
use Rattle.idl_check.specs.DeclaredTexts.{IsFileOfText, IsProgramOfTexts}
use Rattle.idl_check.proofs.Placed.{DeclRule, DeclsIn, FilesIn, files_both, IsFound, program_found, constants_are, typedefs_are, enums_are, structs_are, services_are}
use Rattle.idl_check.proofs.Clear.{IsSpotClear, name_new}
use Rattle.idl_check.proofs.Fine.{IsFine, all_fine}
use Rattle.idl_check.proofs.SchemaSizes.{file_size}

-- where a list is told one by one, so are its places
pub zip_at : {A B : Type 0} (R : A → B → Type 0) (xs : List A) (ys : List B) → AllZip R xs ys → (k : ℕ) (x : A) → slice_get xs k ≡ Some x → (y : B) × (slice_get ys k ≡ Some y) × R x y
zip_at R [] [] zip k x e = absurd (none_some x e)
zip_at R [] (y ∷ ys) zip k x e = absurd zip
zip_at R (z ∷ xs) [] zip k x e = absurd zip
zip_at R (z ∷ xs) (y ∷ ys) zip zero x e = (y, refl, subst (λ w. R w y) (somes z x e) zip.0)
zip_at R (z ∷ xs) (y ∷ ys) zip (suc k) x e = zip_at R xs ys zip.1 k x e

pub in_front : {A : Type 0} (xs ys : List A) (k : ℕ) (x : A) → slice_get xs k ≡ Some x → slice_get (xs ++ ys) k ≡ Some x
in_front [] ys k x e = absurd (none_some x e)
in_front (z ∷ xs) ys zero x e = e
in_front (z ∷ xs) ys (suc k) x e = in_front xs ys k x e

pub at_mapped : {A B : Type 0} (f : A → B) (xs : List A) (k : ℕ) (x : A) → slice_get xs k ≡ Some x → slice_get (map f xs) k ≡ Some (f x)
at_mapped f xs k x e = slice_get-map f xs k ∙ ap (option_map f) e

-- a struct of the program among its lists of fields
pub struct_list_at : (program : Program) (k : ℕ) (s : Filed StructDecl) → slice_get (structs_of program) k ≡ Some s → slice_get (field_lists program) k ≡ Some (fields_of_struct s)
unfolding field_lists
struct_list_at program k s e =
    in_front (map fields_of_struct (structs_of program)) (map args_of_function (all_functions program)) k (fields_of_struct s) (at_mapped fields_of_struct (structs_of program) k s e)

service_at : (D : DefaultRule) (program : Program) (args : ℕ) (ss : List (Filed ServiceDecl)) (ps : List PlainService) → AreServicesOf D program args ss ps → (k : ℕ) (s : Filed ServiceDecl)
    → slice_get ss k ≡ Some s → (p : PlainService) × (slice_get ps k ≡ Some p) × (p.name ≡ s.item.name.text)
service_at D program args [] [] zip k s e = absurd (none_some s e)
service_at D program args [] (p ∷ ps) zip k s e = absurd zip
service_at D program args (t ∷ ss) [] zip k s e = absurd zip
service_at D program args (t ∷ ss) (p ∷ ps) zip zero s e = (p, refl, zip.0.name ∙ ap (λ (u : Filed ServiceDecl). u.item.name.text) (somes t s e))
service_at D program args (t ∷ ss) (p ∷ ps) zip (suc k) s e = service_at D program (args + length t.item.functions) ss ps zip.1 k s e

-- a name is among those of some definitions
abbrev IsAmong : List ℕ → List Written → Type 0
IsAmong name before = is_among name (map (λ (w : Written). w.text) before) ≡ true

among_still : (name : List ℕ) (before : List Written) (w : Written) → IsAmong name before → IsAmong name (before ++ w ∷ [])
among_still name [] w e = absurd (let f : false ≡ true = e in cc)
among_still name (x ∷ before) w e =
    elim (or_cases (bytes_eq x.text name) (is_among name (map (λ (w : Written). w.text) before)) e) as (λ _. IsAmong name (x ∷ (before ++ w ∷ []))) [
      | inl here ↦ or_left (bytes_eq x.text name) (is_among name (map (λ (w : Written). w.text) (before ++ w ∷ []))) here
      | inr later ↦ or_right (bytes_eq x.text name) (is_among name (map (λ (w : Written). w.text) (before ++ w ∷ []))) (among_still name before w later)
    ]

among_last : (before : List Written) (w : Written) → IsAmong w.text (before ++ w ∷ [])
among_last [] w = or_left (bytes_eq w.text w.text) false ((bytes_eq-Decides w.text w.text).1 refl)
among_last (x ∷ before) w = or_right (bytes_eq x.text w.text) (is_among w.text (map (λ (w : Written). w.text) (before ++ w ∷ []))) (among_last before w)

-- of the definitions that pass a test this holds
passing : {A : Type 0} (test : A → Bool) (Q : A → Type 0) (xs : List A) → AllByRecursion (λ x. test x ≡ true → Q x) xs → AllByRecursion Q (filter test xs)
passing test Q [] h = tt
passing test Q (x ∷ xs) h =
    let rest = passing test Q xs h.1 in
    cond_both (test x) (x ∷ filter test xs) (filter test xs) (AllByRecursion Q) (λ e. (h.0 e, rest)) (λ e. rest)

pub all_pass : {A : Type 0} (xs : List A) → filter (λ x. true) xs ≡ xs
all_pass [] = refl
all_pass (x ∷ xs) = ap (λ ys. x ∷ ys) (all_pass xs)

-- a definition by its number in its list, with its name
abbrev IsReferredIn : PlainSchema → Counts → Declaration → Type 0
IsReferredIn schema n d = IsDefIn schema (ref_behind n d) × (def_name schema (ref_behind n d) ≡ Some (declared_name d).text)

-- the same of one of its list
pub named_at : {A : Type 0} (xs : List A) (name : A → List ℕ) (k : ℕ) (x : A) (text : List ℕ) → slice_get xs k ≡ Some x → name x ≡ text
    → (k < length xs) × (option_map name (slice_get xs k) ≡ Some text)
named_at xs name k x text e same = (slice_get_within xs k x e, ap (option_map name) e ∙ ap Some same)

-- of the definitions that pass a test it is said of constants that they stand at their number
module _ (D : DefaultRule) (program : Program) (schema : PlainSchema) (texts : IsProgramOfTexts program) (is_clean : IsClean program) (whole : IsSchemaWith D program schema)
    (keeps : DefRef → Bool) (constants : (file : ℕ) (n : Counts) (c : ConstDecl) → keeps (ref.Constant n.constants) ≡ true → slice_get (constants_of program) n.constants ≡ Some (record { file = file; item = c })
    → IsReferredIn schema n (of_const c)) where
  abbrev Constants : DeclRule
  Constants = IsFound const_in (λ (n : Counts). n.constants) of_const constants_are (constants_of program)

  abbrev Typedefs : DeclRule
  Typedefs = IsFound typedef_in (λ (n : Counts). n.aliases) of_typedef typedefs_are (typedefs_of program)

  abbrev Enums : DeclRule
  Enums = IsFound enum_in (λ (n : Counts). n.enums) of_enum enums_are (enums_of program)

  abbrev Structs : DeclRule
  Structs = IsFound struct_in (λ (n : Counts). n.structs) of_struct_decl structs_are (structs_of program)

  abbrev Services : DeclRule
  Services = IsFound service_in (λ (n : Counts). n.services) of_service services_are (services_of program)

  constants_found : FilesIn Constants 0 none_counted program
  unfolding constants_of
  constants_found = program_found const_in (λ (n : Counts). n.constants) of_const constants_are program refl

  typedefs_found : FilesIn Typedefs 0 none_counted program
  unfolding typedefs_of
  typedefs_found = program_found typedef_in (λ (n : Counts). n.aliases) of_typedef typedefs_are program refl

  enums_found : FilesIn Enums 0 none_counted program
  unfolding enums_of
  enums_found = program_found enum_in (λ (n : Counts). n.enums) of_enum enums_are program refl

  structs_found : FilesIn Structs 0 none_counted program
  unfolding structs_of
  structs_found = program_found struct_in (λ (n : Counts). n.structs) of_struct_decl structs_are program refl

  services_found : FilesIn Services 0 none_counted program
  unfolding services_of
  services_found = program_found service_in (λ (n : Counts). n.services) of_service services_are program refl

  -- a definition that passes stands at its number
  abbrev IsReferred : DeclRule
  IsReferred file before n d = keeps (ref_behind n d) ≡ true → IsReferredIn schema n d

  referred : (file : ℕ) (before : List Written) (n : Counts) (d : Declaration)
      → Constants file before n d × Typedefs file before n d × Enums file before n d × Structs file before n d × Services file before n d → IsReferred file before n d
  referred file before n (of_const c) h = λ passes. constants file n c passes h.0
  referred file before n (of_typedef t) h = λ passes.
      let (p, at, made) = zip_at (IsAliasOf program) (typedefs_of program) schema.aliases whole.aliases n.aliases (record { file = file; item = t }) h.1 in
      named_at schema.aliases (λ (x : PlainAlias). x.name) n.aliases p t.name.text at made.name
  referred file before n (of_enum e) h = λ passes.
      let item : Filed EnumDecl = record { file = file; item = e } in
      named_at schema.enums (λ (x : PlainEnum). x.name) n.enums (enum_made item) e.name.text
      (subst (λ xs. slice_get xs n.enums ≡ Some (enum_made item)) (sym whole.enums) (at_mapped enum_made (enums_of program) n.enums item h.2)) refl
  referred file before n (of_struct_decl s) h = λ passes.
      let item : Filed StructDecl = record { file = file; item = s } in
      let (p, at, made) = zip_at (IsStructFrom D program) (field_lists program) schema.structs whole.structs n.structs (fields_of_struct item) (struct_list_at program n.structs item h.3) in
      named_at schema.structs (λ (x : PlainStruct). x.name) n.structs p s.name.text at made.name
  referred file before n (of_service s) h = λ passes.
      let (p, at, name) = service_at D program (length (structs_of program)) (services_of program) schema.services whole.services n.services (record { file = file; item = s }) h.4 in
      named_at schema.services (λ (x : PlainService). x.name) n.services p s.name.text at name

  -- a definition's name is new in its file
  abbrev IsNew : DeclRule
  IsNew file before n d = is_repeated before (declared_name d) ≡ true → ⊥

  new_name : (file : ℕ) (before : List Written) (n : Counts) (d : Declaration) → AllByRecursion (IsSpotClear program file) (spots_in_declaration before n d) → IsNew file before n d
  unfolding spots_in_declaration
  new_name file before n (of_const c) h = name_new program file before c.name (back_all (IsSpotClear program file) (type_spots c.type) _ h).0
  new_name file before n (of_typedef t) h = name_new program file before t.name (back_all (IsSpotClear program file) (type_spots t.type) _ h).0
  new_name file before n (of_enum e) h = name_new program file before e.name h.0
  new_name file before n (of_struct_decl s) h = name_new program file before s.name h.0
  new_name file before n (of_service s) h = name_new program file before s.name h.0

  abbrev IsGood : DeclRule
  IsGood file before n d = IsReferred file before n d × IsNew file before n d

  all_good : FilesIn IsGood 0 none_counted program
  all_good =
      let One = λ (file : ℕ) (before : List Written) (n : Counts) (d : Declaration). Constants file before n d × Typedefs file before n d in
      let Two = λ (file : ℕ) (before : List Written) (n : Counts) (d : Declaration). Constants file before n d × Typedefs file before n d × Enums file before n d in
      let Three = λ (file : ℕ) (before : List Written) (n : Counts) (d : Declaration). Constants file before n d × Typedefs file before n d × Enums file before n d × Structs file before n d in
      let one = files_both Constants Typedefs One (λ file before n d h k. (h, k)) 0 none_counted program constants_found typedefs_found in
      let two = files_both One Enums Two (λ file before n d h k. (h.0, h.1, k)) 0 none_counted program one enums_found in
      let three = files_both Two Structs Three (λ file before n d h k. (h.0, h.1, h.2, k)) 0 none_counted program two structs_found in
      let four = files_both Three Services IsReferred (λ file before n d h k. referred file before n d (h.0, h.1, h.2, h.3, k)) 0 none_counted program three services_found in
      files_both IsReferred (IsFine program) IsGood (λ file before n d h fine. (h, new_name file before n d fine.clear)) 0 none_counted program four (all_fine program texts is_clean)

  -- the definitions of a file that pass
  places : (file : ℕ) (before : List Written) (n : Counts) (ds : List Declaration) → DeclsIn IsGood file before n ds → AllByRecursion (λ r. keeps r ≡ true → IsDefIn schema r) (refs_behind n ds)
  places file before n [] h = tt
  places file before n (d ∷ ds) h = (λ passes. (h.0.0 passes).0, places file (before ++ declared_name d ∷ []) (counted n d) ds h.1)

  abbrev HasOtherName : List ℕ → DefRef → Type 0
  HasOtherName name r = def_name schema r ≡ Some name → ⊥

  others : (name : List ℕ) (file : ℕ) (before : List Written) (n : Counts) (ds : List Declaration) → IsAmong name before → DeclsIn IsGood file before n ds
      → AllByRecursion (λ r. keeps r ≡ true → HasOtherName name r) (refs_behind n ds)
  others name file before n [] among h = tt
  others name file before n (d ∷ ds) among h = (
    λ passes e. h.0.1 (subst (λ x. IsAmong x before) (somes name (declared_name d).text (sym e ∙ (h.0.0 passes).1)) among),
    others name file (before ++ declared_name d ∷ []) (counted n d) ds (among_still name before (declared_name d) among) h.1,
  )

  different : (file : ℕ) (before : List Written) (n : Counts) (ds : List Declaration) → DeclsIn IsGood file before n ds
      → AllPairs (λ a b. def_name schema a ≢ def_name schema b) (filter keeps (refs_behind n ds))
  different file before n [] h = λ i j d low within. absurd (omega arith)
  different file before n (d ∷ ds) h =
      let name = (declared_name d).text in
      let r = ref_behind n d in
      let rest = filter keeps (refs_behind (counted n d) ds) in
      let later = different file (before ++ declared_name d ∷ []) (counted n d) ds h.1 in
      let behind = All-from_recursion (HasOtherName name) rest (passing keeps (HasOtherName name) (refs_behind (counted n d) ds)
      (others name file (before ++ declared_name d ∷ []) (counted n d) ds (among_last before (declared_name d)) h.1)) in
      cond_both (keeps r) (r ∷ rest) rest (AllPairs (λ a b. def_name schema a ≢ def_name schema b))
      (λ passes. AllPairs-cons (λ a b. def_name schema a ≢ def_name schema b) r rest
      (All-weaker (HasOtherName name) (λ (s : DefRef). def_name schema r ≢ def_name schema s) (λ s other e. other (sym e ∙ (h.0.0 passes).1)) rest behind) later)
      (λ passes. later)

  sound_defs : (file : ℕ) (n : Counts) (ds : List Declaration) → DeclsIn IsGood file [] n ds → AreSoundDefs schema (filter keeps (refs_behind n ds))
  sound_defs file n ds h = record {
    places = All-from_recursion (IsDefIn schema) (filter keeps (refs_behind n ds)) (passing keeps (IsDefIn schema) (refs_behind n ds) (places file [] n ds h));
    names = different file [] n ds h;
  }

  -- files
  defs_of_files : (file : ℕ) (n : Counts) (fs : Program) → FilesIn IsGood file n fs → AllByRecursion (λ (f : PlainFile). AreSoundDefs schema (filter keeps f.defs)) (files_behind n fs)
  defs_of_files file n [] h = tt
  defs_of_files file n (f ∷ fs) h = (sound_defs file n f.declarations h.0, defs_of_files (suc file) (all_counted n f.declarations) fs h.1)

  pub all_defs : AllByRecursion (λ (f : PlainFile). AreSoundDefs schema (filter keeps f.defs)) schema.files
  unfolding files_of
  all_defs =
      subst (AllByRecursion (λ (f : PlainFile). AreSoundDefs schema (filter keeps f.defs))) (sym whole.files) (defs_of_files 0 none_counted program all_good)

-- includes and base names
module _ (D : DefaultRule) (program : Program) (schema : PlainSchema) (texts : IsProgramOfTexts program) (whole : IsSchemaWith D program schema) where
  included : (n : Counts) (fs : Program) → AllByRecursion (IsFileOfText (length program)) fs → AllByRecursion (λ (f : PlainFile). All (IsPlaceIn schema.files) f.includes) (files_behind n fs)
  included n [] h = tt
  included n (f ∷ fs) h = (
    All-weaker (λ number. number < length program) (IsPlaceIn schema.files) (λ number within. omega (arith, file_size D program schema whole)) f.includes h.0.includes,
    included (all_counted n f.declarations) fs h.1,
  )

  pub all_included : AllByRecursion (λ (f : PlainFile). All (IsPlaceIn schema.files) f.includes) schema.files
  unfolding files_of
  all_included =
      subst (AllByRecursion (λ (f : PlainFile). All (IsPlaceIn schema.files) f.includes)) (sym whole.files) (included none_counted program texts.files)

  bases_are : (n : Counts) (fs : Program) → map base_of_file fs ≡ map (λ (f : PlainFile). f.base) (files_behind n fs)
  bases_are n [] = refl
  bases_are n (f ∷ fs) = ap (λ bases. base_of_file f ∷ bases) (bases_are (all_counted n f.declarations) fs)

  pub different_bases : AreDifferent (map (λ (f : PlainFile). f.base) schema.files)
  unfolding files_of
  different_bases = subst (AllPairs (λ a b. a ≢ b)) (bases_are none_counted program ∙ ap (map (λ (f : PlainFile). f.base)) (sym whole.files)) texts.bases
