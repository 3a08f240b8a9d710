-- What holds at the spots of a program of which each pass finds nothing.
use Rattle.std.proofs.Common.{◌≡◌, ℕ, Bool, true, false, List, [], ◌∷◌, ◌++◌, map, refl}
use Rattle.std.specs.List.{AllByRecursion}
use Rattle.graph_cycles.specs.Walks.{OnCycle}
use Rattle.idl_include.specs.Written.{Written}
use Rattle.idl_include.specs.Cycles.{parent_graph}
use Rattle.idl_include.specs.Declarations.{FieldDecl, FunctionDecl, EnumValueDecl}
use Rattle.idl_include.specs.Program.{Program}
use Rattle.idl_include.specs.Names.{is_dotted}
use Rattle.idl_include.specs.Numbering.{none_counted}
use Rattle.idl_include.specs.Spots.{Spotted, given_name, thrown_spot, service_spot, type_spots, result_spots, spots_in_field, spots_in_fields, spots_in_throws, spots_in_function, spots_in_functions, spots_in_enum, spots_of, default_spots}
use Rattle.check_model.specs.Passes.{Pass, dotted_name, duplicate_name, unknown_type, typedef_cycle, field_id, duplicate_id, enum_number, service_cycle, duplicate_function, oneway_not_void, oneway_throws, not_exception, struct_loop, bad_constant, is_repeated, is_id_repeated, IsRepeatedFunction, MeansException}
use Rattle.check_model.specs.FirstFlaw.{found_by, IsClearAt, FindsNothing, HasNoFlaw}
use Rattle.check_model.proofs.Shown.{front_all, back_all}
use Rattle.idl_check.specs.Clean.{IsClean}
use Rattle.idl_check.proofs.RisingFields.{AreFresh}
use Rattle.idl_check.proofs.Placed.{FilesIn, IsSpotted, program_spotted}

-- what holds for each of some of one sort of each of another
for_each : {A B : Type 0} (counts : B → Bool) (Q : B → A → Type 0) (xs : List A) → ((b : B) → counts b ≡ true → AllByRecursion (Q b) xs)
    → AllByRecursion (λ x. (b : B) → counts b ≡ true → Q b x) xs
for_each counts Q [] h = tt
for_each counts Q (x ∷ xs) h = (λ b c. (h b c).0, for_each counts Q xs (λ b c. (h b c).1))

-- the passes on which a schema's soundness stands
abbrev pub bears : Pass → Bool
bears dotted_name = true
bears duplicate_name = true
bears unknown_type = false
bears typedef_cycle = false
bears field_id = false
bears duplicate_id = true
bears enum_number = false
bears service_cycle = true
bears duplicate_function = true
bears oneway_not_void = false
bears oneway_throws = false
bears not_exception = true
bears struct_loop = false
bears bad_constant = false

-- a name has no dot
abbrev pub IsUndotted : Written → Type 0
IsUndotted name = is_dotted name.text ≡ true → ⊥

abbrev pub HasUndotted : FieldDecl → Type 0
HasUndotted f = IsUndotted f.name

-- names of values of an enum have no dot
abbrev pub ValueUndotted : EnumValueDecl → Type 0
ValueUndotted v = IsUndotted v.name

module _ (program : Program) where
  -- none of these passes finds anything in what is spotted in a file
  abbrev pub IsSpotClear : ℕ → Spotted → Type 0
  IsSpotClear file x = (pass : Pass) → bears pass ≡ true → IsClearAt program pass (record { file = file; shows = x })

  every_pass : IsClean program → (pass : Pass) → bears pass ≡ true → FindsNothing program pass
  every_pass h dotted_name e = h.dots
  every_pass h duplicate_name e = h.names
  every_pass h unknown_type e = cc
  every_pass h typedef_cycle e = cc
  every_pass h field_id e = cc
  every_pass h duplicate_id e = h.ids
  every_pass h enum_number e = cc
  every_pass h service_cycle e = h.services
  every_pass h duplicate_function e = h.functions
  every_pass h oneway_not_void e = cc
  every_pass h oneway_throws e = cc
  every_pass h not_exception e = h.exceptions
  every_pass h struct_loop e = cc
  every_pass h bad_constant e = cc

  pub clean : HasNoFlaw program → IsClean program
  clean h = record {
    dots = h.0;
    names = h.1.0;
    ids = h.1.1.1.1.1.0;
    services = h.1.1.1.1.1.1.1.0;
    functions = h.1.1.1.1.1.1.1.1.0;
    exceptions = h.1.1.1.1.1.1.1.1.1.1.1.0;
  }

  pub all_clear : IsClean program → FilesIn (IsSpotted IsSpotClear) 0 none_counted program
  all_clear h = program_spotted IsSpotClear program (for_each bears (IsClearAt program) (spots_of program) (every_pass h))

  -- names that are given
  pub name_clear : (file : ℕ) (before : List Written) (name : Written) → IsSpotClear file (given_name before name) → IsUndotted name
  name_clear file before name clear e = clear dotted_name refl (record { file = file; at = name.at; kind = found_by dotted_name }) (e, refl)

  pub name_new : (file : ℕ) (before : List Written) (name : Written) → IsSpotClear file (given_name before name) → is_repeated before name ≡ true → ⊥
  name_new file before name clear e = clear duplicate_name refl (record { file = file; at = name.at; kind = found_by duplicate_name }) (e, refl)

  -- services
  pub service_acyclic : (file number : ℕ) (name : Written) → IsSpotClear file (service_spot number name) → OnCycle (parent_graph program) number → ⊥
  service_acyclic file number name clear cycle = clear service_cycle refl (record { file = file; at = name.at; kind = found_by service_cycle }) (cycle, refl)

  -- fields
  field_undotted : (file : ℕ) (before : List FieldDecl) (f : FieldDecl) → AllByRecursion (IsSpotClear file) (spots_in_field before f) → HasUndotted f
  unfolding spots_in_field
  field_undotted file before f h =
      let names = map (λ (g : FieldDecl). g.name) before in
      name_clear file names f.name (back_all (IsSpotClear file) (type_spots f.type) (given_name names f.name ∷ default_spots f f.default) h.1).0

  field_new : (file : ℕ) (before : List FieldDecl) (f : FieldDecl) → AllByRecursion (IsSpotClear file) (spots_in_field before f) → is_id_repeated before f ≡ true → ⊥
  unfolding spots_in_field
  field_new file before f h e = h.0 duplicate_id refl (record { file = file; at = f.at; kind = found_by duplicate_id }) (e, refl)

  pub fields_undotted : (file : ℕ) (before fs : List FieldDecl) → AllByRecursion (IsSpotClear file) (spots_in_fields before fs) → AllByRecursion HasUndotted fs
  fields_undotted file before [] h = tt
  fields_undotted file before (f ∷ fs) h =
      let rest = spots_in_fields (before ++ f ∷ []) fs in (
        field_undotted file before f (front_all (IsSpotClear file) (spots_in_field before f) rest h),
        fields_undotted file (before ++ f ∷ []) fs (back_all (IsSpotClear file) (spots_in_field before f) rest h),
      )

  pub fields_fresh : (file : ℕ) (before fs : List FieldDecl) → AllByRecursion (IsSpotClear file) (spots_in_fields before fs) → AreFresh before fs
  fields_fresh file before [] h = tt
  fields_fresh file before (f ∷ fs) h =
      let rest = spots_in_fields (before ++ f ∷ []) fs in (
        field_new file before f (front_all (IsSpotClear file) (spots_in_field before f) rest h),
        fields_fresh file (before ++ f ∷ []) fs (back_all (IsSpotClear file) (spots_in_field before f) rest h),
      )

  -- a thrown field means an exception, in so far as it can't mean none
  abbrev pub MayBeThrown : ℕ → FieldDecl → Type 0
  MayBeThrown file f = (MeansException program file f.type → ⊥) → ⊥

  thrown_clear : (file : ℕ) (f : FieldDecl) → IsSpotClear file (thrown_spot f) → MayBeThrown file f
  thrown_clear file f clear none = clear not_exception refl (record { file = file; at = f.at; kind = found_by not_exception }) (none, refl)

  pub throws_clear : (file : ℕ) (before fs : List FieldDecl) → AllByRecursion (IsSpotClear file) (spots_in_throws before fs)
      → AllByRecursion HasUndotted fs × AreFresh before fs × AllByRecursion (MayBeThrown file) fs
  throws_clear file before [] h = (tt, tt, tt)
  throws_clear file before (f ∷ fs) h =
      let rest = spots_in_throws (before ++ f ∷ []) fs in
      let here = front_all (IsSpotClear file) (spots_in_field before f) rest h.1 in
      let later = throws_clear file (before ++ f ∷ []) fs (back_all (IsSpotClear file) (spots_in_field before f) rest h.1) in
      ((field_undotted file before f here, later.0), (field_new file before f here, later.1), (thrown_clear file f h.0, later.2))

  -- values of an enum
  pub values_undotted : (file : ℕ) (before vs : List EnumValueDecl) → AllByRecursion (IsSpotClear file) (spots_in_enum before vs) → AllByRecursion ValueUndotted vs
  values_undotted file before [] h = tt
  values_undotted file before (v ∷ vs) h =
      (name_clear file (map (λ (w : EnumValueDecl). w.name) before) v.name h.1.0, values_undotted file (before ++ v ∷ []) vs h.1.1)

  -- a function behind others of the service of some number
  pub record IsClearFunction (file service : ℕ) (before : List FunctionDecl) (f : FunctionDecl) : Type 0 where
    pub new : IsRepeatedFunction program service before f.name.text → ⊥
    pub name : IsUndotted f.name
    pub arguments : AllByRecursion HasUndotted f.arguments
    pub fresh : AreFresh [] f.arguments
    pub throws : AllByRecursion HasUndotted f.throws
    pub fresh_throws : AreFresh [] f.throws
    pub thrown : AllByRecursion (MayBeThrown file) f.throws

  function_clear : (file service : ℕ) (before : List FunctionDecl) (f : FunctionDecl) → AllByRecursion (IsSpotClear file) (spots_in_function service before f) → IsClearFunction file service before f
  unfolding spots_in_function
  function_clear file service before f h =
      let arguments = spots_in_fields [] f.arguments in
      let throws = spots_in_throws [] f.throws in
      let behind = back_all (IsSpotClear file) (result_spots f.result) (given_name [] f.name ∷ (arguments ++ throws)) h.1 in
      let own = front_all (IsSpotClear file) arguments throws behind.1 in
      let thrown = throws_clear file [] f.throws (back_all (IsSpotClear file) arguments throws behind.1) in
      record {
        new = λ repeated. h.0 duplicate_function refl (record { file = file; at = f.at; kind = found_by duplicate_function }) (repeated, refl);
        name = name_clear file [] f.name behind.0;
        arguments = fields_undotted file [] f.arguments own;
        fresh = fields_fresh file [] f.arguments own;
        throws = thrown.0;
        fresh_throws = thrown.1;
        thrown = thrown.2;
      }

  -- functions behind others
  abbrev pub AreClearFunctions : ℕ → ℕ → List FunctionDecl → List FunctionDecl → Type 0
  AreClearFunctions file service before [] = Unit {0}
  AreClearFunctions file service before (f ∷ fs) = IsClearFunction file service before f × AreClearFunctions file service (before ++ f ∷ []) fs

  pub functions_clear : (file service : ℕ) (before fs : List FunctionDecl) → AllByRecursion (IsSpotClear file) (spots_in_functions service before fs) → AreClearFunctions file service before fs
  functions_clear file service before [] h = tt
  functions_clear file service before (f ∷ fs) h =
      let rest = spots_in_functions service (before ++ f ∷ []) fs in (
        function_clear file service before f (front_all (IsSpotClear file) (spots_in_function service before f) rest h),
        functions_clear file service (before ++ f ∷ []) fs (back_all (IsSpotClear file) (spots_in_function service before f) rest h),
      )
