-- What each definition of a program of texts is, where no pass finds anything.
use Rattle.std.proofs.Common.{ℕ, suc, ◌<◌, List, [], ◌∷◌, ◌++◌, map, length, subst, arith}
use Rattle.std.specs.List.{AllByRecursion, flat_map}
use Rattle.graph_cycles.specs.Walks.{OnCycle}
use Rattle.idl_include.specs.Written.{Written}
use Rattle.idl_include.specs.Cycles.{parent_graph}
use Rattle.idl_include.specs.Declarations.{FieldDecl, FunctionDecl, ConstDecl, TypedefDecl, EnumValueDecl, EnumDecl, StructDecl, ServiceDecl, Declaration, of_const, of_typedef, of_enum, of_struct_decl, of_service}
use Rattle.idl_include.specs.Program.{SourceFile, Program}
use Rattle.idl_include.specs.Numbering.{Filed, filed, Counts, none_counted, const_in, typedef_in, enum_in, struct_in, service_in, constants_of, typedefs_of, enums_of, structs_of, services_of, functions_in, all_functions}
use Rattle.idl_include.specs.Spots.{type_spots, parent_spots, spots_in_declaration}
use Rattle.schema.specs.Sound.{IsSchemaName}
use Rattle.check_model.specs.FieldLists.{FieldsDecl, fields_of_struct, args_of_function, field_lists}
use Rattle.check_model.proofs.Shown.{back_all, both_all, mapped, weaker, AllFrom}
use Rattle.check_model.proofs.Resolving.{zip_all}
use Rattle.idl_check.specs.Clean.{IsClean}
use Rattle.idl_check.specs.DeclaredTexts.{IsFieldNamed, IsFunctionNamed, IsValueNamed, IsNamed, HasShortDefault, HasShortDefaults, HasShortValues, IsFileOfText, IsProgramOfTexts}
use Rattle.idl_const.specs.ShortLiterals.{HasShortLiterals}
use Rattle.idl_check.proofs.RisingFields.{AreFresh}
use Rattle.idl_check.proofs.SchemaNames.{schema_name}
use Rattle.idl_check.proofs.Placed.{FilesIn, files_both, Everywhere, files_everywhere, InFile, files_in_file, IsSpotted, IsPicked, files_picked, constants_are, typedefs_are, enums_are, structs_are, services_are}
use Rattle.idl_check.proofs.Clear.{HasUndotted, ValueUndotted, IsSpotClear, all_clear, name_clear, fields_undotted, fields_fresh, values_undotted, MayBeThrown, AreClearFunctions, functions_clear, service_acyclic}

-- what holds of each with its number, without numbers
pub without_numbers : {A : Type 0} (Q : ℕ → A → Type 0) (R : A → Type 0) → ((k : ℕ) (x : A) → Q k x → R x) → (n : ℕ) (xs : List A) → AllFrom Q n xs → AllByRecursion R xs
without_numbers Q R by n [] h = tt
without_numbers Q R by n (x ∷ xs) h = (by n x h.0, without_numbers Q R by (suc n) xs h.1)

flat_all : {A B : Type 0} (Q : B → Type 0) (f : A → List B) (xs : List A) → AllByRecursion (λ x. AllByRecursion Q (f x)) xs → AllByRecursion Q (flat_map f xs)
flat_all Q f [] h = tt
flat_all Q f (x ∷ xs) h = both_all Q (f x) (flat_map f xs) h.0 (flat_all Q f xs h.1)

-- a field's name is a schema's, and its default has short literals
pub record IsFineField (f : FieldDecl) : Type 0 where
  pub name : IsSchemaName f.name.text
  pub short : HasShortDefault f

-- the name of a value of an enum is a schema's
abbrev pub IsFineValue : EnumValueDecl → Type 0
IsFineValue v = IsSchemaName v.name.text

fine_fields : (fs : List FieldDecl) → AllByRecursion IsFieldNamed fs → AllByRecursion HasShortDefault fs → AllByRecursion HasUndotted fs → AllByRecursion IsFineField fs
fine_fields [] h k l = tt
fine_fields (f ∷ fs) h k l = (record { name = schema_name f.name.text h.0 l.0; short = k.0 }, fine_fields fs h.1 k.1 l.1)

-- a definition has identifiers for names, and values with short literals
abbrev IsOfText : Declaration → Type 0
IsOfText d = IsNamed d × HasShortValues d

-- the fields of a struct, union or exception, or the arguments of a function
pub record IsFineList (count : ℕ) (d : FieldsDecl) : Type 0 where
  pub file : d.file < count
  pub name : IsSchemaName d.name
  pub names : AllByRecursion IsFineField d.fields
  pub fresh : AreFresh [] d.fields

module _ (program : Program) where
  -- a definition where it stands
  pub record IsFine (file : ℕ) (before : List Written) (n : Counts) (d : Declaration) : Type 0 where
    pub within : file < length program
    pub named : IsNamed d
    pub values : HasShortValues d
    pub clear : AllByRecursion (IsSpotClear program file) (spots_in_declaration before n d)

  -- a function
  pub record IsFineFunction (file : ℕ) (f : FunctionDecl) : Type 0 where
    pub name : IsSchemaName f.name.text
    pub arguments : AllByRecursion IsFineField f.arguments
    pub fresh : AreFresh [] f.arguments
    pub throws : AllByRecursion IsFineField f.throws
    pub fresh_throws : AreFresh [] f.throws
    pub thrown : AllByRecursion (MayBeThrown program file) f.throws

  fine_functions : (file service : ℕ) (before fs : List FunctionDecl) → AllByRecursion IsFunctionNamed fs → AllByRecursion HasShortDefaults fs → AreClearFunctions program file service before fs → AllByRecursion (IsFineFunction file) fs
  fine_functions file service before [] h l k = tt
  fine_functions file service before (f ∷ fs) h l k = (
    record {
      name = schema_name f.name.text h.0.0 k.0.name;
      arguments = fine_fields f.arguments h.0.1 l.0.0 k.0.arguments;
      fresh = k.0.fresh;
      throws = fine_fields f.throws h.0.2 l.0.1 k.0.throws;
      fresh_throws = k.0.fresh_throws;
      thrown = k.0.thrown;
    },
    fine_functions file service (before ++ f ∷ []) fs h.1 l.1 k.1,
  )

  -- a constant
  pub record IsFineConst (c : Filed ConstDecl) : Type 0 where
    pub file : c.file < length program
    pub name : IsSchemaName c.item.name.text
    pub short : HasShortLiterals c.item.value

  -- a typedef
  pub record IsFineTypedef (t : Filed TypedefDecl) : Type 0 where
    pub file : t.file < length program
    pub name : IsSchemaName t.item.name.text

  -- an enum
  pub record IsFineEnum (e : Filed EnumDecl) : Type 0 where
    pub file : e.file < length program
    pub name : IsSchemaName e.item.name.text
    pub values : AllByRecursion IsFineValue e.item.values

  -- a service of some number
  pub record IsFineService (number : ℕ) (s : Filed ServiceDecl) : Type 0 where
    pub file : s.file < length program
    pub name : IsSchemaName s.item.name.text
    pub acyclic : OnCycle (parent_graph program) number → ⊥
    pub functions : AllByRecursion (IsFineFunction s.file) s.item.functions
    pub clear : AreClearFunctions program s.file number [] s.item.functions

  fine_const : (c : Filed ConstDecl) (before : List Written) (n : Counts) → IsFine c.file before n (of_const c.item) → IsFineConst c
  unfolding spots_in_declaration
  fine_const c before n is = record {
    file = is.within;
    name = schema_name c.item.name.text is.named (name_clear program c.file before c.item.name (back_all (IsSpotClear program c.file) (type_spots c.item.type) _ is.clear).0);
    short = is.values;
  }

  fine_typedef : (t : Filed TypedefDecl) (before : List Written) (n : Counts) → IsFine t.file before n (of_typedef t.item) → IsFineTypedef t
  unfolding spots_in_declaration
  fine_typedef t before n is = record {
    file = is.within;
    name = schema_name t.item.name.text is.named (name_clear program t.file before t.item.name (back_all (IsSpotClear program t.file) (type_spots t.item.type) _ is.clear).0);
  }

  fine_enum : (e : Filed EnumDecl) (before : List Written) (n : Counts) → IsFine e.file before n (of_enum e.item) → IsFineEnum e
  unfolding spots_in_declaration
  fine_enum e before n is = record {
    file = is.within;
    name = schema_name e.item.name.text is.named.0 (name_clear program e.file before e.item.name is.clear.0);
    values = zip_all IsValueNamed ValueUndotted IsFineValue (λ v named undotted. schema_name v.name.text named undotted) e.item.values is.named.1
        (values_undotted program e.file [] e.item.values is.clear.1);
  }

  fine_struct : (s : Filed StructDecl) (before : List Written) (n : Counts) → IsFine s.file before n (of_struct_decl s.item) → IsFineList (length program) (fields_of_struct s)
  unfolding spots_in_declaration
  fine_struct s before n is = record {
    file = is.within;
    name = schema_name s.item.name.text is.named.0 (name_clear program s.file before s.item.name is.clear.0);
    names = fine_fields s.item.fields is.named.1 is.values (fields_undotted program s.file [] s.item.fields is.clear.1.1);
    fresh = fields_fresh program s.file [] s.item.fields is.clear.1.1;
  }

  fine_service : (s : Filed ServiceDecl) (before : List Written) (n : Counts) → IsFine s.file before n (of_service s.item) → IsFineService n.services s
  unfolding spots_in_declaration
  fine_service s before n is =
      let clear = functions_clear program s.file n.services [] s.item.functions (back_all (IsSpotClear program s.file) (parent_spots s.item.parent) _ is.clear.1.1) in
      record {
        file = is.within;
        name = schema_name s.item.name.text is.named.0 (name_clear program s.file before s.item.name is.clear.0);
        acyclic = service_acyclic program s.file n.services s.item.name is.clear.1.0;
        functions = fine_functions s.file n.services [] s.item.functions is.named.1 is.values clear;
        clear = clear;
      }

  -- all of them
  module _ (texts : IsProgramOfTexts program) (is_clean : IsClean program) where
    pub all_fine : FilesIn IsFine 0 none_counted program
    all_fine =
        let named = files_everywhere IsOfText 0 none_counted program
        (weaker (IsFileOfText (length program)) (λ (f : SourceFile). AllByRecursion IsOfText f.declarations)
        (λ f is. zip_all IsNamed HasShortValues IsOfText (λ d h k. (h, k)) f.declarations is.text.names is.text.values) program texts.files) in
        let within = files_in_file (length program) 0 none_counted program (omega arith) in
        let NamedWithin = λ (file : ℕ) (before : List Written) (n : Counts) (d : Declaration). (file < length program) × IsOfText d in
        files_both NamedWithin (IsSpotted (IsSpotClear program)) IsFine (λ file before n d h clear. record { within = h.0; named = h.1.0; values = h.1.1; clear = clear }) 0 none_counted program
        (files_both (InFile (length program)) (Everywhere IsOfText) NamedWithin (λ file before n d within named. (within, named)) 0 none_counted program within named)
        (all_clear program is_clean)

    pub constants_fine : AllByRecursion IsFineConst (constants_of program)
    unfolding constants_of
    constants_fine =
        without_numbers (IsPicked const_in (λ (n : Counts). n.constants) of_const constants_are IsFine) IsFineConst (λ k c h. fine_const c h.0 h.1 h.3) 0 _
        (files_picked const_in (λ (n : Counts). n.constants) of_const constants_are IsFine 0 none_counted program all_fine)

    pub typedefs_fine : AllByRecursion IsFineTypedef (typedefs_of program)
    unfolding typedefs_of
    typedefs_fine =
        without_numbers (IsPicked typedef_in (λ (n : Counts). n.aliases) of_typedef typedefs_are IsFine) IsFineTypedef (λ k t h. fine_typedef t h.0 h.1 h.3) 0 _
        (files_picked typedef_in (λ (n : Counts). n.aliases) of_typedef typedefs_are IsFine 0 none_counted program all_fine)

    pub enums_fine : AllByRecursion IsFineEnum (enums_of program)
    unfolding enums_of
    enums_fine =
        without_numbers (IsPicked enum_in (λ (n : Counts). n.enums) of_enum enums_are IsFine) IsFineEnum (λ k e h. fine_enum e h.0 h.1 h.3) 0 _
        (files_picked enum_in (λ (n : Counts). n.enums) of_enum enums_are IsFine 0 none_counted program all_fine)

    structs_fine : AllByRecursion (λ (s : Filed StructDecl). IsFineList (length program) (fields_of_struct s)) (structs_of program)
    unfolding structs_of
    structs_fine =
        without_numbers (IsPicked struct_in (λ (n : Counts). n.structs) of_struct_decl structs_are IsFine) (λ (s : Filed StructDecl). IsFineList (length program) (fields_of_struct s))
        (λ k s h. fine_struct s h.0 h.1 h.3) 0 _ (files_picked struct_in (λ (n : Counts). n.structs) of_struct_decl structs_are IsFine 0 none_counted program all_fine)

    numbered_services : (n : ℕ) (ss : List (Filed ServiceDecl)) → AllFrom (IsPicked service_in (λ (n : Counts). n.services) of_service services_are IsFine) n ss → AllFrom IsFineService n ss
    numbered_services n [] h = tt
    numbered_services n (s ∷ ss) h = (subst (λ k. IsFineService k s) h.0.2 (fine_service s h.0.0 h.0.1 h.0.3), numbered_services (suc n) ss h.1)

    pub services_fine : AllFrom IsFineService 0 (services_of program)
    unfolding services_of
    services_fine = numbered_services 0 _ (files_picked service_in (λ (n : Counts). n.services) of_service services_are IsFine 0 none_counted program all_fine)

    args_fine_of : (file : ℕ) (fs : List FunctionDecl) → file < length program → AllByRecursion (IsFineFunction file) fs
        → AllByRecursion (λ (f : Filed FunctionDecl). IsFineList (length program) (args_of_function f)) (filed file fs)
    args_fine_of file [] within h = tt
    args_fine_of file (f ∷ fs) within h =
        (record { file = within; name = h.0.name; names = h.0.arguments; fresh = h.0.fresh }, args_fine_of file fs within h.1)

    args_fine : AllByRecursion (λ (f : Filed FunctionDecl). IsFineList (length program) (args_of_function f)) (all_functions program)
    unfolding all_functions
    args_fine =
        flat_all (λ (f : Filed FunctionDecl). IsFineList (length program) (args_of_function f)) functions_in (services_of program)
        (without_numbers IsFineService (λ (s : Filed ServiceDecl). AllByRecursion (λ (f : Filed FunctionDecl). IsFineList (length program) (args_of_function f)) (functions_in s))
        (λ k s is. args_fine_of s.file s.item.functions is.file is.functions) 0 (services_of program) services_fine)

    pub lists_fine : AllByRecursion (IsFineList (length program)) (field_lists program)
    unfolding field_lists
    lists_fine =
        both_all (IsFineList (length program)) (map fields_of_struct (structs_of program)) (map args_of_function (all_functions program))
        (mapped (IsFineList (length program)) fields_of_struct (structs_of program) structs_fine)
        (mapped (IsFineList (length program)) args_of_function (all_functions program) args_fine)
