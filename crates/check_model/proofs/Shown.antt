-- What holds at each spot of a program holds of the parts of its definitions.
use Rattle.std.proofs.Common.{ℕ, suc, List, [], ◌∷◌, ◌++◌, map}
use Rattle.std.specs.List.{AllByRecursion, filter_map}
use Rattle.idl_include.specs.Written.{Written}
use Rattle.idl_include.specs.TypeExpr.{TypeExpr}
use Rattle.idl_include.specs.Declarations.{FieldDecl, FunctionDecl, ConstDecl, TypedefDecl, StructDecl, ServiceDecl, Declaration, of_const, of_typedef, of_enum, of_struct_decl, of_service, declared_name}
use Rattle.idl_include.specs.Program.{SourceFile, Program}
use Rattle.idl_include.specs.Numbering.{Filed, filed, Counts, none_counted, counted, all_counted, picked_from, const_in, typedef_in, struct_in, service_in, constants_of, typedefs_of, structs_of, services_of}
use Rattle.idl_include.specs.Spots.{Spotted, typedef_spot, value_spot, Spot, type_spots, default_spots, spots_in_field, spots_in_fields, spots_in_throws, result_spots, spots_in_function, spots_in_functions, parent_spots, spots_in_declaration, spots_in_declarations, in_file, spots_from, spots_of}

pub front_all : {A : Type 0} (Q : A → Type 0) (xs ys : List A) → AllByRecursion Q (xs ++ ys) → AllByRecursion Q xs
front_all Q [] ys h = tt
front_all Q (x ∷ xs) ys h = (h.0, front_all Q xs ys h.1)

pub back_all : {A : Type 0} (Q : A → Type 0) (xs ys : List A) → AllByRecursion Q (xs ++ ys) → AllByRecursion Q ys
back_all Q [] ys h = h
back_all Q (x ∷ xs) ys h = back_all Q xs ys h.1

pub both_all : {A : Type 0} (Q : A → Type 0) (xs ys : List A) → AllByRecursion Q xs → AllByRecursion Q ys → AllByRecursion Q (xs ++ ys)
both_all Q [] ys h k = k
both_all Q (x ∷ xs) ys h k = (h.0, both_all Q xs ys h.1 k)

pub unmapped : {A B : Type 0} (Q : B → Type 0) (f : A → B) (xs : List A) → AllByRecursion Q (map f xs) → AllByRecursion (λ x. Q (f x)) xs
unmapped Q f [] h = tt
unmapped Q f (x ∷ xs) h = (h.0, unmapped Q f xs h.1)

pub mapped : {A B : Type 0} (Q : B → Type 0) (f : A → B) (xs : List A) → AllByRecursion (λ x. Q (f x)) xs → AllByRecursion Q (map f xs)
mapped Q f [] h = tt
mapped Q f (x ∷ xs) h = (h.0, mapped Q f xs h.1)

pub weaker : {A : Type 0} (Q R : A → Type 0) → ((x : A) → Q x → R x) → (xs : List A) → AllByRecursion Q xs → AllByRecursion R xs
weaker Q R by [] h = tt
weaker Q R by (x ∷ xs) h = (by x h.0, weaker Q R by xs h.1)

-- what holds of each element with its number, the first of which has this one
abbrev pub AllFrom : {A : Type 0} → (ℕ → A → Type 0) → ℕ → List A → Type 0
AllFrom Q n [] = Unit {0}
AllFrom Q n (x ∷ xs) = Q n x × AllFrom Q (suc n) xs

module _ (P : ℕ → Spotted → Type 0) where
  -- it holds of the types in a part, and of the values that it gives
  abbrev pub TypeShown : ℕ → TypeExpr → Type 0
  TypeShown file type = AllByRecursion (P file) (type_spots type)

  abbrev pub FieldShown : ℕ → FieldDecl → Type 0
  FieldShown file f = TypeShown file f.type × AllByRecursion (P file) (default_spots f f.default)

  abbrev pub FunctionShown : ℕ → FunctionDecl → Type 0
  FunctionShown file f =
      AllByRecursion (P file) (result_spots f.result) × AllByRecursion (FieldShown file) f.arguments × AllByRecursion (FieldShown file) f.throws

  abbrev pub ConstShown : Filed ConstDecl → Type 0
  ConstShown c =
      TypeShown c.file c.item.type × P c.file (value_spot (record { owner = c.item.name.at; type = c.item.type; tree = c.item.value }))

  abbrev pub TypedefShown : ℕ → Filed TypedefDecl → Type 0
  TypedefShown number t = TypeShown t.file t.item.type × P t.file (typedef_spot number t.item.name)

  abbrev pub StructShown : Filed StructDecl → Type 0
  StructShown s = AllByRecursion (FieldShown s.file) s.item.fields

  abbrev pub ServiceShown : Filed ServiceDecl → Type 0
  ServiceShown s = AllByRecursion (FunctionShown s.file) s.item.functions

  field_shown : (file : ℕ) (before : List FieldDecl) (f : FieldDecl) → AllByRecursion (P file) (spots_in_field before f) → FieldShown file f
  unfolding spots_in_field
  field_shown file before f h =
      (front_all (P file) (type_spots f.type) _ h.1, (back_all (P file) (type_spots f.type) _ h.1).1)

  fields_shown : (file : ℕ) (before fs : List FieldDecl) → AllByRecursion (P file) (spots_in_fields before fs) → AllByRecursion (FieldShown file) fs
  fields_shown file before [] h = tt
  fields_shown file before (f ∷ fs) h = (
    field_shown file before f (front_all (P file) (spots_in_field before f) _ h),
    fields_shown file (before ++ f ∷ []) fs (back_all (P file) (spots_in_field before f) _ h),
  )

  throws_shown : (file : ℕ) (before fs : List FieldDecl) → AllByRecursion (P file) (spots_in_throws before fs) → AllByRecursion (FieldShown file) fs
  throws_shown file before [] h = tt
  throws_shown file before (f ∷ fs) h = (
    field_shown file before f (front_all (P file) (spots_in_field before f) _ h.1),
    throws_shown file (before ++ f ∷ []) fs (back_all (P file) (spots_in_field before f) _ h.1),
  )

  function_shown : (file service : ℕ) (before : List FunctionDecl) (f : FunctionDecl) → AllByRecursion (P file) (spots_in_function service before f) → FunctionShown file f
  unfolding spots_in_function
  function_shown file service before f h =
      let rest = (back_all (P file) (result_spots f.result) _ h.1).1 in (
        front_all (P file) (result_spots f.result) _ h.1,
        fields_shown file [] f.arguments (front_all (P file) (spots_in_fields [] f.arguments) _ rest),
        throws_shown file [] f.throws (back_all (P file) (spots_in_fields [] f.arguments) _ rest),
      )

  functions_shown : (file service : ℕ) (before fs : List FunctionDecl) → AllByRecursion (P file) (spots_in_functions service before fs) → AllByRecursion (FunctionShown file) fs
  functions_shown file service before [] h = tt
  functions_shown file service before (f ∷ fs) h = (
    function_shown file service before f (front_all (P file) (spots_in_function service before f) _ h),
    functions_shown file service (before ++ f ∷ []) fs (back_all (P file) (spots_in_function service before f) _ h),
  )

  -- the definitions of one kind, of one file and of those behind it
  consts_of_file : (file : ℕ) (before : List Written) (n : Counts) (ds : List Declaration) (more : List (Filed ConstDecl)) → AllByRecursion (P file) (spots_in_declarations before n ds)
      → AllByRecursion ConstShown more → AllByRecursion ConstShown (filed file (filter_map const_in ds) ++ more)
  unfolding spots_in_declaration
  consts_of_file file before n [] more h k = k
  consts_of_file file before n (d ∷ ds) more h k = by d (front_all (P file) (spots_in_declaration before n d) _ h)
      (consts_of_file file (before ++ declared_name d ∷ []) (counted n d) ds more (back_all (P file) (spots_in_declaration before n d) _ h) k)
    where
      by : (d : Declaration) → AllByRecursion (P file) (spots_in_declaration before n d) → AllByRecursion ConstShown (filed file (filter_map const_in ds) ++ more)
          → AllByRecursion ConstShown (filed file (filter_map const_in (d ∷ ds)) ++ more)
      by (of_const c) g rest = ((front_all (P file) (type_spots c.type) _ g, (back_all (P file) (type_spots c.type) _ g).1.0), rest)
      by (of_typedef _) g rest = rest
      by (of_enum _) g rest = rest
      by (of_struct_decl _) g rest = rest
      by (of_service _) g rest = rest

  structs_of_file : (file : ℕ) (before : List Written) (n : Counts) (ds : List Declaration) (more : List (Filed StructDecl)) → AllByRecursion (P file) (spots_in_declarations before n ds)
      → AllByRecursion StructShown more → AllByRecursion StructShown (filed file (filter_map struct_in ds) ++ more)
  unfolding spots_in_declaration
  structs_of_file file before n [] more h k = k
  structs_of_file file before n (d ∷ ds) more h k = by d (front_all (P file) (spots_in_declaration before n d) _ h)
      (structs_of_file file (before ++ declared_name d ∷ []) (counted n d) ds more (back_all (P file) (spots_in_declaration before n d) _ h) k)
    where
      by : (d : Declaration) → AllByRecursion (P file) (spots_in_declaration before n d) → AllByRecursion StructShown (filed file (filter_map struct_in ds) ++ more)
          → AllByRecursion StructShown (filed file (filter_map struct_in (d ∷ ds)) ++ more)
      by (of_struct_decl s) g rest = (fields_shown file [] s.fields g.1.1, rest)
      by (of_typedef _) g rest = rest
      by (of_enum _) g rest = rest
      by (of_const _) g rest = rest
      by (of_service _) g rest = rest

  services_of_file : (file : ℕ) (before : List Written) (n : Counts) (ds : List Declaration) (more : List (Filed ServiceDecl)) → AllByRecursion (P file) (spots_in_declarations before n ds)
      → AllByRecursion ServiceShown more → AllByRecursion ServiceShown (filed file (filter_map service_in ds) ++ more)
  unfolding spots_in_declaration
  services_of_file file before n [] more h k = k
  services_of_file file before n (d ∷ ds) more h k = by d (front_all (P file) (spots_in_declaration before n d) _ h)
      (services_of_file file (before ++ declared_name d ∷ []) (counted n d) ds more (back_all (P file) (spots_in_declaration before n d) _ h) k)
    where
      by : (d : Declaration) → AllByRecursion (P file) (spots_in_declaration before n d) → AllByRecursion ServiceShown (filed file (filter_map service_in ds) ++ more)
          → AllByRecursion ServiceShown (filed file (filter_map service_in (d ∷ ds)) ++ more)
      by (of_service s) g rest = (functions_shown file n.services [] s.functions (back_all (P file) (parent_spots s.parent) _ g.1.1), rest)
      by (of_typedef _) g rest = rest
      by (of_enum _) g rest = rest
      by (of_const _) g rest = rest
      by (of_struct_decl _) g rest = rest

  typedefs_of_file : (file : ℕ) (before : List Written) (n : Counts) (ds : List Declaration) (more : List (Filed TypedefDecl)) → AllByRecursion (P file) (spots_in_declarations before n ds)
      → AllFrom TypedefShown (all_counted n ds).aliases more → AllFrom TypedefShown n.aliases (filed file (filter_map typedef_in ds) ++ more)
  unfolding spots_in_declaration
  typedefs_of_file file before n [] more h k = k
  typedefs_of_file file before n (d ∷ ds) more h k = by d (front_all (P file) (spots_in_declaration before n d) _ h)
      (typedefs_of_file file (before ++ declared_name d ∷ []) (counted n d) ds more (back_all (P file) (spots_in_declaration before n d) _ h) k)
    where
      by : (d : Declaration) → AllByRecursion (P file) (spots_in_declaration before n d) → AllFrom TypedefShown (counted n d).aliases (filed file (filter_map typedef_in ds) ++ more)
          → AllFrom TypedefShown n.aliases (filed file (filter_map typedef_in (d ∷ ds)) ++ more)
      by (of_typedef t) g rest = ((front_all (P file) (type_spots t.type) _ g, (back_all (P file) (type_spots t.type) _ g).1.0), rest)
      by (of_const _) g rest = rest
      by (of_enum _) g rest = rest
      by (of_struct_decl _) g rest = rest
      by (of_service _) g rest = rest

  -- the spots of one file
  own_spots : (file : ℕ) (shown : List Spotted) (more : List Spot) → AllByRecursion (λ (s : Spot). P s.file s.shows) (in_file file shown ++ more) → AllByRecursion (P file) shown
  own_spots file shown more h =
      unmapped (λ (s : Spot). P s.file s.shows) (λ x. record { file = file; shows = x }) shown (front_all (λ (s : Spot). P s.file s.shows) (in_file file shown) more h)

  module _ (file : ℕ) (n : Counts) (f : SourceFile) (fs : Program)
      (h : AllByRecursion (λ (s : Spot). P s.file s.shows) (spots_from file n (f ∷ fs))) where
    here : AllByRecursion (P file) (spots_in_declarations [] n f.declarations)
    here = own_spots file (spots_in_declarations [] n f.declarations) (spots_from (suc file) (all_counted n f.declarations) fs) h

    behind : AllByRecursion (λ (s : Spot). P s.file s.shows) (spots_from (suc file) (all_counted n f.declarations) fs)
    behind = back_all (λ (s : Spot). P s.file s.shows) (in_file file (spots_in_declarations [] n f.declarations)) (spots_from (suc file) (all_counted n f.declarations) fs) h

  consts_from : (file : ℕ) (n : Counts) (files : Program) → AllByRecursion (λ (s : Spot). P s.file s.shows) (spots_from file n files)
      → AllByRecursion ConstShown (picked_from const_in file files)
  consts_from file n [] h = tt
  consts_from file n (f ∷ fs) h =
      consts_of_file file [] n f.declarations (picked_from const_in (suc file) fs) (here file n f fs h)
      (consts_from (suc file) (all_counted n f.declarations) fs (behind file n f fs h))

  structs_from : (file : ℕ) (n : Counts) (files : Program) → AllByRecursion (λ (s : Spot). P s.file s.shows) (spots_from file n files)
      → AllByRecursion StructShown (picked_from struct_in file files)
  structs_from file n [] h = tt
  structs_from file n (f ∷ fs) h =
      structs_of_file file [] n f.declarations (picked_from struct_in (suc file) fs) (here file n f fs h)
      (structs_from (suc file) (all_counted n f.declarations) fs (behind file n f fs h))

  services_from : (file : ℕ) (n : Counts) (files : Program) → AllByRecursion (λ (s : Spot). P s.file s.shows) (spots_from file n files)
      → AllByRecursion ServiceShown (picked_from service_in file files)
  services_from file n [] h = tt
  services_from file n (f ∷ fs) h =
      services_of_file file [] n f.declarations (picked_from service_in (suc file) fs) (here file n f fs h)
      (services_from (suc file) (all_counted n f.declarations) fs (behind file n f fs h))

  typedefs_from : (file : ℕ) (n : Counts) (files : Program) → AllByRecursion (λ (s : Spot). P s.file s.shows) (spots_from file n files)
      → AllFrom TypedefShown n.aliases (picked_from typedef_in file files)
  typedefs_from file n [] h = tt
  typedefs_from file n (f ∷ fs) h =
      typedefs_of_file file [] n f.declarations (picked_from typedef_in (suc file) fs) (here file n f fs h)
      (typedefs_from (suc file) (all_counted n f.declarations) fs (behind file n f fs h))

  module _ (program : Program) (h : AllByRecursion (λ (s : Spot). P s.file s.shows) (spots_of program)) where
    pub consts_shown : AllByRecursion ConstShown (constants_of program)
    unfolding spots_of constants_of
    consts_shown = consts_from 0 none_counted program h

    pub structs_shown : AllByRecursion StructShown (structs_of program)
    unfolding spots_of structs_of
    structs_shown = structs_from 0 none_counted program h

    pub services_shown : AllByRecursion ServiceShown (services_of program)
    unfolding spots_of services_of
    services_shown = services_from 0 none_counted program h

    pub typedefs_shown : AllFrom TypedefShown 0 (typedefs_of program)
    unfolding spots_of typedefs_of
    typedefs_shown = typedefs_from 0 none_counted program h
