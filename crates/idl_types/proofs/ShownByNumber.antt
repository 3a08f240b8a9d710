-- Along the spots of a program definitions of a kind come by number, each once.
use Rattle.std.proofs.Common.{◌≡◌, ◌+◌, ◌++◌, ℕ, zero, suc, List, [], ◌∷◌, map, length, Option, None, Some, refl, ap, sym, ◌∙◌, arith, add-one, length-append}
use Rattle.std.specs.List.{filter_map, cons_option, range_with_len}
use Rattle.std.proofs.lemmas.List.Elements.{filter_map-append}
use Rattle.idl_include.specs.Written.{Written}
use Rattle.idl_include.specs.TypeExpr.{TypeExpr, names_in_type}
use Rattle.idl_include.specs.ConstExpr.{ConstExpr}
use Rattle.idl_include.specs.Declarations.{FieldDecl, FunctionDecl, EnumValueDecl, StructDecl, Declaration, of_const, of_typedef, of_enum, of_struct_decl, of_service, declared_name}
use Rattle.idl_include.specs.Program.{Program}
use Rattle.idl_include.specs.Numbering.{Counts, none_counted, counted, all_counted, filed, picked_from, typedef_in, struct_in, service_in, typedefs_of, structs_of, services_of}
use Rattle.idl_include.specs.Spots.{GivenValue, Spotted, given_name, type_use, parent_use, typedef_spot, field_spot, thrown_spot, enum_value_spot, struct_spot, service_spot, function_spot, value_spot, Spot, type_spots, default_spots, spots_in_field, spots_in_fields, spots_in_throws, result_spots, spots_in_function, spots_in_functions, spots_in_enum, parent_spots, spots_in_declaration, spots_in_declarations, in_file, spots_from, spots_of}
use Rattle.idl_types.specs.SpotNumbers.{typedef_shown, struct_shown, service_shown, numbers_shown}

-- no number is shown at what is no definition
record IsQuiet (shown : Spotted → Option ℕ) : Type 0 where
  names : (before : List Written) (name : Written) → shown (given_name before name) ≡ None
  types : (name : Written) → shown (type_use name) ≡ None
  parents : (name : Written) → shown (parent_use name) ≡ None
  fields : (before : List FieldDecl) (f : FieldDecl) → shown (field_spot before f) ≡ None
  thrown : (f : FieldDecl) → shown (thrown_spot f) ≡ None
  numbers : (before : List EnumValueDecl) (v : EnumValueDecl) → shown (enum_value_spot before v) ≡ None
  functions : (service : ℕ) (before : List FunctionDecl) (f : FunctionDecl) → shown (function_spot service before f) ≡ None
  values : (v : GivenValue) → shown (value_spot v) ≡ None

module _ (shown : Spotted → Option ℕ) where
  before_quiet : (x : Spotted) (xs : List Spotted) → shown x ≡ None → filter_map shown (x ∷ xs) ≡ filter_map shown xs
  before_quiet x xs e = ap (λ (o : Option ℕ). cons_option o (filter_map shown xs)) e

  all_quiet : (xs ys : List Spotted) → filter_map shown xs ≡ [] → filter_map shown (xs ++ ys) ≡ filter_map shown ys
  all_quiet xs ys e = filter_map-append shown xs ys ∙ ap (λ (ns : List ℕ). ns ++ filter_map shown ys) e

module _ (shown : Spotted → Option ℕ) (quiet : IsQuiet shown) where
  quiet_uses : (names : List Written) → filter_map shown (map type_use names) ≡ []
  quiet_uses [] = refl
  quiet_uses (name ∷ names) = before_quiet shown (type_use name) (map type_use names) (quiet.types name) ∙ quiet_uses names

  quiet_type : (type : TypeExpr) → filter_map shown (type_spots type) ≡ []
  quiet_type type = quiet_uses (names_in_type type)

  quiet_default : (f : FieldDecl) (o : Option ConstExpr) → filter_map shown (default_spots f o) ≡ []
  quiet_default f None = refl
  quiet_default f (Some tree) = before_quiet shown (value_spot (record { owner = f.at; type = f.type; tree = tree })) [] (quiet.values (record { owner = f.at; type = f.type; tree = tree }))

  quiet_field : (before : List FieldDecl) (f : FieldDecl) → filter_map shown (spots_in_field before f) ≡ []
  unfolding spots_in_field
  quiet_field before f =
      let named : List Written = map (λ (g : FieldDecl). g.name) before in
      let rest : List Spotted = default_spots f f.default in
      before_quiet shown (field_spot before f) (type_spots f.type ++ given_name named f.name ∷ rest) (quiet.fields before f)
      ∙ all_quiet shown (type_spots f.type) (given_name named f.name ∷ rest) (quiet_type f.type)
      ∙ before_quiet shown (given_name named f.name) rest (quiet.names named f.name)
      ∙ quiet_default f f.default

  quiet_fields : (before fields : List FieldDecl) → filter_map shown (spots_in_fields before fields) ≡ []
  quiet_fields before [] = refl
  quiet_fields before (f ∷ more) =
      all_quiet shown (spots_in_field before f) (spots_in_fields (before ++ f ∷ []) more) (quiet_field before f) ∙ quiet_fields (before ++ f ∷ []) more

  quiet_throws : (before fields : List FieldDecl) → filter_map shown (spots_in_throws before fields) ≡ []
  quiet_throws before [] = refl
  quiet_throws before (f ∷ more) =
      let rest : List Spotted = spots_in_throws (before ++ f ∷ []) more in
      before_quiet shown (thrown_spot f) (spots_in_field before f ++ rest) (quiet.thrown f)
      ∙ all_quiet shown (spots_in_field before f) rest (quiet_field before f)
      ∙ quiet_throws (before ++ f ∷ []) more

  quiet_result : (o : Option TypeExpr) → filter_map shown (result_spots o) ≡ []
  quiet_result None = refl
  quiet_result (Some type) = quiet_type type

  quiet_function : (service : ℕ) (before : List FunctionDecl) (f : FunctionDecl) → filter_map shown (spots_in_function service before f) ≡ []
  unfolding spots_in_function
  quiet_function service before f =
      let rest : List Spotted = spots_in_fields [] f.arguments ++ spots_in_throws [] f.throws in
      before_quiet shown (function_spot service before f) (result_spots f.result ++ given_name [] f.name ∷ rest) (quiet.functions service before f)
      ∙ all_quiet shown (result_spots f.result) (given_name [] f.name ∷ rest) (quiet_result f.result)
      ∙ before_quiet shown (given_name [] f.name) rest (quiet.names [] f.name)
      ∙ all_quiet shown (spots_in_fields [] f.arguments) (spots_in_throws [] f.throws) (quiet_fields [] f.arguments)
      ∙ quiet_throws [] f.throws

  quiet_functions : (service : ℕ) (before functions : List FunctionDecl) → filter_map shown (spots_in_functions service before functions) ≡ []
  quiet_functions service before [] = refl
  quiet_functions service before (f ∷ more) =
      all_quiet shown (spots_in_function service before f) (spots_in_functions service (before ++ f ∷ []) more) (quiet_function service before f)
      ∙ quiet_functions service (before ++ f ∷ []) more

  quiet_enum : (before values : List EnumValueDecl) → filter_map shown (spots_in_enum before values) ≡ []
  quiet_enum before [] = refl
  quiet_enum before (v ∷ more) =
      let named : List Written = map (λ (o : EnumValueDecl). o.name) before in
      let rest : List Spotted = spots_in_enum (before ++ v ∷ []) more in
      before_quiet shown (enum_value_spot before v) (given_name named v.name ∷ rest) (quiet.numbers before v)
      ∙ before_quiet shown (given_name named v.name) rest (quiet.names named v.name)
      ∙ quiet_enum (before ++ v ∷ []) more

  quiet_parent : (o : Option Written) → filter_map shown (parent_spots o) ≡ []
  quiet_parent None = refl
  quiet_parent (Some name) = before_quiet shown (parent_use name) [] (quiet.parents name)

  -- what is left of each kind of definition
  of_a_const : (before : List Written) (type : TypeExpr) (name : Written) (v : GivenValue) → filter_map shown (type_spots type ++ given_name before name ∷ value_spot v ∷ []) ≡ []
  of_a_const before type name v =
      all_quiet shown (type_spots type) (given_name before name ∷ value_spot v ∷ []) (quiet_type type)
      ∙ before_quiet shown (given_name before name) (value_spot v ∷ []) (quiet.names before name)
      ∙ before_quiet shown (value_spot v) [] (quiet.values v)

  of_a_typedef : (before : List Written) (type : TypeExpr) (name : Written) (number : ℕ)
      → filter_map shown (type_spots type ++ given_name before name ∷ typedef_spot number name ∷ []) ≡ cons_option (shown (typedef_spot number name)) []
  of_a_typedef before type name number =
      all_quiet shown (type_spots type) (given_name before name ∷ typedef_spot number name ∷ []) (quiet_type type)
      ∙ before_quiet shown (given_name before name) (typedef_spot number name ∷ []) (quiet.names before name)

  of_an_enum : (before : List Written) (name : Written) (values : List EnumValueDecl) → filter_map shown (given_name before name ∷ spots_in_enum [] values) ≡ []
  of_an_enum before name values = before_quiet shown (given_name before name) (spots_in_enum [] values) (quiet.names before name) ∙ quiet_enum [] values

  of_a_struct : (before : List Written) (number : ℕ) (s : StructDecl)
      → filter_map shown (given_name before s.name ∷ struct_spot number s ∷ spots_in_fields [] s.fields) ≡ cons_option (shown (struct_spot number s)) []
  of_a_struct before number s =
      before_quiet shown (given_name before s.name) (struct_spot number s ∷ spots_in_fields [] s.fields) (quiet.names before s.name)
      ∙ ap (λ (ns : List ℕ). cons_option (shown (struct_spot number s)) ns) (quiet_fields [] s.fields)

  of_a_service : (before : List Written) (number : ℕ) (name : Written) (parent : Option Written) (functions : List FunctionDecl)
      → filter_map shown (given_name before name ∷ service_spot number name ∷ (parent_spots parent ++ spots_in_functions number [] functions))
      ≡ cons_option (shown (service_spot number name)) []
  of_a_service before number name parent functions =
      let rest : List Spotted = parent_spots parent ++ spots_in_functions number [] functions in
      before_quiet shown (given_name before name) (service_spot number name ∷ rest) (quiet.names before name)
      ∙ ap (λ (ns : List ℕ). cons_option (shown (service_spot number name)) ns)
      (all_quiet shown (parent_spots parent) (spots_in_functions number [] functions) (quiet_parent parent) ∙ quiet_functions number [] functions)

-- ---- one kind of definition

-- the number that is shown of one, if it is there, and the number behind it
abbrev own : {A : Type 0} → Option A → ℕ → List ℕ
own None k = []
own (Some x) k = k ∷ []

abbrev behind : {A : Type 0} → Option A → ℕ → ℕ
behind None k = k
behind (Some x) k = suc k

ranged_more : {A : Type 0} (o : Option A) (k m : ℕ) (xs : List A) → m ≡ behind o k → own o k ++ range_with_len m (length xs) ≡ range_with_len k (length (cons_option o xs))
ranged_more None k m xs e = ap (λ a. range_with_len a (length xs)) e
ranged_more (Some x) k m xs e = ap (λ a. k ∷ range_with_len a (length xs)) (e ∙ sym (add-one k))

counted_more : {A : Type 0} (o : Option A) (k m : ℕ) (xs : List A) → m ≡ behind o k → m + length xs ≡ k + length (cons_option o xs)
counted_more None k m xs e = ap (λ a. a + length xs) e
counted_more (Some x) k m xs e = let n = length xs in omega (arith, e)

range_both : (a m k : ℕ) → range_with_len a m ++ range_with_len (a + m) k ≡ range_with_len a (m + k)
range_both a zero k = λ i. range_with_len (let e : a + 0 ≡ a = omega arith in e i) (let f : k ≡ 0 + k = omega arith in f i)
range_both a (suc m) k =
    let e : a + suc m ≡ (a + 1) + m = omega arith in
    let f : suc (m + k) ≡ suc m + k = omega arith in
    ap (λ n. a ∷ (range_with_len (a + 1) m ++ range_with_len n k)) e
    ∙ ap (λ ns. a ∷ ns) (range_both (a + 1) m k)
    ∙ ap (range_with_len a) f

length_filed : {A : Type 0} (number : ℕ) (items : List A) → length (filed number items) ≡ length items
length_filed number [] = refl
length_filed number (x ∷ items) = ap suc (length_filed number items)

shown_in_file : (shown : Spotted → Option ℕ) (number : ℕ) (xs : List Spotted) → numbers_shown shown (in_file number xs) ≡ filter_map shown xs
shown_in_file shown number [] = refl
shown_in_file shown number (x ∷ xs) = ap (cons_option (shown x)) (shown_in_file shown number xs)

module _ {A : Type 0} (shown : Spotted → Option ℕ) (kind : Declaration → Option A) (part : Counts → ℕ)
    (made : (before : List Written) (n : Counts) (d : Declaration) → filter_map shown (spots_in_declaration before n d) ≡ own (kind d) (part n))
    (next : (n : Counts) (d : Declaration) → part (counted n d) ≡ behind (kind d) (part n)) where
  of_declarations : (before : List Written) (n : Counts) (ds : List Declaration)
      → filter_map shown (spots_in_declarations before n ds) ≡ range_with_len (part n) (length (filter_map kind ds))
  of_declarations before n [] = refl
  of_declarations before n (d ∷ ds) =
      let rest : List Spotted = spots_in_declarations (before ++ declared_name d ∷ []) (counted n d) ds in
      filter_map-append shown (spots_in_declaration before n d) rest
      ∙ (λ i. made before n d i ++ of_declarations (before ++ declared_name d ∷ []) (counted n d) ds i)
      ∙ ranged_more (kind d) (part n) (part (counted n d)) (filter_map kind ds) (next n d)

  counts_of : (n : Counts) (ds : List Declaration) → part (all_counted n ds) ≡ part n + length (filter_map kind ds)
  counts_of n [] = let k = part n in let e : k ≡ k + 0 = omega arith in e
  counts_of n (d ∷ ds) = counts_of (counted n d) ds ∙ counted_more (kind d) (part n) (part (counted n d)) (filter_map kind ds) (next n d)

  of_files : (number : ℕ) (n : Counts) (files : Program)
      → numbers_shown shown (spots_from number n files) ≡ range_with_len (part n) (length (picked_from kind number files))
  of_files number n [] = refl
  of_files number n (f ∷ files) =
      let ds = f.declarations in
      let own_spots : List Spot = in_file number (spots_in_declarations [] n ds) in
      let k = length (filter_map kind ds) in
      let more = length (picked_from kind (suc number) files) in
      filter_map-append (λ (s : Spot). shown s.shows) own_spots (spots_from (suc number) (all_counted n ds) files)
      ∙ (λ i. (shown_in_file shown number (spots_in_declarations [] n ds) ∙ of_declarations [] n ds) i ++ of_files (suc number) (all_counted n ds) files i)
      ∙ ap (λ a. range_with_len (part n) k ++ range_with_len a more) (counts_of n ds)
      ∙ range_both (part n) k more
      ∙ ap (range_with_len (part n))
      (sym (length-append (filed number (filter_map kind ds)) (picked_from kind (suc number) files) ∙ ap (λ a. a + more) (length_filed number (filter_map kind ds))))

-- ---- the three kinds

typedefs_quiet : IsQuiet typedef_shown
typedefs_quiet = record {
  names = λ _ _. refl;
  types = λ _. refl;
  parents = λ _. refl;
  fields = λ _ _. refl;
  thrown = λ _. refl;
  numbers = λ _ _. refl;
  functions = λ _ _ _. refl;
  values = λ _. refl;
}

structs_quiet : IsQuiet struct_shown
structs_quiet = record {
  names = λ _ _. refl;
  types = λ _. refl;
  parents = λ _. refl;
  fields = λ _ _. refl;
  thrown = λ _. refl;
  numbers = λ _ _. refl;
  functions = λ _ _ _. refl;
  values = λ _. refl;
}

services_quiet : IsQuiet service_shown
services_quiet = record {
  names = λ _ _. refl;
  types = λ _. refl;
  parents = λ _. refl;
  fields = λ _ _. refl;
  thrown = λ _. refl;
  numbers = λ _ _. refl;
  functions = λ _ _ _. refl;
  values = λ _. refl;
}

typedefs_made : (before : List Written) (n : Counts) (d : Declaration) → filter_map typedef_shown (spots_in_declaration before n d) ≡ own (typedef_in d) n.aliases
unfolding spots_in_declaration
typedefs_made before n (of_const c) = of_a_const typedef_shown typedefs_quiet before c.type c.name (record { owner = c.name.at; type = c.type; tree = c.value })
typedefs_made before n (of_typedef t) = of_a_typedef typedef_shown typedefs_quiet before t.type t.name n.aliases
typedefs_made before n (of_enum e) = of_an_enum typedef_shown typedefs_quiet before e.name e.values
typedefs_made before n (of_struct_decl s) = of_a_struct typedef_shown typedefs_quiet before n.structs s
typedefs_made before n (of_service s) = of_a_service typedef_shown typedefs_quiet before n.services s.name s.parent s.functions

structs_made : (before : List Written) (n : Counts) (d : Declaration) → filter_map struct_shown (spots_in_declaration before n d) ≡ own (struct_in d) n.structs
unfolding spots_in_declaration
structs_made before n (of_const c) = of_a_const struct_shown structs_quiet before c.type c.name (record { owner = c.name.at; type = c.type; tree = c.value })
structs_made before n (of_typedef t) = of_a_typedef struct_shown structs_quiet before t.type t.name n.aliases
structs_made before n (of_enum e) = of_an_enum struct_shown structs_quiet before e.name e.values
structs_made before n (of_struct_decl s) = of_a_struct struct_shown structs_quiet before n.structs s
structs_made before n (of_service s) = of_a_service struct_shown structs_quiet before n.services s.name s.parent s.functions

services_made : (before : List Written) (n : Counts) (d : Declaration) → filter_map service_shown (spots_in_declaration before n d) ≡ own (service_in d) n.services
unfolding spots_in_declaration
services_made before n (of_const c) = of_a_const service_shown services_quiet before c.type c.name (record { owner = c.name.at; type = c.type; tree = c.value })
services_made before n (of_typedef t) = of_a_typedef service_shown services_quiet before t.type t.name n.aliases
services_made before n (of_enum e) = of_an_enum service_shown services_quiet before e.name e.values
services_made before n (of_struct_decl s) = of_a_struct service_shown services_quiet before n.structs s
services_made before n (of_service s) = of_a_service service_shown services_quiet before n.services s.name s.parent s.functions

typedefs_next : (n : Counts) (d : Declaration) → (counted n d).aliases ≡ behind (typedef_in d) n.aliases
typedefs_next n (of_const c) = refl
typedefs_next n (of_typedef t) = refl
typedefs_next n (of_enum e) = refl
typedefs_next n (of_struct_decl s) = refl
typedefs_next n (of_service s) = refl

structs_next : (n : Counts) (d : Declaration) → (counted n d).structs ≡ behind (struct_in d) n.structs
structs_next n (of_const c) = refl
structs_next n (of_typedef t) = refl
structs_next n (of_enum e) = refl
structs_next n (of_struct_decl s) = refl
structs_next n (of_service s) = refl

services_next : (n : Counts) (d : Declaration) → (counted n d).services ≡ behind (service_in d) n.services
services_next n (of_const c) = refl
services_next n (of_typedef t) = refl
services_next n (of_enum e) = refl
services_next n (of_struct_decl s) = refl
services_next n (of_service s) = refl

pub typedefs_by_number : (program : Program) → numbers_shown typedef_shown (spots_of program) ≡ range_with_len 0 (length (typedefs_of program))
unfolding spots_of typedefs_of
typedefs_by_number program = of_files typedef_shown typedef_in (λ (n : Counts). n.aliases) typedefs_made typedefs_next 0 none_counted program

pub structs_by_number : (program : Program) → numbers_shown struct_shown (spots_of program) ≡ range_with_len 0 (length (structs_of program))
unfolding spots_of structs_of
structs_by_number program = of_files struct_shown struct_in (λ (n : Counts). n.structs) structs_made structs_next 0 none_counted program

pub services_by_number : (program : Program) → numbers_shown service_shown (spots_of program) ≡ range_with_len 0 (length (services_of program))
unfolding spots_of services_of
services_by_number program = of_files service_shown service_in (λ (n : Counts). n.services) services_made services_next 0 none_counted program
