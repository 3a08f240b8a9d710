-- Spots, one item more at a time.
use Rattle.std.proofs.Common.{◌≡◌, ◌≤◌, ◌<◌, ◌+◌, ◌++◌, ℕ, zero, suc, List, [], ◌∷◌, map, length, get_or, take, drop, refl, ap, sym, ◌∙◌, arith, append_assoc, add-one}
use Rattle.std.proofs.lemmas.List.{append-nil, map-append}
use Rattle.idl_parser.specs.declared.tree.Function.{Function}
use Rattle.idl_parser.specs.declared.tree.EnumValue.{EnumValue}
use Rattle.idl_parser.specs.declared.tree.Definition.{Definition}
use Rattle.idl_include.specs.Written.{Written}
use Rattle.idl_include.specs.Declarations.{FunctionDecl, EnumValueDecl, Declaration, declared_name}
use Rattle.idl_include.specs.DeclaredIn.{function_in, enum_value_in, definition_in, definitions_in}
use Rattle.idl_include.specs.Numbering.{Counts, none_counted, counted, all_counted}
use Rattle.idl_include.specs.Spots.{Spotted, Spot, in_file, enum_value_spot, given_name, function_spot, spots_in_enum, spots_in_function, spots_in_functions, spots_in_declaration, spots_in_declarations, spots_from, spots_of}
use Rattle.idl_include.specs.declared.sources.IdlFile.{IdlFile}
use Rattle.idl_include.specs.SourcesOf.{program_in}
use Rattle.idl_names.specs.Functions.{inside_function}
use Rattle.idl_names.proofs.Listed.{past_end}
use Rattle.idl_names.proofs.Marked.{left_more, taken_more}
use Rattle.idl_names.proofs.Walked.{walk_next, prefix_next, in_file_append}

-- what stands at a place
item_at : {A : Type 0} (xs : List A) (i : ℕ) → i < length xs → (x : A) × (x ≡ get_or xs i x)
item_at [] i l = absurd (omega arith)
item_at (x ∷ xs) zero l = (x, refl)
item_at (x ∷ xs) (suc i) l = item_at xs i (omega arith)

one_then : (file : ℕ) (old mid new : List Spot) (s a : Spotted) (rest : List Spotted) → mid ≡ old ++ in_file file (s ∷ []) → new ≡ mid ++ in_file file rest
    → s ≡ a → new ≡ old ++ in_file file (a ∷ rest)
one_then file old mid new s a rest first second e =
    second
    ∙ ap (λ m. m ++ in_file file rest) first
    ∙ append_assoc old (in_file file (s ∷ [])) (in_file file rest)
    ∙ ap (λ x. old ++ in_file file (x ∷ rest)) e

pub value_next : (file : ℕ) (values : List EnumValue) (i : ℕ) (s t : Spotted) (old mid new all : List Spot) → i < length values
    → ((v : EnumValue) → s ≡ enum_value_spot (map enum_value_in (take i values)) (enum_value_in (get_or values i v)))
    → ((v : EnumValue) → t ≡ given_name (map (λ (e : EnumValueDecl). e.name) (map enum_value_in (take i values))) (enum_value_in (get_or values i v)).name)
    → mid ≡ old ++ in_file file (s ∷ []) → new ≡ mid ++ in_file file (t ∷ [])
    → old ++ in_file file (spots_in_enum (map enum_value_in (take i values)) (map enum_value_in (drop i values))) ≡ all
    → new ++ in_file file (spots_in_enum (map enum_value_in (take (i + 1) values)) (map enum_value_in (drop (i + 1) values))) ≡ all
value_next file values i s t old mid new all l says names first second so_far =
    let x = item_at values i l in
    let before : List EnumValueDecl = map enum_value_in (take i values) in
    let named : List Written = map (λ (e : EnumValueDecl). e.name) before in
    let v : EnumValue = x.0 in
    let is : get_or values i v ≡ v = sym x.1 in
    prefix_next spots_in_enum (λ b (e : EnumValueDecl). enum_value_spot b e ∷ given_name (map (λ (o : EnumValueDecl). o.name) b) e.name ∷ []) (λ _ _ _. refl)
    enum_value_in file values i v old new all l x.1
    (one_then file old mid new s (enum_value_spot before (enum_value_in v)) (given_name named (enum_value_in v).name ∷ []) first
    (second ∙ ap (λ (y : Spotted). mid ++ in_file file (y ∷ [])) (names v ∙ ap (λ (u : EnumValue). given_name named (enum_value_in u).name) is))
    (says v ∙ ap (λ (u : EnumValue). enum_value_spot before (enum_value_in u)) is))
    so_far

pub function_next : (file service : ℕ) (functions : List Function) (i : ℕ) (s : Spotted) (x : Function) (old mid new all : List Spot) → i < length functions
    → x ≡ get_or functions i x
    → ((f : Function) → s ≡ function_spot service (map function_in (take i functions)) (function_in (get_or functions i f)))
    → mid ≡ old ++ in_file file (s ∷ []) → new ≡ mid ++ in_file file (inside_function (function_in x))
    → old ++ in_file file (spots_in_functions service (map function_in (take i functions)) (map function_in (drop i functions))) ≡ all
    → new ++ in_file file (spots_in_functions service (map function_in (take (i + 1) functions)) (map function_in (drop (i + 1) functions))) ≡ all
unfolding spots_in_function
function_next file service functions i s x old mid new all l here says first second so_far =
    let before : List FunctionDecl = map function_in (take i functions) in
    prefix_next (spots_in_functions service) (spots_in_function service) (λ _ _ _. refl) function_in file functions i x old new all l here
    (one_then file old mid new s (function_spot service before (function_in x)) (inside_function (function_in x)) first second
    (says x ∙ ap (λ (u : Function). function_spot service before (function_in u)) (sym here)))
    so_far

-- ---- definitions

-- names that were given, and how many definitions of each kind there were
record Met : Type 0 where
  names : List Written
  counts : Counts

next_met : Met → Declaration → Met
next_met m d = record { names = m.names ++ declared_name d ∷ []; counts = counted m.counts d }

-- the names of definitions
abbrev pub names_given : List Definition → List Written
names_given ds = map (λ (d : Definition). declared_name (definition_in d)) ds

pub definition_next : (file : ℕ) (ds : List Definition) (i : ℕ) (x : Definition) (n m : Counts) (names : List Written) (old new all : List Spot) → i < length ds → x ≡ get_or ds i x
    → names ≡ names_given (take i ds) → m ≡ counted n (definition_in x) → new ≡ old ++ in_file file (spots_in_declaration names n (definition_in x))
    → old ++ in_file file (spots_in_declarations (names_given (take i ds)) n (map definition_in (drop i ds))) ≡ all
    → new ++ in_file file (spots_in_declarations (names_given (take (i + 1) ds)) m (map definition_in (drop (i + 1) ds))) ≡ all
unfolding next_met
definition_next file ds i x n m names old new all l here e f made so_far =
    let longer : names_given (take (i + 1) ds) ≡ names_given (take i ds) ++ declared_name (definition_in x) ∷ [] =
    ap names_given (taken_more ds i x l here) ∙ map-append (λ (d : Definition). declared_name (definition_in d)) (take i ds) (x ∷ []) in
    let before : Met = record { names = names_given (take i ds); counts = n } in
    let after : Met = record { names = names_given (take (i + 1) ds); counts = m } in
    walk_next (λ (s : Met) left. in_file file (spots_in_declarations s.names s.counts left)) (λ (s : Met) d. in_file file (spots_in_declaration s.names s.counts d)) next_met
    (λ s d more. in_file_append file (spots_in_declaration s.names s.counts d) (spots_in_declarations (s.names ++ declared_name d ∷ []) (counted s.counts d) more))
    definition_in ds i x before after old new all l here
    (λ j. record { names = longer j; counts = f j })
    (made ∙ ap (λ ns. old ++ in_file file (spots_in_declaration ns n (definition_in x))) e) so_far

pub counts_next : (ds : List Definition) (i : ℕ) (x : Definition) (n m all : Counts) → i < length ds → x ≡ get_or ds i x → m ≡ counted n (definition_in x)
    → all_counted n (map definition_in (drop i ds)) ≡ all → all_counted m (map definition_in (drop (i + 1) ds)) ≡ all
counts_next ds i x n m all l here f so_far =
    ap (λ (k : Counts). all_counted k (map definition_in (drop (i + 1) ds))) f
    ∙ ap (λ (r : List Definition). all_counted n (map definition_in r)) (sym (left_more ds i x l here))
    ∙ so_far

pub definitions_end : (file : ℕ) (ds : List Definition) (i : ℕ) (names : List Written) (n : Counts) (xs all : List Spot) → length ds ≤ i
    → xs ++ in_file file (spots_in_declarations names n (map definition_in (drop i ds))) ≡ all → xs ≡ all
definitions_end file ds i names n xs all past so_far =
    sym (append-nil xs)
    ∙ sym (ap (λ (r : List Definition). xs ++ in_file file (spots_in_declarations names n (map definition_in r))) (past_end ds i past))
    ∙ so_far

pub counts_end : (ds : List Definition) (i : ℕ) (n all : Counts) → length ds ≤ i → all_counted n (map definition_in (drop i ds)) ≡ all → n ≡ all
counts_end ds i n all past so_far = sym (ap (λ (r : List Definition). all_counted n (map definition_in r)) (past_end ds i past)) ∙ so_far

-- ---- files

pub file_next : (files : List IdlFile) (i number : ℕ) (x : IdlFile) (n m : Counts) (old new all : List Spot) → i < length files → x ≡ get_or files i x → number ≡ i
    → new ≡ old ++ in_file number (spots_in_declarations [] n (map definition_in x.document.definitions.items))
    → m ≡ all_counted n (map definition_in x.document.definitions.items)
    → old ++ spots_from i n (program_in (drop i files)) ≡ all → new ++ spots_from (i + 1) m (program_in (drop (i + 1) files)) ≡ all
unfolding definitions_in
file_next files i number x n m old new all l here counted_to made counts so_far =
    let own : List Spot = in_file i (spots_in_declarations [] n (map definition_in x.document.definitions.items)) in
    let rest : List Spot = spots_from (suc i) (all_counted n (map definition_in x.document.definitions.items)) (program_in (drop (i + 1) files)) in
    (λ j. (made ∙ ap (λ k. old ++ in_file k (spots_in_declarations [] n (map definition_in x.document.definitions.items))) counted_to) j
    ++ spots_from (add-one i j) (counts j) (program_in (drop (i + 1) files)))
    ∙ append_assoc old own rest
    ∙ sym (ap (λ (fs : List IdlFile). old ++ spots_from i n (program_in fs)) (left_more files i x l here))
    ∙ so_far

pub files_end : (files : List IdlFile) (i : ℕ) (n : Counts) (xs : List Spot) → length files ≤ i
    → xs ++ spots_from i n (program_in (drop i files)) ≡ spots_from 0 none_counted (program_in files) → xs ≡ spots_of (program_in files)
unfolding spots_of
files_end files i n xs past so_far =
    sym (append-nil xs) ∙ sym (ap (λ (fs : List IdlFile). xs ++ spots_from i n (program_in fs)) (past_end files i past)) ∙ so_far
