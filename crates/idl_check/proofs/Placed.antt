-- What holds of each definition of a program where it stands: its file, the names before it in the file, the counts before it.
use Rattle.std.proofs.Common.{◌≡◌, ℕ, suc, ◌+◌, ◌<◌, ◌≤◌, List, [], ◌∷◌, ◌++◌, length, Option, None, Some, slice_get, refl, sym, subst, ◌∙◌, append_assoc, length-append, arith}
use Rattle.std.specs.List.{AllByRecursion, filter_map, cons_option}
use Rattle.idl_include.specs.Written.{Written}
use Rattle.idl_include.specs.Declarations.{Declaration, of_const, of_typedef, of_enum, of_struct_decl, of_service, declared_name}
use Rattle.idl_include.specs.Program.{SourceFile, Program}
use Rattle.idl_include.specs.Numbering.{Filed, filed, Counts, none_counted, counted, all_counted, picked_from, const_in, typedef_in, enum_in, struct_in, service_in}
use Rattle.idl_include.specs.Spots.{Spotted, Spot, spots_in_declaration, spots_in_declarations, in_file, spots_from, spots_of}
use Rattle.check_model.proofs.Shown.{front_all, back_all, unmapped, AllFrom}

-- a fact of a definition: of its file, the names before it, the counts before it, and itself
abbrev pub DeclRule : Type 1
DeclRule = ℕ → List Written → Counts → Declaration → Type 0

-- it holds of each of some definitions in a row, and of each definition of some files in a row
abbrev pub DeclsIn : DeclRule → ℕ → List Written → Counts → List Declaration → Type 0
DeclsIn D file before n [] = Unit {0}
DeclsIn D file before n (d ∷ ds) = D file before n d × DeclsIn D file (before ++ declared_name d ∷ []) (counted n d) ds

abbrev pub FilesIn : DeclRule → ℕ → Counts → Program → Type 0
FilesIn D file n [] = Unit {0}
FilesIn D file n (f ∷ fs) = DeclsIn D file [] n f.declarations × FilesIn D (suc file) (all_counted n f.declarations) fs

-- of two facts a third one follows
module _ (D E F : DeclRule) (by : (file : ℕ) (before : List Written) (n : Counts) (d : Declaration) → D file before n d → E file before n d → F file before n d) where
  decls_both : (file : ℕ) (before : List Written) (n : Counts) (ds : List Declaration) → DeclsIn D file before n ds → DeclsIn E file before n ds → DeclsIn F file before n ds
  decls_both file before n [] h k = tt
  decls_both file before n (d ∷ ds) h k = (by file before n d h.0 k.0, decls_both file (before ++ declared_name d ∷ []) (counted n d) ds h.1 k.1)

  pub files_both : (file : ℕ) (n : Counts) (fs : Program) → FilesIn D file n fs → FilesIn E file n fs → FilesIn F file n fs
  files_both file n [] h k = tt
  files_both file n (f ∷ fs) h k = (decls_both file [] n f.declarations h.0 k.0, files_both (suc file) (all_counted n f.declarations) fs h.1 k.1)

-- what holds of each definition wherever it stands
module _ (Q : Declaration → Type 0) where
  abbrev pub Everywhere : DeclRule
  Everywhere file before n d = Q d

  decls_everywhere : (file : ℕ) (before : List Written) (n : Counts) (ds : List Declaration) → AllByRecursion Q ds → DeclsIn Everywhere file before n ds
  decls_everywhere file before n [] h = tt
  decls_everywhere file before n (d ∷ ds) h = (h.0, decls_everywhere file (before ++ declared_name d ∷ []) (counted n d) ds h.1)

  pub files_everywhere : (file : ℕ) (n : Counts) (fs : Program) → AllByRecursion (λ (f : SourceFile). AllByRecursion Q f.declarations) fs → FilesIn Everywhere file n fs
  files_everywhere file n [] h = tt
  files_everywhere file n (f ∷ fs) h = (decls_everywhere file [] n f.declarations h.0, files_everywhere (suc file) (all_counted n f.declarations) fs h.1)

-- its file is one of so many
module _ (count : ℕ) where
  abbrev pub InFile : DeclRule
  InFile file before n d = file < count

  decls_in_file : (file : ℕ) (before : List Written) (n : Counts) (ds : List Declaration) → file < count → DeclsIn InFile file before n ds
  decls_in_file file before n [] within = tt
  decls_in_file file before n (d ∷ ds) within = (within, decls_in_file file (before ++ declared_name d ∷ []) (counted n d) ds within)

  pub files_in_file : (file : ℕ) (n : Counts) (fs : Program) → file + length fs ≤ count → FilesIn InFile file n fs
  files_in_file file n [] within = tt
  files_in_file file n (f ∷ fs) within = (decls_in_file file [] n f.declarations (omega arith), files_in_file (suc file) (all_counted n f.declarations) fs (omega arith))

-- what holds of the spots of a program
module _ (P : ℕ → Spotted → Type 0) where
  abbrev pub IsSpotted : DeclRule
  IsSpotted file before n d = AllByRecursion (P file) (spots_in_declaration before n d)

  decls_spotted : (file : ℕ) (before : List Written) (n : Counts) (ds : List Declaration) → AllByRecursion (P file) (spots_in_declarations before n ds) → DeclsIn IsSpotted file before n ds
  decls_spotted file before n [] h = tt
  decls_spotted file before n (d ∷ ds) h = (
    front_all (P file) (spots_in_declaration before n d) (spots_in_declarations (before ++ declared_name d ∷ []) (counted n d) ds) h,
    decls_spotted file (before ++ declared_name d ∷ []) (counted n d) ds
        (back_all (P file) (spots_in_declaration before n d) (spots_in_declarations (before ++ declared_name d ∷ []) (counted n d) ds) h),
  )

  -- it holds of a spot in its file
  abbrev OfSpot : Spot → Type 0
  OfSpot s = P s.file s.shows

  files_spotted : (file : ℕ) (n : Counts) (fs : Program) → AllByRecursion OfSpot (spots_from file n fs) → FilesIn IsSpotted file n fs
  files_spotted file n [] h = tt
  files_spotted file n (f ∷ fs) h =
      let own = in_file file (spots_in_declarations [] n f.declarations) in
      let more = spots_from (suc file) (all_counted n f.declarations) fs in (
        decls_spotted file [] n f.declarations
            (unmapped OfSpot (λ x. record { file = file; shows = x }) (spots_in_declarations [] n f.declarations) (front_all OfSpot own more h)),
        files_spotted (suc file) (all_counted n f.declarations) fs (back_all OfSpot own more h),
      )

  pub program_spotted : (program : Program) → AllByRecursion (λ (s : Spot). P s.file s.shows) (spots_of program) → FilesIn IsSpotted 0 none_counted program
  unfolding spots_of
  program_spotted program h = files_spotted 0 none_counted program h

-- one of a kind counts one more of it, and another definition none
abbrev pub CountsAs : {A : Type 0} → (A → Declaration) → ℕ → ℕ → Declaration → Option A → Type 0
CountsAs wrap before after d None = after ≡ before
CountsAs wrap before after d (Some x) = (d ≡ wrap x) × (after ≡ suc before)

-- how definitions of one kind are picked, counted and made
abbrev pub IsKind : {A : Type 0} → (Declaration → Option A) → (Counts → ℕ) → (A → Declaration) → Type 0
IsKind pick own wrap = (n : Counts) (d : Declaration) → CountsAs wrap (own n) (own (counted n d)) d (pick d)

pub constants_are : IsKind const_in (λ (n : Counts). n.constants) of_const
constants_are n (of_const c) = (refl, refl)
constants_are n (of_typedef t) = refl
constants_are n (of_enum e) = refl
constants_are n (of_struct_decl s) = refl
constants_are n (of_service s) = refl

pub typedefs_are : IsKind typedef_in (λ (n : Counts). n.aliases) of_typedef
typedefs_are n (of_const c) = refl
typedefs_are n (of_typedef t) = (refl, refl)
typedefs_are n (of_enum e) = refl
typedefs_are n (of_struct_decl s) = refl
typedefs_are n (of_service s) = refl

pub enums_are : IsKind enum_in (λ (n : Counts). n.enums) of_enum
enums_are n (of_const c) = refl
enums_are n (of_typedef t) = refl
enums_are n (of_enum e) = (refl, refl)
enums_are n (of_struct_decl s) = refl
enums_are n (of_service s) = refl

pub structs_are : IsKind struct_in (λ (n : Counts). n.structs) of_struct_decl
structs_are n (of_const c) = refl
structs_are n (of_typedef t) = refl
structs_are n (of_enum e) = refl
structs_are n (of_struct_decl s) = (refl, refl)
structs_are n (of_service s) = refl

pub services_are : IsKind service_in (λ (n : Counts). n.services) of_service
services_are n (of_const c) = refl
services_are n (of_typedef t) = refl
services_are n (of_enum e) = refl
services_are n (of_struct_decl s) = refl
services_are n (of_service s) = (refl, refl)

-- an element behind a front
at_front : {A : Type 0} (front : List A) (x : A) (rest : List A) (k : ℕ) → length front ≡ k → slice_get (front ++ x ∷ rest) k ≡ Some x
at_front {A} [] x rest k e = let P : ℕ → Type 0 = λ j. slice_get {X = A} (x ∷ rest) j ≡ Some x in subst P e refl
at_front {A} (y ∷ front) x rest k e =
    let P : ℕ → Type 0 = λ j. slice_get {X = A} (y ∷ (front ++ x ∷ rest)) j ≡ Some x in subst P e (at_front front x rest (length front) refl)

module _ {A : Type 0} (pick : Declaration → Option A) (own : Counts → ℕ) (wrap : A → Declaration) (kind : IsKind pick own wrap) where
  module _ (D : DeclRule) where
    -- it holds of a definition of the kind that has this number
    abbrev pub IsPicked : ℕ → Filed A → Type 0
    IsPicked number x = (before : List Written) × (n : Counts) × (own n ≡ number) × D x.file before n (wrap x.item)

    one_picked : (file : ℕ) (before : List Written) (n : Counts) (d : Declaration) (o : Option A) (rest : List A) (more : List (Filed A)) → CountsAs wrap (own n) (own (counted n d)) d o
        → D file before n d → AllFrom IsPicked (own (counted n d)) (filed file rest ++ more) → AllFrom IsPicked (own n) (filed file (cons_option o rest) ++ more)
    one_picked file before n d None rest more is here later = subst (λ k. AllFrom IsPicked k (filed file rest ++ more)) is later
    one_picked file before n d (Some x) rest more is here later =
        ((before, n, refl, subst (D file before n) is.0 here), subst (λ k. AllFrom IsPicked k (filed file rest ++ more)) is.1 later)

    decls_picked : (file : ℕ) (before : List Written) (n : Counts) (ds : List Declaration) (more : List (Filed A)) → DeclsIn D file before n ds
        → AllFrom IsPicked (own (all_counted n ds)) more → AllFrom IsPicked (own n) (filed file (filter_map pick ds) ++ more)
    decls_picked file before n [] more h later = later
    decls_picked file before n (d ∷ ds) more h later =
        one_picked file before n d (pick d) (filter_map pick ds) more (kind n d) h.0 (decls_picked file (before ++ declared_name d ∷ []) (counted n d) ds more h.1 later)

    pub files_picked : (file : ℕ) (n : Counts) (fs : Program) → FilesIn D file n fs → AllFrom IsPicked (own n) (picked_from pick file fs)
    files_picked file n [] h = tt
    files_picked file n (f ∷ fs) h =
        decls_picked file [] n f.declarations (picked_from pick (suc file) fs) h.0 (files_picked (suc file) (all_counted n f.declarations) fs h.1)

  -- a definition of the kind stands at its number among all of the kind
  abbrev pub StandsAt : List (Filed A) → ℕ → ℕ → Option A → Type 0
  StandsAt all file number None = Unit {0}
  StandsAt all file number (Some x) = slice_get all number ≡ Some (record { file = file; item = x })

  module _ (all : List (Filed A)) where
    abbrev pub IsFound : DeclRule
    IsFound file before n d = StandsAt all file (own n) (pick d)

    -- what is left of all behind a front of so many
    abbrev Left : ℕ → List (Filed A) → Type 0
    Left number more = (front : List (Filed A)) × (all ≡ front ++ more) × (length front ≡ number)

    one_found : (file : ℕ) (n : Counts) (d : Declaration) (o : Option A) (rest : List A) (more : List (Filed A)) → CountsAs wrap (own n) (own (counted n d)) d o
        → Left (own n) (filed file (cons_option o rest) ++ more) → StandsAt all file (own n) o × Left (own (counted n d)) (filed file rest ++ more)
    one_found file n d None rest more is left = (tt, (left.0, left.1, left.2 ∙ sym is))
    one_found file n d (Some x) rest more is left =
        let item : Filed A = record { file = file; item = x } in
        let behind = filed file rest ++ more in (
          subst (λ xs. slice_get xs (own n) ≡ Some item) (sym left.1) (at_front left.0 item behind (own n) left.2),
          (
            left.0 ++ item ∷ [],
            left.1 ∙ sym (append_assoc left.0 (item ∷ []) behind),
            length-append left.0 (item ∷ []) ∙ (let e : length left.0 + 1 ≡ suc (own n) = omega (arith, left.2) in e) ∙ sym is.1,
          ),
        )

    decls_found : (file : ℕ) (before : List Written) (n : Counts) (ds : List Declaration) (more : List (Filed A)) → Left (own n) (filed file (filter_map pick ds) ++ more)
        → DeclsIn IsFound file before n ds × Left (own (all_counted n ds)) more
    decls_found file before n [] more left = (tt, left)
    decls_found file before n (d ∷ ds) more left =
        let here = one_found file n d (pick d) (filter_map pick ds) more (kind n d) left in
        let rest = decls_found file (before ++ declared_name d ∷ []) (counted n d) ds more here.1 in
        ((here.0, rest.0), rest.1)

    files_found : (file : ℕ) (n : Counts) (fs : Program) → Left (own n) (picked_from pick file fs) → FilesIn IsFound file n fs
    files_found file n [] left = tt
    files_found file n (f ∷ fs) left =
        let here = decls_found file [] n f.declarations (picked_from pick (suc file) fs) left in
        (here.0, files_found (suc file) (all_counted n f.declarations) fs here.1)

  pub program_found : (program : Program) → own none_counted ≡ 0 → FilesIn (IsFound (picked_from pick 0 program)) 0 none_counted program
  program_found program none = files_found (picked_from pick 0 program) 0 none_counted program ([], refl, sym none)
