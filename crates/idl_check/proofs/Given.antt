-- What a program gives values for, is given one of its values.
use Rattle.std.proofs.Common.{◌≡◌, ◌++◌, ℕ, List, [], ◌∷◌, map, length, Option, Some, None, slice_get, refl, sym, subst, ◌∙◌, append_assoc}
use Rattle.std.specs.Option.{MatchOption}
use Rattle.std.specs.List.{AllByRecursion, filter_map, flat_map, cons_option}
use Rattle.idl_include.specs.ConstExpr.{ConstExpr}
use Rattle.idl_include.specs.Declarations.{FieldDecl, FunctionDecl, ServiceDecl, StructDecl, ConstDecl}
use Rattle.idl_include.specs.Program.{Program}
use Rattle.idl_include.specs.Numbering.{Filed, filed, functions_in, all_functions, constants_of, structs_of, services_of}
use Rattle.idl_include.specs.Spots.{Spotted, Spot, default_spots, value_at, spots_of, values_of}
use Rattle.check_model.specs.FieldLists.{FieldsDecl, fields_of_struct, args_of_function, field_lists}
use Rattle.check_model.proofs.Shown.{both_all, mapped, weaker, FieldShown, FunctionShown, ConstShown, StructShown, ServiceShown, consts_shown, structs_shown, services_shown}
use Rattle.idl_check.specs.Taking.{value_given}

-- something stands in a list
abbrev pub IsIn : {A : Type 0} → List A → A → Type 0
IsIn xs x = (k : ℕ) × (slice_get xs k ≡ Some x)

at_front : {A : Type 0} (front : List A) (x : A) (rest : List A) → slice_get (front ++ x ∷ rest) (length front) ≡ Some x
at_front [] x rest = refl
at_front (y ∷ front) x rest = at_front front x rest

module _ {S V : Type 0} (pick : S → Option V) (all : List V) where
  -- what is picked of something, if anything, is among all
  abbrev pub PicksOne : Option V → Type 0
  PicksOne o = MatchOption o (Unit {0}) (IsIn all)

  one_picked : (front : List V) (o : Option V) (rest : List V) → all ≡ front ++ cons_option o rest → PicksOne o × ((more : List V) × (all ≡ more ++ rest))
  one_picked front None rest is = (tt, (front, is))
  one_picked front (Some v) rest is = (
    (length front, subst (λ (vs : List V). slice_get vs (length front) ≡ Some v) (sym is) (at_front front v rest)),
    (front ++ v ∷ [], is ∙ sym (append_assoc front (v ∷ []) rest)),
  )

  pub all_picked : (front : List V) (xs : List S) → all ≡ front ++ filter_map pick xs → AllByRecursion (λ x. PicksOne (pick x)) xs
  all_picked front [] is = tt
  all_picked front (x ∷ xs) is =
      let here = one_picked front (pick x) (filter_map pick xs) is in
      (here.0, all_picked here.1.0 xs here.1.1)

module _ (program : Program) where
  -- the value of a spot is among those of the program
  abbrev pub IsShownGiven : ℕ → Spotted → Type 0
  IsShownGiven file shown = MatchOption (value_at file shown) (Unit {0}) (IsIn (values_of program))

  spots_given : AllByRecursion (λ (s : Spot). IsShownGiven s.file s.shows) (spots_of program)
  unfolding values_of
  spots_given = all_picked (λ (s : Spot). value_at s.file s.shows) (values_of program) [] (spots_of program) refl

  -- the default of a field is, if there is one
  abbrev pub IsDefaultGiven : ℕ → FieldDecl → Option ConstExpr → Type 0
  IsDefaultGiven file f o = MatchOption o (Unit {0}) (λ tree. IsIn (values_of program) (value_given file f.at f.type tree))

  abbrev pub IsFieldGiven : ℕ → FieldDecl → Type 0
  IsFieldGiven file f = IsDefaultGiven file f f.default

  default_given : (file : ℕ) (f : FieldDecl) (o : Option ConstExpr) → AllByRecursion (IsShownGiven file) (default_spots f o) → IsDefaultGiven file f o
  default_given file f None h = tt
  default_given file f (Some tree) h = h.0

  fields_given : (file : ℕ) (fs : List FieldDecl) → AllByRecursion (FieldShown IsShownGiven file) fs → AllByRecursion (IsFieldGiven file) fs
  fields_given file fs h = weaker (FieldShown IsShownGiven file) (IsFieldGiven file) (λ f shown. default_given file f f.default shown.1) fs h

  -- the value of a constant is
  abbrev pub IsConstantGiven : Filed ConstDecl → Type 0
  IsConstantGiven c = IsIn (values_of program) (value_given c.file c.item.name.at c.item.type c.item.value)

  pub constants_given : AllByRecursion IsConstantGiven (constants_of program)
  constants_given = weaker (ConstShown IsShownGiven) IsConstantGiven (λ c shown. shown.1) (constants_of program) (consts_shown IsShownGiven program spots_given)

  -- so are the defaults of a list of fields, and of what a function throws
  abbrev pub IsListGiven : FieldsDecl → Type 0
  IsListGiven d = AllByRecursion (IsFieldGiven d.file) d.fields

  abbrev pub AreThrownGiven : ℕ → FunctionDecl → Type 0
  AreThrownGiven file f = AllByRecursion (IsFieldGiven file) f.throws

  abbrev pub IsServiceGiven : Filed ServiceDecl → Type 0
  IsServiceGiven s = AllByRecursion (AreThrownGiven s.file) s.item.functions

  abbrev HasGivenArgs : Filed FunctionDecl → Type 0
  HasGivenArgs f = IsListGiven (args_of_function f)

  args_given : (file : ℕ) (fs : List FunctionDecl) → AllByRecursion (FunctionShown IsShownGiven file) fs → AllByRecursion HasGivenArgs (filed file fs)
  args_given file [] h = tt
  args_given file (f ∷ fs) h = (fields_given file f.arguments h.0.1, args_given file fs h.1)

  all_args_given : (ss : List (Filed ServiceDecl)) → AllByRecursion (ServiceShown IsShownGiven) ss → AllByRecursion HasGivenArgs (flat_map functions_in ss)
  all_args_given [] h = tt
  all_args_given (s ∷ ss) h =
      both_all HasGivenArgs (functions_in s) (flat_map functions_in ss) (args_given s.file s.item.functions h.0) (all_args_given ss h.1)

  pub lists_are_given : AllByRecursion IsListGiven (field_lists program)
  unfolding field_lists all_functions
  lists_are_given =
      both_all IsListGiven (map fields_of_struct (structs_of program)) (map args_of_function (all_functions program))
      (mapped IsListGiven fields_of_struct (structs_of program)
      (weaker (StructShown IsShownGiven) (λ (s : Filed StructDecl). IsListGiven (fields_of_struct s)) (λ s shown. fields_given s.file s.item.fields shown)
      (structs_of program) (structs_shown IsShownGiven program spots_given)))
      (mapped IsListGiven args_of_function (all_functions program) (all_args_given (services_of program) (services_shown IsShownGiven program spots_given)))

  pub services_given : AllByRecursion IsServiceGiven (services_of program)
  services_given =
      weaker (ServiceShown IsShownGiven) IsServiceGiven
      (λ s shown. weaker (FunctionShown IsShownGiven s.file) (AreThrownGiven s.file) (λ f own. fields_given s.file f.throws own.2) s.item.functions shown)
      (services_of program) (services_shown IsShownGiven program spots_given)
