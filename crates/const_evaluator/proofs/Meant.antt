-- What names in constant values stand for, by tables.
use Rattle.std.proofs.Common.{◌≡◌, ℕ, zero, suc, Bool, true, false, cond, List, [], ◌∷◌, map, get_or, slice_get, Option, None, Some, refl, ap, sym, ◌∙◌}
use Rattle.std.specs.Option.{option_map, option_and_then}
use Rattle.std.specs.List.{find, position_from}
use Rattle.std.proofs.lemmas.Simd.{map-map}
use Rattle.idl_parser.specs.declared.tree.Const.{Const}
use Rattle.idl_include.specs.Declarations.{ConstDecl}
use Rattle.idl_include.specs.Numbering.{Filed, constants_of}
use Rattle.idl_include.specs.Program.{Program}
use Rattle.idl_include.specs.ConstNames.{given_value, value_number}
use Rattle.idl_names.specs.declared.filed.InFile.{InFile}
use Rattle.idl_names.specs.FiledIn.{filed_by, const_declared}
use Rattle.idl_names.proofs.Found.{mapped_alike}
use Rattle.const_evaluator.specs.declared.places.ValuePlaces.{ValuePlaces}
use Rattle.const_evaluator.specs.Places.{number_at_place, ArePlaces}
use Rattle.const_evaluator.proofs.Valued.{shifted, one_on}

-- the values of constants, by number
pub value_there : {A : Type 0} (f : A → Option ℕ) (xs : List A) (k : ℕ) → get_or (map f xs) k None ≡ option_and_then f (slice_get xs k)
value_there f [] k = refl
value_there f (x ∷ xs) zero = refl
value_there f (x ∷ xs) (suc k) = value_there f xs k

pub values_found : (program : Program) (constants given : List (InFile Const)) (places : ValuePlaces) (numbers : List (Option ℕ)) → map (filed_by const_declared) constants ≡ constants_of program
    → given ≡ constants → ArePlaces program places → numbers ≡ map (λ (c : InFile Const). number_at_place places c.file c.item.now.name.at) given
    → (which : ℕ) → get_or numbers which None ≡ option_and_then (λ (c : Filed ConstDecl). value_number program c.file c.item.name.at) (slice_get (constants_of program) which)
values_found program constants given places numbers is same right made which =
    let value : Filed ConstDecl → Option ℕ = λ c. value_number program c.file c.item.name.at in
    let all : numbers ≡ map value (constants_of program) =
    made
    ∙ ap (map (λ (c : InFile Const). number_at_place places c.file c.item.now.name.at)) same
    ∙ mapped_alike (λ (c : InFile Const). number_at_place places c.file c.item.now.name.at) (λ (c : InFile Const). value (filed_by const_declared c))
    (λ c. right.numbers c.file c.item.now.name.at) constants
    ∙ sym (map-map value (filed_by const_declared) constants)
    ∙ ap (map value) is in
    ap (λ (ns : List (Option ℕ)). get_or ns which None) all ∙ value_there value (constants_of program) which

-- what a test finds stands at the place that it finds
pub find_is : {A : Type 0} (p : A → Bool) (xs : List A) → find p xs ≡ option_and_then (slice_get xs) (position_from p 0 xs)
find_is p [] = refl
find_is p (x ∷ xs) = by (p x) (find_is p xs)
  where
    by : (b : Bool) → find p xs ≡ option_and_then (slice_get xs) (position_from p 0 xs)
        → cond b (Some x) (find p xs) ≡ option_and_then (slice_get (x ∷ xs)) (cond b (Some 0) (position_from p 1 xs))
    by true e = refl
    by false e = e ∙ one_on x xs (position_from p 0 xs) ∙ ap (option_and_then (slice_get (x ∷ xs))) (sym (shifted p 0 xs))

-- what is made of what is found is found so
pub map_behind : {A B C : Type 0} (f : B → C) (g : A → Option B) (o : Option A) → option_map f (option_and_then g o) ≡ option_and_then (λ x. option_map f (g x)) o
map_behind f g None = refl
map_behind f g (Some x) = refl

-- the value of the constant that a test finds, by its number
pub value_of_found : (program : Program) (numbers : List (Option ℕ)) → ((which : ℕ) → get_or numbers which None ≡ option_and_then (λ (c : Filed ConstDecl). value_number program c.file c.item.name.at) (slice_get (constants_of program) which))
    → (test : Filed ConstDecl → Bool) (place : Option ℕ) → place ≡ position_from test 0 (constants_of program)
    → option_map given_value (option_and_then (λ k. get_or numbers k None) place)
    ≡ option_and_then (λ (c : Filed ConstDecl). option_map given_value (value_number program c.file c.item.name.at)) (find test (constants_of program))
value_of_found program numbers right test place is =
    let value : Filed ConstDecl → Option ℕ = λ c. value_number program c.file c.item.name.at in
    let all : List (Filed ConstDecl) = constants_of program in
    ap (option_map given_value) (through place)
    ∙ ap (λ (o : Option ℕ). option_map given_value (option_and_then value (option_and_then (slice_get all) o))) is
    ∙ ap (λ (o : Option (Filed ConstDecl)). option_map given_value (option_and_then value o)) (sym (find_is test all))
    ∙ map_behind given_value value (find test all)
  where
    through : (o : Option ℕ) → option_and_then (λ k. get_or numbers k None) o
        ≡ option_and_then (λ (c : Filed ConstDecl). value_number program c.file c.item.name.at) (option_and_then (slice_get (constants_of program)) o)
    through None = refl
    through (Some k) = right k
