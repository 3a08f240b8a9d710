-- How the name of a message that asks for a call is cut.
use Rattle.std.proofs.Common.{◌≡◌, ℕ, suc, ◌+◌, ◌<◌, Bool, true, false, cond, if◌then◌else◌, List, [], ◌∷◌, ◌++◌, length, take, drop, Option, Some, None, refl, sym, ap, ◌∙◌, arith, add-one}
use Rattle.std.specs.Prelude.{All, IsTrue, option_and_then}
use Rattle.std.specs.List.{position_from}
use Rattle.std.specs.Option.{option_map}
use Rattle.std.specs.Str.{bytes_eq}
use Rattle.std.proofs.lemmas.Iterator.Adapters.{position_from-zero}
use Rattle.std.proofs.lemmas.List.Elements.{All-append, All-cons, All-get_or, All-tail}
use Rattle.std.proofs.lemmas.Slice.Eq.{bytes_eq-Decides}
use Rattle.schema.specs.Sound.{is_name_byte}
use Rattle.call_model.specs.Names.{Bound, is_separator, separator_of, service_part, method_behind, method_part, bound_at, slot_asked, service_asked, has_bound_name}
use Rattle.call_model.specs.Offices.{Binding}
use Rattle.client_law.proofs.Bytes.{is_no_separator}

abbrev at : ℕ → Option ℕ
at n = Some n

abbrev nowhere : Option ℕ
nowhere = None

-- a method's name has no separator
none_in : (name : List ℕ) → All (λ b. IsTrue (is_name_byte b)) name → (i : ℕ) → position_from is_separator i name ≡ nowhere
none_in [] all i = refl
none_in (b ∷ bs) all i =
    ap (λ t. cond t (Some i) (position_from is_separator (i + 1) bs)) (is_no_separator b (All-get_or (λ b. IsTrue (is_name_byte b)) (b ∷ bs) 0 b (omega arith) all))
    ∙ none_in bs (All-tail (λ b. IsTrue (is_name_byte b)) b bs all) (i + 1)

pub whole_method : (name : List ℕ) → All (λ b. IsTrue (is_name_byte b)) name → separator_of name ≡ nowhere
whole_method name all = position_from-zero is_separator name ∙ none_in name all 0

-- a byte that is no separator is passed
passed : (t : Bool) (i n : ℕ) (one other : Option ℕ) → cond t (Some i) one ≡ nowhere → (one ≡ nowhere → other ≡ at n) → cond t (Some i) other ≡ at n
passed true i n one other e rest = absurd cc
passed false i n one other e rest = rest e

-- the first separator stands behind a name that has none
first_behind : (name method : List ℕ) (i n : ℕ) → n ≡ i + length name → position_from is_separator i name ≡ nowhere
    → position_from is_separator i (name ++ 58 ∷ method) ≡ at n
first_behind [] method i n is none = ap at (omega (arith, is))
first_behind (b ∷ bs) method i n is none = passed (is_separator b) i n _ _ none (first_behind bs method (i + 1) n (omega (arith, is)))

pub separated : (name method : List ℕ) → separator_of name ≡ nowhere → separator_of (name ++ 58 ∷ method) ≡ at (length name)
separated name method none =
    position_from-zero is_separator (name ++ 58 ∷ method)
    ∙ first_behind name method 0 (length name) (omega arith) (sym (position_from-zero is_separator name) ∙ none)

front : (name method : List ℕ) → take (length name) (name ++ 58 ∷ method) ≡ name
front [] method = refl
front (b ∷ bs) method = ap (λ t. b ∷ t) (front bs method)

back_suc : (name method : List ℕ) → drop (suc (length name)) (name ++ 58 ∷ method) ≡ method
back_suc [] method = refl
back_suc (b ∷ bs) method = back_suc bs method

back : (name method : List ℕ) → drop (length name + 1) (name ++ 58 ∷ method) ≡ method
back name method = ap (λ n. drop n (name ++ 58 ∷ method)) (add-one (length name)) ∙ back_suc name method

pub service_cut : (name method : List ℕ) → separator_of name ≡ nowhere → service_part (name ++ 58 ∷ method) ≡ Some name
service_cut name method none =
    ap (option_map (λ n. take n (name ++ 58 ∷ method))) (separated name method none) ∙ ap (λ t. let o : Option (List ℕ) = Some t in o) (front name method)

pub method_cut : (name method : List ℕ) → separator_of name ≡ nowhere → method_part (name ++ 58 ∷ method) ≡ method
method_cut name method none =
    ap (λ n. method_behind n (name ++ 58 ∷ method)) (separated name method none) ∙ back name method

-- a name is its own
own_name : (name other : List ℕ) → name ≡ other → bytes_eq name other ≡ true
own_name name other same = (bytes_eq-Decides name other).1 same

abbrev first_bound : ℕ → Option Bound
first_bound service = Some (record { slot = 0; service = service })

abbrev name_said : Bool → List ℕ → List ℕ → List ℕ
name_said named name method = if named then name ++ 58 ∷ method else method

-- the only service is asked for
pub only_asked : (bound name method : List ℕ) (service : ℕ) (named : Bool) → (named ≡ true → bound ≡ name) → separator_of name ≡ nowhere → separator_of method ≡ nowhere
    → service_asked None ((bound, service) ∷ []) (name_said named name method) ≡ first_bound service
only_asked bound name method service true same none whole =
    let bindings : List Binding = (bound, service) ∷ [] in
    ap (λ p. option_and_then (bound_at bindings) (slot_asked None bindings p)) (service_cut name method none)
    ∙ ap (option_and_then (bound_at bindings))
    (position_from-zero (has_bound_name name) bindings ∙ ap (λ t. cond t (Some 0) None) (own_name bound name (same refl)))
only_asked bound name method service false same none whole =
    let bindings : List Binding = (bound, service) ∷ [] in
    ap (λ o. option_and_then (bound_at bindings) (slot_asked None bindings (option_map (λ n. take n method) o))) whole

-- and the method of it
pub method_asked : (name method : List ℕ) (named : Bool) → separator_of name ≡ nowhere → separator_of method ≡ nowhere → method_part (name_said named name method) ≡ method
method_asked name method true none whole = method_cut name method none
method_asked name method false none whole = ap (λ o. method_behind o method) whole

pub said_bytes : (name method : List ℕ) (named : Bool) → All (λ b. b < 256) name → All (λ b. b < 256) method → All (λ b. b < 256) (name_said named name method)
said_bytes name method true one other = All-append (λ b. b < 256) name (58 ∷ method) one (All-cons (λ b. b < 256) 58 method (omega arith) other)
said_bytes name method false one other = other
