-- Names that are bound are different, and their numbers are places.
use Rattle.std.proofs.Common.{◌≡◌, ◌≢◌, ℕ, suc, ◌+◌, ◌<◌, Bool, true, false, cond, ◌||◌, List, [], ◌∷◌, ◌++◌, map, length, Option, Some, None, Ok, refl, sym, ap, ◌∙◌, subst, arith}
use Rattle.std.specs.Prelude.{⊤, All, MatchOption}
use Rattle.std.specs.List.{position_from}
use Rattle.std.specs.Str.{bytes_eq}
use Rattle.std.proofs.lemmas.List.Elements.{All-nil, All-cons}
use Rattle.std.proofs.lemmas.List.Folds.{list_any-append}
use Rattle.std.proofs.lemmas.List.Kept.{AllPairs-cons}
use Rattle.std.proofs.lemmas.Slice.Eq.{bytes_eq-Decides}
use Rattle.call_rules.specs.Handling.{ServiceState}
use Rattle.service_binding.specs.Pairs.{NamedKind}
use Rattle.schema.specs.LookUp.{is_service_name, service_named}
use Rattle.schema.specs.PlainSchema.{PlainSchema}
use Rattle.schema.specs.Sound.{IsPlaceIn, AreDifferent}
use Rattle.service_binding.specs.Binding.{AreBoundBehind, NumberedName, numbered_name}
use Rattle.service_binding.specs.Services.{is_name_taken, new_number}

-- what a number for a pair says
pub number_known : (named : Bool) (o : Option ℕ) (number : ℕ) → new_number named o ≡ Ok number → (named ≡ false) × (o ≡ Some number)
number_known named None number e = absurd (let f : ⊥ = cc in f)
number_known true (Some n) number e = absurd (let f : ⊥ = cc in f)
number_known false (Some n) number e = (refl, cc)

-- a place that is found is one
within_case : (b : Bool) (i n : ℕ) (o : Option ℕ) → MatchOption o ⊤ (λ k. k < (i + 1) + n) → MatchOption (cond b (Some i) o) ⊤ (λ k. k < i + suc n)
within_case true i n o h = omega arith
within_case false i n None h = tt
within_case false i n (Some k) h = omega (arith, h)

pub position_within : {A : Type 0} (test : A → Bool) (i : ℕ) (xs : List A) → MatchOption (position_from test i xs) ⊤ (λ k. k < i + length xs)
position_within test i [] = tt
position_within test i (x ∷ xs) = within_case (test x) i (length xs) (position_from test (i + 1) xs) (position_within test (i + 1) xs)

pub number_within : (s : PlainSchema) (name : List ℕ) (number : ℕ) → service_named s name ≡ Some number → IsPlaceIn s.services number
number_within s name number is =
    let h : number < 0 + length s.services = subst (λ (o : Option ℕ). MatchOption o ⊤ (λ k. k < 0 + length s.services)) is (position_within (is_service_name s name) 0 s.services) in
    omega (arith, h)

-- there are as many bindings as pairs, and as many handlers
pub as_many : (s : PlainSchema) (services : List ServiceState) (before pairs : List NamedKind) (bindings : List NumberedName) (bound : List ServiceState)
    → AreBoundBehind s services before pairs bindings bound → (length bindings ≡ length pairs) × (length bound ≡ length pairs)
as_many s services before [] [] [] are = (refl, refl)
as_many s services before (p ∷ pairs) (b ∷ bindings) (h ∷ bound) are =
    let more = as_many s services (before ++ p ∷ []) pairs bindings bound are.1 in
    (ap suc more.0, ap suc more.1)
as_many s services before [] [] (h ∷ bound) are = absurd are
as_many s services before [] (b ∷ bindings) bound are = absurd are
as_many s services before (p ∷ pairs) [] bound are = absurd are
as_many s services before (p ∷ pairs) (b ∷ bindings) [] are = absurd are

-- each number is a place
pub places : (s : PlainSchema) (services : List ServiceState) (before pairs : List NamedKind) (bindings : List NumberedName) (bound : List ServiceState)
    → AreBoundBehind s services before pairs bindings bound → All (λ (b : NumberedName). IsPlaceIn s.services b.1) bindings
places s services before [] [] [] are = All-nil (λ (b : NumberedName). IsPlaceIn s.services b.1)
places s services before (p ∷ pairs) (b ∷ bindings) (h ∷ bound) are =
    let known = number_known (is_name_taken before p.0) (service_named s p.0) b.1 are.0.number in
    All-cons (λ (b : NumberedName). IsPlaceIn s.services b.1) b bindings (number_within s p.0 b.1 known.1) (places s services (before ++ p ∷ []) pairs bindings bound are.1)
places s services before [] [] (h ∷ bound) are = absurd are
places s services before [] (b ∷ bindings) bound are = absurd are
places s services before (p ∷ pairs) [] bound are = absurd are
places s services before (p ∷ pairs) (b ∷ bindings) [] are = absurd are

-- a name that stands before stays named, and a name is named once it stands
still_named : (before : List NamedKind) (pair : NamedKind) (name : List ℕ) → is_name_taken before name ≡ true → is_name_taken (before ++ pair ∷ []) name ≡ true
still_named before pair name is =
    list_any-append (λ (p : NamedKind). bytes_eq p.0 name) before (pair ∷ []) ∙ ap (λ b. b || (bytes_eq pair.0 name || false)) is

either_way : (b : Bool) → (b || true) ≡ true
either_way true = refl
either_way false = refl

now_named : (before : List NamedKind) (pair : NamedKind) (name : List ℕ) → pair.0 ≡ name → is_name_taken (before ++ pair ∷ []) name ≡ true
now_named before pair name is =
    list_any-append (λ (p : NamedKind). bytes_eq p.0 name) before (pair ∷ [])
    ∙ ap (λ b. is_name_taken before name || (b || false)) ((bytes_eq-Decides pair.0 name).1 is)
    ∙ either_way (is_name_taken before name)

-- a name that stands before is none of these
apart : (s : PlainSchema) (services : List ServiceState) (before pairs : List NamedKind) (bindings : List NumberedName) (bound : List ServiceState) (name : List ℕ)
    → is_name_taken before name ≡ true → AreBoundBehind s services before pairs bindings bound → All (λ (other : List ℕ). name ≢ other) (map numbered_name bindings)
apart s services before [] [] [] name named are = All-nil (λ (other : List ℕ). name ≢ other)
apart s services before (p ∷ pairs) (b ∷ bindings) (h ∷ bound) name named are =
    let known = number_known (is_name_taken before p.0) (service_named s p.0) b.1 are.0.number in
    All-cons (λ (other : List ℕ). name ≢ other) (numbered_name b) (map numbered_name bindings)
    (λ same. let e : true ≡ false = sym named ∙ ap (is_name_taken before) (same ∙ are.0.name) ∙ known.0 in let f : ⊥ = cc in f)
    (apart s services (before ++ p ∷ []) pairs bindings bound name (still_named before p name named) are.1)
apart s services before [] [] (h ∷ bound) name named are = absurd are
apart s services before [] (b ∷ bindings) bound name named are = absurd are
apart s services before (p ∷ pairs) [] bound name named are = absurd are
apart s services before (p ∷ pairs) (b ∷ bindings) [] name named are = absurd are

pub different : (s : PlainSchema) (services : List ServiceState) (before pairs : List NamedKind) (bindings : List NumberedName) (bound : List ServiceState)
    → AreBoundBehind s services before pairs bindings bound → AreDifferent (map numbered_name bindings)
different s services before [] [] [] are = λ i j d below within. absurd (omega (arith, within))
different s services before (p ∷ pairs) (b ∷ bindings) (h ∷ bound) are =
    AllPairs-cons (λ (x y : List ℕ). x ≢ y) (numbered_name b) (map numbered_name bindings)
    (apart s services (before ++ p ∷ []) pairs bindings bound (numbered_name b) (now_named before p (numbered_name b) (sym are.0.name)) are.1)
    (different s services (before ++ p ∷ []) pairs bindings bound are.1)
different s services before [] [] (h ∷ bound) are = absurd are
different s services before [] (b ∷ bindings) bound are = absurd are
different s services before (p ∷ pairs) [] bound are = absurd are
different s services before (p ∷ pairs) (b ∷ bindings) [] are = absurd are
