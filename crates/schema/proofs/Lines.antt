-- Walks along the services that a service inherits from.
use Rattle.std.proofs.Common.{◌≡◌, ℕ, suc, ◌+◌, ◌-◌, ◌<◌, Bool, true, false, cond, List, [], ◌∷◌, ◌++◌, Option, Some, None, refl, sym, ap, ◌∙◌, arith}
use Rattle.std.specs.Prelude.{flat_map, unwrap_or}
use Rattle.std.specs.List.{find}
use Rattle.std.specs.Option.{option_map}
use Rattle.std.proofs.lemmas.List.{append_assoc}
use Rattle.std.proofs.lemmas.Option.{none-some}
use Rattle.schema.specs.Inherited.{parent_of, lineage_within, own_functions}
use Rattle.schema.specs.PlainSchema.{PlainFunction, PlainService}

-- the functions of a service, if there is one, and of at most so many in its line
abbrev pub functions_from : ℕ → List PlainService → Option ℕ → List PlainFunction
functions_from most services next = unwrap_or (option_map (λ which. flat_map (own_functions services) (lineage_within most services which)) next) []

-- the line of a service, if there is one, as functions
line_functions : (most : ℕ) (services : List PlainService) (next : Option ℕ)
    → flat_map (own_functions services) (unwrap_or (option_map (lineage_within most services) next) []) ≡ functions_from most services next
line_functions most services None = refl
line_functions most services (Some which) = refl

-- its own functions stand in front of those that it inherits
pub own_and_inherited : (most : ℕ) (services : List PlainService) (which : ℕ)
    → functions_from (suc most) services (Some which) ≡ own_functions services which ++ functions_from most services (parent_of services which)
own_and_inherited most services which =
    ap (λ inherited. own_functions services which ++ inherited) (line_functions most services (parent_of services which))

-- what is found in front, and what behind
found_in_front : (test : PlainFunction → Bool) (xs ys : List PlainFunction) (f : PlainFunction) → find test xs ≡ Some f → find test (xs ++ ys) ≡ Some f
found_in_front test [] ys f found = absurd (none-some f found)
found_in_front test (x ∷ xs) ys f found =
    let later : find test xs ≡ Some f → find test (xs ++ ys) ≡ Some f = found_in_front test xs ys f in
    elim (test x) as (λ b. cond b (Some x) (find test xs) ≡ Some f → cond b (Some x) (find test (xs ++ ys)) ≡ Some f) [ true ↦ (λ h. h) | false ↦ later ] found

found_behind : (test : PlainFunction → Bool) (xs ys : List PlainFunction) → find test xs ≡ None → find test (xs ++ ys) ≡ find test ys
found_behind test [] ys missed = refl
found_behind test (x ∷ xs) ys missed =
    let later : find test xs ≡ None → find test (xs ++ ys) ≡ find test ys = found_behind test xs ys in
    elim (test x) as (λ b. cond b (Some x) (find test xs) ≡ None → cond b (Some x) (find test (xs ++ ys)) ≡ find test ys)
    [ true ↦ (λ h. absurd (none-some x (sym h))) | false ↦ later ] missed

-- a function of its own is found
pub found_own : (test : PlainFunction → Bool) (most : ℕ) (services : List PlainService) (which : ℕ) (f : PlainFunction)
    → find test (own_functions services which) ≡ Some f → find test (functions_from (suc most) services (Some which)) ≡ Some f
found_own test most services which f found =
    ap (find test) (own_and_inherited most services which) ∙ found_in_front test (own_functions services which) _ f found

-- where none is, the search goes on with the service that it extends
pub found_inherited : (test : PlainFunction → Bool) (most : ℕ) (services : List PlainService) (which : ℕ)
    → find test (own_functions services which) ≡ None
    → find test (functions_from (suc most) services (Some which)) ≡ find test (functions_from most services (parent_of services which))
found_inherited test most services which missed =
    ap (find test) (own_and_inherited most services which) ∙ found_behind test (own_functions services which) _ missed

module _ (test : PlainFunction → Bool) (services : List PlainService) (n i which : ℕ) (next : Option ℕ) (own : List PlainFunction) (all : Option PlainFunction)
    (low : i < n) (is_next : next ≡ Some which) (is_own : own ≡ own_functions services which)
    (kept : find test (functions_from (n - i) services next) ≡ all) where
  -- what is kept, at the next service's number
  at_which : find test (functions_from (suc (n - (i + 1))) services (Some which)) ≡ all
  at_which =
      let count : n - i ≡ suc (n - (i + 1)) = omega arith in
      let same : functions_from (n - i) services next ≡ functions_from (suc (n - (i + 1))) services (Some which) = λ k. functions_from (count k) services (is_next k) in
      sym (ap (find test) same) ∙ kept

  -- the search ends at a function of its own
  pub ends_here : (f : PlainFunction) → find test own ≡ Some f → Some f ≡ all
  ends_here f found =
      sym (found_own test (n - (i + 1)) services which f (sym (ap (find test) is_own) ∙ found)) ∙ at_which

  -- or goes on with the service that it extends
  pub goes_on_with : (parent : Option ℕ) → parent ≡ parent_of services which → find test own ≡ None
      → find test (functions_from (n - (i + 1)) services parent) ≡ all
  goes_on_with parent is_parent missed =
      ap (λ p. find test (functions_from (n - (i + 1)) services p)) is_parent
      ∙ sym (found_inherited test (n - (i + 1)) services which (sym (ap (find test) is_own) ∙ missed)) ∙ at_which

module _ (services : List PlainService) (n i which : ℕ) (next parent : Option ℕ) (so_far own longer all : List PlainFunction)
    (low : i < n) (is_next : next ≡ Some which) (is_own : own ≡ own_functions services which) (is_parent : parent ≡ parent_of services which)
    (is_longer : longer ≡ so_far ++ own) (kept : so_far ++ functions_from (n - i) services next ≡ all) where
  -- the functions of one service more were gathered
  pub gathers_on : longer ++ functions_from (n - (i + 1)) services parent ≡ all
  gathers_on =
      let count : n - i ≡ suc (n - (i + 1)) = omega arith in
      let same : functions_from (n - i) services next ≡ functions_from (suc (n - (i + 1))) services (Some which) = λ k. functions_from (count k) services (is_next k) in
      let left : longer ++ functions_from (n - (i + 1)) services parent ≡ (so_far ++ own_functions services which) ++ functions_from (n - (i + 1)) services (parent_of services which) =
      (λ k. is_longer k ++ functions_from (n - (i + 1)) services (is_parent k)) ∙ ap (λ o. (so_far ++ o) ++ functions_from (n - (i + 1)) services (parent_of services which)) is_own in
      left ∙ append_assoc so_far (own_functions services which) _
      ∙ ap (λ f. so_far ++ f) (sym (own_and_inherited (n - (i + 1)) services which) ∙ sym same) ∙ kept
