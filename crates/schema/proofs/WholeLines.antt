-- The line of a service of a sound schema ends: no number stands in it twice, and there are no more numbers than services.
use Rattle.std.proofs.Common.{◌≡◌, ℕ, zero, suc, ◌+◌, ◌<◌, Bool, true, false, ◌||◌, List, [], ◌∷◌, ◌++◌, length, Option, Some, None, refl, sym, subst, arith, eqb}
use Rattle.std.specs.Prelude.{⊤, MatchOption, option_and_then, unwrap_or}
use Rattle.std.specs.List.{slice_get, IsDistinct, AllByRecursion, list_any}
use Rattle.std.specs.Option.{option_map}
use Rattle.std.proofs.lemmas.Bool.{eqb-true}
use Rattle.std.proofs.lemmas.Map.Steps.{length-le_from_distinct_below}
use Rattle.std.proofs.lemmas.Option.{none-some, slice_get_within, get_or_from_slice_get}
use Rattle.schema.specs.Inherited.{parent_of, lineage_within, lineage, IsLineage}
use Rattle.schema.specs.PlainSchema.{PlainService, PlainSchema}
use Rattle.schema.specs.Sound.{Extends, HasNoServiceLoop, IsPlaceIn, IsSound, IsSoundService}

-- one step more
goes_up : (services : List PlainService) (child : ℕ) (between : List ℕ) (which parent : ℕ) → Extends services child between which
    → parent_of services which ≡ Some parent → Extends services child (between ++ which ∷ []) parent
goes_up services child [] which parent up next = (up, next)
goes_up services child (b ∷ between) which parent up next = (up.0, goes_up services b between which parent up.1 next)

module _ (services : List PlainService) (no_loop : HasNoServiceLoop services)
    (places : (which parent : ℕ) → parent_of services which ≡ Some parent → parent < length services) where
  -- each of these reaches the service, and is a place
  abbrev AllReach : List ℕ → ℕ → Type 0
  AllReach [] which = ⊤
  AllReach (v ∷ vs) which = ((between : List ℕ) × Extends services v between which) × AllReach vs which

  abbrev AllPlaces : List ℕ → Type 0
  AllPlaces [] = ⊤
  AllPlaces (v ∷ vs) = (v < length services) × AllPlaces vs

  -- they reach the service that it extends
  reach_on : (vs : List ℕ) (which parent : ℕ) → parent_of services which ≡ Some parent → AllReach vs which → AllReach vs parent
  reach_on [] which parent next all = tt
  reach_on (v ∷ vs) which parent next all =
      ((all.0.0 ++ which ∷ [], goes_up services v all.0.0 which parent all.0.1 next), reach_on vs which parent next all.1)

  -- what they reach is none of them
  none_is : (vs : List ℕ) (parent : ℕ) → AllReach vs parent → AllByRecursion (λ v. eqb parent v ≡ false) vs
  none_is [] parent all = tt
  none_is (v ∷ vs) parent all =
      (other (eqb parent v) (λ same. no_loop parent all.0.0 (subst (λ w. Extends services w all.0.0 parent) (sym (eqb-true parent v same)) all.0.1)), none_is vs parent all.1)
    where
      other : (b : Bool) → (b ≡ true → ⊥) → b ≡ false
      other b never = elim b as (λ w. (w ≡ true → ⊥) → w ≡ false) [ true ↦ (λ fails. absurd (fails refl)) | false ↦ (λ fails. refl) ] never

  -- each number among them is a place
  below_all : (vs : List ℕ) → AllPlaces vs → (q : ℕ) → list_any (eqb q) vs ≡ true → q < length services
  below_all [] all q is = absurd (cc)
  below_all (v ∷ vs) all q is =
      let later : list_any (eqb q) vs ≡ true → q < length services = below_all vs all.1 q in
      by_test (eqb q v) (λ same. subst (λ w. w < length services) (sym (eqb-true q v same)) all.0) later is
    where
      by_test : (b : Bool) → (b ≡ true → q < length services) → (list_any (eqb q) vs ≡ true → q < length services) → (b || list_any (eqb q) vs) ≡ true → q < length services
      by_test b here there = elim b as (λ w. (w ≡ true → q < length services) → (w || list_any (eqb q) vs) ≡ true → q < length services) [ true ↦ (λ h e. h refl) | false ↦ (λ h e. there e) ] here

  -- the line from a service on, behind those that reach it
  line_from : (most : ℕ) (before : List ℕ) (which : ℕ) → length before + most ≡ length services → IsDistinct eqb (which ∷ before) → AllPlaces (which ∷ before)
      → AllReach before which → IsLineage services which (lineage_within most services which)
  unfolding IsDistinct
  line_from zero before which count different within reach =
      absurd (omega (arith, count, length-le_from_distinct_below (which ∷ before) (length services) different (below_all (which ∷ before) within)))
  line_from (suc most) before which count different within reach =
      let again : (parent : ℕ) → parent_of services which ≡ Some parent → IsLineage services parent (lineage_within most services parent) =
      λ parent next.
      let all : AllReach (which ∷ before) parent = (([], next), reach_on before which parent next reach) in
      line_from most (which ∷ before) parent (omega (arith, count)) (none_is (which ∷ before) parent all, different) (places which parent next, within) all in
      (refl, by_parent (parent_of services which) again)
    where
      by_parent : (o : Option ℕ) → ((parent : ℕ) → o ≡ Some parent → IsLineage services parent (lineage_within most services parent))
          → MatchOption o (unwrap_or (option_map (lineage_within most services) o) [] ≡ []) (λ parent. IsLineage services parent (unwrap_or (option_map (lineage_within most services) o) []))
      by_parent None again = refl
      by_parent (Some parent) again = again parent refl

-- the parent of a service of a sound schema is a place
parent_is_place : (s : PlainSchema) → IsSound s → (which parent : ℕ) → parent_of s.services which ≡ Some parent → parent < length s.services
parent_is_place s sound which parent next = by_service (slice_get s.services which) refl next
  where
    by_service : (o : Option PlainService) → slice_get s.services which ≡ o → option_and_then (λ (v : PlainService). v.parent) o ≡ Some parent → parent < length s.services
    by_service None at none = absurd (none-some parent none)
    by_service (Some v) at is =
        let sound_v : IsSoundService s v = subst (IsSoundService s) (get_or_from_slice_get s.services which v v at) (sound.all_else.services which v (slice_get_within s.services which v at)) in
        subst (λ (o : Option ℕ). MatchOption o ⊤ (IsPlaceIn s.services)) is sound_v.parent

pub whole_lineage : (s : PlainSchema) (which : ℕ) → IsSound s → IsPlaceIn s.services which → IsLineage s.services which (lineage s.services which)
unfolding IsDistinct
whole_lineage s which sound place =
    line_from s.services sound.all_else.no_loop (parent_is_place s sound) (length s.services) [] which (omega arith) (tt, tt) (place, tt) tt
