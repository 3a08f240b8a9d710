-- The functions of a service, and what they come to.
use Rattle.std.proofs.Common.{◌≡◌, ℕ, true, false, cond, List, [], ◌∷◌, ◌++◌, length, map, get_or, ◌<◌, Option, Some, None, refl, sym, ap, subst, ◌∙◌, append-nil, Bor, arith}
use Rattle.std.specs.Prelude.{All, flat_map, unwrap_or, ◌==◌}
use Rattle.std.specs.List.{slice_get}
use Rattle.std.specs.Option.{option_map, option_map_or}
use Rattle.std.proofs.lemmas.List.{get_or-map, length-map}
use Rattle.schema.specs.declared.types.FnDesc.{FnDesc}
use Rattle.schema.specs.Inherited.{functions_of, own_functions, lineage}
use Rattle.schema.specs.LookUp.{function_named}
use Rattle.schema.specs.PlainSchema.{PlainFunction, PlainService, PlainSchema}
use Rattle.schema.specs.Shapes.{shown_function}
use Rattle.schema.specs.Sound.{IsSound, IsSoundFunction, IsSoundService}
use Rattle.struct_skew.proofs.Each.{Each, from_all, to_all, Each-then}
use Rattle.struct_skew.proofs.StructsAt.{All-at}
use Rattle.compat_model.specs.declared.break_kind.BreakKind.TheVariants as breaks
use Rattle.compat_model.specs.Breaks.{PlainBreak, whole_break, break_of_service}
use Rattle.compat_model.specs.InOrder.{first_answer}
use Rattle.compat_model.specs.NamedThings.{main_service_named}
use Rattle.compat_model.specs.StructPairs.{SchemaChange, StructPair, PairsOfFunctions, pairs_of_service}
use Rattle.compat_check.specs.Tables.{LooksUp, ThrowsRising, break_looked_up, pairs_looked_up}

-- ---- the exceptions of a service's functions stand by rising id

each_behind : {A : Type 0} (P : A → Type 0) (xs ys : List A) → Each P xs → Each P ys → Each P (xs ++ ys)
each_behind P [] ys one other = other
each_behind P (x ∷ xs) ys one other = (one.0, each_behind P xs ys one.1 other)

each_flat : {A B : Type 0} (P : B → Type 0) (f : A → List B) → ((x : A) → Each P (f x)) → (xs : List A) → Each P (flat_map f xs)
each_flat P f each [] = tt
each_flat P f each (x ∷ xs) = each_behind P (f x) (flat_map f xs) (each x) (each_flat P f each xs)

own_rising : (s : PlainSchema) → IsSound s → (which : ℕ) → Each ThrowsRising (own_functions s.services which)
own_rising s sound which = of_service (slice_get s.services which) refl
  where
    of_service : (o : Option PlainService) → slice_get s.services which ≡ o → Each ThrowsRising (unwrap_or (option_map (λ (v : PlainService). v.functions) o) [])
    of_service None e = tt
    of_service (Some v) e =
        Each-then (IsSoundFunction s) ThrowsRising (λ f is. is.throws.rising) v.functions
        (from_all (IsSoundFunction s) v.functions (All-at (IsSoundService s) s.services which v sound.all_else.services e).functions)

pub all_rising : (s : PlainSchema) (which : ℕ) (fs : List PlainFunction) → IsSound s → fs ≡ functions_of s.services which → All ThrowsRising fs
all_rising s which fs sound are =
    subst (All ThrowsRising) (sym are)
    (to_all ThrowsRising (functions_of s.services which)
    (each_flat ThrowsRising (own_functions s.services) (own_rising s sound) (lineage s.services which)))

-- those of the function at a place
pub rising_at : (fs : List (Bor FnDesc)) (i : ℕ) (f : Bor FnDesc) → i < length fs → f ≡ get_or fs i f → All ThrowsRising (map shown_function fs) → ThrowsRising (shown_function f)
rising_at fs i f inside here all =
    subst (λ (g : Bor FnDesc). ThrowsRising (shown_function g)) (sym here)
    (subst ThrowsRising (get_or-map shown_function fs i f (shown_function f) inside) (all i (shown_function f) (omega (arith, length-map fs shown_function))))

-- ---- a service of the main file, and the one of its name

abbrev service_break : SchemaChange → ℕ → PlainService → Option ℕ → Option PlainBreak
service_break ch which v found =
    option_map_or (λ other. first_answer (break_looked_up ch (function_named ch.new other)) (functions_of ch.old.services which)) found (Some (whole_break breaks.Gone v.name))

abbrev service_pairs : SchemaChange → PairsOfFunctions → ℕ → Option ℕ → List StructPair
service_pairs ch pairs which found =
    option_map_or (λ other. flat_map (pairs_looked_up pairs (function_named ch.new other)) (functions_of ch.old.services which)) found []

module _ (ch : SchemaChange) (which : ℕ) (v : PlainService) where
  pub not_broken : (v.file == 0) ≡ false → None ≡ break_of_service ch which v
  not_broken off = sym (ap (λ b. cond b (service_break ch which v (main_service_named ch.new v.name)) None) off)

  pub gone : (name : List ℕ) → name ≡ v.name → (v.file == 0) ≡ true → None ≡ main_service_named ch.new v.name → Some (whole_break breaks.Gone name) ≡ break_of_service ch which v
  gone name same on none = ap (λ n. Some (whole_break breaks.Gone n)) same ∙ (λ i. cond (sym on i) (service_break ch which v (none i)) None)

  pub broken : (other : ℕ) (look : LooksUp) (fs : List PlainFunction) (o : Option PlainBreak) → (v.file == 0) ≡ true → Some other ≡ main_service_named ch.new v.name
      → look ≡ function_named ch.new other → fs ≡ functions_of ch.old.services which → o ≡ first_answer (break_looked_up ch look) fs → o ≡ break_of_service ch which v
  broken other look fs o on found same all is =
      is ∙ (λ i. first_answer (break_looked_up ch (same i)) (all i)) ∙ (λ i. cond (sym on i) (service_break ch which v (found i)) None)

  module _ (pairs : PairsOfFunctions) (so_far : List StructPair) where
    abbrev OfService : List StructPair → Type 0
    OfService now = now ≡ so_far ++ pairs_of_service ch pairs which v

    pub no_pairs : (v.file == 0) ≡ false → OfService so_far
    no_pairs off = sym (append-nil so_far) ∙ ap (λ b. so_far ++ cond b (service_pairs ch pairs which (main_service_named ch.new v.name)) []) (sym off)

    pub pairs_gone : (v.file == 0) ≡ true → None ≡ main_service_named ch.new v.name → OfService so_far
    pairs_gone on none = sym (append-nil so_far) ∙ (λ i. so_far ++ cond (sym on i) (service_pairs ch pairs which (none i)) [])

    pub pairs_served : (other : ℕ) (look : LooksUp) (fs : List PlainFunction) (now : List StructPair) → (v.file == 0) ≡ true → Some other ≡ main_service_named ch.new v.name
        → look ≡ function_named ch.new other → fs ≡ functions_of ch.old.services which → now ≡ so_far ++ flat_map (pairs_looked_up pairs look) fs → OfService now
    pairs_served other look fs now on found same all is =
        is ∙ (λ i. so_far ++ flat_map (pairs_looked_up pairs (same i)) (all i)) ∙ (λ i. so_far ++ cond (sym on i) (service_pairs ch pairs which (found i)) [])
