-- A function that is found in a sound schema is sound.
use Rattle.std.proofs.Common.{◌≡◌, ℕ, Bool, true, false, cond, List, [], ◌∷◌, ◌++◌, Option, Some, None, refl, subst}
use Rattle.std.specs.Prelude.{flat_map, unwrap_or, MatchOption}
use Rattle.std.specs.List.{slice_get, find}
use Rattle.std.specs.Option.{option_map}
use Rattle.std.proofs.lemmas.Option.{same_Some, slice_get_within}
use Rattle.schema.specs.declared.types.FieldsKind.{FieldsKind}
use Rattle.schema.specs.declared.types.FieldsKind.TheVariants.{Args}
use Rattle.schema.specs.Inherited.{own_functions, lineage}
use Rattle.schema.specs.LookUp.{is_named, function_named}
use Rattle.schema.specs.PlainSchema.{PlainFunction, PlainService, PlainStruct, PlainSchema}
use Rattle.schema.specs.Sound.{IsPlaceIn, IsSound, IsSoundFunction, IsSoundService, IsStructOf}
use Rattle.struct_skew.proofs.Each.{Each, from_all}
use Rattle.struct_skew.proofs.StructsAt.{All-at}

-- what holds of each holds of one that is found
found_one : {A : Type 0} (P : A → Type 0) (test : A → Bool) (xs : List A) (x : A) → Each P xs → find test xs ≡ Some x → P x
found_one P test [] x each is = absurd cc
found_one P test (y ∷ ys) x each is = by_test (test y) is (found_one P test ys x each.1)
  where
    by_test : (b : Bool) → cond b (Some y) (find test ys) ≡ Some x → (find test ys ≡ Some x → P x) → P x
    by_test true e rest = subst P (same_Some y x e) each.0
    by_test false e rest = rest e

Each-append : {A : Type 0} (P : A → Type 0) (xs ys : List A) → Each P xs → Each P ys → Each P (xs ++ ys)
Each-append P [] ys one other = other
Each-append P (x ∷ xs) ys one other = (one.0, Each-append P xs ys one.1 other)

Each-flat_map : {A B : Type 0} (P : B → Type 0) (f : A → List B) → ((x : A) → Each P (f x)) → (xs : List A) → Each P (flat_map f xs)
Each-flat_map P f each [] = tt
Each-flat_map P f each (x ∷ xs) = Each-append P (f x) (flat_map f xs) (each x) (Each-flat_map P f each xs)

own_sound : (s : PlainSchema) → IsSound s → (which : ℕ) → Each (IsSoundFunction s) (own_functions s.services which)
own_sound s sound which = of_service (slice_get s.services which) refl
  where
    of_service : (o : Option PlainService) → slice_get s.services which ≡ o → Each (IsSoundFunction s) (unwrap_or (option_map (λ (v : PlainService). v.functions) o) [])
    of_service None e = tt
    of_service (Some v) e = from_all (IsSoundFunction s) v.functions (All-at (IsSoundService s) s.services which v sound.all_else.services e).functions

pub found_function : (s : PlainSchema) (which : ℕ) (name : List ℕ) (f : PlainFunction) → IsSound s → function_named s which name ≡ Some f → IsSoundFunction s f
found_function s which name f sound is =
    found_one (IsSoundFunction s) (is_named name) (flat_map (own_functions s.services) (lineage s.services which)) f
    (Each-flat_map (IsSoundFunction s) (own_functions s.services) (own_sound s sound) (lineage s.services which)) is

-- where a struct of a kind stands is a place
place_of_kind : (s : PlainSchema) (kind : FieldsKind) (which : ℕ) → IsStructOf s kind which → IsPlaceIn s.structs which
place_of_kind s kind which is = of_struct (slice_get s.structs which) refl is
  where
    of_struct : (o : Option PlainStruct) → slice_get s.structs which ≡ o → MatchOption o ⊥ (λ (d : PlainStruct). d.kind ≡ kind) → IsPlaceIn s.structs which
    of_struct None e none = absurd none
    of_struct (Some d) e same = slice_get_within s.structs which d e

pub found_args : (s : PlainSchema) (which : ℕ) (name : List ℕ) (f : PlainFunction) → IsSound s → function_named s which name ≡ Some f → IsPlaceIn s.structs f.args
found_args s which name f sound is = place_of_kind s Args f.args (found_function s which name f sound is).args
