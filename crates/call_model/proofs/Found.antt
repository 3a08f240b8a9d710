-- What a sound schema has under a name or a number.
use Rattle.std.proofs.Common.{◌≡◌, ℕ, ℤ, ◌≤◌, Bool, true, false, cond, List, [], ◌∷◌, length, flat_map, Option, Some, None, refl, subst, arith, unwrap_or}
use Rattle.std.specs.Prelude.{All, MatchOption, ◌^◌, find}
use Rattle.std.specs.List.{slice_get}
use Rattle.std.specs.Option.{option_map}
use Rattle.std.specs.Str.{bytes_eq}
use Rattle.std.specs.Ordering.{int_eq}
use Rattle.std.proofs.lemmas.List.Elements.{All-get_or, All-nil, All-tail, All-append}
use Rattle.std.proofs.lemmas.Option.{slice_get_within, get_or_from_slice_get, same_Some}
use Rattle.schema.specs.declared.types.FieldsKind.TheVariants.{Args}
use Rattle.schema.specs.Inherited.{own_functions, functions_of, lineage}
use Rattle.schema.specs.LookUp.{field_at, fields_at, function_named, is_named}
use Rattle.schema.specs.PlainSchema.{PlainField, PlainStruct, PlainFunction, PlainService, PlainSchema}
use Rattle.schema.specs.Sound.{IsSound, IsPlaceIn, IsSoundStruct, IsSoundField, IsSoundFunction, IsSoundService}
use Rattle.call_model.specs.Failures.{field_name, struct_name_at}

-- an item at a place is one of all
pub all_at : {A : Type 0} (P : A → Type 0) (xs : List A) (n : ℕ) (x : A) → All P xs → slice_get xs n ≡ Some x → P x
all_at P xs n x all is =
    subst P (get_or_from_slice_get xs n x x is) (All-get_or P xs n x (slice_get_within xs n x is) all)

-- so is an item that is found, and it passes the test
pub found_is : {A : Type 0} (P : A → Type 0) (test : A → Bool) (xs : List A) (x : A) → All P xs → find test xs ≡ Some x → P x × (test x ≡ true)
found_is P test [] x all e = absurd cc
found_is P test (y ∷ ys) x all e = either (test y) refl e (found_is P test ys x (All-tail P y ys all))
  where
    either : (b : Bool) → test y ≡ b → cond b (Some y) (find test ys) ≡ Some x → (find test ys ≡ Some x → P x × (test x ≡ true)) → P x × (test x ≡ true)
    either true t e rest =
        let same : y ≡ x = same_Some y x e in
        (subst P same (All-get_or P (y ∷ ys) 0 y (omega arith) all), subst (λ z. test z ≡ true) same t)
    either false t e rest = rest e

-- what each list has, all of them have
all_flat : {A B : Type 0} (P : B → Type 0) (f : A → List B) (xs : List A) → ((x : A) → All P (f x)) → All P (flat_map f xs)
all_flat P f [] each = All-nil P
all_flat P f (x ∷ xs) each = All-append P (f x) (flat_map f xs) (each x) (all_flat P f xs each)

-- the functions of a service
own_sound : (s : PlainSchema) → IsSound s → (which : ℕ) → All (IsSoundFunction s) (own_functions s.services which)
own_sound s sound which = either (slice_get s.services which) refl
  where
    either : (o : Option PlainService) → slice_get s.services which ≡ o
        → All (IsSoundFunction s) (unwrap_or (option_map (λ (v : PlainService). v.functions) o) [])
    either None e = All-nil (IsSoundFunction s)
    either (Some v) e = (all_at (IsSoundService s) s.services which v sound.all_else.services e).functions

-- a function that is found is sound, and has the name
pub function_sound : (s : PlainSchema) → IsSound s → (which : ℕ) (name : List ℕ) (f : PlainFunction) → function_named s which name ≡ Some f
    → IsSoundFunction s f × (bytes_eq f.name name ≡ true)
function_sound s sound which name f e =
    found_is (IsSoundFunction s) (is_named name) (functions_of s.services which) f
    (all_flat (IsSoundFunction s) (own_functions s.services) (lineage s.services which) (own_sound s sound)) e

-- the struct of a function's arguments is there
args_there : (s : PlainSchema) (which : ℕ) (o : Option PlainStruct) → slice_get s.structs which ≡ o → MatchOption o ⊥ (λ (d : PlainStruct). d.kind ≡ Args) → IsPlaceIn s.structs which
args_there s which None e is = absurd is
args_there s which (Some d) e is = slice_get_within s.structs which d e

pub args_place : (s : PlainSchema) → IsSound s → (which : ℕ) (name : List ℕ) (f : PlainFunction) → function_named s which name ≡ Some f → IsPlaceIn s.structs f.args
args_place s sound which name f found =
    args_there s f.args (slice_get s.structs f.args) refl (function_sound s sound which name f found).0.args

-- the fields of the struct at a number
fields_sound : (s : PlainSchema) → IsSound s → (which : ℕ) → All (IsSoundField s) (fields_at s which)
fields_sound s sound which = either (slice_get s.structs which) refl
  where
    either : (o : Option PlainStruct) → slice_get s.structs which ≡ o
        → All (IsSoundField s) (unwrap_or (option_map (λ (d : PlainStruct). d.fields) o) [])
    either None e = All-nil (IsSoundField s)
    either (Some d) e = (all_at (IsSoundStruct s) s.structs which d sound.all_else.structs e).fields.each

-- the names that faults tell
pub field_name_short : (s : PlainSchema) → IsSound s → (which : ℕ) (id : ℤ) → length (field_name s which id) ≤ 2 ^ 22
field_name_short s sound which id = either (field_at s which id) refl
  where
    either : (o : Option PlainField) → field_at s which id ≡ o → length (unwrap_or (option_map (λ (f : PlainField). f.name) o) []) ≤ 2 ^ 22
    either None e = omega arith
    either (Some f) e = (found_is (IsSoundField s) (λ (g : PlainField). int_eq g.id id) (fields_at s which) f (fields_sound s sound which) e).0.name.short

pub struct_name_short : (s : PlainSchema) → IsSound s → (which : ℕ) → length (struct_name_at s which) ≤ 2 ^ 22
struct_name_short s sound which = either (slice_get s.structs which) refl
  where
    either : (o : Option PlainStruct) → slice_get s.structs which ≡ o → length (unwrap_or (option_map (λ (d : PlainStruct). d.name) o) []) ≤ 2 ^ 22
    either None e = omega arith
    either (Some d) e = (all_at (IsSoundStruct s) s.structs which d sound.all_else.structs e).name.short
