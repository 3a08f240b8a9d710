-- Sets of names, one name more at a time.
use Rattle.std.proofs.Common.{◌≡◌, ◌≤◌, ◌<◌, ◌+◌, ◌++◌, ℕ, zero, suc, Bool, true, false, List, [], ◌∷◌, length, get_or, slice_get, take, Option, None, Some, Result, Ok, Err, MatchResult, IfOk, OnOk, Bor, refl, ap, sym, subst, ◌∙◌}
use Rattle.std.specs.Prelude.{◌||◌}
use Rattle.std.specs.Option.{option_copied, option_map_or}
use Rattle.std.specs.Slice.{IsItemAt}
use Rattle.std.proofs.lemmas.Option.{slice_get_past, slice_get_read}
use Rattle.std.specs.List.{list_any, AllZip}
use Rattle.std.specs.Str.{bytes_eq}
use Rattle.std.proofs.lemmas.List.{get_or_default}
use Rattle.idl_parser.specs.declared.tree.Function.{Function}
use Rattle.idl_names.specs.NameSets.{NameSet, has_name}
use Rattle.idl_names.proofs.Based.{zip_push, take_past}
use Rattle.idl_names.proofs.Marked.{taken_more}
use Rattle.idl_types.specs.Inherited.{is_function, is_in_base, HasBoth, IsBase, AreInherited}

-- the names of another set more
abbrev pub is_key : List (Bor (List ℕ)) → List ℕ → Bool
is_key keys name = list_any (λ (key : Bor (List ℕ)). bytes_eq key.now name) keys

-- ---- the names of a parent's set more, and those of functions

or_false : (b : Bool) → b ≡ (b || false)
or_false true = refl
or_false false = refl

pub no_base_put : (sets : List NameSet) (base : Option ℕ) (set : NameSet) → base ≡ None → (name : List ℕ) → has_name set name ≡ (has_name set name || is_in_base sets base name)
no_base_put sets base set none name = or_false (has_name set name) ∙ ap (λ (o : Option ℕ). has_name set name || is_in_base sets o name) (sym none)

-- what a look-up answers
got : (sets : List NameSet) (which : ℕ) (r : Option (Bor NameSet)) → IsItemAt sets which r → option_copied r ≡ slice_get sets which
got sets which None h = sym (slice_get_past sets which h.3)
got sets which (Some x) h = sym (slice_get_read sets (length sets) which x.now refl h.3.0 h.1)

pub no_set_put : (sets : List NameSet) (base : Option ℕ) (which : ℕ) (r : Option (Bor NameSet)) (set : NameSet) → base ≡ Some which → IsItemAt sets which r → r ≡ None
    → (name : List ℕ) → has_name set name ≡ (has_name set name || is_in_base sets base name)
no_set_put sets base which r set is at none name =
    or_false (has_name set name)
    ∙ ap (λ (o : Option NameSet). has_name set name || option_map_or (λ (s : NameSet). has_name s name) o false) (sym (ap option_copied none) ∙ got sets which r at)
    ∙ ap (λ (o : Option ℕ). has_name set name || is_in_base sets o name) (sym is)

pub both_put : {A E : Type 0} (r : Result A E) (sets : List NameSet) (base : Option ℕ) (functions : List Function) (first mid new : NameSet)
    → ((name : List ℕ) → has_name mid name ≡ (has_name first name || is_in_base sets base name))
    → OnOk r ((name : List ℕ) → has_name new name ≡ (has_name mid name || is_function functions name))
    → OnOk r ((name : List ℕ) → has_name new name ≡ ((has_name first name || is_in_base sets base name) || is_function functions name))
both_put (Err e) sets base functions first mid new base_put put = tt
both_put (Ok x) sets base functions first mid new base_put put = λ name. put name ∙ ap (λ b. b || is_function functions name) (base_put name)

pub from_nothing : {A E : Type 0} (r : Result A E) (sets : List NameSet) (base : Option ℕ) (functions : List Function) (first new : NameSet) → first.keys ≡ []
    → OnOk r ((name : List ℕ) → has_name new name ≡ ((has_name first name || is_in_base sets base name) || is_function functions name))
    → OnOk r (HasBoth sets base functions new)
from_nothing (Err e) sets base functions first new empty put = tt
from_nothing (Ok x) sets base functions first new empty put = λ name.
    put name
    ∙ ap (λ (ks : List (Bor (List ℕ))). (list_any (λ (k : Bor (List ℕ)). bytes_eq k.now name) ks || is_in_base sets base name) || is_function functions name) empty

-- ---- what was filled

pub kept_right : {T U E : Type 0} (P : T → Type 0) (item : T) (done : Result U E) (r : Result T E) → MatchResult done (λ _. r ≡ Ok item) (λ e. r ≡ Err e)
    → OnOk done (P item) → IfOk r P
kept_right P item (Ok u) r is right = subst (λ s. IfOk s P) (sym is) right
kept_right P item (Err e) r is right = subst (λ s. IfOk s P) (sym is) tt

pub on_ok_of : {U E A : Type 0} (B : Type 0) (r : Result U E) → OnOk r (A → B) → A → OnOk r B
on_ok_of B (Ok u) f a = f a
on_ok_of B (Err e) f a = tt

-- ---- nothing made

pub none_more : (xs new : List (Option ℕ)) → new ≡ xs ++ None ∷ [] → ((k : ℕ) → get_or xs k None ≡ None) → (k : ℕ) → get_or new k None ≡ None
none_more xs new pushed none k = ap (λ (ns : List (Option ℕ)). get_or ns k None) pushed ∙ by xs none k
  where
    by : (ys : List (Option ℕ)) → ((j : ℕ) → get_or ys j None ≡ None) → (j : ℕ) → get_or (ys ++ None ∷ []) j None ≡ None
    by [] h zero = refl
    by [] h (suc j) = refl
    by (y ∷ ys) h zero = h zero
    by (y ∷ ys) h (suc j) = by ys (λ n. h (suc n)) j

-- ---- the sets of parents

pub bases_next : (made parents : List (Option ℕ)) (i : ℕ) (parent base : Option ℕ) (old new : List (Option ℕ)) → i < length parents → parent ≡ get_or parents i None
    → IsBase made parent base → new ≡ old ++ base ∷ [] → AllZip (IsBase made) (take i parents) old → AllZip (IsBase made) (take (i + 1) parents) new
bases_next made parents i parent base old new l here is pushed so_far =
    let P : List (Option ℕ) → Type 0 = λ bs. AllZip (IsBase made) (take (i + 1) parents) bs in
    let Q : List (Option ℕ) → Type 0 = λ ps. AllZip (IsBase made) ps (old ++ base ∷ []) in
    subst P (sym pushed) (subst Q (sym (taken_more parents i parent l (here ∙ get_or_default parents i None parent l))) (zip_push (IsBase made) (take i parents) old parent base so_far is))

pub bases_end : (made parents sets : List (Option ℕ)) (i : ℕ) → length parents ≤ i → AllZip (IsBase made) (take i parents) sets → AreInherited made parents sets
bases_end made parents sets i past so_far = by parents sets (subst (λ (ps : List (Option ℕ)). AllZip (IsBase made) ps sets) (take_past parents i past) so_far)
  where
    by : (ps bs : List (Option ℕ)) → AllZip (IsBase made) ps bs → AreInherited made ps bs
    by [] [] h service = tt
    by [] (b ∷ bs) h service = absurd h
    by (p ∷ ps) [] h service = absurd h
    by (p ∷ ps) (b ∷ bs) h zero = h.0
    by (p ∷ ps) (b ∷ bs) h (suc service) = by ps bs h.1 service
