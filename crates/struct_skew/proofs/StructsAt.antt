-- The struct at a number.
use Rattle.std.proofs.Common.{◌≡◌, ℕ, zero, suc, List, [], ◌∷◌, map, Some, refl, sym, ap, subst, ◌∙◌}
use Rattle.std.specs.Prelude.{All}
use Rattle.std.specs.List.{slice_get}
use Rattle.std.specs.Option.{option_map}
use Rattle.std.proofs.lemmas.Option.{get_or_from_slice_get, slice_get_within, same_Some}
use Rattle.schema.specs.declared.types.StructDesc.{StructDesc}
use Rattle.schema.specs.PlainSchema.{PlainSchema}
use Rattle.schema.specs.SchemaOf.{plain_struct}
use Rattle.schema.specs.Sound.{IsSoundStruct}
use Rattle.struct_skew.specs.declared.needs.StructNeeds.{StructNeeds}
use Rattle.struct_skew.specs.Needs.{PlainNeeds, needs_of, plain_needs}
use Rattle.struct_skew.specs.Structs.{IsStructAt}

pub slice_get-map : {A B : Type 0} (f : A → B) (xs : List A) (i : ℕ) → slice_get (map f xs) i ≡ option_map f (slice_get xs i)
slice_get-map f [] i = refl
slice_get-map f (x ∷ xs) zero = refl
slice_get-map f (x ∷ xs) (suc i) = slice_get-map f xs i

-- what holds of all holds of the one at a place
pub All-at : {A : Type 0} (P : A → Type 0) (xs : List A) (i : ℕ) (x : A) → All P xs → slice_get xs i ≡ Some x → P x
All-at P xs i x all at = subst P (get_or_from_slice_get xs i x x at) (all i x (slice_get_within xs i x at))

pub struct_here : (s : PlainSchema) (structs : List StructDesc) (table : List PlainNeeds) (which : ℕ) (d : StructDesc) (n : StructNeeds)
    → table ≡ map needs_of (map plain_struct structs) → Some d ≡ slice_get structs which → Some (plain_needs n) ≡ slice_get table which
    → All (IsSoundStruct s) (map plain_struct structs) → IsStructAt (map plain_struct structs) which d n
struct_here s structs table which d n rows desc needs sound =
    let here : slice_get (map plain_struct structs) which ≡ Some (plain_struct d) = slice_get-map plain_struct structs which ∙ ap (option_map plain_struct) (sym desc) in
    let row : Some (plain_needs n) ≡ Some (needs_of (plain_struct d)) =
    needs ∙ ap (λ t. slice_get t which) rows ∙ slice_get-map needs_of (map plain_struct structs) which ∙ ap (option_map needs_of) here in record {
      here = here;
      needed = same_Some (plain_needs n) (needs_of (plain_struct d)) row;
      rising = (All-at (IsSoundStruct s) (map plain_struct structs) which (plain_struct d) sound here).fields.rising;
    }
