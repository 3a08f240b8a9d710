-- Types that are like each other, by the parts of the second.
use Rattle.std.proofs.Common.{◌≡◌, ℕ, Bool, false, List, [], ◌∷◌, Option, Some, None, refl}
use Rattle.std.specs.Prelude.{◌&&◌}
use Rattle.schema.specs.PlainKind.{PlainKind, kind_struct, kind_map, kind_set, kind_list}
use Rattle.known_parts.specs.Parts.{struct_of_kind, map_of_kind, set_of_kind, list_of_kind}
use Rattle.compat_model.specs.Likeness.{has_no_struct, are_like, struct_places}

abbrev pub like_map : PlainKind → PlainKind → Option (PlainKind × PlainKind) → Bool
like_map key value (Some p) = ((has_no_struct key && has_no_struct p.0) && are_like key p.0) && are_like value p.1
like_map key value None = false

abbrev pub like_set : PlainKind → Option PlainKind → Bool
like_set member (Some other) = (has_no_struct member && has_no_struct other) && are_like member other
like_set member None = false

abbrev pub like_list : PlainKind → Option PlainKind → Bool
like_list element (Some other) = are_like element other
like_list element None = false

pub are_like_map : (key value other : PlainKind) → are_like (kind_map key value) other ≡ like_map key value (map_of_kind other)
are_like_map key value (kind_map _ _) = refl
are_like_map key value _ = refl

pub are_like_set : (member other : PlainKind) → are_like (kind_set member) other ≡ like_set member (set_of_kind other)
are_like_set member (kind_set _) = refl
are_like_set member _ = refl

pub are_like_list : (element other : PlainKind) → are_like (kind_list element) other ≡ like_list element (list_of_kind other)
are_like_list element (kind_list _) = refl
are_like_list element _ = refl

abbrev pub struct_by : ℕ → Option ℕ → List (ℕ × ℕ)
struct_by which (Some other) = (which, other) ∷ []
struct_by which None = []

abbrev pub map_by : PlainKind → Option (PlainKind × PlainKind) → List (ℕ × ℕ)
map_by value (Some p) = struct_places value p.1
map_by value None = []

abbrev pub list_by : PlainKind → Option PlainKind → List (ℕ × ℕ)
list_by element (Some other) = struct_places element other
list_by element None = []

pub places_struct : (which : ℕ) (other : PlainKind) → struct_places (kind_struct which) other ≡ struct_by which (struct_of_kind other)
places_struct which (kind_struct _) = refl
places_struct which _ = refl

pub places_map : (key value other : PlainKind) → struct_places (kind_map key value) other ≡ map_by value (map_of_kind other)
places_map key value (kind_map _ _) = refl
places_map key value _ = refl

pub places_list : (element other : PlainKind) → struct_places (kind_list element) other ≡ list_by element (list_of_kind other)
places_list element (kind_list _) = refl
places_list element _ = refl
