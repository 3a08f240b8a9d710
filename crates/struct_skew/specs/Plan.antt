-- How the raw fields of a struct are assigned to its declared ones.
use Rattle.std.specs.Prelude.{◌≡◌, ◌⊎◌, ⊤, IfSome, ℕ, ℤ, ◌+◌, ◌<◌, length, Bool, false, ◌==◌, if◌then◌else◌, List, [], ◌∷◌, Option, Some, None, option_and_then, Result, Ok}
use Rattle.std.specs.List.{slice_get, list_any}
use Rattle.std.specs.declared.cmp.Ordering.{Ordering}
use Rattle.std.specs.Ordering.{nat_cmp, int_eq}
use Rattle.thrift_value.specs.Tree.{Tree, FieldTrees}
use Rattle.schema.specs.declared.types.FieldsKind.{FieldsKind}
use Rattle.schema.specs.PlainSchema.{PlainField, PlainStruct}
use Rattle.struct_skew.specs.declared.fault.SkewFault.{SkewFault}
use Rattle.struct_skew.specs.declared.plan.Choice.{Choice}
use Rattle.struct_skew.specs.Latest.{latest_of_each, IsRisingBy}
use Rattle.struct_skew.specs.Needs.{needs_of}
use Rattle.struct_skew.specs.Offers.{Offer, last_offer, last_offer_behind}
use Rattle.struct_skew.specs.Projection.{is_required, counted_default, field_value, offers_of}
use Rattle.struct_skew.specs.Results.{with_some, as_field}

-- what holds of each item and its place, from a number on
abbrev pub AllAt : {A : Type 0} → (ℕ → A → Type 0) → ℕ → List A → Type 0
AllAt P n [] = ⊤
AllAt P n (x ∷ xs) = P n x × AllAt P (n + 1) xs

-- choices by the places of their declared fields
abbrev pub place_cmp : Choice → Choice → Ordering
place_cmp c d = nat_cmp c.place d.place

-- a choice of a declared field for which nothing is sent
abbrev pub unsent_choice : ℕ → Choice
unsent_choice place = record { place = place; sent = None }

-- a choice is of the declared field at a place
abbrev pub is_choice_at : ℕ → Option Choice → Bool
is_choice_at q (Some c) = c.place == q
is_choice_at q None = false

-- the first, where there is one; else the other
abbrev pub first_known : {A : Type 0} → Option A → Option A → Option A
first_known (Some x) other = Some x
first_known None other = other

-- what the last choice of the declared field at a place says is sent for it; none where no choice is of it
abbrev pub latest_at : ℕ → List Choice → Option (Option ℕ)
latest_at q [] = None
latest_at q (c ∷ cs) = first_known (latest_at q cs) (if c.place == q then Some c.sent else None)

-- one of the choices is of the declared field at a place
abbrev pub has_choice : ℕ → List Choice → Bool
has_choice q choices = list_any (λ (c : Choice). c.place == q) choices

-- the raw field that a choice names
abbrev pub offer_at : List Offer → Option ℕ → Option Offer
offer_at offers sent = option_and_then (λ i. slice_get offers i) sent

-- the same of a choice that may be none
abbrev pub offer_of : List Offer → Option (Option ℕ) → Option Offer
offer_of offers chosen = option_and_then (offer_at offers) chosen

-- nothing comes of a declared field for which nothing is sent
pub record IsPassive (kind : FieldsKind) (f : PlainField) : Type 0 where
  pub unneeded : is_required f.need ≡ false
  pub no_default : counted_default kind f ≡ None

-- the choices assign to a declared field what counts for it: the last raw field that fits, and where nothing comes of it maybe no choice
pub record Suits (kind : FieldsKind) (offers : List Offer) (choices : List Choice) (q : ℕ) (f : PlainField) : Type 0 where
  pub sent : offer_of offers (latest_at q choices) ≡ last_offer f offers
  pub passive : has_choice q choices ≡ false → IsPassive kind f

-- a plan: choices by rising place that suit each declared field
pub record IsPlanFor (kind : FieldsKind) (fields : List PlainField) (offers : List Offer) (choices : List Choice) : Type 0 where
  pub rising : IsRisingBy place_cmp choices
  pub suits : AllAt (Suits kind offers choices) 0 fields

-- a choice's field and its value; none where no declared field is at its place
abbrev pub chosen_field : ℕ → FieldsKind → List Offer → Choice → Option PlainField → Result (Option (ℤ × Tree)) SkewFault
chosen_field which kind offers c (Some f) = as_field f.id (field_value which kind f (offer_at offers c.sent))
chosen_field which kind offers c None = Ok None

-- the fields that a plan gives, or the first fault
abbrev pub planned_fields : ℕ → FieldsKind → List PlainField → List Offer → List Choice → Result (List (ℤ × Tree)) SkewFault
planned_fields which kind fields offers [] = Ok []
planned_fields which kind fields offers (c ∷ cs) =
    with_some (chosen_field which kind offers c (slice_get fields c.place)) (planned_fields which kind fields offers cs)

-- the raw fields are looked at one by one: with those that are left, the choices so far lead to what counts
pub record Follows (kind : FieldsKind) (offers : List Offer) (choices : List Choice) (rest : List Offer) (q : ℕ) (f : PlainField) : Type 0 where
  pub sent : last_offer_behind f (offer_of offers (latest_at q choices)) rest ≡ last_offer f offers
  pub passive : has_choice q choices ≡ false → IsPassive kind f

-- an id is that of the declared field at a place, and of no other; where there is no place, of none
abbrev pub is_place : Option ℕ → ℕ → Bool
is_place (Some p) q = p == q
is_place None q = false

pub record IsPlaceOfId (id : ℤ) (fields : List PlainField) (place : Option ℕ) : Type 0 where
  pub own : AllAt (λ q f. int_eq f.id id ≡ is_place place q) 0 fields
  pub within : IfSome place (λ p. p < length fields)

-- choices that may follow the raw fields lead, with those that come of all of these, to what counts
abbrev pub KeepsFollowing : List PlainField → FieldTrees → List Choice → List Choice → Type 0
KeepsFollowing fields sent old new =
    (structs : List PlainStruct) (kind : FieldsKind) → AllAt (Follows kind (offers_of structs sent) old (offers_of structs sent)) 0 fields
    → AllAt (Follows kind (offers_of structs sent) new []) 0 fields

-- choices stay as they are, or are put in order, of each declared field the last
abbrev pub IsThinned : List Choice → List Choice → Type 0
IsThinned old new = (new ≡ old) ⊎ (new ≡ latest_of_each place_cmp old)

-- choices are a plan for each struct of these fields and needs, whatever structs there are
abbrev pub Plans : List ℕ → List ℕ → List PlainField → FieldTrees → List Choice → Type 0
Plans required defaulted fields sent choices =
    (structs : List PlainStruct) (s : PlainStruct) → s.fields ≡ fields → required ≡ (needs_of s).required → defaulted ≡ (needs_of s).defaulted
    → IsPlanFor s.kind fields (offers_of structs sent) choices
