-- What is bound may be served.
use Rattle.std.proofs.Common.{◌≡◌, ℕ, ◌≤◌, ◌<◌, List, [], Option, None, Some, IfOk, map, length, refl, subst, arith}
use Rattle.std.specs.Prelude.{All, IfSome, position}
use Rattle.std.proofs.lemmas.List.Quantifiers.{position-Some}
use Rattle.call_model.specs.Offices.{Binding, bound_name}
use Rattle.schema.specs.PlainSchema.{PlainSchema}
use Rattle.schema.specs.Sound.{IsSound, IsPlaceIn, AreDifferent}
use Rattle.call_model.specs.Offices.{IsSoundOffice}
use Rattle.command_line.specs.Bounds.{KeepsServedBounds}
use Rattle.service_binding.specs.Binding.{NumberedName}
use Rattle.service_binding.specs.Defaults.{has_numbered_name, slot_or_not_bound, slot_for_default}
use Rattle.service_binding.proofs.Served.{as_many, places, different}
use Rattle.thrift_host.specs.Runs.{AskedRun, IsArranged, arranged_office}
use Rattle.thrift_host.specs.MayBeServed.{MayBeServed}

-- a slot that is a place
slot_is_place : (count : ℕ) (default_slot : Option ℕ) → IfSome default_slot (λ place. place < count) → (slot : ℕ) → default_slot ≡ Some slot → slot < count
slot_is_place count default_slot within slot is = subst (λ (o : Option ℕ). IfSome o (λ place. place < count)) is within

pub may_be_served : (s : PlainSchema) (bindings : List Binding) (default_slot : Option ℕ) (count : ℕ) → IsSound s → 1 ≤ count → count ≤ 16 → length bindings ≡ count
    → AreDifferent (map bound_name bindings) → All (λ (b : Binding). IsPlaceIn s.services b.1) bindings → IfSome default_slot (λ place. place < length bindings)
    → MayBeServed s bindings default_slot
may_be_served s bindings default_slot count sound some few many different places within =
    λ protocol most least longest.
    record {
      schema = sound;
      some = omega (arith, many, some);
      few = omega (arith, many, few);
      names = different;
      services = places;
      default_slot = slot_is_place (length bindings) default_slot within;
      least = least;
      most = longest;
    }

-- the slot of a default is one of what is bound
default_within : (bindings : List NumberedName) (name : Option (List ℕ)) → IfOk (slot_for_default bindings name) (λ slot. IfSome slot (λ place. place < length bindings))
default_within bindings None = tt
default_within bindings (Some name) = by (position (has_numbered_name name) bindings) refl
  where
    by : (o : Option ℕ) → position (has_numbered_name name) bindings ≡ o → IfOk (slot_or_not_bound o) (λ slot. IfSome slot (λ place. place < length bindings))
    by None is = tt
    by (Some k) is = (position-Some (has_numbered_name name) bindings k ([], 0) is).0

-- an office that is arranged within the bounds of words is sound
pub arranged_sound : (r : AskedRun) (a : IsArranged r) → KeepsServedBounds r.says → IsSoundOffice (arranged_office r a)
arranged_sound r a bounds =
    may_be_served a.schema a.bindings a.default_slot (length r.says.pairs) a.has.sound bounds.some bounds.few
    (as_many a.schema r.handlers [] r.says.pairs a.bindings a.bound a.are_bound).0
    (different a.schema r.handlers [] r.says.pairs a.bindings a.bound a.are_bound)
    (places a.schema r.handlers [] r.says.pairs a.bindings a.bound a.are_bound)
    (subst (λ slot. IfOk slot (λ slot. IfSome slot (λ place. place < length a.bindings))) a.is_default (default_within a.bindings r.says.default_service))
    r.says.protocol r.says.limits.max_frame bounds.least (omega (arith, bounds.fits, bounds.most))
