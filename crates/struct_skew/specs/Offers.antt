-- Which field of a raw struct counts for a declared one.
use Rattle.std.specs.Prelude.{ℤ, Bool, List, [], ◌∷◌, ◌&&◌, if◌then◌else◌, Option, Some, None, Result}
use Rattle.std.specs.Ordering.{int_eq}
use Rattle.thrift_value.specs.Tree.{Tree}
use Rattle.schema.specs.PlainKind.{PlainKind}
use Rattle.schema.specs.PlainSchema.{PlainField}
use Rattle.struct_skew.specs.declared.fault.SkewFault.{SkewFault}
use Rattle.struct_skew.specs.Fits.{fits_kind}

-- a raw field: its id, its value, and what the value means under a type
pub record Offer : Type 0 where
  pub id : ℤ
  pub value : Tree
  pub meaning : PlainKind → Result Tree SkewFault

-- what is sent with an id counts for a declared field of this id whose type it fits
abbrev pub is_sent_for : PlainField → ℤ → Tree → Bool
is_sent_for f id value = int_eq f.id id && fits_kind f.kind value

-- a raw field has a declared field's id, and fits its type
abbrev pub is_offer_of : PlainField → Offer → Bool
is_offer_of f o = is_sent_for f o.id o.value

-- the last of the raw fields that is one of the declared field; where there is none, what came before
abbrev pub last_offer_behind : PlainField → Option Offer → List Offer → Option Offer
last_offer_behind f before [] = before
last_offer_behind f before (o ∷ os) = last_offer_behind f (if is_offer_of f o then Some o else before) os

-- the last raw field that has the declared field's id and fits its type
abbrev pub last_offer : PlainField → List Offer → Option Offer
last_offer f offers = last_offer_behind f None offers
