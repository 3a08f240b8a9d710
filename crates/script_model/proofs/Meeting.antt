-- What holds of an answer, where there is one.
use Rattle.std.proofs.Common.{◌≡◌, Bool, true, false, if◌then◌else◌, Option, None, Some, refl, option_map}
use Rattle.std.specs.Prelude.{option_and_then}
use Rattle.script_model.specs.Playing.{or_else}

module _ {X : Type 0} where
  -- what holds of an option's value, where there is one
  abbrev pub Meets : (X → Type 0) → Option X → Type 0
  Meets P None = Unit {0}
  Meets P (Some x) = P x

  pub met : (P : X → Type 0) (o : Option X) → ((x : X) → o ≡ Some x → P x) → Meets P o
  met P None f = tt
  met P (Some x) f = f x refl

  pub either_meets : (P : X → Type 0) (b : Bool) (x y : Option X) → (b ≡ true → Meets P x) → (b ≡ false → Meets P y) → Meets P (if b then x else y)
  either_meets P true x y f g = f refl
  either_meets P false x y f g = g refl

  pub or_meets : (P : X → Type 0) (x y : Option X) → Meets P x → Meets P y → Meets P (or_else x y)
  or_meets P None y a b = b
  or_meets P (Some x) y a b = a

  pub and_meets : (P Q : X → Type 0) (f : X → Option X) (o : Option X) → Meets P o → ((x : X) → P x → Meets Q (f x)) → Meets Q (option_and_then f o)
  and_meets P Q f None a each = tt
  and_meets P Q f (Some x) a each = each x a

pub mapped_meets : {X Y : Type 0} (P : Y → Type 0) (f : X → Y) (o : Option X) → Meets (λ x. P (f x)) o → Meets P (option_map f o)
mapped_meets P f None a = tt
mapped_meets P f (Some x) a = a
