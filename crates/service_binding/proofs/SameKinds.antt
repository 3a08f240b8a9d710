-- Kinds that are one.
use Rattle.std.proofs.Common.{◌≡◌, true, refl}
use Rattle.call_rules.specs.declared.kind.Kind.{Kind}
use Rattle.call_rules.specs.declared.kind.Kind.TheVariants.{Calculator, Store, Mirror}
use Rattle.service_binding.specs.Handlers.{same_kind}

pub same_is : (a b : Kind) → same_kind a b ≡ true → a ≡ b
same_is Calculator Calculator e = refl
same_is Store Store e = refl
same_is Mirror Mirror e = refl
same_is Calculator Store e = absurd (let f : ⊥ = cc in f)
same_is Calculator Mirror e = absurd (let f : ⊥ = cc in f)
same_is Store Calculator e = absurd (let f : ⊥ = cc in f)
same_is Store Mirror e = absurd (let f : ⊥ = cc in f)
same_is Mirror Calculator e = absurd (let f : ⊥ = cc in f)
same_is Mirror Store e = absurd (let f : ⊥ = cc in f)
