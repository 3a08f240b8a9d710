-- The office of the tests is that of the examples, so it is sound.
use Rattle.std.proofs.Common.{◌≡◌, ℕ, List, [], ◌∷◌, Option, None, codes, sym, subst}
use Rattle.envelope.specs.declared.head.Protocol.{Protocol}
use Rattle.schema.specs.Example.{example_schema}
use Rattle.schema.specs.PlainSchema.{PlainSchema}
use Rattle.call_model.specs.Offices.{Binding, PlainOffice, IsSoundOffice}
use Rattle.call_model.proofs.SoundExample.{example_office_sound}

abbrev served : PlainSchema → List Binding → Option ℕ → Protocol → PlainOffice
served s bindings default_slot protocol = record { schema = s; bindings = bindings; default_slot = default_slot; protocol = protocol; max_frame = 268435456 }

pub served_soundly : (s : PlainSchema) (bindings : List Binding) (default_slot : Option ℕ) (protocol : Protocol) → s ≡ example_schema → bindings ≡ (codes "V", 0) ∷ []
    → default_slot ≡ None → IsSoundOffice (served s bindings default_slot protocol)
served_soundly s bindings default_slot protocol is named none =
    subst (λ (t : PlainSchema). IsSoundOffice (served t bindings default_slot protocol)) (sym is)
    (subst (λ (bs : List Binding). IsSoundOffice (served example_schema bs default_slot protocol)) (sym named)
    (subst (λ (o : Option ℕ). IsSoundOffice (served example_schema ((codes "V", 0) ∷ []) o protocol)) (sym none) (example_office_sound protocol)))
