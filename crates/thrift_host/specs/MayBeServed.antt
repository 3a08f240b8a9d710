-- What may be served.
use Rattle.std.specs.Prelude.{ℕ, ◌≤◌, List, Option}
use Rattle.call_model.specs.Offices.{Binding, IsSoundOffice}
use Rattle.call_rules.specs.Desks.{longest_payload}
use Rattle.envelope.specs.declared.head.Protocol.{Protocol}
use Rattle.schema.specs.PlainSchema.{PlainSchema}

-- with this schema the bindings, and the one at this slot as the default, make an office, in either protocol and with any longest payload that
-- there may be
abbrev pub MayBeServed : PlainSchema → List Binding → Option ℕ → Type 0
MayBeServed s bindings default_slot = (protocol : Protocol) (most : ℕ) → 1 ≤ most → most ≤ longest_payload
    → IsSoundOffice (record { schema = s; bindings = bindings; default_slot = default_slot; protocol = protocol; max_frame = most })
