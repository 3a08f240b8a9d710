-- Who calls: a service of a schema, and how a host knows it (Thrift: a client, and with several services a TMultiplexedProtocol).
use Rattle.std.specs.Prelude.{◌≡◌, ℕ, ◌≤◌, Bool, List, None}
use Rattle.call_rules.specs.Desks.{longest_payload}
use Rattle.envelope.specs.declared.head.Protocol.{Protocol}
use Rattle.schema.specs.PlainSchema.{PlainSchema}
use Rattle.schema.specs.Sound.{IsSound, IsPlaceIn}
use Rattle.call_model.specs.Names.{separator_of}

-- a service by its number in a schema, the name under which a host may have bound it, the protocol, whether that name stands in front
-- of methods, and the longest payload that goes out
pub record PlainClient : Type 0 where
  pub schema : PlainSchema
  pub service : ℕ
  pub name : List ℕ
  pub protocol : Protocol
  pub named : Bool
  pub max_frame : ℕ

-- what may call: a service of a sound schema under a name without a separator
pub record IsSoundClient (c : PlainClient) : Type 0 where
  pub schema : IsSound c.schema
  pub service : IsPlaceIn c.schema.services c.service
  pub whole : separator_of c.name ≡ None
  pub least : 1 ≤ c.max_frame
  pub most : c.max_frame ≤ longest_payload
