-- A host that serves a client's service alone.
use Rattle.std.specs.Prelude.{◌≡◌, ℕ, true, List, [], ◌∷◌, None}
use Rattle.call_model.specs.Offices.{PlainOffice}
use Rattle.client_desk.specs.Clients.{PlainClient}

-- the client's service is the only one that is bound, in the client's schema and protocol, and none by default; it is bound under the
-- client's name where that name stands in front of methods
pub record IsServedAlone (c : PlainClient) (office : PlainOffice) : Type 0 where
  pub schema : office.schema ≡ c.schema
  pub protocol : office.protocol ≡ c.protocol
  pub name : List ℕ
  pub bindings : office.bindings ≡ (name, c.service) ∷ []
  pub named : c.named ≡ true → name ≡ c.name
  pub default_slot : office.default_slot ≡ None
