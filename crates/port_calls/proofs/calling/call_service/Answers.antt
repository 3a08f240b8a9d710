use Rattle.std.proofs.Common.{◌≡◌, Err, Global, Vec, refl, rules, ℕ}
use Rattle.client_desk.specs.ClientOf.{plain_client}
use Rattle.port_calls.proofs.Exchanged.{known_place, made, refused_of}
use Rattle.port_calls.specs.PortCallOf.{plain_port_call}
use Rattle.port_calls.proofs.calling.call_service.Goals as goal
use Rattle.schema.specs.SchemaOf.{schema_of}

pub client_of-requires-clause-place : goal.client_of-requires-clause-place
client_of-requires-clause-place g c = known_place (schema_of c.args.schema) c.args.call.now.name.now c.args.service c.requires.service

pub returns-in_err-frame-clause-means : goal.returns-in_err-frame-clause-means
returns-in_err-frame-clause-means g c =
    let is : c.from_residual-in_err-frame.result ≡ Err c.in_err-frame.field-0.0 = search (rules, c.from_residual-in_err-frame.ensures) in
    refused_of (λ (v : Vec ℕ Global). v.items) (plain_port_call (schema_of c.args.schema) c.args.call.now) _ c.args.service c.requires.service (plain_client c.in_ok-client.client)
    (c.in_ok-client.ensures {u = tt}) c.in_err-frame.field-0.0 c.from_residual-in_err-frame.result is (c.in_err-frame.ensures {u = tt}) (refl, refl)

pub returns-clause-means : goal.returns-clause-means
returns-clause-means g c =
    made (λ (v : Vec ℕ Global). v.items) (plain_port_call (schema_of c.args.schema) c.args.call.now) _ c.args.service c.requires.service (plain_client c.in_ok-client.client)
    (c.in_ok-client.ensures {u = tt}) c.in_ok-frame.frame c.deref.result.now c.waits_for-waits.result (c.in_ok-frame.ensures {u = tt}) c.deref.ensures.value c.waits_for-waits.ensures
    c.ask_and_tell.result c.ask_and_tell.ensures.tells
