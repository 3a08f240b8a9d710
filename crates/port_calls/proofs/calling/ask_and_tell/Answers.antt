use Rattle.std.proofs.Common.{◌≡◌, Err, Global, List, Vec, refl, rules, subst, ℕ}
use Rattle.client_desk.specs.ClientOf.{plain_client}
use Rattle.streams.specs.Content.{told_more}
use Rattle.streams.specs.Taken.{IsTakenInPart}
use Rattle.port_calls.proofs.Exchanged.{ends_unasked, ends_unheard, is_told}
use Rattle.port_calls.proofs.calling.ask_and_tell.Goals as goal

pub returns-in-Err-clause-tells : goal.returns-in-Err-clause-tells
returns-in-Err-clause-tells g c =
    ends_unasked (λ (v : Vec ℕ Global). v.items) (λ (v : Vec ℕ Global). v.items) (plain_client c.args.client.now) c.args.call.now.method.now _ _ (Unit {0}) c.in-Err.fault
    c.fault_of_asking.result c.fault_of_asking.ensures c.in-Err.ensures.called refl

pub returns-in_err-line-clause-tells : goal.returns-in_err-line-clause-tells
returns-in_err-line-clause-tells g c =
    let is : c.from_residual.result ≡ Err c.in_err-line.field-0.0 = search (rules, c.from_residual.ensures) in
    ends_unheard (λ (v : Vec ℕ Global). v.items) (λ (v : Vec ℕ Global). v.items) (plain_client c.args.client.now) c.args.call.now.method.now _ _ (Unit {0}) c.in-Ok.reply
    c.in_err-line.field-0.0 c.from_residual.result is c.in-Ok.ensures.called (c.in_err-line.ensures {u = tt}) refl

pub returns-in-Ok-write_all-clause-tells : goal.returns-in-Ok-write_all-clause-tells
returns-in-Ok-write_all-clause-tells g c = (
  c.in_ok-line.line.items,
  is_told (λ (v : Vec ℕ Global). v.items) (λ (v : Vec ℕ Global). v.items) (plain_client c.args.client.now) c.args.call.now.method.now _ _ c.in-Ok.reply c.in_ok-line.line c.in-Ok.ensures.called
      (c.in_ok-line.ensures {u = tt}),
  subst (λ (bytes : List ℕ). g.K.Sink.taken c.write_all.new.out ≡ told_more (g.K.Sink.taken c.args.output.now) bytes) c.deref.ensures.value c.in-Ok-write_all.ensures.told,
)

pub returns-clause-tells : goal.returns-clause-tells
returns-clause-tells g c = (
  c.in_ok-line.line.items,
  is_told (λ (v : Vec ℕ Global). v.items) (λ (v : Vec ℕ Global). v.items) (plain_client c.args.client.now) c.args.call.now.method.now _ _ c.in-Ok.reply c.in_ok-line.line c.in-Ok.ensures.called
      (c.in_ok-line.ensures {u = tt}),
  subst (λ (bytes : List ℕ). IsTakenInPart (g.K.Sink.taken c.args.output.now) (g.K.Sink.taken c.write_all.new.out) bytes) c.deref.ensures.value c.in-Err-write_all.ensures.told,
)
