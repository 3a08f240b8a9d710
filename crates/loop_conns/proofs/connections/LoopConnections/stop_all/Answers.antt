use Rattle.std.proofs.Common.{◌≡◌, ◌≤◌, ◌^◌, length, refl, ◌∙◌, arith}
use Rattle.loop_conns.proofs.Stops.{gone_more, all_gone}
use Rattle.loop_conns.proofs.Halting.{come_then, some_still, few_known, all_ended}
use Rattle.loop_conns.proofs.connections.LoopConnections.stop_all.Goals as goal

pub all-init : goal.all-init
all-init g c = ((λ max small first asks w. w), refl, (λ x l. absurd (let f : ⊥ = omega arith in f)), (λ x. refl), refl, refl)

pub overflow_cast-c : goal.overflow_cast-c
overflow_cast-c g c =
    let few : length c.args.self.now.stages.items ≤ 2 ^ 32 = few_known (g.L.Links.state c.args.links.now) c.args.self.now c.requires.so_far in
    record { fits = omega (arith, c.all-test.true, c.len-c-end.ensures, c.args.self.now.stages.ok.0) }

pub stop-requires-clause-so_far : goal.stop-requires-clause-so_far
stop-requires-clause-so_far g c κs within =
    some_still (g.L.Links.state c.args.links.now) (g.L.Links.state c.all.links) c.args.self.now c.all.self c.requires.so_far c.all.invariant.0

pub stop-requires-clause-known : goal.stop-requires-clause-known
stop-requires-clause-known g c κs within =
    let known : length c.all.self.stages.items ≡ length c.args.self.now.stages.items = c.all.invariant.1 in
    omega (arith, c.all-test.true, c.len-c-end.ensures, c.args.self.now.stages.ok.0)

pub all-preserved : goal.all-preserved
all-preserved g c = (
  come_then (g.L.Links.state c.args.links.now) (g.L.Links.state c.all.links) (g.L.Links.state c.stop.new.links) c.args.self.now c.all.self c.stop.new.self c.all.invariant.0 c.stop.ensures.come,
  c.stop.ensures.stopped.count ∙ c.all.invariant.1,
  gone_more c.all.c c.all.self c.stop.new.self c.stop.ensures.stopped c.all.invariant.2,
  (λ x. c.stop.ensures.stopped.causes x ∙ c.all.invariant.3 x),
  c.stop.ensures.budget ∙ c.all.invariant.4,
  c.stop.ensures.plan ∙ c.all.invariant.5,
)

pub returns : goal.returns
returns g c =
    let known : length c.all.self.stages.items ≡ length c.args.self.now.stages.items = c.all.invariant.1 in
    let gone = all_gone c.all.c c.all.self (omega (arith, c.all-test.false, c.len-c-end.ensures, c.args.self.now.stages.ok.0)) c.all.invariant.2 in
    record {
      come = c.all.invariant.0;
      gone = gone;
      causes = c.all.invariant.3;
      ended = all_ended (g.L.Links.state c.args.links.now) (g.L.Links.state c.all.links) c.args.self.now c.all.self c.all.invariant.0 gone;
      budget = c.all.invariant.4;
      plan = c.all.invariant.5;
    }
