use Rattle.std.proofs.Common.{◌≡◌, length, ◌∙◌, refl, subst, arith}
use Rattle.cell_loop.specs.LoopMoves.{LoopStops}
use Rattle.cell_loop.specs.Stops.{open_below}
use Rattle.cell_loop.proofs.Stopping.{stops_nothing, stops_way, stops_further, over_more, stops_all}
use Rattle.cell_loop.proofs.loop_part.LoopPart.stop_all.Goals as goal

pub loop-c-init : goal.loop-c-init
loop-c-init c = (stops_nothing c.args.self.now, refl, λ x below. absurd (let f : ⊥ = omega arith in f), c.requires.under_way.room)

pub stop-requires : goal.stop-requires
stop-requires c =
    record {
      under_way = stops_way (λ loop. open_below loop.conns c.loop-c.c) c.args.self.now c.loop-c.self c.requires.under_way c.loop-c.invariant.0 c.loop-c.invariant.3;
      opened = let known : length c.loop-c.self.stages.items ≡ length c.args.self.now.stages.items = c.loop-c.invariant.1 in omega (arith, c.args.self.now.stages.ok.0);
    }

pub loop-c-preserved : goal.loop-c-preserved
loop-c-preserved c = (
  stops_further c.loop-c.c c.args.self.now c.loop-c.self c.stop.new.self c.loop-c.invariant.0 c.stop.ensures.stopped.stops,
  c.stop.ensures.stopped.count ∙ c.loop-c.invariant.1,
  over_more c.loop-c.c c.loop-c.self c.stop.new.self c.stop.ensures.stopped c.loop-c.invariant.2,
  c.stop.ensures.room,
)

pub returns : goal.returns
returns c =
    let known : length c.loop-c.self.stages.items ≡ length c.args.self.now.stages.items = c.loop-c.invariant.1 in
    let all : c.loop-c.c ≡ length c.args.self.now.stages.items = omega (arith, c.args.self.now.stages.ok.0) in
    record {
      stopped = stops_all c.args.self.now c.loop-c.self
          (subst (λ k. LoopStops (λ loop. open_below loop.conns k) c.args.self.now c.loop-c.self) all c.loop-c.invariant.0)
          (λ x below. c.loop-c.invariant.2 x (omega (arith, c.args.self.now.stages.ok.0)));
      room = c.loop-c.invariant.3;
    }
