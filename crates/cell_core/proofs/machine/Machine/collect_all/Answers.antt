use Rattle.cell_loop.specs.Moving.{all_of_outcomes}
use Rattle.cell_loop.specs.LoopMoves.{AnySetting}
use Rattle.cell_core.specs.Parts.{parts_of}
use Rattle.cell_core.proofs.Rounds.{begins}
use Rattle.cell_core.proofs.PassRounds.{some_on, outcome_round, outcome_last}
use Rattle.cell_core.proofs.machine.Machine.collect_all.Goals as goal

pub outcomes-init : goal.outcomes-init
outcomes-init g c = begins AnySetting all_of_outcomes (parts_of c.args.self.now) c.requires.under_way.1.room

pub collect_move-requires-clause-under_way : goal.collect_move-requires-clause-under_way
collect_move-requires-clause-under_way g c κs within = some_on all_of_outcomes all_of_outcomes (parts_of c.args.self.now) (parts_of c.outcomes.self) c.outcomes.moved c.outcomes.invariant c.requires.under_way

pub outcomes-preserved : goal.outcomes-preserved
outcomes-preserved g c =
    outcome_round (parts_of c.args.self.now) (parts_of c.outcomes.self) (parts_of c.collect_move.new.self) c.outcomes.moved c.collect_move.result c.outcomes.invariant c.collect_move.ensures.kept
    c.collect_move.ensures.count c.collect_move.ensures.moved c.collect_move.ensures.less c.outcomes-test.true

pub returns : goal.returns
returns g c =
    record {
      done = outcome_last (parts_of c.args.self.now) (parts_of c.outcomes.self) (parts_of c.collect_move.new.self) c.outcomes.moved c.collect_move.result c.outcomes.invariant c.collect_move.ensures.kept
          c.collect_move.ensures.count c.collect_move.ensures.moved c.collect_move.ensures.less c.outcomes-test.false;
    }
