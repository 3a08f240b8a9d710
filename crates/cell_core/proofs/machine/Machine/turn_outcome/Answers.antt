use Rattle.cell_core.specs.Parts.{parts_of}
use Rattle.cell_core.proofs.Lines.{outcome_line}
use Rattle.cell_core.proofs.machine.Machine.turn_outcome.Goals as goal

pub returns : goal.returns
returns g c =
    record { done = outcome_line (parts_of c.args.self.now) (parts_of c.collect_move.new.self) c.collect_move.ensures.kept c.collect_move.ensures.count c.collect_move.result c.collect_move.ensures.moved }
