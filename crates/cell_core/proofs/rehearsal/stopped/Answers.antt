use Rattle.std.proofs.Common.{length}
use Rattle.cell_core.proofs.Finishing.{led_to_end, told_count}
use Rattle.cell_core.proofs.Givens.{or_none_as}
use Rattle.cell_core.proofs.rehearsal.stopped.Goals as goal

pub returns-clause-run : goal.returns-clause-run
returns-clause-run g c s cell play tied same =
    led_to_end s cell c.stop_all.new.self c.finished.result.tape c.finished.result.ends c.finished.ensures.tape c.finished.ensures.ends (c.stop_all.ensures.stopped s cell play tied same)

pub returns-clause-outs : goal.returns-clause-outs
returns-clause-outs g c =
    or_none_as (length c.finished.result.ends) (length c.stop_all.new.self.stages.items) c.finished.result.tape c.stop_all.new.self.tape.items c.finished.result.outs
    (told_count c.args.machine.part c.stop_all.new.self c.finished.result.ends c.requires.under_way c.stop_all.ensures.stopped c.finished.ensures.ends)
    c.finished.ensures.tape c.finished.ensures.written
