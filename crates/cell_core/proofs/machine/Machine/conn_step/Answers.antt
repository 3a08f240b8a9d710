use Rattle.std.proofs.Common.{true, Some, sym, ap, ◌∙◌, subst}
use Rattle.cell_loop.specs.declared.loop_part.CellStage.TheVariants.{Framed}
use Rattle.cell_core.specs.Parts.{parts_of}
use Rattle.cell_core.specs.MachineSteps.{HasNoTurn}
use Rattle.cell_core.proofs.ConnMoves.{some_machine, fed_within, framed_reads, moved_steps, part_steps, none_steps}
use Rattle.cell_core.proofs.machine.Machine.conn_step.Goals as goal

pub returns-in-Some-Whole : goal.returns-in-Some-Whole
returns-in-Some-Whole g c =
    moved_steps c.args.max_frame c.args.c (parts_of c.args.self.now) (parts_of c.submit.new.self) true (λ s x one other reached comes. c.moves_are_reached.ensures.conn s x one other reached comes)
    c.requires.under_way (c.submit.ensures.moved c.args.max_frame) c.submit.ensures.kept c.submit.ensures.count

pub read-requires-clause-reads : goal.read-requires-clause-reads
read-requires-clause-reads g c =
    framed_reads (parts_of c.args.self.now) c.args.c (some_machine c.args.max_frame (parts_of c.args.self.now) c.requires.under_way)
    (sym (ap Some (sym c.in-Some-Framed.field-0-is) ∙ c.in-Some-Framed.ensures))

pub read-requires-clause-fed : goal.read-requires-clause-fed
read-requires-clause-fed g c =
    fed_within (parts_of c.args.self.now) c.args.c Framed (some_machine c.args.max_frame (parts_of c.args.self.now) c.requires.under_way)
    (sym (ap Some (sym c.in-Some-Framed.field-0-is) ∙ c.in-Some-Framed.ensures))

pub returns-in-Some-Framed : goal.returns-in-Some-Framed
returns-in-Some-Framed g c =
    part_steps c.args.max_frame c.args.c c.args.self.now.part c.args.self.now.hall c.args.self.now.workers.items c.read.new.self c.read.result
    (λ s x one other reached comes. c.moves_are_reached.ensures.conn s x one other reached comes) c.requires.under_way c.read.ensures.moved c.read.ensures.err c.read.ensures.feeds c.read.ensures.room

pub returns-in-Some-Lean : goal.returns-in-Some-Lean
returns-in-Some-Lean g c =
    part_steps c.args.max_frame c.args.c c.args.self.now.part c.args.self.now.hall c.args.self.now.workers.items c.lean_move.new.self c.lean_move.result
    (λ s x one other reached comes. c.moves_are_reached.ensures.conn s x one other reached comes) c.requires.under_way c.lean_move.ensures.moved c.lean_move.ensures.err
    c.lean_move.ensures.feeds c.lean_move.ensures.room

pub returns-in-Some-Asked : goal.returns-in-Some-Asked
returns-in-Some-Asked g c =
    none_steps c.args.max_frame c.args.c (parts_of c.args.self.now) (λ s x one other reached comes. c.moves_are_reached.ensures.conn s x one other reached comes) c.requires.under_way
    (subst HasNoTurn (ap Some (sym c.in-Some-Asked.field-0-is) ∙ c.in-Some-Asked.ensures) tt)

pub returns-in-Some-Over : goal.returns-in-Some-Over
returns-in-Some-Over g c =
    none_steps c.args.max_frame c.args.c (parts_of c.args.self.now) (λ s x one other reached comes. c.moves_are_reached.ensures.conn s x one other reached comes) c.requires.under_way
    (subst HasNoTurn (ap Some (sym c.in-Some-Over.field-0-is) ∙ c.in-Some-Over.ensures) tt)

pub returns-in-None : goal.returns-in-None
returns-in-None g c =
    none_steps c.args.max_frame c.args.c (parts_of c.args.self.now) (λ s x one other reached comes. c.moves_are_reached.ensures.conn s x one other reached comes) c.requires.under_way
    (subst HasNoTurn (sym c.in-None.is ∙ c.stage.ensures) tt)
