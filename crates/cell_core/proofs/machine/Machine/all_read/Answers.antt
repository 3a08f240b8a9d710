use Rattle.std.proofs.Common.{◌-◌, ◌+◌, false, List, length, slice_get, subst, arith}
use Rattle.cell_loop.specs.declared.loop_part.CellStage.{CellStage}
use Rattle.cell_core.specs.MachineSteps.{HasNoTurn}
use Rattle.script_model.specs.ScriptLines.{count_up}
use Rattle.cell_loop.specs.Moving.{all_of_conns, first_of_conns}
use Rattle.cell_loop.specs.LoopMoves.{HasLongest}
use Rattle.cell_core.specs.Parts.{parts_of}
use Rattle.cell_core.proofs.Rounds.{breaks_off}
use Rattle.cell_core.proofs.PassRounds.{on_err, machine_on, conns_begin, conns_round, conns_to, conns_last}
use Rattle.cell_core.proofs.machine.Machine.all_read.Goals as goal

pub conns-init : goal.conns-init
conns-init g c =
    conns_to c.args.max_frame (length c.args.self.now.part.stages.items) (parts_of c.args.self.now) (parts_of c.args.self.now) false
    (λ s x one other reached comes. c.moves_are_reached.ensures.conn s x one other reached comes) c.requires.under_way 0 c.next_turn-c.result
    c.next_turn-c.ensures.from (omega (arith, c.next_turn-c.ensures.within, c.in-Ok.ensures, c.len.ensures))
    (λ k from below. subst (λ (stages : List CellStage). HasNoTurn (slice_get stages k)) c.as_slice.ensures.value (c.next_turn-c.ensures.still k from below))
    (conns_begin c.args.max_frame (length c.args.self.now.part.stages.items) (parts_of c.args.self.now) c.requires.under_way.2.room)

pub read_through-requires-clause-under_way : goal.read_through-requires-clause-under_way
read_through-requires-clause-under_way g c κs within =
    machine_on c.args.max_frame (λ s. first_of_conns s (length c.args.self.now.part.stages.items))
    (λ s. all_of_conns s (count_up c.conns.c (length c.args.self.now.part.stages.items - c.conns.c))) (parts_of c.args.self.now) (parts_of c.conns.self) c.conns.moved c.conns.invariant c.requires.under_way

pub returns-in_err-read-clause-err : goal.returns-in_err-read-clause-err
returns-in_err-read-clause-err g c =
    on_err c.from_residual.result
    (breaks_off (HasLongest c.args.max_frame) (λ s. first_of_conns s (length c.args.self.now.part.stages.items))
    (λ s. all_of_conns s (count_up c.conns.c (length c.args.self.now.part.stages.items - c.conns.c))) (parts_of c.args.self.now) (parts_of c.conns.self) (parts_of c.read_through.new.self)
    c.conns.moved c.conns.invariant c.in_err-read.ensures.err)

pub conns-preserved : goal.conns-preserved
conns-preserved g c =
    let n = length c.args.self.now.part.stages.items in
    let round =
    conns_round c.args.max_frame n c.conns.c (parts_of c.args.self.now) (parts_of c.conns.self) (parts_of c.read_through.new.self) c.conns.moved c.in_ok-read.read
    c.either-moved.result (omega (arith, c.conns-test.true, c.in-Ok.ensures, c.len.ensures))
    c.conns.invariant c.in_ok-read.ensures.done c.either-moved.ensures in
    conns_to c.args.max_frame n (parts_of c.args.self.now) (parts_of c.read_through.new.self) c.either-moved.result
    (λ s x one other reached comes. c.moves_are_reached.ensures.conn s x one other reached comes)
    (machine_on c.args.max_frame (λ s. first_of_conns s n) (λ s. all_of_conns s (count_up (c.conns.c + 1) (n - (c.conns.c + 1)))) (parts_of c.args.self.now) (parts_of c.read_through.new.self)
    c.either-moved.result round c.requires.under_way)
    (c.conns.c + 1) c.next_turn-c-in-conns.result c.next_turn-c-in-conns.ensures.from (omega (arith, c.next_turn-c-in-conns.ensures.within, c.in-Ok.ensures, c.len.ensures))
    (λ k from below. subst (λ (stages : List CellStage). HasNoTurn (slice_get stages k)) c.as_slice-in-conns.ensures.value (c.next_turn-c-in-conns.ensures.still k from below)) round

pub returns-clause-done : goal.returns-clause-done
returns-clause-done g c =
    conns_last c.args.max_frame (length c.args.self.now.part.stages.items) c.conns.c (parts_of c.args.self.now) (parts_of c.conns.self) c.conns.moved
    (omega (arith, c.conns-test.false, c.in-Ok.ensures, c.len.ensures))
    c.conns.invariant
