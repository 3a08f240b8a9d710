use Rattle.std.proofs.Common.{false}
use Rattle.cell_loop.specs.Moving.{all_of_conn}
use Rattle.cell_loop.specs.LoopMoves.{HasLongest}
use Rattle.cell_core.specs.Parts.{parts_of}
use Rattle.cell_core.proofs.Rounds.{begins}
use Rattle.cell_core.proofs.PassRounds.{on_err, machine_on, conn_round, conn_last, conn_breaks}
use Rattle.cell_core.proofs.machine.Machine.read_through.Goals as goal

pub reads-init : goal.reads-init
reads-init g c = begins (HasLongest c.args.max_frame) (λ s. all_of_conn s c.args.c) (parts_of c.args.self.now) c.requires.under_way.2.room

pub conn_move-requires-clause-under_way : goal.conn_move-requires-clause-under_way
conn_move-requires-clause-under_way g c κs within =
    machine_on c.args.max_frame (λ s. all_of_conn s c.args.c) (λ s. all_of_conn s c.args.c) (parts_of c.args.self.now) (parts_of c.reads.self) c.reads.moved c.reads.invariant c.requires.under_way

pub returns-in_err-conn_move-clause-err : goal.returns-in_err-conn_move-clause-err
returns-in_err-conn_move-clause-err g c =
    on_err c.from_residual.result
    (conn_breaks c.args.max_frame c.args.c (parts_of c.args.self.now) (parts_of c.reads.self) (parts_of c.conn_move.new.self) c.reads.moved false c.reads.invariant c.in_err-conn_move.ensures.kept c.in_err-conn_move.ensures.count
    c.in_err-conn_move.ensures.err)

pub reads-preserved : goal.reads-preserved
reads-preserved g c =
    conn_round c.args.max_frame c.args.c (parts_of c.args.self.now) (parts_of c.reads.self) (parts_of c.conn_move.new.self) c.reads.moved c.in_ok-conn_move.field-0 c.reads.invariant
    c.in_ok-conn_move.ensures.kept c.in_ok-conn_move.ensures.count c.in_ok-conn_move.ensures.moved c.in_ok-conn_move.ensures.less c.if-branch.true

pub returns-clause-done : goal.returns-clause-done
returns-clause-done g c =
    conn_last c.args.max_frame c.args.c (parts_of c.args.self.now) (parts_of c.reads.self) (parts_of c.conn_move.new.self) c.reads.moved c.in_ok-conn_move.field-0 c.reads.invariant
    c.in_ok-conn_move.ensures.kept c.in_ok-conn_move.ensures.count c.in_ok-conn_move.ensures.moved c.in_ok-conn_move.ensures.less c.if-branch.false
