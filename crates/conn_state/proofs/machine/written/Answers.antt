use Rattle.std.proofs.Common.{◌<◌, length, ap, arith}
use Rattle.conn_state.proofs.Written.{after_wrote-part}
use Rattle.conn_state.proofs.machine.written.Goals as goal

pub returns-then-done-as_slice-clause-phase : goal.returns-then-done-as_slice-clause-phase
returns-then-done-as_slice-clause-phase c =
    let part : c.args.done < length c.args.reply = omega (arith, ap length c.as_slice.ensures) in
    after_wrote-part c.args.reply c.args.done part
