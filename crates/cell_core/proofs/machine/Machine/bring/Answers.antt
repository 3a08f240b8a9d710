use Rattle.std.proofs.Common.{refl}
use Rattle.cell_core.specs.declared.stop.RunStop.TheVariants.{NoMemory}
use Rattle.cell_core.specs.Parts.{parts_of}
use Rattle.cell_core.proofs.Lines.{pieces_of, room_in, piece_line, piece_stops}
use Rattle.cell_core.proofs.FeedLines.{piece_arrived, piece_refused}
use Rattle.cell_core.proofs.PassRounds.{on_same}
use Rattle.cell_core.proofs.machine.Machine.bring.Goals as goal

pub returns-in_err-arrive-clause-err : goal.returns-in_err-arrive-clause-err
returns-in_err-arrive-clause-err g c =
    on_same c.from_residual.result _ NoMemory c.from_residual.ensures.1
    (piece_stops (parts_of c.args.self.now) _ c.args.c (record { table = refl; tape = refl; stages = refl; ends = refl }) (room_in (parts_of c.args.self.now) c.requires.under_way) NoMemory refl
    (piece_refused c.args.self.now.part.feeds.items c.args.c c.index_mut.result.now c.requires.there c.index_mut.ensures.value (pieces_of (parts_of c.args.self.now) c.requires.under_way)
    c.arrive.new.self c.in_err-arrive.ensures.pieces c.in_err-arrive.ensures.unchanged c.in_err-arrive.ensures.finish c.in_err-arrive.ensures.rules))

pub returns-clause-done : goal.returns-clause-done
returns-clause-done g c =
    piece_line (parts_of c.args.self.now) _ c.args.c (record { table = refl; tape = refl; stages = refl; ends = refl }) (room_in (parts_of c.args.self.now) c.requires.under_way) c.args.bytes.now
    (piece_arrived c.args.self.now.part.feeds.items c.args.c c.index_mut.result.now c.requires.there c.index_mut.ensures.value (pieces_of (parts_of c.args.self.now) c.requires.under_way)
    c.arrive.new.self c.args.bytes.now c.in_ok-arrive.ensures.pieces c.in_ok-arrive.ensures.unread c.in_ok-arrive.ensures.finish c.in_ok-arrive.ensures.rules)
