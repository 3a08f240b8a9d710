use Rattle.std.proofs.Common.{refl}
use Rattle.script_model.specs.Playing.{finishes}
use Rattle.cell_core.specs.Parts.{parts_of}
use Rattle.cell_core.proofs.Lines.{pieces_of, room_in, end_line}
use Rattle.cell_core.proofs.FeedLines.{finish_known, pieces_there}
use Rattle.cell_core.proofs.machine.Machine.end_input.Goals as goal

pub returns : goal.returns
returns g c =
    record {
      done = end_line (parts_of c.args.self.now) _ c.args.c (record { table = refl; tape = refl; stages = refl; ends = refl }) (room_in (parts_of c.args.self.now) c.requires.under_way)
          (finish_known c.args.self.now.part.feeds.items c.args.c c.index_mut.result.now c.requires.there c.index_mut.ensures.value (pieces_of (parts_of c.args.self.now) c.requires.under_way)
          _ finishes (pieces_there c.args.self.now.part.feeds.items c.args.c c.index_mut.result.now c.requires.there c.index_mut.ensures.value (pieces_of (parts_of c.args.self.now) c.requires.under_way))
          refl refl refl);
    }
