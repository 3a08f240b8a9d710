use Rattle.clap.specs.Words.{found_of}
use Rattle.command_line.proofs.Beside.{words_held}
use Rattle.command_line.proofs.sorting.Sorted.beside.Goals as goal

pub returns : goal.returns
returns c = words_held _ c.items_or_none.result.now (found_of c.args.self.now.matches) c.args.name.now c.items_or_none.ensures c.get_raw.ensures
