use Rattle.std.proofs.Common.{map, string_bytes}
use Rattle.command_line.proofs.WordBounds.{read_keeps}
use Rattle.command_line.proofs.command.read_words.Goals as goal

pub returns : goal.returns
returns c = record {
  answers = c.command_of.ensures;
  bounds = read_keeps (map string_bytes c.args.words.now) c.command_of.result c.command_of.ensures;
}
