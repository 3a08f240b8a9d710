use Rattle.std.proofs.Common.{Option, IfSome, subst}
use Rattle.command_line.specs.Bounds.{KeepsBounds}
use Rattle.command_line.specs.Words.{PlainCommand}
use Rattle.command_line.proofs.WordBounds.{words_keep}
use Rattle.thrift_host.proofs.laws.words_keep_their_bounds.Goals as goal

pub returns : goal.returns
returns c = λ words command is. subst (λ (o : Option PlainCommand). IfSome o KeepsBounds) is (words_keep words)
