use Rattle.std.proofs.Common.{◌∙◌}
use Rattle.idl_parser.proofs.Sets.{any_has}
use Rattle.idl_parser.proofs.reader.is_in.Goals as goal

pub returns : goal.returns
returns c = c.is_one_of.ensures ∙ any_has c.args.set.now c.args.what
