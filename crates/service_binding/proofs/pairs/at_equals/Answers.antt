use Rattle.std.proofs.Common.{arith}
use Rattle.std.proofs.lemmas.Str.Pattern.{split_once_first}
use Rattle.service_binding.proofs.AtEquals.{cut_is}
use Rattle.service_binding.proofs.pairs.at_equals.Goals as goal

pub returns : goal.returns
returns c = cut_is c.args.word.now c.split_once.result (split_once_first 61 c.args.word.now c.split_once.result c.split_once.ensures.cases (omega arith))
