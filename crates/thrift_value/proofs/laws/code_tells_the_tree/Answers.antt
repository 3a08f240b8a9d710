use Rattle.thrift_value.specs.Codes.{tree_code}
use Rattle.thrift_value.proofs.laws.code_tells_the_tree.Goals as goal

pub returns : goal.returns
returns c one other same = tree_code.inj one other same
