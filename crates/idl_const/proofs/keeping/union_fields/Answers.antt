use Rattle.std.proofs.Common.{arith}
use Rattle.idl_const.proofs.Kept.{one_given}
use Rattle.idl_const.proofs.keeping.union_fields.Goals as goal

pub returns : goal.returns
returns c count = one_given c.args.given.items (omega arith) c.args.at count
