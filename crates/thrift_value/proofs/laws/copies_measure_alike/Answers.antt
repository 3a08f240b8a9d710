use Rattle.std.proofs.Common.{ap}
use Rattle.thrift_value.specs.Tags.{tag_of}
use Rattle.thrift_value.specs.Measures.{depth_of, count_of}
use Rattle.thrift_value.proofs.laws.copies_measure_alike.Goals as goal

pub returns : goal.returns
returns c = λ value copy same. record { tag = ap tag_of same; depth = ap depth_of same; count = ap count_of same }
