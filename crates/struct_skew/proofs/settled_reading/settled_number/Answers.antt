use Rattle.thrift_value.specs.TreeOf.{tree_of}
use Rattle.struct_skew.proofs.SettledWhole.{number_read}
use Rattle.struct_skew.proofs.settled_reading.settled_number.Goals as goal

pub returns : goal.returns
returns g c =
    number_read g.W.WireProtocol.wire c.args.tag _ _ _ (tree_of c.in_ok-value.value) c.requires c.in_ok-count_value.ensures c.in_ok-value.ensures
    (λ e. (c.value_read_is_spelled.ensures 0 c.args.tag _ _ (tree_of c.in_ok-value.value) c.are_bytes.ensures e).kind)
