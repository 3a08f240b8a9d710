use Rattle.thrift_value.specs.TreeOf.{tree_of}
use Rattle.struct_skew.proofs.SettledSteps.{told_if}
use Rattle.struct_skew.proofs.SettledWhole.{text_read}
use Rattle.struct_skew.proofs.settled_reading.settled_text.Goals as goal

pub returns : goal.returns
returns g c =
    text_read g.W.WireProtocol.wire _ _ _ c.in_ok-text.text.now (tree_of c.in_ok-value.value) c.in_ok-count_value.ensures c.in_ok-text.ensures (told_if _ c.kept_text.result c.in_ok-value.value c.in_ok-value.ensures.value c.kept_text.ensures)
