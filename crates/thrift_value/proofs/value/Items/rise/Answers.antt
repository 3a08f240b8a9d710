use Rattle.std.proofs.Common.{◌≡◌, Less, refl, rules}
use Rattle.thrift_value.specs.Order.{tree_cmp}
use Rattle.thrift_value.specs.TreeOf.{tree_of}
use Rattle.thrift_value.proofs.TidyLaws.{rising_items, chained, chained_all}
use Rattle.thrift_value.proofs.value.Items.rise.Goals as goal

pub loop-i-preserved : goal.loop-i-preserved
loop-i-preserved c =
    let low : tree_cmp (tree_of c.index.result.now) (tree_of c.index-in-loop-i.result.now) ≡ Less = search rules in
    chained rising_items _ _ c.loop-i.i c.index.result.now c.index-in-loop-i.result.now c.loop-i.auto.i (search rules) c.index.ensures c.index-in-loop-i.ensures low c.loop-i.invariant

pub returns : goal.returns
returns c =
    let all = chained_all rising_items _ _ c.loop-i.i c.loop-i.auto.i (search rules) c.loop-i.invariant in
    (λ _. all, λ _. refl)
