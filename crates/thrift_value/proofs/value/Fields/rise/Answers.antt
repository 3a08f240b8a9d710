use Rattle.std.proofs.Common.{◌<ℤ◌, refl, rules}
use Rattle.thrift_value.proofs.TidyLaws.{rising_fields, chained, chained_all}
use Rattle.thrift_value.proofs.value.Fields.rise.Goals as goal

pub loop-i-preserved : goal.loop-i-preserved
loop-i-preserved c =
    let low : c.index.result.now.0 <ℤ c.index-in-loop-i.result.now.0 = search rules in
    chained rising_fields _ _ c.loop-i.i c.index.result.now c.index-in-loop-i.result.now c.loop-i.auto.i (search rules) c.index.ensures c.index-in-loop-i.ensures low c.loop-i.invariant

pub returns : goal.returns
returns c =
    let all = chained_all rising_fields _ _ c.loop-i.i c.loop-i.auto.i (search rules) c.loop-i.invariant in
    (λ _. all, λ _. refl)
