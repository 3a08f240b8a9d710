use Rattle.schema_bare.proofs.Ranked.{told_here, told_next, all_told}
use Rattle.schema_bare.proofs.finite.are_told.Goals as goal

pub loop-place-preserved : goal.loop-place-preserved
loop-place-preserved c =
    told_next c.args.structs.now c.args.ranks.now c.loop-place.place c.index-structs-place.result c.index-structs-place.is c.loop-place-test.true
    (told_here c.args.ranks.now c.loop-place.place c.rank_at-rank.result c.index-structs-place.result c.has_value.result c.rank_at-rank.ensures c.has_value.ensures
    c.if-has_value-is_ranked.false)
    c.loop-place.invariant

pub returns : goal.returns
returns c = λ _. all_told c.args.structs.now c.args.ranks.now c.loop-place.place c.loop-place-test.false c.loop-place.invariant
