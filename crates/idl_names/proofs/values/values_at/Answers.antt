use Rattle.std.proofs.Common.{◌++◌, ◌+◌, ◌∙◌, map, drop, ap, sym}
use Rattle.std.specs.List.{filter_map}
use Rattle.idl_include.specs.Spots.{Spot, value_at}
use Rattle.idl_names.specs.SpotsIn.{filed_value, spots_in}
use Rattle.idl_names.proofs.Marked.{left_more}
use Rattle.idl_names.proofs.values.values_at.Goals as goal

pub loop-spot-preserved : goal.loop-spot-preserved
loop-spot-preserved c =
    let at = c.loop-spot.spot-index in
    let spots = c.args.spots.now in
    c.in_ok-put_value.ensures (filter_map (λ (s : Spot). value_at s.file s.shows) (spots_in (drop (at + 1) spots)))
    ∙ ap (λ rest. map filed_value c.loop-spot.values.items ++ filter_map (λ (s : Spot). value_at s.file s.shows) (spots_in rest))
    (sym (left_more spots at c.spot-item.result c.loop-spot-test.true c.spot-item.is))
    ∙ c.loop-spot.invariant
