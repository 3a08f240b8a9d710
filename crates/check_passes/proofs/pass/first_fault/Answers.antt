use Rattle.check_passes.proofs.FirstSpots.{clear_next, found_here}
use Rattle.check_passes.proofs.pass.first_fault.Goals as goal

pub loop-spot-preserved : goal.loop-spot-preserved
loop-spot-preserved g c program right =
    clear_next program g.T.SpotTest.pass c.kind-kind.result c.args.spots.now c.loop-spot.spot-index c.spot-item.result c.in_ok-found.found c.kind-kind.ensures
    c.loop-spot-test.true c.spot-item.is (c.in_ok-found.ensures program right) c.if-found.false (c.loop-spot.invariant program right)

pub returns-then-found : goal.returns-then-found
returns-then-found g c program right all =
    found_here program g.T.SpotTest.pass c.kind-kind.result c.args.spots.now c.loop-spot.spot-index c.spot-item.result c.place_of.result c.in_ok-found.found c.kind-kind.ensures
    c.loop-spot-test.true c.spot-item.is (c.in_ok-found.ensures program right) c.if-found.true c.place_of.ensures all (c.loop-spot.invariant program right)
