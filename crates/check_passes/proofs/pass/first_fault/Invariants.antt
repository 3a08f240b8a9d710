use Rattle.idl_include.specs.Program.{Program}
use Rattle.check_passes.proofs.FirstSpots.{AreClear}
use Rattle.check_passes.proofs.pass.first_fault.Given as goal

abbrev pub invariant-loop-spot : goal.invariant-loop-spot
invariant-loop-spot g l = (program : Program) → g.T.SpotTest.right l.test program → AreClear program g.T.SpotTest.pass l.spots l.spot-index
