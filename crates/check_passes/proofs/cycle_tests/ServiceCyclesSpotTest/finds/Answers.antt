use Rattle.std.proofs.Common.{sym, subst}
use Rattle.std.specs.Prelude.{◌↔◌, IsTrue}
use Rattle.idl_include.specs.Cycles.{parent_graph}
use Rattle.idl_names.specs.declared.spot.ShownIn.{ShownIn}
use Rattle.idl_names.specs.SpotsIn.{shown_in}
use Rattle.check_model.specs.Passes.{service_cycle, FindsFault}
use Rattle.check_passes.proofs.cycle_tests.ServiceCyclesSpotTest.finds.Goals as goal

pub returns-in_ok-found-in-Service : goal.returns-in_ok-found-in-Service
returns-in_ok-found-in-Service c program lowest =
    let P : ShownIn → Type 0 = λ s. IsTrue c.in_ok-found-in-Service.found ↔ FindsFault service_cycle program c.args.spot.now.file (shown_in s) in
    subst P (sym c.in-Service.is) (c.in_ok-found-in-Service.ensures (parent_graph program) lowest)
