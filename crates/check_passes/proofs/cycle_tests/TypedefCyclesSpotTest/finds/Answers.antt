use Rattle.std.proofs.Common.{sym, subst}
use Rattle.std.specs.Prelude.{◌↔◌, IsTrue}
use Rattle.idl_include.specs.Cycles.{alias_graph}
use Rattle.idl_names.specs.declared.spot.ShownIn.{ShownIn}
use Rattle.idl_names.specs.SpotsIn.{shown_in}
use Rattle.check_model.specs.Passes.{typedef_cycle, FindsFault}
use Rattle.check_passes.proofs.cycle_tests.TypedefCyclesSpotTest.finds.Goals as goal

pub returns-in_ok-found-in-Typedef : goal.returns-in_ok-found-in-Typedef
returns-in_ok-found-in-Typedef c program lowest =
    let P : ShownIn → Type 0 = λ s. IsTrue c.in_ok-found-in-Typedef.found ↔ FindsFault typedef_cycle program c.args.spot.now.file (shown_in s) in
    subst P (sym c.in-Typedef.is) (c.in_ok-found-in-Typedef.ensures (alias_graph program) lowest)
