use Rattle.std.proofs.Common.{sym, subst}
use Rattle.std.specs.Prelude.{◌↔◌, IsTrue}
use Rattle.idl_names.specs.declared.spot.ShownIn.{ShownIn}
use Rattle.idl_names.specs.SpotsIn.{shown_in}
use Rattle.check_model.specs.Passes.{struct_loop, FindsFault}
use Rattle.check_passes.proofs.struct_tests.EndlessStructsSpotTest.finds.Goals as goal

pub returns-in-Struct : goal.returns-in-Struct
returns-in-Struct c program right =
    let P : ShownIn → Type 0 = λ s. IsTrue c.is_endless.result ↔ FindsFault struct_loop program c.args.spot.now.file (shown_in s) in
    subst P (sym c.in-Struct.is) (c.is_endless.ensures program right)
