use Rattle.std.proofs.Common.{◌∙◌}
use Rattle.idl_include.specs.Spots.{values_of}
use Rattle.idl_const.proofs.AllFree.{marks_are}
use Rattle.idl_const.proofs.evaluation.all_free.Goals as goal

pub returns : goal.returns
returns g c =
    c.in_ok-free.ensures.items_if_clones_equal (λ y h. h)
    ∙ marks_are (values_of (g.G.Ground.setting c.args.ground.now).program) c.given_count.result c.given_count.ensures
