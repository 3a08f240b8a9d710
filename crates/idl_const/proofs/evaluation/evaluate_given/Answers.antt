use Rattle.std.proofs.Common.{◌≡◌, true, false, sym, ap, ◌∙◌, subst}
use Rattle.std.specs.Prelude.{slice_set}
use Rattle.std.proofs.lemmas.Result.{on_ok_weaker}
use Rattle.idl_include.specs.Spots.{values_of}
use Rattle.thrift_value.specs.TreeOf.{tree_of}
use Rattle.schema.specs.PlainKind.{kind_of}
use Rattle.idl_include.specs.DeclaredIn.{value_in}
use Rattle.check_model.specs.Evaluation.{all_free, given_worth}
use Rattle.idl_const.specs.Flaws.{AnswersWorth}
use Rattle.idl_const.specs.Given.{FiledTree, tree_numbered}
use Rattle.idl_const.proofs.Entering.{set_back, told_too}
use Rattle.idl_const.proofs.Fuel.{given_free}
use Rattle.idl_const.proofs.Beginnings.{itself_is, named_is}
use Rattle.idl_const.proofs.evaluation.evaluate_given.Goals as goal

pub returns-in-Some-name_place-clause-worth : goal.returns-in-Some-name_place-clause-worth
returns-in-Some-name_place-clause-worth g c v given =
    let s = g.G.Ground.setting c.args.ground.now in
    let t : FiledTree = record { file = c.in-Some.file; item = value_in c.in-Some.tree.now } in
    c.told.ensures.worth (given_worth s c.args.which (kind_of c.args.kind.now) v) c.given-made.new.work.values
    (subst (AnswersWorth tree_of c.given-made.result c.given-made.new.work.values)
    (named_is s c.args.which (kind_of c.args.kind.now) v t (sym c.in-Some.ensures) given c.args.work.now.free.items c.in-Some-name_place.at c.in-Some-name_place.ensures c.requires.idle)
    c.given-made.ensures.worth)

pub returns-in-None-clause-worth : goal.returns-in-None-clause-worth
returns-in-None-clause-worth g c v given =
    let s = g.G.Ground.setting c.args.ground.now in
    let t : FiledTree = record { file = c.in-Some.file; item = value_in c.in-Some.tree.now } in
    c.told-in-None.ensures.worth (given_worth s c.args.which (kind_of c.args.kind.now) v) c.value_itself-made.new.work.values
    (subst (AnswersWorth tree_of c.value_itself-made.result c.value_itself-made.new.work.values)
    (itself_is s c.args.which (kind_of c.args.kind.now) v t (sym c.in-Some.ensures) given (slice_set c.args.work.now.free.items c.args.which false) (sym c.in-None.ensures)
    (ap (λ l. slice_set l c.args.which false) c.requires.idle))
    c.value_itself-made.ensures.worth)

pub returns-in-None-clause-idle : goal.returns-in-None-clause-idle
unfolding tree_numbered
returns-in-None-clause-idle g c =
    let s = g.G.Ground.setting c.args.ground.now in
    let t : FiledTree = record { file = c.in-Some.file; item = value_in c.in-Some.tree.now } in
    told_too (c.value_itself-made.new.work.free.items ≡ all_free s.program) c.value_itself-made.result c.told-in-None.result c.told-in-None.ensures.ok
    (on_ok_weaker c.value_itself-made.result
    (λ h. h ∙ ap (λ l. slice_set (slice_set l c.args.which false) c.args.which true) c.requires.idle
    ∙ set_back (all_free s.program) c.args.which (given_free (values_of s.program) c.args.which t (sym c.in-Some.ensures)))
    c.value_itself-made.ensures.free)
