use Rattle.std.proofs.Common.{[], ◌∷◌, ◌++◌, map, sym, ap, ◌∙◌}
use Rattle.idl_parser.specs.declared.tree.Const.{Const}
use Rattle.idl_names.specs.declared.filed.InFile.{InFile}
use Rattle.idl_names.proofs.Based.{take_past}
use Rattle.schema_bare.proofs.Zipped.{taken_push}
use Rattle.const_evaluator.specs.Places.{number_at_place}
use Rattle.const_evaluator.proofs.tables.constant_values.Goals as goal

pub loop-constant-preserved : goal.loop-constant-preserved
loop-constant-preserved c =
    c.in_ok-push.ensures.items
    ∙ (λ j. c.loop-constant.invariant j ++ c.number.ensures j ∷ [])
    ∙ sym (taken_push (λ (k : InFile Const). number_at_place c.args.places.now k.file k.item.now.name.at) c.args.constants.now c.loop-constant.constant-index c.constant-item.result
    c.loop-constant-test.true c.constant-item.is)

pub returns : goal.returns
returns c =
    c.loop-constant.invariant
    ∙ ap (map (λ (k : InFile Const). number_at_place c.args.places.now k.file k.item.now.name.at)) (take_past c.args.constants.now c.loop-constant.constant-index c.loop-constant-test.false)
