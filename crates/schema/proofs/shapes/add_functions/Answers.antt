use Rattle.std.proofs.Common.{[], ◌∷◌, map, refl, ap, ◌∙◌}
use Rattle.std.proofs.lemmas.List.{map_push}
use Rattle.schema.specs.SchemaOf.{plain_function}
use Rattle.schema.specs.Shapes.{shown_function}
use Rattle.schema.proofs.Pieces.{one_more, all_written}
use Rattle.schema.proofs.shapes.add_functions.Goals as goal

pub loop-function-preserved : goal.loop-function-preserved
loop-function-preserved c =
    one_more (λ f. plain_function f ∷ []) (map plain_function) (λ x xs. refl) c.args.functions.now c.loop-function.function-index _ c.function-item.result
    (map shown_function c.loop-function.all.items) _ c.loop-function-test.true c.function-item.is c.loop-function.invariant
    (ap (map shown_function) c.in_ok-push.ensures.items ∙ map_push shown_function c.loop-function.all.items _)

pub returns : goal.returns
returns c =
    all_written (λ f. plain_function f ∷ []) (map plain_function) (λ x xs. refl) c.args.functions.now c.loop-function.function-index _
    (map shown_function c.loop-function.all.items) refl c.loop-function-test.false c.loop-function.invariant
