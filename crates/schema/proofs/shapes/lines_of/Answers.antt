use Rattle.std.proofs.Common.{[], ◌∷◌, ◌++◌, map, refl, ap, ◌∙◌}
use Rattle.schema.specs.SchemaOf.{schema_of}
use Rattle.schema.specs.Shapes.{shape_line, shown_function}
use Rattle.schema.proofs.Pieces.{one_more, all_written}
use Rattle.schema.proofs.shapes.lines_of.Goals as goal

pub loop-function-preserved : goal.loop-function-preserved
loop-function-preserved c =
    one_more (λ f. shape_line (schema_of c.args.schema.now) (shown_function f) ∷ []) (λ fs. map (shape_line (schema_of c.args.schema.now)) (map shown_function fs))
    (λ x xs. refl) c.args.functions.now c.loop-function.function-index _ c.function-item.result c.loop-function.lines.items _
    c.loop-function-test.true c.function-item.is c.loop-function.invariant
    (c.in_ok-push.ensures.items ∙ ap (λ l. c.loop-function.lines.items ++ l ∷ []) c.in_ok-shape.ensures)

pub returns : goal.returns
returns c =
    all_written (λ f. shape_line (schema_of c.args.schema.now) (shown_function f) ∷ []) (λ fs. map (shape_line (schema_of c.args.schema.now)) (map shown_function fs))
    (λ x xs. refl) c.args.functions.now c.loop-function.function-index _ c.loop-function.lines.items refl c.loop-function-test.false c.loop-function.invariant
