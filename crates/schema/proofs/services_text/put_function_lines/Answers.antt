use Rattle.std.proofs.Common.{refl, map}
use Rattle.std.specs.List.{flat_map}
use Rattle.schema.specs.SchemaOf.{schema_of, plain_function}
use Rattle.schema.specs.SchemaText.{function_line_of}
use Rattle.schema.proofs.Pieces.{one_more, all_written}
use Rattle.schema.proofs.services_text.put_function_lines.Goals as goal

pub loop-function-preserved : goal.loop-function-preserved
loop-function-preserved c =
    one_more (λ f. function_line_of (schema_of c.args.schema.now) (plain_function f)) (λ fs. flat_map (function_line_of (schema_of c.args.schema.now)) (map plain_function fs)) (λ x xs. refl) c.args.functions.now c.loop-function.function-index _ c.function-item.result c.loop-function.into.items _
    c.loop-function-test.true c.function-item.is c.loop-function.invariant c.in_ok-put_function_line.ensures

pub returns : goal.returns
returns c =
    all_written (λ f. function_line_of (schema_of c.args.schema.now) (plain_function f)) (λ fs. flat_map (function_line_of (schema_of c.args.schema.now)) (map plain_function fs)) (λ x xs. refl) c.args.functions.now c.loop-function.function-index _ c.loop-function.into.items refl
    c.loop-function-test.false c.loop-function.invariant
