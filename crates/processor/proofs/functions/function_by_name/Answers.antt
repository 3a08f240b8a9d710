use Rattle.std.proofs.Common.{ap, sym, length, map, arith}
use Rattle.schema.specs.LookUp.{is_named}
use Rattle.schema.specs.SchemaOf.{schema_of, plain_function}
use Rattle.schema.proofs.Lines.{ends_here, goes_on_with}
use Rattle.processor.proofs.functions.function_by_name.Goals as goal

pub loop-steps-preserved : goal.loop-steps-preserved
loop-steps-preserved c =
    goes_on_with (is_named c.args.name.now) (schema_of c.args.schema.now).services (length c.args.schema.now.services) c.loop-steps._steps c.in-Some.which c.loop-steps.next
    (map plain_function c.own_part-parent.result.0.now) _ (omega (arith, ap length c.as_slice-steps-end.ensures)) c.in-Some.is c.own_part-parent.ensures.functions c.loop-steps.invariant
    c.own_part-parent.result.1 c.own_part-parent.ensures.parent (sym c.in_default-own_function.ensures)

pub returns-in-Some-own_function : goal.returns-in-Some-own_function
returns-in-Some-own_function c =
    ends_here (is_named c.args.name.now) (schema_of c.args.schema.now).services (length c.args.schema.now.services) c.loop-steps._steps c.in-Some.which c.loop-steps.next
    (map plain_function c.own_part-parent.result.0.now) _ (omega (arith, ap length c.as_slice-steps-end.ensures)) c.in-Some.is c.own_part-parent.ensures.functions c.loop-steps.invariant
    (plain_function c.in-Some-own_function.function.now) (sym c.in-Some-own_function.ensures)
