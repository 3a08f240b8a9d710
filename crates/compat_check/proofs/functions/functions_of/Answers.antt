use Rattle.std.proofs.Common.{ap, length, map, arith}
use Rattle.schema.specs.SchemaOf.{schema_of, plain_function}
use Rattle.schema.specs.Shapes.{shown_function}
use Rattle.schema.proofs.Lines.{gathers_on}
use Rattle.compat_check.proofs.functions.functions_of.Goals as goal

pub loop-steps-preserved : goal.loop-steps-preserved
loop-steps-preserved c =
    gathers_on (schema_of c.args.schema.now).services (length c.args.schema.now.services) c.loop-steps._steps c.in-Some.which c.loop-steps.next c.own_part-parent.result.1
    (map shown_function c.loop-steps.all.items) (map plain_function c.own_part-parent.result.0.now) (map shown_function c.add_functions.new.all.items) _
    (omega (arith, ap length c.as_slice-steps-end.ensures)) c.in-Some.is c.own_part-parent.ensures.functions c.own_part-parent.ensures.parent
    c.in_ok-add_functions.ensures c.loop-steps.invariant
