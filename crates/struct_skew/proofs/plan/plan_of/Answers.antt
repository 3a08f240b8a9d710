use Rattle.std.proofs.Common.{map}
use Rattle.schema.specs.SchemaOf.{plain_field}
use Rattle.struct_skew.proofs.Apart.{planned_apart}
use Rattle.struct_skew.proofs.MergeSteps.{IfOk-then}
use Rattle.struct_skew.proofs.PlanSteps.{planned}
use Rattle.struct_skew.proofs.plan.plan_of.Goals as goal

pub returns-clause-counts : goal.returns-clause-counts
returns-clause-counts c =
    IfOk-then c.in_order.result (λ plan. planned c.args.required.now c.args.defaulted.now (map plain_field c.args.declared.now) c.args.sent.now _ _ _ _ plan.items
    c.new-choices.ensures.items c.in_ok-put_unsent.ensures c.in_ok-put_unsent-2.ensures c.in_ok-put_sent.ensures.counts) c.in_order.ensures

pub returns-clause-apart : goal.returns-clause-apart
returns-clause-apart c =
    IfOk-then c.in_order.result (λ plan. planned_apart c.args.required.now c.args.defaulted.now _ _ _ _ plan.items
    c.new-choices.ensures.items c.in_ok-put_unsent.ensures c.in_ok-put_unsent-2.ensures c.in_ok-put_sent.ensures.apart) c.in_order.ensures
