use Rattle.std.proofs.Common.{◌+◌, subst, arith, map, drop}
use Rattle.std.proofs.lemmas.List.{at_drop_all}
use Rattle.schema.specs.SchemaOf.{plain_field}
use Rattle.struct_skew.specs.Plan.{AllAt, Follows}
use Rattle.struct_skew.proofs.Apart.{sent_apart, thinned_apart}
use Rattle.struct_skew.proofs.PlanSteps.{raw_offers, sent_more, thinned_follow}
use Rattle.struct_skew.proofs.plan.put_sent.Goals as goal

pub loop-index-preserved : goal.loop-index-preserved
loop-index-preserved c = record {
  counts = λ structs kind start.
      thinned_follow (map plain_field c.args.declared.now) kind (raw_offers structs c.args.sent.now) (raw_offers structs (drop (c.loop-index.index + 1) c.args.sent.now)) _ _ c.in_ok-thin_out.ensures
      (sent_more (map plain_field c.args.declared.now) c.args.sent.now c.loop-index.index c.index-sent-index.result _ _ c.choice_of.result (omega arith) c.index-sent-index.is
      c.choice_of.ensures.choice c.choice_of.ensures.sent c.in_ok-put_choice.ensures structs kind (c.loop-index.invariant.counts structs kind start));
  apart = λ start.
      thinned_apart (c.loop-index.index + 1) _ _ c.in_ok-thin_out.ensures
      (sent_apart c.loop-index.index _ _ c.choice_of.result c.choice_of.ensures.sent c.in_ok-put_choice.ensures (c.loop-index.invariant.apart start));
}

pub returns-clause-counts : goal.returns-clause-counts
returns-clause-counts c = λ structs kind start.
    subst (λ left. AllAt (Follows kind (raw_offers structs c.args.sent.now) c.loop-index.into.items left) 0 (map plain_field c.args.declared.now))
    (at_drop_all (raw_offers structs) c.args.sent.now c.loop-index.index (omega arith)) (c.loop-index.invariant.counts structs kind start)
