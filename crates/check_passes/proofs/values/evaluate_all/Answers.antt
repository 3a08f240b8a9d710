use Rattle.std.proofs.Common.{◌≡◌, rules}
use Rattle.check_passes.proofs.ValueFlaws.{given_there, worth_next, fault_met, all_worth}
use Rattle.check_passes.proofs.values.evaluate_all.Goals as goal

pub returns-in-Err : goal.returns-in-Err
returns-in-Err g c program right given =
    let number : c.in-Ok.which ≡ c.loop-number.number = search rules in
    fault_met program c.args.values.now given c.loop-number.number c.in-Ok.which c.index-values-number.result c.loop-number-test.true c.index-values-number.is number
    c.loop-number.made.items c.in-Err.fault (c.loop-number.invariant.worth program right given)
    (c.in-Err.ensures.worth program (c.loop-number.invariant.right program right)
    (given_there program c.args.values.now given c.loop-number.number c.in-Ok.which c.index-values-number.result c.loop-number-test.true c.index-values-number.is number))

pub loop-number-preserved : goal.loop-number-preserved
loop-number-preserved g c =
    let number : c.in-Ok.which ≡ c.loop-number.number = search rules in
    record {
      ready = c.in-Ok-worth_of.ensures.ready;
      right = λ program right. c.worth_of.ensures.kept program (c.loop-number.invariant.right program right);
      worth = λ program right given.
          worth_next program c.args.values.now given c.loop-number.number c.in-Ok.which c.index-values-number.result c.loop-number-test.true c.index-values-number.is number
          c.loop-number.made.items c.push.new.self.items c.in-Ok-worth_of.value (c.loop-number.invariant.worth program right given)
          (c.in-Ok-worth_of.ensures.worth program (c.loop-number.invariant.right program right)
          (given_there program c.args.values.now given c.loop-number.number c.in-Ok.which c.index-values-number.result c.loop-number-test.true c.index-values-number.is number))
          c.in_ok-push-in-Ok-worth_of.ensures.items;
    }

pub returns : goal.returns
returns g c program right given =
    all_worth program c.args.values.now c.loop-number.number c.loop-number.made.items given c.loop-number-test.false (c.loop-number.invariant.worth program right given)
