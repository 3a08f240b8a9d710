use Rattle.compat_check.proofs.OfServices.{rising_at}
use Rattle.compat_check.proofs.served.first_break_of_functions.Goals as goal

pub break_of_function-requires-clause-rising : goal.break_of_function-requires-clause-rising
break_of_function-requires-clause-rising c =
    rising_at c.args.functions.now c.loop-function.function-index c.function-item.result c.loop-function-test.true c.function-item.is c.requires.rising
