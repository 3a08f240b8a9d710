use Rattle.compat_check.proofs.OfServices.{rising_at}
use Rattle.compat_check.proofs.services.push_all_answers.Goals as goal

pub push_answers_by-requires : goal.push_answers_by-requires
push_answers_by-requires c =
    rising_at c.args.functions.now c.loop-function.function-index c.function-item.result c.loop-function-test.true c.function-item.is c.requires
