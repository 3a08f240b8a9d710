use Rattle.command_line.proofs.OptionsNext.{options_next}
use Rattle.command_line.proofs.sorting.command_with.Goals as goal

pub loop-name-preserved : goal.loop-name-preserved
loop-name-preserved c =
    options_next _ _ _ _ c.args.names.now c.loop-name.name-index _ c.loop-name-test.true (c.in_ok-command-2.ensures.shape c.valued_option.ensures.local) c.valued_option.ensures.rule
    c.loop-name.invariant
