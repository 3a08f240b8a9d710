use Rattle.std.proofs.Common.{sym, ◌∙◌}
use Rattle.command_line.proofs.Pairing.{no_pairs_yet, pairs_next, pairs_stop, pairs_end}
use Rattle.command_line.proofs.Ends.{none_made}
use Rattle.command_line.proofs.pairs.pairs_of_words.Goals as goal

pub loop-word-init : goal.loop-word-init
loop-word-init c = no_pairs_yet _ _ c.new-pairs.ensures.items

pub returns-in_err-pair : goal.returns-in_err-pair
returns-in_err-pair c = none_made _ _ c.from_residual.ensures.0

pub returns-in_default : goal.returns-in_default
returns-in_default c = pairs_stop c.loop-word.pairs.items c.args.words.now c.loop-word.word-index _ _ c.loop-word-test.true (sym c.in_default.is ∙ c.in_ok-pair.ensures) c.loop-word.invariant

pub returns-in_err-push : goal.returns-in_err-push
returns-in_err-push c = none_made _ _ c.from_residual-in_err-push.ensures.0

pub loop-word-preserved : goal.loop-word-preserved
loop-word-preserved c =
    pairs_next c.loop-word.pairs.items _ c.in-Some.pair c.args.words.now c.loop-word.word-index _ _ c.loop-word-test.true (sym c.in-Some.is ∙ c.in_ok-pair.ensures)
    c.in_ok-push.ensures.items c.loop-word.invariant

pub returns : goal.returns
returns c = pairs_end c.loop-word.pairs.items c.args.words.now c.loop-word.word-index _ c.loop-word-test.false c.loop-word.invariant
