use Rattle.std.proofs.Common.{ap, sym, ◌∙◌, string_bytes}
use Rattle.std.specs.Prelude.{option_map}
use Rattle.command_line.specs.Lent.{lent_words}
use Rattle.command_line.proofs.FlaglessWords.{no_words_yet, words_next, words_stop, words_end}
use Rattle.command_line.proofs.Ends.{none_made}
use Rattle.command_line.proofs.flags.flagless_words.Goals as goal

pub returns-in_err-made : goal.returns-in_err-made
returns-in_err-made c = none_made _ _ c.from_residual.ensures.0

pub loop-word-init : goal.loop-word-init
loop-word-init c = no_words_yet _ _ c.in_ok-made.ensures.items

pub returns-in_err-word : goal.returns-in_err-word
returns-in_err-word c = none_made _ _ c.from_residual-in_err-word.ensures.0

pub returns-in_default : goal.returns-in_default
returns-in_default c =
    words_stop (lent_words c.args.flags.now) c.loop-word.made.items c.args.words.now c.loop-word.word-index _ c.as_str.result.now _ c.loop-word-test.true (c.as_str.ensures.value ∙ ap string_bytes c.word-item.is)
    (ap (option_map string_bytes) (sym c.in_default.is) ∙ c.in_ok-word.ensures) c.loop-word.invariant

pub returns-in_err-push : goal.returns-in_err-push
returns-in_err-push c = none_made _ _ c.from_residual-in_err-push.ensures.0

pub loop-word-preserved : goal.loop-word-preserved
loop-word-preserved c =
    words_next (lent_words c.args.flags.now) c.loop-word.made.items _ c.in-Some.word c.args.words.now c.loop-word.word-index _ c.as_str.result.now _ c.loop-word-test.true
    (c.as_str.ensures.value ∙ ap string_bytes c.word-item.is) (ap (option_map string_bytes) (sym c.in-Some.is) ∙ c.in_ok-word.ensures) c.in_ok-push.ensures.items c.loop-word.invariant

pub returns : goal.returns
returns c = words_end (lent_words c.args.flags.now) c.loop-word.made.items c.args.words.now c.loop-word.word-index _ c.loop-word-test.false c.loop-word.invariant
