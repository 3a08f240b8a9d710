use Rattle.std.proofs.Common.{Some, ap, sym, ◌∙◌}
use Rattle.command_line.proofs.Asking.{asked, no_file, no_protocol}
use Rattle.command_line.proofs.Ends.{none_made}
use Rattle.command_line.proofs.calling.asking_by.Goals as goal

pub returns-in_err-idl : goal.returns-in_err-idl
returns-in_err-idl c = none_made _ _ c.from_residual.ensures.0

pub returns-in_default-2 : goal.returns-in_default-2
returns-in_default-2 c =
    no_file c.args.words.now _ c.args.multiplexed c.args.port c.in-len5.len_at_least c.in-len5.len_below (sym c.in_default-2.is ∙ c.in_ok-idl.ensures)

pub returns-in_default-protocol_of_word : goal.returns-in_default-protocol_of_word
returns-in_default-protocol_of_word c =
    no_protocol c.args.words.now _ c.args.multiplexed c.args.port c.in-Some.idl c.in-len5.len_at_least c.in-len5.len_below
    (sym c.in-Some.is ∙ c.in_ok-idl.ensures) (sym c.in_default-protocol_of_word.is ∙ c.protocol_of_word.ensures)

pub returns-in_err-copied : goal.returns-in_err-copied
returns-in_err-copied c = none_made _ _ c.from_residual-in_err-copied.ensures.0

pub returns-in_err-copied-2 : goal.returns-in_err-copied-2
returns-in_err-copied-2 c = none_made _ _ c.from_residual-in_err-copied-2.ensures.0

pub returns-in_err-copied-3 : goal.returns-in_err-copied-3
returns-in_err-copied-3 c = none_made _ _ c.from_residual-in_err-copied-3.ensures.0

pub returns : goal.returns
returns c =
    asked c.args.words.now _ c.args.multiplexed c.args.port c.idl.inside.text.bytes.items c.in-Some-protocol_of_word.protocol _ _ _ c.in-len5.len_at_least c.in-len5.len_below
    (ap Some c.idl.view_is ∙ sym c.in-Some.is ∙ c.in_ok-idl.ensures) (sym c.in-Some-protocol_of_word.is ∙ c.protocol_of_word.ensures)
    c.in_ok-copied.ensures c.in_ok-copied-2.ensures c.in_ok-copied-3.ensures
