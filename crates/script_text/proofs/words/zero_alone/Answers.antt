use Rattle.std.proofs.Common.{sym}
use Rattle.script_text.proofs.Numbers.{zero_read, zero_unread}
use Rattle.script_text.proofs.words.zero_alone.Goals as goal

pub returns-then-text-eq1 : goal.returns-then-text-eq1
returns-then-text-eq1 c = sym (zero_read c.args.text.now c.requires c.if-text-eq1.true)

pub returns : goal.returns
returns c = sym (zero_unread c.args.text.now c.requires c.if-text-eq1.false)
