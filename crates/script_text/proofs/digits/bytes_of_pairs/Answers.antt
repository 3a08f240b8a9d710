use Rattle.std.proofs.Common.{sym, arith}
use Rattle.script_text.proofs.Pairing.{odd_spells_nothing}
use Rattle.script_text.proofs.digits.bytes_of_pairs.Goals as goal

pub returns-then-text-ne0 : goal.returns-then-text-ne0
returns-then-text-ne0 c = sym (odd_spells_nothing c.args.text.now (omega arith))
