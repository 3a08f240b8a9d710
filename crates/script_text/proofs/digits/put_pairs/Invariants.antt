use Rattle.std.proofs.Common.{◌≡◌, ◌*◌, take, drop}
use Rattle.std.specs.Prelude.{nat_lt}
use Rattle.text_out.specs.Hex.{unhex_of}
use Rattle.script_text.specs.Pairs.{no_digit}
use Rattle.script_text.proofs.Pairing.{joined}
use Rattle.script_text.proofs.digits.put_pairs.Given as goal

abbrev pub invariant-pairs : goal.invariant-pairs
invariant-pairs l = joined (nat_lt l.most no_digit) (take l.i l.room) (unhex_of (drop (2 * l.i) l.text)) ≡ unhex_of l.text
