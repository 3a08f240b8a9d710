use Rattle.std.proofs.Common.{map}
use Rattle.compat_check.specs.Plain.{change_of, plain_pair}
use Rattle.compat_check.proofs.LookedOnce.{IsRound}
use Rattle.compat_check.proofs.rounds.first_in_rounds.Given as goal

abbrev pub invariant-loop-round : goal.invariant-loop-round
invariant-loop-round l = IsRound (change_of l.change) (map plain_pair l.seen.keys) (map plain_pair l.current.items) l._round
