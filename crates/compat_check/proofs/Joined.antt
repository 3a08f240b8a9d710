-- The first break of what is named and then of the rounds is that of the change.
use Rattle.std.proofs.Common.{◌≡◌, ℕ, zero, suc, ◌<◌, Option, Some, None, arith}
use Rattle.compat_model.specs.Breaks.{PlainBreak, break_in_round}
use Rattle.compat_model.specs.StructPairs.{SchemaChange}
use Rattle.compat_check.specs.Answered.{IsFirstOrNone}
use Rattle.compat_check.specs.Fresh.{IsFirstOfRounds}

pub named_first : (ch : SchemaChange) (b : PlainBreak) → break_in_round ch 0 ≡ Some b → IsFirstOrNone ch (Some b)
named_first ch b here = record { round = 0; here = here; before = λ k low. absurd (omega (arith, low)) }

pub of_rounds : (ch : SchemaChange) (o : Option PlainBreak) → break_in_round ch 0 ≡ None → IsFirstOfRounds ch o → IsFirstOrNone ch o
of_rounds ch None none rounds = all
  where
    all : (n : ℕ) → break_in_round ch n ≡ None
    all zero = none
    all (suc n) = rounds n
of_rounds ch (Some b) none rounds = record { round = suc rounds.0; here = rounds.1; before = before }
  where
    before : (k : ℕ) → k < suc rounds.0 → break_in_round ch k ≡ None
    before zero low = none
    before (suc k) low = rounds.2 k (omega (arith, low))
