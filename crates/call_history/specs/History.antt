-- A history of one object: the calls that were made on it, one after another. The literature on linearizable objects calls it sequential, and legal where each call's reply follows.
use Rattle.std.specs.Prelude.{ℕ, List, [], ◌∷◌}
use Rattle.call_history.specs.declared.seat_call.SeatCall.{SeatCall}

module _ {Q A M : Type 0} where
  -- the call of a seat, with its reply and what the object means after it
  abbrev pub seat_call : ℕ → Q → A → M → SeatCall Q A M
  seat_call seat op reply after = record { seat = seat; op = op; reply = reply; after = after }

  -- what the object means after all calls of a history
  abbrev pub meaning_after : M → List (SeatCall Q A M) → M
  meaning_after first [] = first
  meaning_after first (e ∷ es) = meaning_after e.after es

  -- from its opening meaning on, the object gives each call's reply and the meaning after it
  abbrev pub IsHistory : (M → Q → A → M → Type 0) → M → List (SeatCall Q A M) → Type 0
  IsHistory gives first [] = Unit {0}
  IsHistory gives first (e ∷ es) = gives first e.op e.reply e.after × IsHistory gives e.after es
