-- The calls of one seat, calls as asks, and the condition that each call of a history met.
use Rattle.std.specs.Prelude.{◌≡◌, ℕ, List, ◌∷◌, ◌++◌, map, filter, ◌==◌}
use Rattle.call_history.specs.declared.seat_call.SeatCall.{SeatCall}
use Rattle.call_history.specs.History.{seat_call}

-- an ask: what a seat asked and the reply, with nothing told of what the object means after it
abbrev pub SeatAsk : Type 0 → Type 0 → Type 0
SeatAsk Q A = SeatCall Q A (Unit {0})

-- the ask of this seat, with its reply
abbrev pub seat_ask : {Q A : Type 0} → ℕ → Q → A → SeatAsk Q A
seat_ask seat op reply = seat_call seat op reply tt

module _ {Q A M : Type 0} where
  -- the calls of one seat, in order: the history's part of that seat (its subhistory)
  abbrev pub calls_by : ℕ → List (SeatCall Q A M) → List (SeatCall Q A M)
  calls_by seat log = filter (λ e. e.seat == seat) log

  -- a call as an ask
  abbrev pub ask_of : SeatCall Q A M → SeatAsk Q A
  ask_of e = seat_ask e.seat e.op e.reply

  -- calls as asks
  abbrev pub asks_of : List (SeatCall Q A M) → List (SeatAsk Q A)
  asks_of log = map ask_of log

-- Each of these calls met its condition, said of the opening meaning and of its seat's calls before it. Of asks, where it leaves out what the object means.
abbrev pub AllAllowed : {Q A M N : Type 0} → (N → ℕ → List (SeatCall Q A M) → Q → Type 0) → N → List (SeatCall Q A M) → Type 0
AllAllowed {Q} {A} {M} may first log =
    (front back : List (SeatCall Q A M)) (e : SeatCall Q A M) → log ≡ front ++ e ∷ back → may first e.seat (calls_by e.seat front) e.op
