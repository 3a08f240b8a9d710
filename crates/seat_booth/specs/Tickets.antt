-- The rule of a booth's words, its slot and its tokens' views. Word 0 is the next ticket, word 16 the ticket that has the turn, and the words from 32 on only put waiting threads to sleep.
use Rattle.std.specs.Prelude.{◌≡◌, ℕ, ◌+◌, ◌<◌, ◌≤◌, Bool, false, List, Some, length, slice_index, cond}
use Rattle.std.specs.List.{AllByRecursion}
use mathlib.Core.Option.{some}
use mathlib.Core.List.{IsPrefix}
use lib.ListN.{get_elem?}
use Rattle.atomic_table.specs.Table.{State}
use Rattle.call_history.specs.declared.seat_call.SeatCall.{SeatCall}
use Rattle.seat_booth.specs.declared.view.Past.{Past}
use Rattle.seat_booth.specs.declared.view.CallStage.{CallStage}
use Rattle.seat_booth.specs.declared.view.CallStage.TheVariants.{Waits, Turn}
use Rattle.seat_booth.specs.declared.view.TokenView.{TokenView}
use Rattle.seat_booth.specs.Limits.{ticket_word, serving_word, first_sleeper, most_seats, most_calls}
use Rattle.call_history.specs.History.{meaning_after, IsHistory}
use Rattle.call_history.specs.Calls.{calls_by, AllAllowed}
use Rattle.seat_booth.specs.Weight.{total, below}

-- the weight of the ticket that a token waits with
abbrev pub waiting : (ℕ → ℕ) → CallStage → ℕ
waiting f (Waits t) = f t
waiting f _ = 0

-- the weight of the ticket that gave a token the turn
abbrev pub turning : (ℕ → ℕ) → CallStage → ℕ
turning f (Turn t) = f t
turning f _ = 0

-- each number weighs one
abbrev pub weight_of_one : ℕ → ℕ
weight_of_one _ = 1

-- a token has the turn
abbrev pub IsTurn : CallStage → Type 0
IsTurn (Turn t) = Unit {0}
IsTurn _ = ⊥

module _ {Q A M : Type 0} where
  -- the history begins with what the seat has seen, and its own calls are all that the history has of it
  abbrev pub Fits : List (SeatCall Q A M) → Past Q A M → Type 0
  Fits log p = IsPrefix p.seen log × (calls_by p.number log ≡ p.mine)

  -- a token's pasts fit the history; a token with a ticket has a past; and what the token with the turn has seen is the whole history
  pub record IsKnown (first : M) (log : List (SeatCall Q A M)) (v : TokenView Q A M) : Type 0 where
    pub fits : AllByRecursion (Fits log) v.pasts
    pub opening : 0 < length v.pasts → v.opening ≡ Some first
    pub few : waiting weight_of_one v.stage + turning weight_of_one v.stage ≤ length v.pasts
    pub whole : IsTurn v.stage → AllByRecursion (λ p. p.seen ≡ log) v.pasts

  -- the weight of the numbers of a token's pasts
  abbrev pub numbers : (ℕ → ℕ) → TokenView Q A M → ℕ
  numbers f v = total (λ (p : Past Q A M). f p.number) v.pasts

  module _ {O : Type 0} (meaning : O → M) (gives : M → Q → A → M → Type 0) (may : M → ℕ → List (SeatCall Q A M) → Q → Type 0) (first : M) (seats : ℕ) where
    -- the rule: what holds of the words, the slot and the views at each moment
    pub record IsKept (s : State O (TokenView Q A M)) : Type 0 where
      pub log : List (SeatCall Q A M)
      pub out : Bool
      pub history : IsHistory gives first log
      pub allowed : AllAllowed may first log
      pub room : seats ≤ most_seats
      pub wide : first_sleeper < length s.words
      -- the turn has passed once for each call, and at most so often
      pub passed : slice_index s.words serving_word ≡ length log
      pub bounded : length log ≤ most_calls
      -- the tickets of the tokens are the numbers from the turn to the next ticket, each once
      pub tickets : (f : ℕ → ℕ) → total (λ v. waiting f v.stage) s.views + total (λ v. turning f v.stage) s.views + below f (length log) ≡ below f (slice_index s.words ticket_word)
      -- the object is out with the token that has the turn, or else it is at home and is the one after the history
      pub turn : (f : ℕ → ℕ) → total (λ v. turning f v.stage) s.views ≡ cond out (f (length log)) 0
      pub home : out ≡ false → (x : O) × (get_elem? s.homes 0 ≡ some (some x)) × (meaning x ≡ meaning_after first log)
      -- the seats' numbers are those below the number of seats, each once, and no other seat has called
      pub dealt : (f : ℕ → ℕ) → total (numbers f) s.views ≡ below f seats
      pub callers : AllByRecursion (λ (e : SeatCall Q A M). e.seat < seats) log
      pub each : (j : ℕ) (v : TokenView Q A M) → get_elem? s.views j ≡ some v → IsKnown first log v
