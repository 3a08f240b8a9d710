-- What each step on a booth's table tells: of the step, the token before, the number found and the token after.
use Rattle.std.specs.Prelude.{◌≡◌, ◌≢◌, ℕ, ◌<◌, ◌≤◌, List, [], ◌∷◌, ◌++◌, Option, None, Some, length, MatchOption}
use mathlib.Core.List.{IsPrefix}
use Rattle.atomic_table.specs.Table.{Me, Step, rest}
use Rattle.call_history.specs.declared.seat_call.SeatCall.{SeatCall}
use Rattle.seat_booth.specs.declared.view.Past.{Past}
use Rattle.seat_booth.specs.declared.view.CallStage.{CallStage}
use Rattle.seat_booth.specs.declared.view.CallStage.TheVariants.{Idle, Waits, Turn}
use Rattle.seat_booth.specs.declared.view.TokenView.{TokenView}
use Rattle.seat_booth.specs.Limits.{most_calls}
use Rattle.call_history.specs.History.{seat_call, meaning_after, IsHistory}
use Rattle.call_history.specs.Calls.{calls_by, AllAllowed}
use Rattle.seat_booth.specs.Past.{past, past_of, seated}

-- nothing changes, and nothing is told
abbrev pub unchanged : {O V : Type 0} → Step O → Me O V → ℕ → Me O V → Type 0
unchanged st m r n = n ≡ m

module _ {Q A M : Type 0} where
  -- the past of a seat that has seen all of the history
  abbrev pub caught_up : List (SeatCall Q A M) → Past Q A M → Past Q A M
  caught_up log p = past p.number log p.mine

  -- the past with one more call, which is the seat's own
  abbrev pub with_call : SeatCall Q A M → Past Q A M → Past Q A M
  with_call e p = past p.number (p.seen ++ e ∷ []) (p.mine ++ e ∷ [])

module _ {O Q A M : Type 0} where
  -- a seat's token at this stage, which holds nothing
  abbrev pub TokenIsAt : CallStage → Me O (TokenView Q A M) → Type 0
  TokenIsAt stage m = m ≡ (seated m.0.opening stage (past_of m.0), [])

  -- the seat has drawn the ticket that was found
  abbrev pub drew : Step O → Me O (TokenView Q A M) → ℕ → Me O (TokenView Q A M) → Type 0
  drew st m r n = n ≡ (seated m.0.opening (Waits r) (past_of m.0), m.1)

  module _ (meaning : O → M) (gives : M → Q → A → M → Type 0) (may : M → ℕ → List (SeatCall Q A M) → Q → Type 0) where
    -- The seat has the turn and holds the object, which is the one after the whole history. The seat has seen that history, which begins with all that it had seen
    pub record HasTurn (ticket : ℕ) (opening : Option M) (p : Past Q A M) (n : Me O (TokenView Q A M)) : Type 0 where
      pub first : M
      pub log : List (SeatCall Q A M)
      pub object : O
      pub opened : opening ≡ Some first
      pub now : n ≡ (seated opening (Turn ticket) (caught_up log p), (0, object) ∷ [])
      pub stands : meaning object ≡ meaning_after first log
      pub history : IsHistory gives first log
      pub allowed : AllAllowed may first log
      pub begins : IsPrefix p.seen log
      pub own : calls_by p.number log ≡ p.mine
      pub bounded : ticket < most_calls
      pub passed : length log ≡ ticket

    -- what a look at the number r tells a seat at this stage: it has the turn where r is its ticket and below the most, and else nothing changed
    abbrev pub Looked : CallStage → Me O (TokenView Q A M) → ℕ → Me O (TokenView Q A M) → Type 0
    Looked (Waits ticket) m r n = (r ≡ ticket → r < most_calls → HasTurn ticket m.0.opening (past_of m.0) n) × (r ≢ ticket → n ≡ m) × (most_calls ≤ r → n ≡ m)
    Looked _ m r n = n ≡ m

    -- what a look tells
    abbrev pub looked : Step O → Me O (TokenView Q A M) → ℕ → Me O (TokenView Q A M) → Type 0
    looked st m r n = Looked m.0.stage m r n

    -- The call that is to be made: the seat has the turn, and the object in hand is the one after the step
    pub record CallIsReady (first : M) (made : Option (SeatCall Q A M)) (m : Me O (TokenView Q A M)) : Type 0 where
      pub call : SeatCall Q A M
      pub ticket : ℕ
      pub object : O
      pub named : made ≡ Some call
      pub now : m ≡ (seated m.0.opening (Turn ticket) (past_of m.0), (0, object) ∷ [])
      pub bounded : ticket < most_calls
      pub given : gives (meaning_after first (past_of m.0).seen) call.op call.reply call.after
      pub stands : meaning object ≡ call.after
      pub seat : call.seat ≡ (past_of m.0).number
      pub allowed : may first (past_of m.0).number (past_of m.0).mine call.op

  -- the call is made, and the turn passed on with the object
  abbrev pub entered : Option (SeatCall Q A M) → Step O → Me O (TokenView Q A M) → ℕ → Me O (TokenView Q A M) → Type 0
  entered made st m r n = MatchOption made (Unit {0}) (λ e. n ≡ (seated m.0.opening Idle (with_call e (past_of m.0)), rest m.1))

  -- the call that a seat makes with the object in hand
  abbrev pub call_in_reach : (O → M) → Me O (TokenView Q A M) → Q → A → Option (SeatCall Q A M)
  call_in_reach meaning m op reply = call_on m.1 where
    call_on : List (ℕ × O) → Option (SeatCall Q A M)
    call_on [] = None
    call_on (x ∷ xs) = Some (seat_call (past_of m.0).number op reply (meaning x.1))
