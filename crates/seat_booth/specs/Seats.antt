-- What a booth and its seats show, and what a call and the end of a booth do.
use Rattle.std.specs.Prelude.{◌≡◌, ℕ, zero, suc, ◌≤◌, List, [], ◌∷◌, ◌++◌, Option, Some, length, All, Any}
use mathlib.Core.List.{IsPrefix}
use Rattle.atomic_table.specs.Seated.{TableId}
use Rattle.call_history.specs.declared.seat_call.SeatCall.{SeatCall}
use Rattle.seat_booth.specs.Limits.{most_calls}
use Rattle.call_history.specs.History.{seat_call, meaning_after, IsHistory}
use Rattle.call_history.specs.Calls.{calls_by, AllAllowed}

-- a booth: which one it is, what its object meant when it was opened, and how many seats it has
pub record BoothView (M : Type 0) : Type 0 where
  pub booth : TableId
  pub opening : M
  pub seats : ℕ

-- a booth with these
abbrev pub booth_view : {M : Type 0} → TableId → M → ℕ → BoothView M
booth_view booth opening seats = record { booth = booth; opening = opening; seats = seats }

-- a seat: its booth, that booth's opening meaning, its number, the beginning of the history that it has seen, and its own calls
pub record SeatView (Q A M : Type 0) : Type 0 where
  pub booth : TableId
  pub opening : Option M
  pub number : ℕ
  pub seen : List (SeatCall Q A M)
  pub mine : List (SeatCall Q A M)

module _ {Q A M : Type 0} where
  -- the seat of this number, before its first call
  abbrev pub newcomer : BoothView M → ℕ → SeatView Q A M
  newcomer s number = record { booth = s.booth; opening = Some s.opening; number = number; seen = []; mine = [] }

  -- the seats of n numbers from this one on, before their first calls
  abbrev pub newcomers : BoothView M → ℕ → ℕ → List (SeatView Q A M)
  newcomers s number zero = []
  newcomers s number (suc n) = newcomer s number ∷ newcomers s (suc number) n

  -- the seat is one of this booth
  pub record IsSeatOf (s : BoothView M) (seat : SeatView Q A M) : Type 0 where
    pub booth : seat.booth ≡ s.booth
    pub opening : seat.opening ≡ Some s.opening

  -- the seat has seen a beginning of the history, and its calls are those of its number
  pub record SeatAgrees (log : List (SeatCall Q A M)) (seat : SeatView Q A M) : Type 0 where
    pub begins : IsPrefix seat.seen log
    pub own : calls_by seat.number log ≡ seat.mine

  module _ (gives : M → Q → A → M → Type 0) (may : M → ℕ → List (SeatCall Q A M) → Q → Type 0) where
    -- The seat has made this call, and has seen the one history up to it.
    -- That history begins with all that the seat had seen, and ends with the call; of the seat's own calls it has those that the seat made, each once
    pub record MakesCall (s : BoothView M) (old : SeatView Q A M) (op : Q) (reply : A) (new : SeatView Q A M) : Type 0 where
      pub between : List (SeatCall Q A M)
      pub after : M
      pub seen : new.seen ≡ (old.seen ++ between) ++ seat_call old.number op reply after ∷ []
      pub mine : new.mine ≡ old.mine ++ seat_call old.number op reply after ∷ []
      pub own : calls_by old.number new.seen ≡ new.mine
      pub history : IsHistory gives s.opening new.seen
      pub allowed : AllAllowed may s.opening new.seen
      pub few : length new.seen ≤ most_calls

    -- one history of all calls: it leaves this meaning, each seat has seen a beginning of it, and its calls are those of the seats, each once
    pub record EndsBooth (s : BoothView M) (seat_views : List (SeatView Q A M)) (meaning : M) : Type 0 where
      pub log : List (SeatCall Q A M)
      pub history : IsHistory gives s.opening log
      pub allowed : AllAllowed may s.opening log
      pub last : meaning_after s.opening log ≡ meaning
      pub each : All (SeatAgrees log) seat_views
      pub only : All (λ e. Any (λ p. p.number ≡ e.seat) seat_views) log
      pub few : length log ≤ most_calls
