-- What a token of the booth knows.
use Rattle.std.specs.Prelude.{ℕ, zero, suc, List, [], ◌∷◌, Option}
use Rattle.atomic_table.specs.Seated.{TableId}
use Rattle.seat_booth.specs.Seats.{SeatView}
use Rattle.call_history.specs.declared.seat_call.SeatCall.{SeatCall}
use Rattle.seat_booth.specs.declared.view.Past.{Past}
use Rattle.seat_booth.specs.declared.view.CallStage.{CallStage}
use Rattle.seat_booth.specs.declared.view.CallStage.TheVariants.{Idle}
use Rattle.seat_booth.specs.declared.view.TokenView.{TokenView}

module _ {Q A M : Type 0} where
  -- the past of the seat of this number, with what it has seen and its own calls
  abbrev pub past : ℕ → List (SeatCall Q A M) → List (SeatCall Q A M) → Past Q A M
  past number seen mine = record { number = number; seen = seen; mine = mine }

  -- the view of a token with these seats
  abbrev pub view : Option M → CallStage → List (Past Q A M) → TokenView Q A M
  view opening stage pasts = record { opening = opening; stage = stage; pasts = pasts }

  -- the first of some pasts, or an empty one
  abbrev pub first_past : List (Past Q A M) → Past Q A M
  first_past [] = past 0 [] []
  first_past (p ∷ ps) = p

  -- the others
  abbrev pub other_pasts : List (Past Q A M) → List (Past Q A M)
  other_pasts [] = []
  other_pasts (p ∷ ps) = ps

  -- the past of a seat's token, which has just one
  abbrev pub past_of : TokenView Q A M → Past Q A M
  past_of v = first_past v.pasts

  -- the pasts of n seats from this number on, before their first calls
  abbrev pub new_pasts : ℕ → ℕ → List (Past Q A M)
  new_pasts number zero = []
  new_pasts number (suc n) = past number [] [] ∷ new_pasts (suc number) n

  -- the past of a seat, as the seat shows it
  abbrev pub past_of_seat : SeatView Q A M → Past Q A M
  past_of_seat seat = past seat.number seat.seen seat.mine

  -- a seat, as its token shows it
  abbrev pub seat_view : TableId → TokenView Q A M → SeatView Q A M
  seat_view booth v = record { booth = booth; opening = v.opening; number = (past_of v).number; seen = (past_of v).seen; mine = (past_of v).mine }

  -- the token of one seat
  abbrev pub seated : Option M → CallStage → Past Q A M → TokenView Q A M
  seated opening stage p = view opening stage (p ∷ [])

  -- a seat is dealt: the new token has the first past, and the old one keeps the others
  abbrev pub only_first : TokenView Q A M → TokenView Q A M
  only_first v = view v.opening Idle (past_of v ∷ [])

  -- what the old token keeps
  abbrev pub without_first : TokenView Q A M → TokenView Q A M
  without_first v = view v.opening v.stage (other_pasts v.pasts)
