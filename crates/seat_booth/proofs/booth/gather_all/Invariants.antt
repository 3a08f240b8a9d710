use Rattle.std.proofs.Common.{◌≡◌, All}
use Rattle.seat_booth.specs.Seats.{IsSeatOf, booth_view}
use Rattle.seat_booth.proofs.Dealt.{IsGathered}
use Rattle.seat_booth.proofs.booth.gather_all.Given as goal

abbrev pub invariant-loop-seat : goal.invariant-loop-seat
invariant-loop-seat g l = record {
  table : l.token.table_id ≡ l.shared.table_id;
  seats : All (IsSeatOf (booth_view l.shared.table_id (g.O.Object.meaning l.shared.key.object.value) l.shared.key.seats)) l.seats.items;
  gathered : IsGathered (booth_view l.shared.table_id (g.O.Object.meaning l.shared.key.object.value) l.shared.key.seats) l.fn.seats.items l.seats.items l.token.me;
}

abbrev pub decreases-loop-seat : goal.decreases-loop-seat
decreases-loop-seat g l = goal.left-loop-seat g l
