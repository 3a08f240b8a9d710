use Rattle.std.proofs.Common.{◌≡◌, vec_len, vec_capacity}
use Rattle.seat_booth.specs.Seats.{booth_view}
use Rattle.seat_booth.proofs.Dealt.{IsDealt}
use Rattle.seat_booth.proofs.booth.deal_all.Given as goal

abbrev pub invariant-loop-number : goal.invariant-loop-number
invariant-loop-number g l = record {
  table : l.token.table_id ≡ l.shared.table_id;
  dealt : IsDealt (booth_view l.shared.table_id (g.O.Object.meaning l.shared.key.object.value) l.shared.key.seats) l.fn.seats l.number l.token.me l.list.items;
  long : vec_len l.list ≡ l.number;
  room : vec_capacity l.list ≡ vec_capacity l.fn.list;
}
