use Rattle.std.proofs.Common.{rules, ◌+◌, ◌∙◌, List, refl, subst, sym, arith}
use Rattle.seat_booth.specs.Seats.{BoothView, SeatView, booth_view}
use Rattle.seat_booth.proofs.Dealt.{IsDealt, none_dealt, some_to_deal, more_dealt, all_dealt, every_newcomer, dealt_is_seat, last_is_seat}
use Rattle.seat_booth.proofs.booth.deal_all.Goals as goal

pub loop-number-init : goal.loop-number-init
loop-number-init g c =
    let s : BoothView g.row.O-Meaning.Denot = booth_view c.args.shared.now.table_id (g.O.Object.meaning c.args.shared.now.key.object.value) c.args.shared.now.key.seats in
    record {
      table = c.requires.table.0;
      dealt = subst (λ (l : List (SeatView g.row.O-Op.Denot g.row.O-Reply.Denot g.row.O-Meaning.Denot)). IsDealt s c.args.seats 0 c.args.token.me l) (sym c.requires.room.0)
          (none_dealt s c.args.seats c.args.token.me c.requires.some c.requires.token);
      long = c.requires.room.1;
      room = refl;
    }

pub deal-dealt-requires-clause-some : goal.deal-dealt-requires-clause-some
deal-dealt-requires-clause-some g c =
    let s : BoothView g.row.O-Meaning.Denot = booth_view c.args.shared.now.table_id (g.O.Object.meaning c.args.shared.now.key.object.value) c.args.shared.now.key.seats in
    some_to_deal s c.args.seats c.loop-number.number c.loop-number.token.me c.loop-number.list.items c.loop-number.invariant.dealt

pub invariant_of-push_reserved : goal.invariant_of-push_reserved
invariant_of-push_reserved g c =
    let s : BoothView g.row.O-Meaning.Denot = booth_view c.args.shared.now.table_id (g.O.Object.meaning c.args.shared.now.key.object.value) c.args.shared.now.key.seats in
    dealt_is_seat s c.args.seats c.loop-number.number c.loop-number.token.me c.deal-dealt.result.me c.loop-number.list.items c.loop-number.invariant.dealt c.deal-dealt.ensures.dealt

pub invariant_of-push_reserved-2 : goal.invariant_of-push_reserved-2
invariant_of-push_reserved-2 g c =
    let s : BoothView g.row.O-Meaning.Denot = booth_view c.args.shared.now.table_id (g.O.Object.meaning c.args.shared.now.key.object.value) c.args.shared.now.key.seats in
    last_is_seat s c.args.seats c.loop-number.number c.loop-number.token.me c.loop-number.list.items c.loop-number.invariant.dealt (omega arith)

pub loop-number-preserved : goal.loop-number-preserved
loop-number-preserved g c =
    let s : BoothView g.row.O-Meaning.Denot = booth_view c.args.shared.now.table_id (g.O.Object.meaning c.args.shared.now.key.object.value) c.args.shared.now.key.seats in
    let i = c.loop-number.invariant in
    record {
      table = search rules;
      dealt = subst (λ (l : List (SeatView g.row.O-Op.Denot g.row.O-Reply.Denot g.row.O-Meaning.Denot)). IsDealt s c.args.seats (c.loop-number.number + 1) c.deal-dealt.new.token.me l) (sym c.push_reserved.ensures.items)
          (more_dealt s c.args.seats c.loop-number.number c.loop-number.token.me c.deal-dealt.new.token.me c.deal-dealt.result.me c.loop-number.list.items c.deal-dealt.result.table_id i.dealt (omega arith) (c.deal-dealt.ensures.table.1 ∙ i.table) c.deal-dealt.ensures.left c.deal-dealt.ensures.dealt);
      long = search rules;
      room = search rules;
    }

abbrev all_there : goal.returns-clause-seats
all_there g c =
    let s : BoothView g.row.O-Meaning.Denot = booth_view c.args.shared.now.table_id (g.O.Object.meaning c.args.shared.now.key.object.value) c.args.shared.now.key.seats in
    let i = c.loop-number.invariant in
    c.push_reserved-2.ensures.items ∙ all_dealt s c.args.seats c.loop-number.number c.loop-number.token.me c.loop-number.list.items c.loop-number.token.table_id i.dealt (omega arith) i.table

pub returns-clause-seats : goal.returns-clause-seats
returns-clause-seats g c = all_there g c

pub returns-clause-every : goal.returns-clause-every
returns-clause-every g c = every_newcomer _ _ _ (booth_view c.args.shared.now.table_id (g.O.Object.meaning c.args.shared.now.key.object.value) c.args.shared.now.key.seats) c.args.seats _ (all_there g c)
