use Rattle.std.proofs.Common.{rules, ◌≡◌, ◌∙◌, [], Some, ap}
use Rattle.std.proofs.lemmas.List.Elements.{All-pop}
use Rattle.atomic_table.specs.Table.{Me}
use Rattle.seat_booth.specs.declared.view.TokenView.{TokenView}
use Rattle.seat_booth.specs.Seats.{BoothView, IsSeatOf, booth_view}
use Rattle.seat_booth.proofs.Dealt.{first_back, one_back, all_back}
use Rattle.seat_booth.proofs.booth.gather_all.Goals as goal

pub gather-requires : goal.gather-requires
gather-requires g c =
    let s : BoothView g.row.O-Meaning.Denot = booth_view c.args.shared.now.table_id (g.O.Object.meaning c.args.shared.now.key.object.value) c.args.shared.now.key.seats in
    let i = c.loop-seat.invariant in
    let popped = c.in-Some-pop.ensures.items in
    let seat = (All-pop (IsSeatOf s) c.loop-seat.seats.items c.pop-in-loop-seat.new.self.items (Some c.in-Some-pop.seat) popped i.seats).1 in
    record {
      table = (i.table, c.into_token.ensures.booth ∙ seat.booth, c.requires.table);
      idle = (ap (λ (m : Me g.row.O.Denot (TokenView g.row.O-Op.Denot g.row.O-Reply.Denot g.row.O-Meaning.Denot)). m.0.stage) i.gathered.token, ap (λ (m : Me g.row.O.Denot (TokenView g.row.O-Op.Denot g.row.O-Reply.Denot g.row.O-Meaning.Denot)). m.0.stage) c.into_token.ensures.past, ap (λ (m : Me g.row.O.Denot (TokenView g.row.O-Op.Denot g.row.O-Reply.Denot g.row.O-Meaning.Denot)). m.1) c.into_token.ensures.past);
      opening = ap (λ (m : Me g.row.O.Denot (TokenView g.row.O-Op.Denot g.row.O-Reply.Denot g.row.O-Meaning.Denot)). m.0.opening) i.gathered.token;
    }

pub loop-seat-preserved : goal.loop-seat-preserved
loop-seat-preserved g c =
    let s : BoothView g.row.O-Meaning.Denot = booth_view c.args.shared.now.table_id (g.O.Object.meaning c.args.shared.now.key.object.value) c.args.shared.now.key.seats in
    let i = c.loop-seat.invariant in
    let popped = c.in-Some-pop.ensures.items in
    record {
      table = c.gather.ensures.table ∙ i.table;
      seats = (All-pop (IsSeatOf s) c.loop-seat.seats.items c.pop-in-loop-seat.new.self.items (Some c.in-Some-pop.seat) popped i.seats).0;
      gathered = one_back s _ _ _ c.in-Some-pop.seat _ _ c.into_token.result.me i.gathered popped c.into_token.ensures.past c.gather.ensures.both;
    }

pub loop-seat-init : goal.loop-seat-init
loop-seat-init g c =
    let s : BoothView g.row.O-Meaning.Denot = booth_view c.args.shared.now.table_id (g.O.Object.meaning c.args.shared.now.key.object.value) c.args.shared.now.key.seats in
    let popped = c.in-Some.ensures.items in
    let all = All-pop (IsSeatOf s) c.args.seats.items c.pop.new.self.items (Some c.in-Some.last) popped c.requires.seats in
    record {
      table = c.into_token-token.ensures.booth ∙ all.1.booth;
      seats = all.0;
      gathered = first_back s _ _ c.in-Some.last _ popped all.1 c.into_token-token.ensures.past;
    }

pub returns-clause-all : goal.returns-clause-all
returns-clause-all g c =
    let s : BoothView g.row.O-Meaning.Denot = booth_view c.args.shared.now.table_id (g.O.Object.meaning c.args.shared.now.key.object.value) c.args.shared.now.key.seats in
    let none : c.loop-seat.seats.items ≡ [] = search rules in
    all_back s _ _ (rw none at c.loop-seat.invariant.gathered)

pub returns-clause-table : goal.returns-clause-table
returns-clause-table g c = c.loop-seat.invariant.table
