use Rattle.std.proofs.Common.{◌≡◌, ap, ◌∙◌, sym, subst}
use Rattle.conn_state.specs.Phase.{ConnView, waiting}
use Rattle.conn_table.specs.Table.{TableView, slot_of, with_state, HasItsSize}
use Rattle.conn_table.proofs.Sizing.{in_place, give_room}
use Rattle.conn_table.proofs.table.Table.give.Goals as goal

pub invariant_of-self : goal.invariant_of-self
invariant_of-self c =
    let old : TableView = c.args.self.now in
    let was : c.conn_mut.result.now ≡ (slot_of c.args.c old.slots).conn = c.conn_mut.ensures.state ∙ ap (λ (o : TableView). (slot_of c.args.c o.slots).conn) c.self.view_is in
    let is : c.give.new.self ≡ record (slot_of c.args.c old.slots).conn { phase = waiting c.give.result.0 } = c.give.ensures.after ∙ ap (λ (v : ConnView). record v { phase = waiting c.give.result.0 }) was in
    (in_place old c.self.inside.places c.self.inside.read_budget c.self.inside.admitted c.args.c c.give.new.self c.self.invariant c.self.view_is c.requires.open
    (λ size has. subst (λ (v : ConnView). HasItsSize v.phase size) (sym is) (give_room (slot_of c.args.c old.slots).conn.phase c.give.result.0 c.give.result.1.items size (ap (λ (v : ConnView). v.phase) (sym was) ∙ c.give.ensures.given) has))).0

pub returns-clause-after : goal.returns-clause-after
returns-clause-after c =
    let old : TableView = c.args.self.now in
    let was : c.conn_mut.result.now ≡ (slot_of c.args.c old.slots).conn = c.conn_mut.ensures.state ∙ ap (λ (o : TableView). (slot_of c.args.c o.slots).conn) c.self.view_is in
    let is : c.give.new.self ≡ record (slot_of c.args.c old.slots).conn { phase = waiting c.give.result.0 } = c.give.ensures.after ∙ ap (λ (v : ConnView). record v { phase = waiting c.give.result.0 }) was in
    (in_place old c.self.inside.places c.self.inside.read_budget c.self.inside.admitted c.args.c c.give.new.self c.self.invariant c.self.view_is c.requires.open
    (λ size has. subst (λ (v : ConnView). HasItsSize v.phase size) (sym is) (give_room (slot_of c.args.c old.slots).conn.phase c.give.result.0 c.give.result.1.items size (ap (λ (v : ConnView). v.phase) (sym was) ∙ c.give.ensures.given) has))).1 ∙ ap (λ (v : ConnView). record old { slots = with_state c.args.c v old.slots }) is
