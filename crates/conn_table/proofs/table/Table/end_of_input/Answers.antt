use Rattle.std.proofs.Common.{◌≡◌, ap, ◌∙◌, sym, subst}
use Rattle.conn_state.specs.Phase.{ConnView}
use Rattle.conn_state.specs.Step.{after_end_of_input}
use Rattle.conn_table.specs.Table.{TableView, slot_of, with_state, HasItsSize}
use Rattle.conn_table.proofs.Sizing.{in_place, end_room}
use Rattle.conn_table.proofs.table.Table.end_of_input.Goals as goal

pub invariant_of-self : goal.invariant_of-self
invariant_of-self c =
    let old : TableView = c.args.self.now in
    let was : c.conn_mut.result.now ≡ (slot_of c.args.c old.slots).conn = c.conn_mut.ensures.state ∙ ap (λ (o : TableView). (slot_of c.args.c o.slots).conn) c.self.view_is in
    let is : c.end_of_input.new.self ≡ record (slot_of c.args.c old.slots).conn { phase = after_end_of_input (slot_of c.args.c old.slots).conn.phase } = c.end_of_input.ensures ∙ ap (λ (v : ConnView). record v { phase = after_end_of_input v.phase }) was in
    (in_place old c.self.inside.places c.self.inside.read_budget c.self.inside.admitted c.args.c c.end_of_input.new.self c.self.invariant c.self.view_is c.requires.open
    (λ size has. subst (λ (v : ConnView). HasItsSize v.phase size) (sym is) (end_room (slot_of c.args.c old.slots).conn.phase size))).0

pub returns : goal.returns
returns c =
    let old : TableView = c.args.self.now in
    let was : c.conn_mut.result.now ≡ (slot_of c.args.c old.slots).conn = c.conn_mut.ensures.state ∙ ap (λ (o : TableView). (slot_of c.args.c o.slots).conn) c.self.view_is in
    let is : c.end_of_input.new.self ≡ record (slot_of c.args.c old.slots).conn { phase = after_end_of_input (slot_of c.args.c old.slots).conn.phase } = c.end_of_input.ensures ∙ ap (λ (v : ConnView). record v { phase = after_end_of_input v.phase }) was in
    (in_place old c.self.inside.places c.self.inside.read_budget c.self.inside.admitted c.args.c c.end_of_input.new.self c.self.invariant c.self.view_is c.requires.open
    (λ size has. subst (λ (v : ConnView). HasItsSize v.phase size) (sym is) (end_room (slot_of c.args.c old.slots).conn.phase size))).1 ∙ ap (λ (v : ConnView). record old { slots = with_state c.args.c v old.slots }) is
