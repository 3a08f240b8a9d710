use Rattle.std.proofs.Common.{◌≡◌, ap, ◌∙◌, sym, subst}
use Rattle.conn_state.specs.Phase.{ConnView, ended}
use Rattle.conn_table.specs.Table.{TableView, slot_of, with_state, HasItsSize}
use Rattle.conn_table.proofs.Sizing.{in_place}
use Rattle.conn_table.proofs.table.Table.end.Goals as goal

pub invariant_of-self : goal.invariant_of-self
invariant_of-self c =
    let old : TableView = c.args.self.now in
    let was : c.conn_mut.result.now ≡ (slot_of c.args.c old.slots).conn = c.conn_mut.ensures.state ∙ ap (λ (o : TableView). (slot_of c.args.c o.slots).conn) c.self.view_is in
    let is : c.end.new.self ≡ record (slot_of c.args.c old.slots).conn { phase = ended c.args.cause } = c.end.ensures ∙ ap (λ (v : ConnView). record v { phase = ended c.args.cause }) was in
    (in_place old c.self.inside.places c.self.inside.read_budget c.self.inside.admitted c.args.c c.end.new.self c.self.invariant c.self.view_is c.requires.open
    (λ size has. subst (λ (v : ConnView). HasItsSize v.phase size) (sym is) tt)).0

pub returns : goal.returns
returns c =
    let old : TableView = c.args.self.now in
    let was : c.conn_mut.result.now ≡ (slot_of c.args.c old.slots).conn = c.conn_mut.ensures.state ∙ ap (λ (o : TableView). (slot_of c.args.c o.slots).conn) c.self.view_is in
    let is : c.end.new.self ≡ record (slot_of c.args.c old.slots).conn { phase = ended c.args.cause } = c.end.ensures ∙ ap (λ (v : ConnView). record v { phase = ended c.args.cause }) was in
    (in_place old c.self.inside.places c.self.inside.read_budget c.self.inside.admitted c.args.c c.end.new.self c.self.invariant c.self.view_is c.requires.open
    (λ size has. subst (λ (v : ConnView). HasItsSize v.phase size) (sym is) tt)).1 ∙ ap (λ (v : ConnView). record old { slots = with_state c.args.c v old.slots }) is
