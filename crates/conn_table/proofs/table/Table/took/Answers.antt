use Rattle.std.proofs.Common.{◌≡◌, ◌<◌, ◌↔◌, IsSome, ap, ◌∙◌, sym, subst}
use Rattle.conn_state.specs.Phase.{ConnView, IsReady}
use Rattle.conn_state.specs.Step.{after_took}
use Rattle.conn_table.specs.Slots.{slot_in}
use Rattle.conn_table.specs.Table.{TableView, slot_of, with_state, HasItsSize}
use Rattle.conn_table.proofs.Sizing.{in_place, took_room, conn_put}
use Rattle.conn_table.proofs.table.Table.took.Goals as goal

pub invariant_of-self : goal.invariant_of-self
invariant_of-self c =
    let old : TableView = c.args.self.now in
    let was : c.conn_mut.result.now ≡ (slot_of c.args.c old.slots).conn = c.conn_mut.ensures.state ∙ ap (λ (o : TableView). (slot_of c.args.c o.slots).conn) c.self.view_is in
    let is : c.took.new.self ≡ after_took c.args.max_frame (slot_of c.args.c old.slots).conn c.args.bytes.now = c.took.ensures.after ∙ ap (λ (v : ConnView). after_took c.args.max_frame v c.args.bytes.now) was in
    (in_place old c.self.inside.places c.self.inside.read_budget c.self.inside.admitted c.args.c c.took.new.self c.self.invariant c.self.view_is c.requires.open
    (λ size has. subst (λ (v : ConnView). HasItsSize v.phase size) (sym is) (took_room c.args.max_frame (slot_of c.args.c old.slots).conn c.args.bytes.now c.requires.some c.requires.asked size has))).0

pub returns-clause-after : goal.returns-clause-after
returns-clause-after c =
    let old : TableView = c.args.self.now in
    let was : c.conn_mut.result.now ≡ (slot_of c.args.c old.slots).conn = c.conn_mut.ensures.state ∙ ap (λ (o : TableView). (slot_of c.args.c o.slots).conn) c.self.view_is in
    let is : c.took.new.self ≡ after_took c.args.max_frame (slot_of c.args.c old.slots).conn c.args.bytes.now = c.took.ensures.after ∙ ap (λ (v : ConnView). after_took c.args.max_frame v c.args.bytes.now) was in
    (in_place old c.self.inside.places c.self.inside.read_budget c.self.inside.admitted c.args.c c.took.new.self c.self.invariant c.self.view_is c.requires.open
    (λ size has. subst (λ (v : ConnView). HasItsSize v.phase size) (sym is) (took_room c.args.max_frame (slot_of c.args.c old.slots).conn c.args.bytes.now c.requires.some c.requires.asked size has))).1 ∙ ap (λ (v : ConnView). record old { slots = with_state c.args.c v old.slots }) is

pub returns-clause-whole : goal.returns-clause-whole
returns-clause-whole c =
    let old : TableView = c.args.self.now in
    let was : c.conn_mut.result.now ≡ (slot_of c.args.c old.slots).conn = c.conn_mut.ensures.state ∙ ap (λ (o : TableView). (slot_of c.args.c o.slots).conn) c.self.view_is in
    let now : c.took.new.self ≡ (slot_of c.args.c (with_state c.args.c c.took.new.self c.self.inside.places)).conn =
    sym (conn_put c.args.c c.took.new.self c.self.inside.places (subst (λ (o : TableView). IsSome (slot_in c.args.c o.slots)) (sym c.self.view_is) c.requires.open)) in
    subst (λ (v : ConnView). (slot_of c.args.c old.slots).conn.frames < v.frames ↔ IsReady v.phase) now
    (subst (λ (v : ConnView). v.frames < c.took.new.self.frames ↔ IsReady c.took.new.self.phase) was c.took.ensures.whole)
