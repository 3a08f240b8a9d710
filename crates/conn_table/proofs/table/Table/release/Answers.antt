use Rattle.std.proofs.Common.{◌≡◌, ◌+◌, ◌-◌, ◌≤◌, ℕ, None, Some, List, IsSome, ap, ◌∙◌, sym, subst, arith}
use Rattle.conn_table.specs.declared.places.Slot.{Slot}
use Rattle.conn_table.specs.Slots.{slot_in}
use Rattle.conn_table.specs.Table.{TableView, slot_of, with_size, size_given, sizes_given, TakesRoom, IsSoundTable}
use Rattle.conn_table.proofs.Sizing.{resized_sound, size_below, idle_size}
use Rattle.conn_table.proofs.table.Table.release.Goals as goal

fits : (size given admitted all : ℕ) → given ≡ size → given ≤ all → admitted ≡ all → size ≤ admitted
fits size given admitted all a b e = omega arith

pub overflow_sub-self : goal.overflow_sub-self
overflow_sub-self c =
    let places : List Slot = c.self.inside.places in
    let there : IsSome (slot_in c.args.c places) = subst (λ (o : TableView). IsSome (slot_in c.args.c o.slots)) (sym c.self.view_is) c.requires.open in
    let size : (slot_of c.args.c places).size ≡ Some c.release-size.result = c.release-size.ensures.size in
    fits c.release-size.result (size_given (slot_of c.args.c places).size) c.self.inside.admitted (sizes_given places) (ap size_given size) (size_below c.args.c places there) c.self.invariant.sum

less : (size given admitted : ℕ) → given ≡ size → size ≤ admitted → admitted - size + given ≡ admitted + 0
less size given admitted a l = omega arith

lower : (size admitted budget : ℕ) → admitted ≤ budget → admitted - size ≤ budget
lower size admitted budget l = omega arith

pub invariant_of-self : goal.invariant_of-self
invariant_of-self c =
    let places : List Slot = c.self.inside.places in
    let there : IsSome (slot_in c.args.c places) = subst (λ (o : TableView). IsSome (slot_in c.args.c o.slots)) (sym c.self.view_is) c.requires.open in
    let size : (slot_of c.args.c places).size ≡ Some c.release-size.result = c.release-size.ensures.size in
    let fit : c.release-size.result ≤ c.self.inside.admitted =
    fits c.release-size.result (size_given (slot_of c.args.c places).size) c.self.inside.admitted (sizes_given places) (ap size_given size) (size_below c.args.c places there) c.self.invariant.sum in
    let idle : TakesRoom (slot_of c.args.c places).conn.phase → ⊥ = subst (λ (o : TableView). TakesRoom (slot_of c.args.c o.slots).conn.phase → ⊥) (sym c.self.view_is) c.requires.idle in
    subst (λ l. IsSoundTable l c.self.inside.read_budget (c.self.inside.admitted - c.release-size.result)) (sym c.release-size.ensures.after)
    (resized_sound places c.self.inside.read_budget c.self.inside.admitted (c.self.inside.admitted - c.release-size.result) c.args.c (slot_of c.args.c places).conn None c.self.invariant there
    (less c.release-size.result (size_given (slot_of c.args.c places).size) c.self.inside.admitted (ap size_given size) fit)
    (lower c.release-size.result c.self.inside.admitted c.self.inside.read_budget c.self.invariant.within) (idle_size (slot_of c.args.c places).conn.phase None idle))

pub returns : goal.returns
returns c = ap (λ l. tabled c.self.inside.read_budget l) c.release-size.ensures.after ∙ ap (λ (o : TableView). record o { slots = with_size c.args.c None o.slots }) c.self.view_is
  where
    tabled : ℕ → List Slot → TableView
    tabled b l = record { budget = b; slots = l }
