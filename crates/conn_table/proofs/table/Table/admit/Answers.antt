use Rattle.std.proofs.Common.{◌≡◌, ◌+◌, ◌-◌, ◌≤◌, ◌<◌, ℕ, None, Some, Ok, List, IsSome, refl, ap, ◌∙◌, sym, subst, arith}
use Rattle.std.proofs.lemmas.Result.{err_from_is_err_and}
use Rattle.std.specs.declared.alloc.AllocError.{AllocError}
use Rattle.conn_state.specs.Phase.{ConnView}
use Rattle.conn_state.specs.Step.{after_admission}
use Rattle.conn_table.specs.declared.places.Slot.{Slot}
use Rattle.conn_table.specs.Slots.{slot_in, with_slot}
use Rattle.conn_table.specs.Table.{TableView, slot_of, with_admitted, size_given, size_wanted, sizes_given, IsSoundTable, AdmitsFrame}
use Rattle.conn_table.proofs.Sizing.{resized_sound, admitted_size}
use Rattle.conn_table.proofs.table.Table.admit.Goals as goal

abbrev tabled : ℕ → List Slot → TableView
tabled b l = record { budget = b; slots = l }

summed : (admitted size given : ℕ) → given ≡ 0 → admitted + size + given ≡ admitted + size
summed admitted size given e = omega arith

fits : (admitted size budget : ℕ) → admitted ≤ budget → size ≤ budget - admitted → admitted + size ≤ budget
fits admitted size budget a b = omega arith

fitting : (all wanted admitted budget : ℕ) → admitted ≡ all → admitted ≤ budget → wanted ≤ budget - admitted → all + wanted ≤ budget
fitting all wanted admitted budget a b l = omega arith

passing : (all wanted admitted budget : ℕ) → admitted ≡ all → admitted ≤ budget → budget - admitted < wanted → budget < all + wanted
passing all wanted admitted budget a b l = omega arith

pub returns-in_err-size : goal.returns-in_err-size
returns-in_err-size c =
    let places : List Slot = c.self.inside.places in
    let a = c.in_err-size.ensures in
    let p = err_from_is_err_and c.from_residual.result c.from_residual.ensures.1 in
    rw p.1 (
      subst (λ (o : TableView). sizes_given o.slots + size_wanted (slot_of c.args.c o.slots).conn ≤ o.budget) c.self.view_is
          (fitting (sizes_given places) (size_wanted (slot_of c.args.c places).conn) c.self.inside.admitted c.self.inside.read_budget c.self.invariant.sum c.self.invariant.within a.0),
      ap (λ l. tabled c.self.inside.read_budget l) a.1 ∙ c.self.view_is,
    )

pub returns-in_default : goal.returns-in_default
returns-in_default c =
    let places : List Slot = c.self.inside.places in
    let a = subst (λ o. AdmitsFrame {E = AllocError} (c.self.inside.read_budget - c.self.inside.admitted) c.args.c places (Ok o) c.admit.new.self) c.in_default.is c.in_ok-size.ensures in (
      subst (λ (o : TableView). o.budget < sizes_given o.slots + size_wanted (slot_of c.args.c o.slots).conn) c.self.view_is
          (passing (sizes_given places) (size_wanted (slot_of c.args.c places).conn) c.self.inside.admitted c.self.inside.read_budget c.self.invariant.sum c.self.invariant.within a.0),
      ap (λ l. tabled c.self.inside.read_budget l) a.1 ∙ c.self.view_is,
    )

pub invariant_of-self-2 : goal.invariant_of-self-2
invariant_of-self-2 c =
    let places : List Slot = c.self.inside.places in
    let there : IsSome (slot_in c.args.c places) = subst (λ (o : TableView). IsSome (slot_in c.args.c o.slots)) (sym c.self.view_is) c.requires.open in
    let none : (slot_of c.args.c places).size ≡ None = subst (λ (o : TableView). (slot_of c.args.c o.slots).size ≡ None) (sym c.self.view_is) c.requires.unadmitted in
    let conn : ConnView = record (slot_of c.args.c places).conn { phase = after_admission (slot_of c.args.c places).conn.phase } in
    let a = subst (λ o. AdmitsFrame {E = AllocError} (c.self.inside.read_budget - c.self.inside.admitted) c.args.c places (Ok o) c.admit.new.self) c.in-Some.is c.in_ok-size.ensures in
    subst (λ l. IsSoundTable l c.self.inside.read_budget (c.self.inside.admitted + c.in-Some.size)) (sym a.2)
    (resized_sound places c.self.inside.read_budget c.self.inside.admitted (c.self.inside.admitted + c.in-Some.size) c.args.c conn (Some c.in-Some.size) c.self.invariant there
    (summed c.self.inside.admitted c.in-Some.size (size_given (slot_of c.args.c places).size) (ap size_given none))
    (fits c.self.inside.admitted c.in-Some.size c.self.inside.read_budget c.self.invariant.within a.0) (admitted_size (slot_of c.args.c places).conn.phase conn c.in-Some.size a.1 refl))

pub returns : goal.returns
returns c =
    let places : List Slot = c.self.inside.places in
    let a = subst (λ o. AdmitsFrame {E = AllocError} (c.self.inside.read_budget - c.self.inside.admitted) c.args.c places (Ok o) c.admit.new.self) c.in-Some.is c.in_ok-size.ensures in (
      subst (λ (o : TableView). sizes_given o.slots + size_wanted (slot_of c.args.c o.slots).conn ≤ o.budget) c.self.view_is
          (fitting (sizes_given places) (size_wanted (slot_of c.args.c places).conn) c.self.inside.admitted c.self.inside.read_budget c.self.invariant.sum c.self.invariant.within
          (subst (λ k. k ≤ c.self.inside.read_budget - c.self.inside.admitted) (sym (ap size_given a.1)) a.0)),
      ap (λ l. tabled c.self.inside.read_budget l)
          (a.2 ∙ (λ i. with_slot (record {
            number = c.args.c;
            conn = record (slot_of c.args.c places).conn { phase = after_admission (slot_of c.args.c places).conn.phase };
            size = sym a.1 i;
          }) places)) ∙ ap (λ (o : TableView). with_admitted c.args.c o) c.self.view_is,
    )
