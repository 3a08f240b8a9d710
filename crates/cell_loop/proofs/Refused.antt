-- What is known of a connection in a table is known of it in one that is the same.
use Rattle.std.proofs.Common.{◌≡◌, ℕ, ◌+◌, ◌<◌, ◌≤◌, Bool, true, false, Result, Ok, length, ap, sym, subst, IsSome}
use Rattle.conn_state.specs.Phase.{HasNotEnded}
use Rattle.conn_table.specs.Slots.{slot_in}
use Rattle.conn_table.specs.Table.{TableView, slot_of, sizes_given, size_wanted, with_admitted, Admits}
use Rattle.cell_loop.specs.declared.loop_part.CellStage.{CellStage}
use Rattle.conn_refinement.specs.Tables.{IsSameBut}
use Rattle.cell_loop.specs.Closing.{StageHasSize}
use Rattle.cell_loop.proofs.ClosingOff.{same_but}

module _ (c : ℕ) (old new : TableView) (same : new ≡ old) where
  pub same_there : IsSome (slot_in c old.slots) → IsSome (slot_in c new.slots)
  same_there there = subst (λ (t : TableView). IsSome (slot_in c t.slots)) (sym same) there

  pub same_going : HasNotEnded (slot_of c old.slots).conn.phase → HasNotEnded (slot_of c new.slots).conn.phase
  same_going going = subst (λ (t : TableView). HasNotEnded (slot_of c t.slots).conn.phase) (sym same) going

  pub same_size_so : (stage : CellStage) → StageHasSize stage (slot_of c old.slots).size → StageHasSize stage (slot_of c new.slots).size
  same_size_so stage size = subst (λ (t : TableView). StageHasSize stage (slot_of c t.slots).size) (sym same) size

  pub same_in : IsSameBut c old new
  same_in = subst (λ (t : TableView). IsSameBut c old t) (sym same) (same_but c old)

  pub same_count : length new.slots ≡ length old.slots
  same_count = ap (λ (t : TableView). length t.slots) same

-- what an admission says, by what it answered
pub admits_true : {E : Type 0} (c : ℕ) (old new : TableView) (result : Result Bool E) → result ≡ Ok true → Admits c old result new
    → (sizes_given old.slots + size_wanted (slot_of c old.slots).conn ≤ old.budget) × (new ≡ with_admitted c old)
admits_true {E} c old new result is admits = subst (λ (r : Result Bool E). Admits c old r new) is admits

pub admits_false : {E : Type 0} (c : ℕ) (old new : TableView) (result : Result Bool E) → result ≡ Ok false → Admits c old result new
    → (old.budget < sizes_given old.slots + size_wanted (slot_of c old.slots).conn) × (new ≡ old)
admits_false {E} c old new result is admits = subst (λ (r : Result Bool E). Admits c old r new) is admits
