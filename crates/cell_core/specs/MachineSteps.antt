-- What a connection's move of a machine comes to, and what a collect does, all at once.
use Rattle.std.specs.Prelude.{◌≡◌, ℕ, Bool, Option, None, Some, Result, IfOk, OnErr}
use Rattle.cell_loop.specs.declared.loop_part.CellStage.{CellStage}
use Rattle.cell_loop.specs.declared.loop_part.CellStage.TheVariants.{Asked, Over}
use Rattle.cell_loop.specs.Moving.{one_of_conn, one_of_outcome}
use Rattle.cell_core.specs.Parts.{Parts}
use Rattle.cell_core.specs.Machines.{IsMachine, MachineMoves, StaysPlayed, MoveKeeps, LeavesLess}

-- a connection that isn't there, has ended, or awaits an outcome
abbrev pub HasNoTurn : Option CellStage → Type 0
HasNoTurn None = Unit {0}
HasNoTurn (Some Asked) = Unit {0}
HasNoTurn (Some (Over cause)) = Unit {0}
HasNoTurn (Some _) = ⊥

-- It has moved or it hasn't, as each play that the machine was tied to; and it is between two moves, with less to do where it has moved, and no fault
-- of the journal is counted.
pub record IsConnStep {E : Type 0} (max c : ℕ) (old new : Parts) (result : Result Bool E) : Type 0 where
  pub moved : IfOk result (λ moved. MachineMoves max (λ s. one_of_conn s c) old moved new)
  pub err : OnErr result (StaysPlayed old new)
  pub under_way : IsMachine max new
  pub less : IfOk result (λ moved. LeavesLess moved old new)
  pub kept : MoveKeeps old new
  pub count : new.hall.faults ≡ old.hall.faults

-- The same is so of a collect.
pub record IsOutcomeStep (old new : Parts) (moved : Bool) : Type 0 where
  pub moves : (max : ℕ) → MachineMoves max one_of_outcome old moved new
  pub less : LeavesLess moved old new
  pub kept : MoveKeeps old new
  pub count : new.hall.faults ≡ old.hall.faults
