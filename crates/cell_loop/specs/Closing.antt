-- What one connection's change leaves of the loop's part, and how a connection is closed in it.
use Rattle.std.specs.Prelude.{◌≡◌, ℕ, suc, ◌≤◌, Option, None, IsSome, List, [], ◌∷◌, ◌++◌, length, take, drop, slice_index_or, slice_set}
use Rattle.std.specs.Vec.{vec_capacity}
use Rattle.streams.specs.declared.marks.Mark.{Mark}
use Rattle.streams.specs.declared.marks.Mark.TheVariants.{Wrote, Closed}
use Rattle.host_model.specs.declared.cause.EndCause.{EndCause}
use Rattle.conn_state.specs.Phase.{left_to_write}
use Rattle.conn_state.specs.Step.{after_wrote}
use Rattle.conn_table.specs.Slots.{slot_in}
use Rattle.conn_table.specs.Table.{TableView, slot_of, with_state}
use Rattle.conn_refinement.specs.Tables.{IsSameBut}
use Rattle.cell_loop.specs.declared.loop_part.CellStage.{CellStage}
use Rattle.cell_loop.specs.declared.loop_part.CellStage.TheVariants.{Lean, Over}
use Rattle.cell_loop.specs.declared.loop_part.LoopPart.{LoopPart}

-- connection c stands so now, and each other one as it did
pub record HasStand (c : ℕ) (stage : CellStage) (old new : List CellStage) : Type 0 where
  pub count : length new ≡ length old
  pub own : slice_index_or new c Lean ≡ stage
  pub others : (x : ℕ) → (c ≡ x → ⊥) → slice_index_or new x Lean ≡ slice_index_or old x Lean

-- a connection that stands so, and is open, has a size that is admitted, or none
abbrev pub StageHasSize : CellStage → Option ℕ → Type 0
StageHasSize Lean size = size ≡ None
StageHasSize (Over cause) size = ⊥
StageHasSize _ size = IsSome size

-- the cause of one that has ended
abbrev pub end_told : CellStage → List EndCause
end_told (Over cause) = cause ∷ []
end_told _ = []

-- connection c was closed, which has ended by this cause
pub record IsClosed (c : ℕ) (cause : EndCause) (old new : LoopPart) : Type 0 where
  pub table : IsSameBut c old.table new.table
  pub gone : slot_in c new.table.slots ≡ None
  pub fewer : suc (length new.table.slots) ≡ length old.table.slots
  pub stages : new.stages.items ≡ slice_set old.stages.items c (Over cause)
  pub tape : new.tape.items ≡ old.tape.items ++ Closed c ∷ []
  pub capacity : new.tape.capacity ≡ old.tape.capacity
  pub feeds : new.feeds ≡ old.feeds
  pub ends : new.ends ≡ old.ends

-- connection c was closed so, after a mark
pub record ClosesBehind (c : ℕ) (mark : Mark) (cause : EndCause) (old new : LoopPart) : Type 0 where
  pub table : IsSameBut c old.table new.table
  pub gone : slot_in c new.table.slots ≡ None
  pub fewer : suc (length new.table.slots) ≡ length old.table.slots
  pub stages : new.stages.items ≡ slice_set old.stages.items c (Over cause)
  pub tape : new.tape.items ≡ old.tape.items ++ mark ∷ Closed c ∷ []
  pub capacity : new.tape.capacity ≡ old.tape.capacity
  pub feeds : new.feeds ≡ old.feeds
  pub ends : new.ends ≡ old.ends

-- nothing has changed but that there may be more room
pub record HasMoreRoom (old new : LoopPart) : Type 0 where
  pub table : new.table ≡ old.table
  pub tape : new.tape.items ≡ old.tape.items
  pub stages : new.stages.items ≡ old.stages.items
  pub feeds : new.feeds ≡ old.feeds
  pub ends : new.ends.items ≡ old.ends.items
  pub for_marks : old.tape.capacity ≤ new.tape.capacity
  pub for_causes : vec_capacity old.ends ≤ vec_capacity new.ends

-- connection c has written so many bytes of what was left
pub record Writes (c count : ℕ) (old new : LoopPart) : Type 0 where
  pub table : new.table ≡ record old.table { slots = with_state c (record (slot_of c old.table.slots).conn { phase = after_wrote (drop count (left_to_write (slot_of c old.table.slots).conn.phase)) }) old.table.slots }
  pub tape : new.tape.items ≡ old.tape.items ++ Wrote c (take count (left_to_write (slot_of c old.table.slots).conn.phase)) ∷ []
  pub stages : new.stages ≡ old.stages
  pub feeds : new.feeds ≡ old.feeds
