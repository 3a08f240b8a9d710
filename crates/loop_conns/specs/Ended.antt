-- What it leaves of a loop's connections, and of its links, that one of them has ended or changed.
use Rattle.std.specs.Prelude.{◌≡◌, ℕ, ◌<◌, ◌≤◌, Option, None, IsSome, List, length, slice_set}
use Rattle.streams.specs.declared.marks.Mark.{Mark}
use Rattle.streams.specs.Told.{told_with}
use Rattle.outside.specs.LinksState.{LinksState, ChangesOnly}
use Rattle.host_model.specs.declared.cause.EndCause.{EndCause}
use Rattle.conn_table.specs.Slots.{slot_in}
use Rattle.conn_refinement.specs.Tables.{IsSameBut}
use Rattle.loop_conns.specs.declared.connections.ConnStage.{ConnStage}
use Rattle.loop_conns.specs.declared.connections.ConnStage.TheVariants.{Lean, Laden, Gone}
use Rattle.loop_conns.specs.declared.connections.LoopConnections.{LoopConnections}
use Rattle.loop_conns.specs.Tied.{IsOrderly}

-- connection c is known
abbrev pub IsNumbered : ℕ → LoopConnections → Type 0
IsNumbered c kept = (c < length kept.stages.items) × (c < length kept.causes.items)

-- one at this place, and open, has a size that is admitted, or none
abbrev pub HasSizeBy : ConnStage → Option ℕ → Type 0
HasSizeBy Lean size = size ≡ None
HasSizeBy Laden size = IsSome size
HasSizeBy Gone size = ⊥

-- connection c has ended by this cause: it is out of the table, and its place and its cause tell so
pub record EndsConnection (c : ℕ) (cause : EndCause) (old new : LoopConnections) : Type 0 where
  pub table : IsSameBut c old.table new.table
  pub orderly : IsOrderly old.table → IsOrderly new.table
  pub gone : slot_in c new.table.slots ≡ None
  pub stages : new.stages.items ≡ slice_set old.stages.items c Gone
  pub causes : new.causes.items ≡ slice_set old.causes.items c cause

-- connection c alone moved on the links: these marks were made, and these lengths lent
pub record MovesOnly (c : ℕ) (marks : List Mark) (lent : List ℕ) (old new : LinksState) : Type 0 where
  pub others : ChangesOnly c old new
  pub tape : new.tape ≡ told_with old.tape marks
  pub lengths : new.lengths ≡ told_with old.lengths lent
  pub faults : old.faults c ≤ new.faults c
