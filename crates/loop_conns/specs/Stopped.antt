-- What it leaves that connections were stopped.
use Rattle.std.specs.Prelude.{◌≡◌, ℕ, ◌≤◌, List, length, slice_index_or}
use Rattle.outside.specs.LinksState.{LinksState}
use Rattle.host_model.specs.declared.cause.EndCause.TheVariants.{Stopped}
use Rattle.machine_model.specs.Loop.{Loop}
use Rattle.machine_model.specs.Machine.{HaveAllEnded}
use Rattle.loop_conns.specs.declared.connections.ConnStage.TheVariants.{Gone}
use Rattle.loop_conns.specs.declared.connections.LoopConnections.{LoopConnections}
use Rattle.loop_conns.specs.Woven.{ServedAsk, IsWovenTo, HasWoven}
use Rattle.loop_conns.specs.Going.{longest_payload}

-- The causes that are kept are as they were. That of one that was open is that the host stops, so it was stopped.
abbrev pub KeepsCauses : LoopConnections → LoopConnections → Type 0
KeepsCauses old new = (c : ℕ) → slice_index_or new.causes.items c Stopped ≡ slice_index_or old.causes.items c Stopped

-- connection c is gone now, and those that were gone still are
pub record StopsAlone (c : ℕ) (old new : LoopConnections) : Type 0 where
  pub count : length new.stages.items ≡ length old.stages.items
  pub gone : slice_index_or new.stages.items c Gone ≡ Gone
  pub others : (x : ℕ) → slice_index_or old.stages.items x Gone ≡ Gone → slice_index_or new.stages.items x Gone ≡ Gone
  pub causes : KeepsCauses old new

-- whichever loop has come so far, has come so far now, and each of its connections has ended in the machine, by the cause that is kept
abbrev pub AllHaveEnded : LinksState → LoopConnections → LinksState → LoopConnections → Type 0
AllHaveEnded old_links old links new =
    (max : ℕ) → max ≤ longest_payload → (first : LinksState) (asks : List ServedAsk) → HasWoven max first old_links old asks
    → (loop : Loop) × IsWovenTo max first links new asks loop × HaveAllEnded loop new.causes.items
