use Rattle.std.proofs.Common.{◌≡◌, ℕ, ◌<◌, length, slice_index_or}
use Rattle.cell_loop.specs.declared.loop_part.CellStage.TheVariants.{Lean}
use Rattle.cell_loop.specs.LoopTied.{HasRoomToClose}
use Rattle.cell_loop.specs.LoopMoves.{StandIsOver, LoopStops}
use Rattle.cell_loop.specs.Stops.{open_below}
use Rattle.cell_loop.proofs.loop_part.LoopPart.stop_all.Given as goal

-- the connections before number c are stopped, and have ended
abbrev pub invariant-loop-c : goal.invariant-loop-c
invariant-loop-c l =
    LoopStops (λ loop. open_below loop.conns l.c) l.fn.self l.self × (length l.self.stages.items ≡ length l.fn.self.stages.items)
    × ((x : ℕ) → x < l.c → StandIsOver (slice_index_or l.self.stages.items x Lean)) × HasRoomToClose l.self
