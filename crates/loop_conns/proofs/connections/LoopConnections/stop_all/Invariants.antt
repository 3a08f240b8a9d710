use Rattle.std.proofs.Common.{◌≡◌, ℕ, ◌<◌, length, slice_index_or}
use Rattle.loop_conns.specs.declared.connections.ConnStage.TheVariants.{Gone}
use Rattle.loop_conns.specs.Going.{AllKeepWoven}
use Rattle.loop_conns.specs.Stopped.{KeepsCauses}
use Rattle.loop_conns.proofs.connections.LoopConnections.stop_all.Given as goal

-- whichever loop had come so far, has come to where the connections before number c are gone
abbrev pub invariant-all : goal.invariant-all
invariant-all g l =
    AllKeepWoven (g.L.Links.state l.fn.links) l.fn.self (g.L.Links.state l.links) l.self × (length l.self.stages.items ≡ length l.fn.self.stages.items)
    × ((x : ℕ) → x < l.c → slice_index_or l.self.stages.items x Gone ≡ Gone) × KeepsCauses l.fn.self l.self × (l.self.table.budget ≡ l.fn.self.table.budget)
    × (g.L.Links.plan l.links ≡ g.L.Links.plan l.fn.links)
