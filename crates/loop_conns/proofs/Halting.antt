-- All connections are stopped one by one: what stands at each step, and in the end.
use Rattle.std.proofs.Common.{◌≡◌, ℕ, ◌≤◌, ◌^◌, length, arith}
use Rattle.outside.specs.LinksState.{LinksState}
use Rattle.loop_conns.specs.declared.connections.LoopConnections.{LoopConnections}
use Rattle.loop_conns.specs.Tied.{AreTied}
use Rattle.loop_conns.specs.Woven.{HasWoven}
use Rattle.loop_conns.specs.Going.{SomeWoven, AllKeepWoven, AreAllGone, IsOpenAt}
use Rattle.loop_conns.specs.Stopped.{AllHaveEnded}
use Rattle.loop_conns.proofs.Standing.{Standing, standing}
use Rattle.loop_conns.proofs.Stops.{ended_all}

-- one more was stopped
pub come_then : (l0 l1 l2 : LinksState) (k0 k1 k2 : LoopConnections) → AllKeepWoven l0 k0 l1 k1 → AllKeepWoven l1 k1 l2 k2 → AllKeepWoven l0 k0 l2 k2
come_then l0 l1 l2 k0 k1 k2 a b max small first asks w = b max small first asks (a max small first asks w)

-- some loop has come so far still
pub some_still : (l0 l1 : LinksState) (k0 k1 : LoopConnections) → SomeWoven l0 k0 → AllKeepWoven l0 k0 l1 k1 → SomeWoven l1 k1
some_still l0 l1 k0 k1 s a = (s.0, s.1, s.2, s.3, a s.0 s.1 s.2 s.3 s.4)

-- one that is open stands
pub stands_open : (links : LinksState) (kept : LoopConnections) (s : SomeWoven links kept) (c : ℕ) → IsOpenAt c kept → Standing links kept s.4.0 c
stands_open links kept s c is_open = standing s.2 links kept s.4.0 c s.4.1.tied is_open

-- no more are known than have numbers
pub few_known : (links : LinksState) (kept : LoopConnections) → SomeWoven links kept → length kept.stages.items ≤ 2 ^ 32
few_known links kept s =
    let t : AreTied s.2 links kept s.4.0 = s.4.1.tied in
    let a : s.4.0.count ≡ length kept.stages.items = t.stages in
    let b : s.4.0.count ≤ 2 ^ 32 = t.numbered in
    omega arith

-- each has ended in the machine, where all are gone
pub all_ended : (l0 l1 : LinksState) (k0 k1 : LoopConnections) → AllKeepWoven l0 k0 l1 k1 → AreAllGone k1 → AllHaveEnded l0 k0 l1 k1
all_ended l0 l1 k0 k1 come gone max small first asks w =
    let now : HasWoven max first l1 k1 asks = come max small first asks w in
    (now.0, now.1, ended_all first l1 k1 now.0 now.1.tied gone)
