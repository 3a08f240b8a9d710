-- A loop goes on where one connection changes by an item of its own.
use Rattle.std.proofs.Common.{◌≡◌, ◌≢◌, ℕ, ◌+◌, ◌<◌, ◌≤◌, ◌^◌, None, Some, List, [], ◌∷◌, ◌++◌, length, ◌∙◌, arith}
use Rattle.streams.specs.declared.marks.Mark.{Mark}
use Rattle.outside.specs.LinksState.{LinksState}
use Rattle.host_model.specs.declared.cause.EndCause.{EndCause}
use Rattle.host_model.specs.declared.cause.EndCause.TheVariants.{Stopped}
use Rattle.conn_table.specs.Table.{slot_of}
use Rattle.machine_model.specs.OwnCalls.{summed_calls}
use Rattle.machine_model.specs.OwnLoop.{refuses_job}
use Rattle.machine_model.specs.Loop.{LoopConn, Loop, with_conn, changed}
use Rattle.machine_model.specs.Bounds.{sum_among}
use Rattle.machine_model.specs.AtFronts.{begun_if_open, all_begun}
use Rattle.machine_model.specs.Merge.{calls_in, Weaves}
use Rattle.machine_model.proofs.Summing.{sum_changed}
use Rattle.conn_refinement.specs.Phases.{IsOpenTied}
use Rattle.loop_conns.specs.declared.connections.ConnStage.{ConnStage}
use Rattle.loop_conns.specs.declared.connections.LoopConnections.{LoopConnections}
use Rattle.loop_conns.specs.Tied.{StageTells}
use Rattle.loop_conns.specs.Woven.{ServedItem, ServedAsk, owed_by, IsWovenTo, LoopIsRunning}
use Rattle.loop_conns.proofs.Tying.{ChangesOne, changed_tied, changed_phases, changed_each, changed_below}
use Rattle.loop_conns.proofs.Weaving.{lent_by, item_woven}

-- what is under way has grown no more than that of the connection that changes
pub begun_less : (loop : Loop) (c : ℕ) (conn : LoopConn) (marks : List Mark) (budget : ℕ) → c < loop.count → all_begun loop ≤ budget
    → begun_if_open conn.cause conn.held ≤ begun_if_open (loop.conns c).cause (loop.conns c).held → all_begun (changed loop c conn marks) ≤ budget
begun_less loop c conn marks budget l within less =
    let f : LoopConn → ℕ = λ k. begun_if_open k.cause k.held in
    let t : sum_among f (with_conn loop.conns c conn) loop.count + f (loop.conns c) ≡ sum_among f loop.conns loop.count + f conn = sum_changed f loop.conns c conn loop.count l in
    omega arith

-- What one connection's change is of: an item of the loop's own, on the links and among what is kept.
pub record IsChange (max : ℕ) (first l0 l1 : LinksState) (k0 k1 : LoopConnections) (loop : Loop) (item : ServedItem) (c : ℕ) (conn : LoopConn) (place : ConnStage) (cause : EndCause)
    (marks : List Mark) : Type 0 where
  pub below : c < loop.count
  pub one : Weaves max loop (item ∷ []) (changed loop c conn marks)
  pub change : ChangesOne c place cause marks (lent_by loop item) l0 l1 k0 k1
  pub tells : StageTells first l1 k1.table c conn cause place
  pub less : all_begun (changed loop c conn marks) ≤ k0.table.budget

-- So what was woven goes on.
pub change_woven : (max : ℕ) → max < 2 ^ 31 → (first l0 l1 : LinksState) (k0 k1 : LoopConnections) (asks : List ServedAsk) (loop : Loop) → IsWovenTo max first l0 k0 asks loop
    → (item : ServedItem) (c : ℕ) (conn : LoopConn) (place : ConnStage) (cause : EndCause) (marks : List Mark) → IsChange max first l0 l1 k0 k1 loop item c conn place cause marks
    → IsWovenTo max first l1 k1 (asks ++ calls_in (item ∷ [])) (changed loop c conn marks)
change_woven max small first l0 l1 k0 k1 asks loop w item c conn place cause marks h =
    item_woven max small first l0 l1 k0 k1 asks loop w item (changed loop c conn marks) h.one
    (changed_tied first l0 l1 k0 k1 loop c conn place cause marks (lent_by loop item) w.tied h.below h.change h.tells) h.change.table.budget h.less h.change.links.lengths
    h.change.links.others.rests

-- And the loop goes on, where the connection leaves no payload behind, wasn't stopped, and is told of by its state; with the count of those that owe something.
pub record StaysGoing (max : ℕ) (k0 k1 : LoopConnections) (old : LoopConn) (c : ℕ) (conn : LoopConn) : Type 0 where
  pub phase : conn.cause ≡ None → IsOpenTied max (slot_of c k1.table.slots).conn conn
  pub behind : conn.cause ≢ None → conn.collected ≡ length conn.payloads
  pub unstopped : conn.cause ≢ Some Stopped
  pub owing : k1.owing + owed_by old.cause old ≡ k0.owing + owed_by conn.cause conn

pub change_goes : (max : ℕ) → max < 2 ^ 31 → (first l0 l1 : LinksState) (k0 k1 : LoopConnections) (asks : List ServedAsk) (g : LoopIsRunning max first l0 k0 asks) (item : ServedItem) (c : ℕ)
    (conn : LoopConn) (place : ConnStage) (cause : EndCause) (marks : List Mark) → IsChange max first l0 l1 k0 k1 g.loop item c conn place cause marks
    → StaysGoing max k0 k1 (g.loop.conns c) c conn → summed_calls refuses_job (asks ++ calls_in (item ∷ [])) ≡ 0 → LoopIsRunning max first l1 k1 (asks ++ calls_in (item ∷ []))
change_goes max small first l0 l1 k0 k1 asks g item c conn place cause marks h s taken =
    let loop : Loop = g.loop in
    let f : LoopConn → ℕ = λ k. owed_by k.cause k in
    let sum : sum_among f (with_conn loop.conns c conn) loop.count + f (loop.conns c) ≡ sum_among f loop.conns loop.count + f conn = sum_changed f loop.conns c conn loop.count h.below in
    let before : k0.owing ≡ sum_among f loop.conns loop.count = g.owing in
    let owing : k1.owing + f (loop.conns c) ≡ k0.owing + f conn = s.owing in
    record {
      loop = changed loop c conn marks;
      so_far = change_woven max small first l0 l1 k0 k1 asks loop g.so_far item c conn place cause marks h;
      phases = changed_phases max k0.table k1.table loop c conn marks g.phases h.change.table s.phase;
      none_left = changed_below (λ (k : LoopConn). k.cause ≢ None → k.collected ≡ length k.payloads) loop c conn loop.count g.none_left s.behind;
      none_stopped = changed_each (λ (k : LoopConn). k.cause ≢ Some Stopped) loop c conn g.none_stopped s.unstopped;
      taken = taken;
      owing = omega arith;
      quiet = h.change.links.others.net_faults ∙ g.quiet;
    }
