-- What a loop keeps of its links' connections, tied to the machine's loop.
use Rattle.std.specs.Prelude.{◌≡◌, ℕ, ◌^◌, ◌<◌, ◌≤◌, true, false, None, Some, IsSome, length, slice_index_or}
use Rattle.streams.specs.Cause.{Rose}
use Rattle.streams.specs.Content.{IsSpent}
use Rattle.outside.specs.LinksState.{LinksState}
use Rattle.host_model.specs.declared.cause.EndCause.{EndCause}
use Rattle.host_model.specs.declared.cause.EndCause.TheVariants.{End, Cut, SizeFault, Envelope, ReadFault, WriteFault, NoMemory, Stopped}
use Rattle.conn_state.specs.Phase.{Phase, framing, ready, waiting}
use Rattle.conn_table.specs.Slots.{most_connections, slot_in, HaveRisingNumbers}
use Rattle.conn_table.specs.Table.{TableView, slot_of, sizes_given, HasItsSize}
use Rattle.machine_model.specs.SeenHall.{MayHave}
use Rattle.machine_model.specs.Loop.{LoopConn, Loop}
use Rattle.conn_refinement.specs.Phases.{IsOpenTied, IsLean}
use Rattle.loop_conns.specs.declared.connections.ConnStage.{ConnStage}
use Rattle.loop_conns.specs.declared.connections.ConnStage.TheVariants.{Lean, Laden, Gone}
use Rattle.loop_conns.specs.declared.connections.LoopConnections.{LoopConnections}

-- a phase in which a size is admitted
abbrev pub IsLaden : Phase → Type 0
IsLaden (framing size bytes) = Unit {0}
IsLaden (ready number payload) = Unit {0}
IsLaden (waiting number) = Unit {0}
IsLaden _ = ⊥

-- what the links show of a connection that has ended by this cause: its count of faults has risen since they came in, or nothing is left to be read
abbrev pub CauseShows : LinksState → LinksState → ℕ → EndCause → Type 0
CauseShows first links c ReadFault = Rose (first.faults c) (links.faults c)
CauseShows first links c WriteFault = Rose (first.faults c) (links.faults c)
CauseShows first links c End = IsSpent (links.left c)
CauseShows first links c Cut = IsSpent (links.left c)
CauseShows first links c (SizeFault size) = Unit {0}
CauseShows first links c (Envelope fault) = Unit {0}
CauseShows first links c NoMemory = Unit {0}
CauseShows first links c Stopped = Unit {0}

-- connection c is open: in the table, on the links and in the machine; were the host to stop, it would be stopped
pub record IsOpenOnLinks (links : LinksState) (table : TableView) (c : ℕ) (conn : LoopConn) (cause : EndCause) : Type 0 where
  pub there : IsSome (slot_in c table.slots)
  pub link : links.is_open c ≡ true
  pub going : conn.cause ≡ None
  pub stopped : cause ≡ Stopped

-- it is over: out of the table, closed on the links, and ended in the machine by this cause
pub record IsOverOnLinks (first links : LinksState) (table : TableView) (c : ℕ) (conn : LoopConn) (cause : EndCause) : Type 0 where
  pub gone : slot_in c table.slots ≡ None
  pub link : links.is_open c ≡ false
  pub ended : conn.cause ≡ Some cause
  pub shows : CauseShows first links c cause

-- How connection c stands, by its place: open, in a phase with no size admitted or in one with its size; or over.
abbrev pub StageTells : LinksState → LinksState → TableView → ℕ → LoopConn → EndCause → ConnStage → Type 0
StageTells first links table c conn cause Lean =
    IsOpenOnLinks links table c conn cause × IsLean (slot_of c table.slots).conn.phase × ((slot_of c table.slots).size ≡ None)
StageTells first links table c conn cause Laden =
    IsOpenOnLinks links table c conn cause × IsLaden (slot_of c table.slots).conn.phase × HasItsSize (slot_of c table.slots).conn.phase (slot_of c table.slots).size
StageTells first links table c conn cause Gone = IsOverOnLinks first links table c conn cause

-- a table whose numbers rise, no more than there may be, with its admitted sizes within the budget
pub record IsOrderly (table : TableView) : Type 0 where
  pub rising : HaveRisingNumbers table.slots
  pub few : length table.slots ≤ most_connections
  pub within : sizes_given table.slots ≤ table.budget

-- The connections are tied to the machine's loop and to the links, which were so when they came in: the tape is the same, where it is told; as many are known as were
-- opened, and each stands as its place tells.
pub record AreTied (first links : LinksState) (kept : LoopConnections) (loop : Loop) : Type 0 where
  pub tape : MayHave links.tape loop.tape
  pub count : loop.count ≡ length kept.causes.items
  pub stages : loop.count ≡ length kept.stages.items
  pub opened : links.opened ≡ loop.count
  pub each : (c : ℕ) → c < loop.count
      → StageTells first links kept.table c (loop.conns c) (slice_index_or kept.causes.items c Stopped) (slice_index_or kept.stages.items c Gone)
  pub unopened : (c : ℕ) → loop.count ≤ c → (slot_in c kept.table.slots ≡ None) × (links.is_open c ≡ false)
  pub numbered : loop.count ≤ 2 ^ 32
  pub orderly : IsOrderly kept.table
  pub listens : links.listens ≡ first.listens
  pub faults : (c : ℕ) → first.faults c ≤ links.faults c
  pub net_faults : first.net_faults ≤ links.net_faults

-- each open connection's state tells of the machine's connection, where the longest payload is max
abbrev pub PhasesTell : ℕ → TableView → Loop → Type 0
PhasesTell max table loop = (c : ℕ) → c < loop.count → (loop.conns c).cause ≡ None → IsOpenTied max (slot_of c table.slots).conn (loop.conns c)
