-- What is kept of the loop's part, tied to a machine in rehearsal: each connection's phase tells of what was read, submitted and collected of it.
use Rattle.std.specs.Prelude.{◌≡◌, ◌≢◌, ℕ, suc, ◌+◌, ◌*◌, ◌^◌, ◌<◌, ◌≤◌, IsSome, Option, None, Some, [], ◌++◌, length, slice_get, slice_index_or}
use Rattle.std.specs.List.{AllByRecursion}
use Rattle.std.specs.Int.{w32, to_be_bytes}
use Rattle.std.specs.Vec.{vec_capacity}
use Rattle.conn_state.specs.Phase.{Phase, ConnView, sizing, held, framing, ready, waiting, writing, ended, IsReady, IsWaiting, IsReading}
use Rattle.conn_state.specs.Run.{EachIsByte}
use Rattle.conn_table.specs.Slots.{slot_in}
use Rattle.conn_table.specs.Table.{TableView, slot_of}
use Rattle.machine_model.specs.Loop.{LoopConn}
use Rattle.script_model.specs.ScriptLines.{ScriptPlan, rules_of}
use Rattle.cell_loop.specs.declared.loop_part.CellStage.{CellStage}
use Rattle.cell_loop.specs.declared.loop_part.CellStage.TheVariants.{Lean, Framed, Whole, Asked, Over}
use Rattle.cell_loop.specs.declared.loop_part.LoopPart.{LoopPart}
use Rattle.cell_loop.specs.Settings.{CellSetting, ServedPlay}
use Rattle.conn_refinement.specs.Phases.{PhaseTells, IsOpenTied, IsFraming, IsLean}
use Rattle.cell_loop.specs.Feeds.{unread_in, finish_in, rules_in, HasSomePieces, BoundsSome}

-- a connection is open, in the table, and in such a phase
pub record IsInTable (max : ℕ) (in_phase : Phase → Type 0) (table : TableView) (c : ℕ) (conn : LoopConn) : Type 0 where
  pub there : IsSome (slot_in c table.slots)
  pub in_its_phase : in_phase (slot_of c table.slots).conn.phase
  pub tied : IsOpenTied max (slot_of c table.slots).conn conn

-- a size of it is admitted, the same on both sides
abbrev pub HasAdmittedSize : TableView → ℕ → Option ℕ → Type 0
HasAdmittedSize table c admitted = IsSome (slot_of c table.slots).size × (admitted ≡ (slot_of c table.slots).size)

-- How connection c stands: it is in the table, in a phase that the stand tells, with a size that is admitted or without one; or it has ended by this cause, and is
-- gone.
abbrev pub CellStageTells : ℕ → TableView → ℕ → LoopConn → Option ℕ → CellStage → Type 0
CellStageTells max table c conn admitted Lean = IsInTable max IsLean table c conn × ((slot_of c table.slots).size ≡ None) × (admitted ≡ None)
CellStageTells max table c conn admitted Framed = IsInTable max IsFraming table c conn × HasAdmittedSize table c admitted
CellStageTells max table c conn admitted Whole = IsInTable max IsReady table c conn × HasAdmittedSize table c admitted
CellStageTells max table c conn admitted Asked = IsInTable max IsWaiting table c conn × HasAdmittedSize table c admitted
CellStageTells max table c conn admitted (Over cause) = (slot_in c table.slots ≡ None) × (admitted ≡ None) × (conn.cause ≡ Some cause)

-- connection c reads on: it is open, in a phase in which a size or a payload is read
abbrev pub IsReadingAt : ℕ → LoopPart → Type 0
IsReadingAt c part = (c < length part.stages.items) × IsSome (slot_in c part.table.slots) × IsReading (slot_of c part.table.slots).conn.phase

-- The loop's part is tied to a play: tape and number of connections are the same; each connection stands as is told; none that isn't opened is in the table; and
-- the same pieces, ends and rules are left.
pub record IsLoopTied (s : CellSetting) (part : LoopPart) (play : ServedPlay) : Type 0 where
  pub budget : part.table.budget ≡ s.budget
  pub tape : play.cell.loop.tape ≡ part.tape.items
  pub count : play.cell.loop.count ≡ length part.stages.items
  pub stages : (c : ℕ) → c < length part.stages.items
      → CellStageTells s.desk.max_frame part.table c (play.cell.loop.conns c) (play.admitted c) (slice_index_or part.stages.items c Lean)
  pub unopened : (c : ℕ) → length part.stages.items ≤ c → (slot_in c part.table.slots ≡ None) × (play.admitted c ≡ None)
  pub unread : (c : ℕ) → play.unread c ≡ unread_in part.feeds.items c
  pub finish : (c : ℕ) → play.finish c ≡ finish_in part.feeds.items c
  pub rules : (c : ℕ) → play.rules c ≡ rules_in part.feeds.items c
  pub pieces : AllByRecursion HasSomePieces part.feeds.items
  pub writes : (c : ℕ) → AllByRecursion BoundsSome (rules_in part.feeds.items c)
  pub fed : length part.stages.items ≤ length part.feeds.items

-- There is room for two marks of each connection that is open, and for a cause of each that was opened; and each that was opened has a number of 32 bits.
pub record HasRoomToClose (part : LoopPart) : Type 0 where
  pub for_marks : length part.tape.items + 2 * length part.table.slots ≤ part.tape.capacity
  pub for_causes : length part.stages.items ≤ vec_capacity part.ends
  pub none_yet : part.ends.items ≡ []
  pub numbered : length part.stages.items ≤ 2 ^ 32

-- the loop's part before the first line: nothing is open, nothing has happened, and each connection of the script has its rules
pub record IsFreshPart (s : CellSetting) (script : ScriptPlan) (part : LoopPart) : Type 0 where
  pub table : part.table ≡ record { budget = s.budget; slots = [] }
  pub tape : part.tape.items ≡ []
  pub stages : part.stages.items ≡ []
  pub unread : (c : ℕ) → unread_in part.feeds.items c ≡ []
  pub finish : (c : ℕ) → finish_in part.feeds.items c ≡ None
  pub rules : (c : ℕ) → rules_in part.feeds.items c ≡ rules_of c script
  pub pieces : AllByRecursion HasSomePieces part.feeds.items
  pub writes : (c : ℕ) → AllByRecursion BoundsSome (rules_in part.feeds.items c)
