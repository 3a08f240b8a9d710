-- What each call of the loop's connections keeps, however the links came in and whatever the loop has asked.
use Rattle.std.specs.Prelude.{◌≡◌, ◌≢◌, ℕ, ◌<◌, ◌≤◌, ◌+◌, true, List, [], ◌∷◌, ◌++◌, length, IsSome, slice_index_or}
use Rattle.streams.specs.declared.outcomes.Settled.{Settled}
use Rattle.streams.specs.declared.outcomes.Settled.TheVariants.{Reply, Nothing, Close, NoMemory}
use Rattle.std.specs.Vec.{vec_capacity}
use Rattle.outside.specs.LinksState.{LinksState}
use Rattle.streams.specs.declared.marks.Mark.TheVariants.{Read}
use Rattle.host_model.specs.declared.key.Key.{Key}
use Rattle.conn_state.specs.Phase.{wanted, left_to_write, IsHeld, IsReading, IsReady}
use Rattle.conn_table.specs.Slots.{slot_in}
use Rattle.conn_table.specs.Table.{TableView, slot_of, sizes_given, size_wanted}
use Rattle.call_history.specs.Calls.{seat_ask}
use Rattle.call_rules.specs.PlainCalls.{PlainCall, PlainAnswer}
use Rattle.call_rules.specs.Handling.{ServiceState, handler_rules}
use Rattle.machine_model.specs.HallState.{HallState}
use Rattle.machine_model.specs.HallRule.{submit, collect, done, is_closed, outcome}
use Rattle.machine_model.specs.OwnCalls.{OwnAsksAllow}
use Rattle.machine_model.specs.OwnLoop.{CollectsItsOwn}
use Rattle.loop_conns.specs.declared.connections.ConnStage.TheVariants.{Gone}
use Rattle.loop_conns.specs.declared.connections.LoopConnections.{LoopConnections}
use Rattle.loop_conns.specs.declared.reading.ReadStep.{ReadStep}
use Rattle.loop_conns.specs.declared.reading.ReadStep.TheVariants.{More, Sized, Whole, Blocked, Over}
use Rattle.loop_conns.specs.declared.writing.WriteStep.{WriteStep}
use Rattle.loop_conns.specs.declared.writing.WriteStep.TheVariants.{Part as PartWritten, All as AllWritten, Blocked as NotWritten, Over as GoneWriting}
use Rattle.loop_conns.specs.declared.admitting.Admission.{Admission}
use Rattle.loop_conns.specs.declared.admitting.Admission.TheVariants.{Admitted, Refused, Over as OverUnadmitted}
use Rattle.loop_conns.specs.Ended.{MovesOnly}
use Rattle.loop_conns.specs.Woven.{ServedAsk, HasWoven, LoopIsRunning}
pub use Rattle.limits.specs.Limits.{longest_payload}

-- some loop goes on with these connections over these links
abbrev pub SomeLoopIsRunning : ℕ → LinksState → LoopConnections → Type 0
SomeLoopIsRunning max links kept = (first : LinksState) × (asks : List ServedAsk) × LoopIsRunning max first links kept asks

-- whichever loop went on, goes on
abbrev pub KeepsGoing : ℕ → LinksState → LoopConnections → LinksState → LoopConnections → Type 0
KeepsGoing max old_links old links new = (first : LinksState) (asks : List ServedAsk) → LoopIsRunning max first old_links old asks → LoopIsRunning max first links new asks

-- the same, whatever the longest payload is
abbrev pub AnyLoopIsRunning : LinksState → LoopConnections → Type 0
AnyLoopIsRunning links kept = (max : ℕ) × (max ≤ longest_payload) × SomeLoopIsRunning max links kept

-- the same of what is kept
abbrev pub AllKeepGoing : LinksState → LoopConnections → LinksState → LoopConnections → Type 0
AllKeepGoing old_links old links new = (max : ℕ) → max ≤ longest_payload → KeepsGoing max old_links old links new

-- whichever loop went on, has come so far
abbrev pub AllComeSoFar : LinksState → LoopConnections → LinksState → LoopConnections → Type 0
AllComeSoFar old_links old links new =
    (max : ℕ) → max ≤ longest_payload → (first : LinksState) (asks : List ServedAsk) → LoopIsRunning max first old_links old asks → HasWoven max first links new asks

-- connection c is open
abbrev pub IsOpenAt : ℕ → LoopConnections → Type 0
IsOpenAt c kept = slice_index_or kept.stages.items c Gone ≢ Gone

-- connection c reads on
abbrev pub ReadsAt : ℕ → LoopConnections → Type 0
ReadsAt c kept = IsOpenAt c kept × IsReading (slot_of c kept.table.slots).conn.phase

-- connection c has a reply to write
abbrev pub WritesAt : ℕ → LoopConnections → Type 0
WritesAt c kept = IsOpenAt c kept × (0 < length (left_to_write (slot_of c kept.table.slots).conn.phase))

-- connection c's frame waits to be admitted
abbrev pub WaitsAt : ℕ → LoopConnections → Type 0
WaitsAt c kept = IsOpenAt c kept × IsHeld (slot_of c kept.table.slots).conn.phase

-- A frame that waits has no room: with its size the admitted sizes pass the budget.
abbrev pub HasNoRoom : TableView → ℕ → Type 0
HasNoRoom table c = IsSome (slot_in c table.slots) × IsHeld (slot_of c table.slots).conn.phase × (table.budget < sizes_given table.slots + size_wanted (slot_of c table.slots).conn)

-- A payload of connection c is handed out under this number: the loop may submit it, and goes on where the hall takes it; where it doesn't, the loop has come so far.
pub record IsHandedOut (max : ℕ) (links : LinksState) (new : LoopConnections) (key : Key) (payload : List ℕ) (first : LinksState) (asks : List ServedAsk) : Type 0 where
  pub may : CollectsItsOwn asks → (opening : HallState PlainCall PlainAnswer ServiceState) → OwnAsksAllow handler_rules opening 0 asks (submit key payload)
  pub taken : LoopIsRunning max first links new (asks ++ seat_ask 0 (submit key payload) done ∷ [])
  pub refused : HasWoven max first links new (asks ++ seat_ask 0 (submit key payload) is_closed ∷ [])

-- the asks, and the outcome of this key collected after them
abbrev pub collected_behind : List ServedAsk → Key → Settled → List ServedAsk
collected_behind asks key settled = asks ++ seat_ask 0 collect (outcome key settled) ∷ []

-- an outcome that a loop which goes on has just collected
abbrev pub IsCollected : ℕ → LinksState → LoopConnections → Key → Settled → Type 0
IsCollected max links kept key settled =
    (first : LinksState) × (asks : List ServedAsk) × LoopIsRunning max first links kept asks × CollectsItsOwn (collected_behind asks key settled)

-- whichever loop has collected it, goes on
abbrev pub GoesOnSettled : ℕ → LinksState → LoopConnections → LinksState → LoopConnections → Key → Settled → Type 0
GoesOnSettled max old_links old links new key settled =
    (first : LinksState) (asks : List ServedAsk) → LoopIsRunning max first old_links old asks → CollectsItsOwn (collected_behind asks key settled)
    → LoopIsRunning max first links new (collected_behind asks key settled)

-- no connection is open
abbrev pub AreAllGone : LoopConnections → Type 0
AreAllGone kept = (c : ℕ) → slice_index_or kept.stages.items c Gone ≡ Gone

-- what is known of a connection that was read from
abbrev pub ReadTells : ℕ → LoopConnections → ReadStep → Type 0
ReadTells c kept More = ReadsAt c kept
ReadTells c kept Sized = IsOpenAt c kept × IsHeld (slot_of c kept.table.slots).conn.phase
ReadTells c kept Whole = IsOpenAt c kept × IsReady (slot_of c kept.table.slots).conn.phase
ReadTells c kept Blocked = Unit {0}
ReadTells c kept Over = Unit {0}

-- what is known of a connection that was written to
abbrev pub WriteTells : ℕ → LoopConnections → WriteStep → Type 0
WriteTells c kept PartWritten = WritesAt c kept
WriteTells c kept AllWritten = ReadsAt c kept
WriteTells c kept NotWritten = Unit {0}
WriteTells c kept GoneWriting = Unit {0}

-- Whichever loop went on over the links as they were before bytes were read, goes on.
abbrev pub TakesIn : ℕ → ℕ → List ℕ → LoopConnections → LinksState → LinksState → LoopConnections → Type 0
TakesIn max c bytes old read_links links new =
    (first before : LinksState) (asks : List ServedAsk) → LoopIsRunning max first before old asks → ReadsAt c old
    → MovesOnly c (Read c bytes ∷ []) (wanted (slot_of c old.table.slots).conn.phase ∷ []) before read_links → LoopIsRunning max first links new asks

-- what is known of a frame that was to be admitted
abbrev pub AdmissionTells : ℕ → LoopConnections → Admission → Type 0
AdmissionTells c kept Admitted = ReadsAt c kept
AdmissionTells c kept Refused = HasNoRoom kept.table c
AdmissionTells c kept OverUnadmitted = Unit {0}

-- the same, of one that was handed out; whatever the longest payload is, and however the links are
abbrev pub AllHandOut : LoopConnections → LoopConnections → Key → List ℕ → Type 0
AllHandOut old new key payload =
    (max : ℕ) → max ≤ longest_payload → (first links : LinksState) (asks : List ServedAsk) → LoopIsRunning max first links old asks → IsHandedOut max links new key payload first asks

-- a reply with no bytes is none
abbrev pub some_reply : Settled → Settled
some_reply (Reply []) = Nothing
some_reply (Reply (byte ∷ reply)) = Reply (byte ∷ reply)
some_reply Nothing = Nothing
some_reply (Close fault) = Close fault
some_reply NoMemory = NoMemory

-- there is room for one more connection
abbrev pub HasPlace : LoopConnections → Type 0
HasPlace kept = (length kept.stages.items < vec_capacity kept.stages) × (length kept.causes.items < vec_capacity kept.causes)

-- all is over: the links say so, and no connection is open
abbrev pub IsAllOver : LinksState → LoopConnections → Type 0
IsAllOver links kept = (links.over ≡ true) × AreAllGone kept

-- some loop has come so far
abbrev pub SomeWoven : LinksState → LoopConnections → Type 0
SomeWoven links kept = (max : ℕ) × (max ≤ longest_payload) × (first : LinksState) × (asks : List ServedAsk) × HasWoven max first links kept asks

-- whichever loop has come so far, has come so far now
abbrev pub AllKeepWoven : LinksState → LoopConnections → LinksState → LoopConnections → Type 0
AllKeepWoven old_links old links new =
    (max : ℕ) → max ≤ longest_payload → (first : LinksState) (asks : List ServedAsk) → HasWoven max first old_links old asks → HasWoven max first links new asks
