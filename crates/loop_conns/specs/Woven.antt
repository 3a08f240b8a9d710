-- The loop's own order of what it did, with the lengths that it lent and the places of rest that were noted.
use Rattle.std.specs.Prelude.{◌≡◌, ◌≢◌, ℕ, ◌+◌, ◌-◌, ◌<◌, ◌≤◌, true, min, nat_lt, ◌==◌, if◌then◌else◌, Option, None, Some, IfSome, List, [], ◌∷◌, ◌++◌, length, take}
use Rattle.std.specs.List.{AllByRecursion}
use Rattle.std.specs.Int.{w32, from_be_bytes}
use Rattle.streams.specs.declared.rest_place.RestPlace.{RestPlace}
use Rattle.outside.specs.LinksState.{LinksState}
use Rattle.host_model.specs.declared.cause.EndCause.{EndCause}
use Rattle.host_model.specs.declared.cause.EndCause.TheVariants.{Stopped}
use Rattle.conn_state.specs.Phase.{most_read}
use Rattle.call_rules.specs.PlainCalls.{PlainCall, PlainAnswer}
use Rattle.machine_model.specs.OwnCalls.{HallAsk, summed_calls}
use Rattle.machine_model.specs.OwnLoop.{refuses_job}
use Rattle.machine_model.specs.Loop.{LoopConn, Loop, ConnEvent, reads, writes, Happens, LoopAsks}
use Rattle.machine_model.specs.Bounds.{sum_among, NoneIsLeftBehind}
use Rattle.machine_model.specs.AtFronts.{size_in, KeepsWithin}
use Rattle.machine_model.specs.Resting.{IsAtRest}
use Rattle.machine_model.specs.Merge.{LoopItem, handles, calls, no_loop, calls_in, Weaves}
use Rattle.loop_conns.specs.declared.connections.LoopConnections.{LoopConnections}
use Rattle.loop_conns.specs.Tied.{AreTied, PhasesTell}

-- what the loop did, over plain calls and answers
abbrev pub ServedItem : Type 0
ServedItem = LoopItem PlainCall PlainAnswer

-- what it asked of the hall
abbrev pub ServedAsk : Type 0
ServedAsk = HallAsk PlainCall PlainAnswer

-- how many bytes of the size or the frame that these begin are missing
abbrev pub missing_of : List ℕ → ℕ
missing_of held = if nat_lt (length held) 4 then 4 - length held else (4 + from_be_bytes w32 (take 4 held)) - length held

-- what is lent to what happens on a connection: as much as is missing, or 65,536 bytes, to a read; all that is left, to a write
abbrev pub lent_to : Loop → ConnEvent → List ℕ
lent_to loop (reads c bytes) = min (missing_of (loop.conns c).held) most_read ∷ []
lent_to loop (writes c count) = length (loop.conns c).left ∷ []
lent_to loop _ = []

-- These items lead from one loop to another, and these lengths were lent to them, in order.
abbrev pub WeavesLent : ℕ → Loop → List ServedItem → List ℕ → Loop → Type 0
WeavesLent max old [] lengths new = (lengths ≡ []) × (new ≡ old)
WeavesLent max old (handles conn_event ∷ items) lengths new =
    (next : Loop) × (later : List ℕ) × Happens max old conn_event next × (lengths ≡ lent_to old conn_event ++ later) × WeavesLent max next items later new
WeavesLent max old (calls e ∷ items) lengths new = (next : Loop) × LoopAsks old e.op e.reply next × WeavesLent max next items lengths new

-- the whole size of the frame under way on a connection that is open
abbrev pub held_if_open : Option EndCause → List ℕ → ℕ
held_if_open None held = size_in held
held_if_open (Some cause) held = 0

-- the sizes of all connections, summed up
abbrev pub all_held : Loop → ℕ
all_held loop = sum_among (λ conn. held_if_open conn.cause conn.held) loop.conns loop.count

-- A place of rest that was noted: the loop came through it, nothing was under way then, and where a connection was held the sizes, each one that a frame may
-- have, passed the budget.
pub record IsPassedAtRest (max budget : ℕ) (weave : List ServedItem) (loop : Loop) (noted : RestPlace) : Type 0 where
  pub mid : Loop
  pub front : List ServedItem
  pub back : List ServedItem
  pub split : weave ≡ front ++ back
  pub before : Weaves max no_loop front mid
  pub behind : Weaves max mid back loop
  pub place : length mid.tape ≡ noted.place
  pub at_rest : IsAtRest mid
  pub over_budget : noted.held ≡ true → budget < all_held mid
  pub within : noted.held ≡ true → (c : ℕ) → c < mid.count → held_if_open (mid.conns c).cause (mid.conns c).held ≤ max

-- what a connection that is open owes: its last payload's outcome, or what is left to write
abbrev pub owed_by : Option EndCause → LoopConn → ℕ
owed_by (Some cause) conn = 0
owed_by None conn = if conn.collected == length conn.payloads then if length conn.left == 0 then 0 else 1 else 1

-- how many connections owe something
abbrev pub all_owing : Loop → ℕ
all_owing loop = sum_among (λ conn. owed_by conn.cause conn) loop.conns loop.count

-- The loop has come so far: what it did leads from nothing to this loop of the machine, which its connections are tied to, and its calls are these; lengths and places
-- of rest are told of it, where they are told.
pub record IsWovenTo (max : ℕ) (first links : LinksState) (kept : LoopConnections) (asks : List ServedAsk) (loop : Loop) : Type 0 where
  pub weave : List ServedItem
  pub woven : Weaves max no_loop weave loop
  pub asked : calls_in weave ≡ asks
  pub tied : AreTied first links kept loop
  pub within : KeepsWithin max kept.table.budget loop
  pub lengths : IfSome links.lengths (λ lengths. WeavesLent max no_loop weave lengths loop)
  pub rests : IfSome links.rests (AllByRecursion (IsPassedAtRest max kept.table.budget weave loop))

-- the loop has come so far, to some loop of the machine
abbrev pub HasWoven : ℕ → LinksState → LinksState → LoopConnections → List ServedAsk → Type 0
HasWoven max first links kept asks = (loop : Loop) × IsWovenTo max first links kept asks loop

-- One that goes on: each open connection's state tells of the machine's, no payload was left behind, no connection was stopped, the hall has taken each job, it is
-- known how many connections owe something, and the links have counted no fault but of connections since they came in.
pub record LoopIsRunning (max : ℕ) (first links : LinksState) (kept : LoopConnections) (asks : List ServedAsk) : Type 0 where
  pub loop : Loop
  pub so_far : IsWovenTo max first links kept asks loop
  pub phases : PhasesTell max kept.table loop
  pub none_left : NoneIsLeftBehind loop
  pub none_stopped : (c : ℕ) → (loop.conns c).cause ≢ Some Stopped
  pub taken : summed_calls refuses_job asks ≡ 0
  pub owing : kept.owing ≡ all_owing loop
  pub quiet : links.net_faults ≡ first.net_faults
