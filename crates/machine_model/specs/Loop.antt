-- The loop's part of the machine: the tape and the connections, what happens on a connection, and what the loop asks of the hall.
use Rattle.std.specs.Prelude.{◌≡◌, ◌≢◌, ℕ, ℤ, zero, suc, ◌+◌, ◌<◌, ◌≤◌, ◌==◌, if◌then◌else◌, Option, None, Some, List, [], ◌∷◌, ◌++◌, length, take, drop, slice_get}
use Rattle.streams.specs.declared.outcomes.Settled.{Settled}
use Rattle.streams.specs.declared.outcomes.Settled.TheVariants.{Reply, Nothing, Close, NoMemory}
use Rattle.streams.specs.declared.marks.Mark.{Mark}
use Rattle.streams.specs.declared.marks.Mark.TheVariants.{Opened, Read, Ended, Wrote, ReadFailed, WriteFailed, Closed}
use Rattle.host_model.specs.declared.cause.EndCause.{EndCause}
use Rattle.host_model.specs.declared.cause.EndCause.TheVariants.{SizeFault, Envelope, ReadFault, WriteFault, NoMemory as LackOfMemory}
use Rattle.host_model.specs.Frames.{frame, size_bytes, IsPayload, IsOutside, IsPartial}
use Rattle.host_model.specs.World.{end_behind, IsGivenUp}
use Rattle.machine_model.specs.HallRule.{HallOperation, submit, collect, close, HallAnswer, done, outcome}
pub use Rattle.limits.specs.Limits.{most_connections}

-- A connection: the payloads read whole, and the bytes read behind them; how many payloads were submitted, and how many collected; what isn't written of
-- the last reply; and the cause of its end, where it has ended.
pub record LoopConn : Type 0 where
  pub payloads : List (List ℕ)
  pub held : List ℕ
  pub submitted : ℕ
  pub collected : ℕ
  pub left : List ℕ
  pub cause : Option EndCause

-- a connection that was just opened
abbrev pub new_conn : LoopConn
new_conn = record { payloads = []; held = []; submitted = 0; collected = 0; left = []; cause = None }

-- the tape, how many connections were opened, and each of these by its number
pub record Loop : Type 0 where
  pub tape : List Mark
  pub count : ℕ
  pub conns : ℕ → LoopConn

-- one, where it has no cause
abbrev pub count_if_open : Option EndCause → ℕ
count_if_open None = 1
count_if_open (Some cause) = 0

-- how many of the first n are open
abbrev pub open_among : (ℕ → LoopConn) → ℕ → ℕ
open_among conns zero = 0
open_among conns (suc n) = count_if_open (conns n).cause + open_among conns n

-- a connection is open
abbrev pub IsOpen : Loop → ℕ → Type 0
IsOpen loop c = (c < loop.count) × ((loop.conns c).cause ≡ None)

-- nothing is owed: each payload was collected, and all that was collected is written
abbrev pub OwesNothing : LoopConn → Type 0
OwesNothing conn = (conn.collected ≡ length conn.payloads) × (conn.left ≡ [])

-- what bytes make with those held: less than a frame, a whole size that no frame has, or a whole frame
pub data FrameProgress : Type 0 where
  part : FrameProgress
  bad_size : (size : ℤ) → FrameProgress
  whole : (payload : List ℕ) → FrameProgress

-- these bytes make this progress
abbrev pub IsProgress : ℕ → List ℕ → FrameProgress → Type 0
IsProgress max bytes part = IsPartial max bytes
IsProgress max bytes (bad_size size) = IsOutside max size × (bytes ≡ size_bytes size)
IsProgress max bytes (whole payload) = IsPayload max payload × (bytes ≡ frame payload)

-- while a size isn't whole, no bytes behind it are read
abbrev pub StaysInSize : List ℕ → List ℕ → Type 0
StaysInSize held bytes = length held < 4 → length held + length bytes ≤ 4

-- a connection that has read these bytes, and made this progress with them
abbrev pub read_more : LoopConn → List ℕ → FrameProgress → LoopConn
read_more conn bytes part = record conn { held = conn.held ++ bytes }
read_more conn bytes (bad_size size) = record conn { held = conn.held ++ bytes; cause = Some (SizeFault size) }
read_more conn bytes (whole payload) = record conn { payloads = conn.payloads ++ payload ∷ []; held = [] }

-- the marks of it
abbrev pub marks_read : ℕ → List ℕ → FrameProgress → List Mark
marks_read c bytes part = Read c bytes ∷ []
marks_read c bytes (bad_size size) = Read c bytes ∷ Closed c ∷ []
marks_read c bytes (whole payload) = Read c bytes ∷ []

-- the connections with this one in place of c
abbrev pub with_conn : (ℕ → LoopConn) → ℕ → LoopConn → ℕ → LoopConn
with_conn conns c conn x = if x == c then conn else conns x

-- connection c is changed, with these marks
abbrev pub changed : Loop → ℕ → LoopConn → List Mark → Loop
changed loop c conn marks = record { tape = loop.tape ++ marks; count = loop.count; conns = with_conn loop.conns c conn }

-- a connection that has ended by this cause
abbrev pub with_cause : LoopConn → EndCause → LoopConn
with_cause conn cause = record conn { cause = Some cause }

-- what happens on a connection alone
pub data ConnEvent : Type 0 where
  opens : ConnEvent
  reads : (c : ℕ) (bytes : List ℕ) → ConnEvent
  ends : (c : ℕ) → ConnEvent
  fails_read : (c : ℕ) → ConnEvent
  writes : (c count : ℕ) → ConnEvent
  fails_write : (c : ℕ) → ConnEvent
  -- between two events: it is given up, for want of memory or since the host stops
  gives_up : (c : ℕ) (cause : EndCause) → ConnEvent

-- The loop goes from old to new by what happens on a connection.
abbrev pub Happens : ℕ → Loop → ConnEvent → Loop → Type 0
Happens max old opens new =
    (open_among old.conns old.count < most_connections)
    × (new ≡ record { tape = old.tape ++ Opened old.count ∷ []; count = suc old.count; conns = with_conn old.conns old.count new_conn })
Happens max old (reads c bytes) new =
    (progress : FrameProgress) × IsOpen old c × OwesNothing (old.conns c) × (bytes ≢ []) × StaysInSize (old.conns c).held bytes
    × IsProgress max ((old.conns c).held ++ bytes) progress × (new ≡ changed old c (read_more (old.conns c) bytes progress) (marks_read c bytes progress))
Happens max old (ends c) new =
    IsOpen old c × OwesNothing (old.conns c)
    × (new ≡ changed old c (with_cause (old.conns c) (end_behind (old.conns c).held)) (Ended c ∷ Closed c ∷ []))
Happens max old (fails_read c) new =
    IsOpen old c × OwesNothing (old.conns c) × (new ≡ changed old c (with_cause (old.conns c) ReadFault) (ReadFailed c ∷ Closed c ∷ []))
Happens max old (writes c count) new =
    IsOpen old c × (1 ≤ count) × (count ≤ length (old.conns c).left)
    × (new ≡ changed old c (record (old.conns c) { left = drop count (old.conns c).left }) (Wrote c (take count (old.conns c).left) ∷ []))
Happens max old (fails_write c) new =
    IsOpen old c × ((old.conns c).left ≢ []) × (new ≡ changed old c (with_cause (old.conns c) WriteFault) (WriteFailed c ∷ Closed c ∷ []))
Happens max old (gives_up c cause) new =
    IsOpen old c × IsGivenUp cause × (new ≡ changed old c (with_cause (old.conns c) cause) (Closed c ∷ []))

-- one more payload is submitted
abbrev pub submitted_more : LoopConn → LoopConn
submitted_more conn = record conn { submitted = suc conn.submitted }

-- one more is collected: a reply is to be written, nothing frees the connection, and a refused head or want of memory ends it
abbrev pub open_conn_settled : Settled → LoopConn → LoopConn
open_conn_settled (Reply reply) conn = record conn { collected = suc conn.collected; left = reply }
open_conn_settled Nothing conn = record conn { collected = suc conn.collected }
open_conn_settled (Close fault) conn = record conn { collected = suc conn.collected; cause = Some (Envelope fault) }
open_conn_settled NoMemory conn = record conn { collected = suc conn.collected; cause = Some LackOfMemory }

-- the marks of it
abbrev pub open_marks_settled : ℕ → Settled → List Mark
open_marks_settled c (Reply reply) = []
open_marks_settled c Nothing = []
open_marks_settled c (Close fault) = Closed c ∷ []
open_marks_settled c NoMemory = Closed c ∷ []

-- A connection that has a cause stays as it is, but for the number collected.
abbrev pub conn_settled : Option EndCause → Settled → LoopConn → LoopConn
conn_settled None settled conn = open_conn_settled settled conn
conn_settled (Some cause) settled conn = record conn { collected = suc conn.collected }

-- its marks
abbrev pub conn_marks_settled : Option EndCause → ℕ → Settled → List Mark
conn_marks_settled None c settled = open_marks_settled c settled
conn_marks_settled (Some cause) c settled = []

-- a payload was submitted, where the hall has taken it
abbrev pub after_submit : {A : Type 0} → Loop → ℕ → HallAnswer A → Loop
after_submit old c done = changed old c (submitted_more (old.conns c)) []
after_submit old c _ = old

-- an outcome was collected, where there was one
abbrev pub after_collect : {A : Type 0} → Loop → HallAnswer A → Loop
after_collect old (outcome key settled) =
    changed old key.c (conn_settled (old.conns key.c).cause settled (old.conns key.c)) (conn_marks_settled (old.conns key.c).cause key.c settled)
after_collect old _ = old

-- The loop's part of what it asks of the hall: it submits the first payload of a connection that isn't submitted, with its number; it collects; or it closes.
abbrev pub LoopAsks : {C A : Type 0} → Loop → HallOperation C → HallAnswer A → Loop → Type 0
LoopAsks old (submit key payload) answer new =
    (key.c < old.count) × (key.i ≡ (old.conns key.c).submitted) × (slice_get (old.conns key.c).payloads key.i ≡ Some payload)
    × (new ≡ after_submit old key.c answer)
LoopAsks old collect answer new = new ≡ after_collect old answer
LoopAsks old close answer new = new ≡ old
LoopAsks old _ answer new = ⊥
