-- A connection's move of a machine in memory: the loop's part moves, and hall and workers are as they were.
use Rattle.std.proofs.Common.{◌≡◌, ℕ, suc, ◌-◌, ◌<◌, ◌≤◌, ◌⊎◌, Bool, true, false, ◌&&◌, not, nat_lt, if◌then◌else◌, Result, Ok, Err, Option, None, Some, List, length, slice_get, refl, sym, ap, ◌∙◌, subst, inl, inr, arith}
use Rattle.std.specs.Prelude.{IfOk, OnErr, slice_index_or}
use Rattle.std.proofs.Math.Bool.{and-false}
use Rattle.std.proofs.lemmas.Bool.{le-ltb, lt-ltb, cases_lt}
use Rattle.std.proofs.lemmas.Option.{none-some, slice_get-get_or}
use Rattle.call_rules.specs.Handling.{handler_rules}
use Rattle.conn_state.specs.Phase.{Phase, sizing, held, framing, ready, waiting, writing, ended, IsReading, IsWaiting}
use Rattle.conn_table.specs.Table.{slot_of}
use Rattle.machine_model.specs.Loop.{LoopConn}
use Rattle.machine_model.specs.Machine.{submits}
use Rattle.machine_model.specs.Plain.{is_empty, has_none_yet, is_open, goes}
use Rattle.script_model.specs.Playing.{MemoryAt, told_in, read_move, write_move, size_move, open_move}
use Rattle.hall_core.specs.Meant.{ServedHall}
use Rattle.cell_loop.specs.Settings.{CellSetting, ServedPlay, desk_of_setting}
use Rattle.cell_loop.specs.Moving.{HasNoMove, one_of_conn}
use Rattle.cell_loop.specs.declared.loop_part.CellStage.{CellStage}
use Rattle.cell_loop.specs.declared.loop_part.CellStage.TheVariants.{Lean, Framed, Whole, Asked, Over}
use Rattle.cell_loop.specs.declared.loop_part.LoopPart.{LoopPart}
use Rattle.conn_refinement.specs.Phases.{IsFraming, PhaseTells}
use Rattle.cell_loop.specs.LoopTied.{CellStageTells, HasRoomToClose, IsReadingAt, IsLoopTied}
use Rattle.cell_loop.specs.LoopMoves.{StaysTied, LoopMoves, HasLongest}
use Rattle.conn_refinement.proofs.Tables.{place_of}
use Rattle.cell_loop.proofs.Tying.{stands_so}
use Rattle.cell_core.specs.declared.worker.Holding.{Holding}
use Rattle.cell_core.specs.Parts.{Parts}
use Rattle.cell_core.specs.Machines.{AreUnderWay, SomeMachine, IsMachine, MachineMoves, StaysPlayed, MoveKeeps}
use Rattle.cell_core.specs.MachineSteps.{HasNoTurn, IsConnStep}
use Rattle.cell_core.proofs.Lessening.{conn_lessens, stays_heavy}
use Rattle.cell_core.proofs.Gathering.{ConnReaches, played_so}

-- a machine with this longest payload is one
pub some_machine : (max : ℕ) (m : Parts) → IsMachine max m → SomeMachine m
some_machine max m now = (now.0, now.2)

-- there is a feed for each connection that was opened
pub fed_within : (m : Parts) (c : ℕ) (stage : CellStage) → SomeMachine m → slice_get m.part.stages.items c ≡ Some stage → c < length m.part.feeds.items
fed_within m c stage now is =
    let below : c < length m.part.stages.items = place_of m.part.stages.items c stage is in
    let fed : length m.part.stages.items ≤ length m.part.feeds.items = now.1.tied.loop_tied.fed in
    omega arith

framing_reads : (phase : Phase) → IsFraming phase → IsReading phase
framing_reads (framing size bytes) framed = tt
framing_reads (sizing bytes) framed = tt
framing_reads (held size) framed = absurd framed
framing_reads (ready number payload) framed = absurd framed
framing_reads (waiting number) framed = absurd framed
framing_reads (writing left) framed = absurd framed
framing_reads (ended cause) framed = absurd framed

-- a connection of which a payload is read reads on
pub framed_reads : (m : Parts) (c : ℕ) → SomeMachine m → slice_get m.part.stages.items c ≡ Some Framed → IsReadingAt c m.part
framed_reads m c now is =
    let play : ServedPlay = now.1.play in
    let t : CellStageTells now.0.desk.max_frame m.part.table c (play.cell.loop.conns c) (play.admitted c) Framed = stands_so now.0 c m.part play Framed now.1.tied.loop_tied is in
    (place_of m.part.stages.items c Framed is, t.0.there, framing_reads (slot_of c m.part.table.slots).conn.phase t.0.in_its_phase)

module _ (part : LoopPart) (hall : ServedHall) (workers : List Holding) (new_part : LoopPart) where
  abbrev before : Parts
  before = record { part = part; hall = hall; workers = workers }

  abbrev behind : Parts
  behind = record { part = new_part; hall = hall; workers = workers }

  -- a machine whose loop's part stays tied does
  part_stays : StaysTied part new_part → StaysPlayed before behind
  part_stays stays s play tied =
      record { loop_tied = stays s play tied.loop_tied; hall_tied = tied.hall_tied; workers_tied = tied.workers_tied; reached = tied.reached }

  -- one whose loop's part moves moves
  part_moves : (max c : ℕ) (moved : Bool)
      → ConnReaches
      → LoopMoves (HasLongest max) (λ s. one_of_conn s c) part moved new_part → MachineMoves max (λ s. one_of_conn s c) before moved behind
  part_moves max c true reaches moves s play longest tied =
      let t = moves s play longest tied.loop_tied in
      let next : ServedPlay = t.0 in (
        next,
        t.1,
        played_so s new_part hall workers next play.cell.workers play.cell.hall t.2.0 t.2.1.1 t.2.1.0 tied.hall_tied tied.workers_tied (reaches s c play next tied.reached t.1).reached,
      )
  part_moves max c false reaches moves s play longest tied =
      let t = moves s play longest tied.loop_tied in
      (t.0, record { loop_tied = t.1.0; hall_tied = tied.hall_tied; workers_tied = tied.workers_tied; reached = tied.reached })

-- What a connection's move comes to, by what is told of it.
pub moved_steps : {E : Type 0} (max c : ℕ) (old new : Parts) (moved : Bool)
    → ConnReaches
    → IsMachine max old → MachineMoves max (λ s. one_of_conn s c) old moved new → MoveKeeps old new → new.hall.faults ≡ old.hall.faults → IsConnStep {E = E} max c old new (Ok moved)
moved_steps max c old new true reaches now moves kept count =
    let s : CellSetting = now.0 in
    let u : AreUnderWay s old = now.2 in
    let t = moves s u.play now.1 u.tied in
    record {
      moved = moves;
      err = tt;
      under_way = (s, now.1, record { play = t.0; tied = t.2; counted = kept.workers ∙ u.counted; room = kept.room; slots = u.slots; max = u.max });
      less = conn_lessens s c old new u.play t.0 u.tied t.2 kept.workers (reaches s c u.play t.0 u.tied.reached t.1) t.1;
      kept = kept;
      count = count;
    }
moved_steps max c old new false reaches now moves kept count =
    let s : CellSetting = now.0 in
    let u : AreUnderWay s old = now.2 in
    let t = moves s u.play now.1 u.tied in
    record {
      moved = moves;
      err = tt;
      under_way = (s, now.1, record { play = u.play; tied = t.1; counted = kept.workers ∙ u.counted; room = kept.room; slots = u.slots; max = u.max });
      less = stays_heavy s old new u.play u.tied t.1 kept.workers;
      kept = kept;
      count = count;
    }

-- A move of the loop's part, as far as it has come.
pub part_steps : {E : Type 0} (max c : ℕ) (part : LoopPart) (hall : ServedHall) (workers : List Holding) (new_part : LoopPart) (result : Result Bool E)
    → ConnReaches
    → IsMachine max (record { part = part; hall = hall; workers = workers })
    → IfOk result (λ moved. LoopMoves (HasLongest max) (λ s. one_of_conn s c) part moved new_part) → OnErr result (StaysTied part new_part)
    → length new_part.feeds.items ≡ length part.feeds.items → HasRoomToClose new_part
    → IsConnStep max c (record { part = part; hall = hall; workers = workers }) (record { part = new_part; hall = hall; workers = workers }) result
part_steps max c part hall workers new_part (Ok moved) reaches now moves stays feeds room =
    moved_steps max c (before part hall workers new_part) (behind part hall workers new_part) moved reaches now (part_moves part hall workers new_part max c moved reaches moves)
    (record { room = room; workers = refl; feeds = feeds }) refl
part_steps max c part hall workers new_part (Err fault) reaches now moves stays feeds room =
    let s : CellSetting = now.0 in
    let u : AreUnderWay s (record { part = part; hall = hall; workers = workers }) = now.2 in
    let still : StaysPlayed (before part hall workers new_part) (behind part hall workers new_part) = part_stays part hall workers new_part stays in
    record {
      moved = tt;
      err = still;
      under_way = (s, now.1, record { play = u.play; tied = still s u.play u.tied; counted = u.counted; room = room; slots = u.slots; max = u.max });
      less = tt;
      kept = record { room = room; workers = refl; feeds = feeds };
      count = refl;
    }

-- a connection that isn't open has no move
closed_rests : (s : CellSetting) (c : ℕ) (play : ServedPlay) → is_open play.cell.loop c ≡ false → HasNoMove (one_of_conn s c) play
closed_rests s c play e passes enough memory =
    ap (λ b. if b then open_move (desk_of_setting s) handler_rules memory s.budget play c (play.cell.loop.conns c) else None) e

-- one whose outcome is awaited has none
waiting_rests : (s : CellSetting) (c : ℕ) (play : ServedPlay) (max : ℕ) (phase : Phase) → IsWaiting phase → PhaseTells max phase (play.cell.loop.conns c) → is_open play.cell.loop c ≡ true
    → HasNoMove (one_of_conn s c) play
waiting_rests s c play max (waiting number) waits tells going =
    λ passes enough memory.
    let conn : LoopConn = play.cell.loop.conns c in
    let s-is : conn.submitted ≡ suc number = tells.1 in
    let k-is : conn.collected ≡ number = tells.2 in
    let n-is : length conn.payloads ≡ suc number = tells.3 in
    ap (λ b. if b then open_move (desk_of_setting s) handler_rules memory s.budget play c conn else None) going
    ∙ ap (λ left. if not (is_empty left) then write_move (desk_of_setting s) handler_rules play c conn.left (play.rules c) else submitting memory) tells.0.1
    ∙ ap (λ b. if b then told_in (desk_of_setting s) handler_rules play (goes (submits c)) else awaiting memory) (le-ltb conn.submitted (length conn.payloads) (omega arith))
    ∙ ap (λ b. if b then None else reading memory) (lt-ltb conn.collected conn.submitted (omega arith))
  where
    reading : (ℕ → MemoryAt) → Option ServedPlay
    reading memory =
        if nat_lt (length (play.cell.loop.conns c).held) 4 then read_move (desk_of_setting s) handler_rules play c (4 - length (play.cell.loop.conns c).held) (play.unread c)
        else size_move (desk_of_setting s) handler_rules memory s.budget play c (play.cell.loop.conns c).held (play.admitted c)

    awaiting : (ℕ → MemoryAt) → Option ServedPlay
    awaiting memory = if nat_lt (play.cell.loop.conns c).collected (play.cell.loop.conns c).submitted then None else reading memory

    submitting : (ℕ → MemoryAt) → Option ServedPlay
    submitting memory =
        if nat_lt (play.cell.loop.conns c).submitted (length (play.cell.loop.conns c).payloads) then told_in (desk_of_setting s) handler_rules play (goes (submits c)) else awaiting memory
waiting_rests s c play max (sizing bytes) waits tells going = absurd waits
waiting_rests s c play max (held size) waits tells going = absurd waits
waiting_rests s c play max (framing size bytes) waits tells going = absurd waits
waiting_rests s c play max (ready number payload) waits tells going = absurd waits
waiting_rests s c play max (writing left) waits tells going = absurd waits
waiting_rests s c play max (ended cause) waits tells going = absurd waits

no_turn_rests : (s : CellSetting) (c : ℕ) (part : LoopPart) (play : ServedPlay) → IsLoopTied s part play → (stage : Option CellStage) → slice_get part.stages.items c ≡ stage → HasNoTurn stage
    → HasNoMove (one_of_conn s c) play
no_turn_rests s c part play tied None is none =
    let past : length part.stages.items ≤ c = beyond part.stages.items c is in
    let over : play.cell.loop.count ≤ c = subst (λ n. n ≤ c) (sym tied.count) past in
    closed_rests s c play (ap (λ b. b && has_none_yet (play.cell.loop.conns c).cause) (le-ltb c play.cell.loop.count over))
  where
    beyond : (xs : List CellStage) (i : ℕ) → slice_get xs i ≡ None → length xs ≤ i
    beyond xs i e = go (cases_lt i (length xs))
      where
        go : (i < length xs) ⊎ (length xs ≤ i) → length xs ≤ i
        go (inl l) = absurd (none-some (slice_index_or xs i Lean) (sym e ∙ slice_get-get_or xs i Lean l))
        go (inr l) = l
no_turn_rests s c part play tied (Some (Over cause)) is none =
    let t : CellStageTells s.desk.max_frame part.table c (play.cell.loop.conns c) (play.admitted c) (Over cause) = stands_so s c part play (Over cause) tied is in
    closed_rests s c play (ap (λ o. nat_lt c play.cell.loop.count && has_none_yet o) t.2 ∙ and-false (nat_lt c play.cell.loop.count))
no_turn_rests s c part play tied (Some Asked) is none =
    let t : CellStageTells s.desk.max_frame part.table c (play.cell.loop.conns c) (play.admitted c) Asked = stands_so s c part play Asked tied is in
    let there : c < play.cell.loop.count = subst (λ n. c < n) (sym tied.count) (place_of part.stages.items c Asked is) in
    waiting_rests s c play s.desk.max_frame (slot_of c part.table.slots).conn.phase t.0.in_its_phase t.0.tied.tells
    (ap (λ o. nat_lt c play.cell.loop.count && has_none_yet o) t.0.tied.going ∙ ap (λ b. b && true) (lt-ltb c play.cell.loop.count there))
no_turn_rests s c part play tied (Some Lean) is none = absurd none
no_turn_rests s c part play tied (Some Framed) is none = absurd none
no_turn_rests s c part play tied (Some Whole) is none = absurd none

-- A connection that has no turn has no move.
pub none_steps : {E : Type 0} (max c : ℕ) (m : Parts)
    → ConnReaches
    → IsMachine max m → HasNoTurn (slice_get m.part.stages.items c) → IsConnStep {E = E} max c m m (Ok false)
none_steps max c m reaches now none =
    moved_steps max c m m false reaches now (λ s play longest tied. (no_turn_rests s c m.part play tied.loop_tied (slice_get m.part.stages.items c) refl none, tied))
    (record { room = now.2.room; workers = refl; feeds = refl }) refl
