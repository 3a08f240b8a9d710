-- How a connection is closed, and what is known of one that stands in a part under way.
use Rattle.std.proofs.Common.{◌≡◌, ℕ, suc, ◌+◌, ◌*◌, ◌<◌, ◌≤◌, false, Option, None, Some, List, [], ◌∷◌, ◌++◌, length, slice_get, slice_index_or, slice_set, refl, sym, ap, ◌∙◌, subst, IsSome, arith}
use Rattle.std.specs.Prelude.{is_some}
use Rattle.std.proofs.lemmas.Bool.{true≢false}
use Rattle.std.proofs.lemmas.Option.{none-some}
use Rattle.streams.specs.declared.marks.Mark.TheVariants.{Closed}
use Rattle.host_model.specs.declared.cause.EndCause.{EndCause}
use Rattle.conn_state.specs.Phase.{Phase, sizing, held, framing, ready, waiting, writing, ended, IsReady, IsWaiting, IsReading, HasNotEnded, left_to_write, size_asked}
use Rattle.conn_table.specs.declared.places.Slot.{Slot}
use Rattle.conn_table.specs.Slots.{slot_in, without_number}
use Rattle.conn_table.specs.Table.{TableView, slot_of}
use Rattle.conn_table.proofs.Rising.{count_left}
use Rattle.machine_model.specs.Loop.{LoopConn}
use Rattle.cell_loop.specs.declared.loop_part.CellStage.{CellStage}
use Rattle.cell_loop.specs.declared.loop_part.CellStage.TheVariants.{Lean, Framed, Whole, Asked, Over}
use Rattle.cell_loop.specs.declared.loop_part.LoopPart.{LoopPart}
use Rattle.conn_refinement.specs.Phases.{IsLean, IsFraming, PhaseTells}
use Rattle.cell_loop.specs.LoopTied.{IsReadingAt, CellStageTells, HasRoomToClose}
use Rattle.conn_refinement.specs.Tables.{IsSameBut}
use Rattle.cell_loop.specs.Closing.{StageHasSize, IsClosed}
use Rattle.cell_loop.specs.LoopMoves.{IsLoopUnderWay, StandIsOver}
use Rattle.conn_refinement.proofs.Tables.{but_gone, but_then, place_of}
use Rattle.cell_loop.proofs.Tying.{stands_so}

-- what has no value
pub none_by : {X : Type 0} (o : Option X) → is_some o ≡ false → o ≡ None
none_by None e = refl
none_by (Some x) e = absurd (true≢false e)

-- no bytes
pub nothing_in : (bytes : List ℕ) → length bytes ≡ 0 → bytes ≡ []
nothing_in [] e = refl
nothing_in (byte ∷ bytes) e = absurd (let f : ⊥ = omega arith in f)

-- a connection is closed by what `close` says
pub close_is : (c : ℕ) (cause : EndCause) (old new : LoopPart) → IsSome (slot_in c old.table.slots) → new.table ≡ record old.table { slots = without_number c old.table.slots }
    → slot_in c new.table.slots ≡ None → new.stages.items ≡ slice_set old.stages.items c (Over cause) → new.tape.items ≡ old.tape.items ++ Closed c ∷ []
    → new.tape.capacity ≡ old.tape.capacity → new.feeds ≡ old.feeds → new.ends ≡ old.ends → IsClosed c cause old new
close_is c cause old new there table gone stages tape capacity feeds ends =
    record {
      table = subst (λ (t : TableView). IsSameBut c old.table t) (sym table) (but_gone old.table c);
      gone = gone;
      fewer = ap (λ (t : TableView). suc (length t.slots)) table ∙ count_left c old.table.slots there;
      stages = stages;
      tape = tape;
      capacity = capacity;
      feeds = feeds;
      ends = ends;
    }

-- It was closed after a change of itself in the table.
pub closed_behind : (c : ℕ) (cause : EndCause) (old new : LoopPart) (table : TableView) → IsSameBut c old.table table → length table.slots ≡ length old.table.slots
    → IsClosed c cause (record old { table = table }) new → IsClosed c cause old new
closed_behind c cause old new table but count closed =
    record {
      table = but_then c old.table table new.table but closed.table;
      gone = closed.gone;
      fewer = closed.fewer ∙ count;
      stages = closed.stages;
      tape = closed.tape;
      capacity = closed.capacity;
      feeds = closed.feeds;
      ends = closed.ends;
    }

-- where a connection is in the table, there is room for a mark
pub some_open : (c : ℕ) (slots : List Slot) → IsSome (slot_in c slots) → 0 < length slots
some_open c slots there = let fewer : suc (length (without_number c slots)) ≡ length slots = count_left c slots there in omega arith

pub has_room : (part : LoopPart) (c : ℕ) → HasRoomToClose part → IsSome (slot_in c part.table.slots) → length part.tape.items < part.tape.capacity
has_room part c room there =
    let open_one : 0 < length part.table.slots = some_open c part.table.slots there in
    let marks : length part.tape.items + 2 * length part.table.slots ≤ part.tape.capacity = room.for_marks in
    omega arith

-- and there is room for two
pub two_room : (part : LoopPart) (c : ℕ) → HasRoomToClose part → IsSome (slot_in c part.table.slots) → length part.tape.items + 1 < part.tape.capacity
two_room part c room there =
    let open_one : 0 < length part.table.slots = some_open c part.table.slots there in
    let marks : length part.tape.items + 2 * length part.table.slots ≤ part.tape.capacity = room.for_marks in
    omega arith

-- a table is the same as itself
pub same_but : (c : ℕ) (table : TableView) → IsSameBut c table table
same_but c table = record { budget = refl; others = λ x n. refl }

-- how connection c stands in a part under way
pub way_tells : (part : LoopPart) (c : ℕ) (stage : CellStage) (under_way : IsLoopUnderWay part) → slice_get part.stages.items c ≡ Some stage
    → CellStageTells under_way.setting.desk.max_frame part.table c (under_way.play.cell.loop.conns c) (under_way.play.admitted c) stage
way_tells part c stage under_way is = stands_so under_way.setting c part under_way.play stage under_way.tied is

-- a phase in which a size is read
reads_so : (max : ℕ) (phase : Phase) (conn : LoopConn) → IsLean phase → PhaseTells max phase conn → left_to_write phase ≡ [] → size_asked phase ≡ None → IsReading phase
reads_so max (sizing bytes) conn lean t nothing unasked = tt
reads_so max (held size) conn lean t nothing unasked = absurd (none-some size (sym unasked))
reads_so max (framing size bytes) conn lean t nothing unasked = tt
reads_so max (ready number payload) conn lean t nothing unasked = lean
reads_so max (waiting number) conn lean t nothing unasked = lean
reads_so max (writing left) conn lean t nothing unasked = t.3 nothing
reads_so max (ended cause) conn lean t nothing unasked = lean

module _ (part : LoopPart) (c : ℕ) (under_way : IsLoopUnderWay part) where
  pub asked_there : slice_get part.stages.items c ≡ Some Asked → IsSome (slot_in c part.table.slots)
  asked_there is = (way_tells part c Asked under_way is).0.there

  pub asked_size : slice_get part.stages.items c ≡ Some Asked → IsSome (slot_of c part.table.slots).size
  asked_size is = (way_tells part c Asked under_way is).1.0

  pub lean_there : slice_get part.stages.items c ≡ Some Lean → IsSome (slot_in c part.table.slots)
  lean_there is = (way_tells part c Lean under_way is).0.there

  pub lean_phase : slice_get part.stages.items c ≡ Some Lean → IsLean (slot_of c part.table.slots).conn.phase
  lean_phase is = (way_tells part c Lean under_way is).0.in_its_phase

  pub lean_size : slice_get part.stages.items c ≡ Some Lean → (slot_of c part.table.slots).size ≡ None
  lean_size is = (way_tells part c Lean under_way is).1

  pub lean_fed : slice_get part.stages.items c ≡ Some Lean → c < length part.feeds.items
  lean_fed is =
      let known : c < length part.stages.items = place_of part.stages.items c Lean is in
      let fed : length part.stages.items ≤ length part.feeds.items = under_way.tied.fed in
      omega arith

  -- where it neither writes nor waits for its admission, it reads
  pub lean_reads : slice_get part.stages.items c ≡ Some Lean → left_to_write (slot_of c part.table.slots).conn.phase ≡ [] → size_asked (slot_of c part.table.slots).conn.phase ≡ None → IsReadingAt c part
  lean_reads is nothing unasked = (
    place_of part.stages.items c Lean is,
    lean_there is,
    reads_so under_way.setting.desk.max_frame (slot_of c part.table.slots).conn.phase (under_way.play.cell.loop.conns c) (lean_phase is)
        (way_tells part c Lean under_way is).0.tied.tells nothing unasked,
  )

-- phases that haven't ended
pub lean_going : (phase : Phase) → IsLean phase → HasNotEnded phase
lean_going (sizing bytes) lean = tt
lean_going (held size) lean = tt
lean_going (framing size bytes) lean = tt
lean_going (ready number payload) lean = tt
lean_going (waiting number) lean = tt
lean_going (writing left) lean = tt
lean_going (ended cause) lean = lean

framing_going : (phase : Phase) → IsFraming phase → HasNotEnded phase
framing_going (sizing bytes) at = tt
framing_going (held size) at = tt
framing_going (framing size bytes) at = tt
framing_going (ready number payload) at = tt
framing_going (waiting number) at = tt
framing_going (writing left) at = tt
framing_going (ended cause) at = at

ready_going : (phase : Phase) → IsReady phase → HasNotEnded phase
ready_going (sizing bytes) at = tt
ready_going (held size) at = tt
ready_going (framing size bytes) at = tt
ready_going (ready number payload) at = tt
ready_going (waiting number) at = tt
ready_going (writing left) at = tt
ready_going (ended cause) at = at

waiting_going : (phase : Phase) → IsWaiting phase → HasNotEnded phase
waiting_going (sizing bytes) at = tt
waiting_going (held size) at = tt
waiting_going (framing size bytes) at = tt
waiting_going (ready number payload) at = tt
waiting_going (waiting number) at = tt
waiting_going (writing left) at = tt
waiting_going (ended cause) at = at

-- a connection that stands so, and hasn't ended
module _ (part : LoopPart) (c : ℕ) (under_way : IsLoopUnderWay part) (opened : c < length part.stages.items) where
  abbrev Tells : CellStage → Type 0
  Tells stage = CellStageTells under_way.setting.desk.max_frame part.table c (under_way.play.cell.loop.conns c) (under_way.play.admitted c) stage

  own_tells : Tells (slice_index_or part.stages.items c Lean)
  own_tells = under_way.tied.stages c opened

  pub way_there : (StandIsOver (slice_index_or part.stages.items c Lean) → ⊥) → IsSome (slot_in c part.table.slots)
  way_there going = go (slice_index_or part.stages.items c Lean) going own_tells
    where
      go : (stage : CellStage) → (StandIsOver stage → ⊥) → Tells stage → IsSome (slot_in c part.table.slots)
      go Lean going t = t.0.there
      go Framed going t = t.0.there
      go Whole going t = t.0.there
      go Asked going t = t.0.there
      go (Over cause) going t = absurd (going tt)

  pub way_size : (StandIsOver (slice_index_or part.stages.items c Lean) → ⊥) → StageHasSize (slice_index_or part.stages.items c Lean) (slot_of c part.table.slots).size
  way_size going = go (slice_index_or part.stages.items c Lean) going own_tells
    where
      go : (stage : CellStage) → (StandIsOver stage → ⊥) → Tells stage → StageHasSize stage (slot_of c part.table.slots).size
      go Lean going t = t.1
      go Framed going t = t.1.0
      go Whole going t = t.1.0
      go Asked going t = t.1.0
      go (Over cause) going t = absurd (going tt)

  pub way_going : (StandIsOver (slice_index_or part.stages.items c Lean) → ⊥) → HasNotEnded (slot_of c part.table.slots).conn.phase
  way_going going = go (slice_index_or part.stages.items c Lean) going own_tells
    where
      go : (stage : CellStage) → (StandIsOver stage → ⊥) → Tells stage → HasNotEnded (slot_of c part.table.slots).conn.phase
      go Lean going t = lean_going (slot_of c part.table.slots).conn.phase t.0.in_its_phase
      go Framed going t = framing_going (slot_of c part.table.slots).conn.phase t.0.in_its_phase
      go Whole going t = ready_going (slot_of c part.table.slots).conn.phase t.0.in_its_phase
      go Asked going t = waiting_going (slot_of c part.table.slots).conn.phase t.0.in_its_phase
      go (Over cause) going t = absurd (going tt)
