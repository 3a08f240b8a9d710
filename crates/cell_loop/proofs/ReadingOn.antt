-- A connection that reads on: how it stands, and that its move is a read.
use Rattle.std.proofs.Common.{◌≡◌, ℕ, ◌+◌, ◌-◌, ◌<◌, true, Option, None, Some, IsSome, List, [], length, slice_index_or, refl, sym, ap, ◌∙◌, subst, arith, length-append}
use Rattle.std.specs.Int.{w32, to_be_bytes}
use Rattle.std.proofs.lemmas.Bool.{false≢true}
use Rattle.call_rules.specs.Handling.{handler_rules}
use Rattle.conn_state.specs.Phase.{Phase, sizing, held, framing, ready, waiting, writing, ended, missing, IsReading, IsReady, IsWaiting}
use Rattle.conn_table.specs.Slots.{slot_in}
use Rattle.conn_table.specs.Table.{slot_of, HasItsSize}
use Rattle.conn_table.proofs.Placing.{value_of}
use Rattle.machine_model.specs.Plain.{is_open, owes_nothing}
use Rattle.script_model.specs.Playing.{MemoryAt, read_move, read_behind, size_move, conn_move}
use Rattle.cell_loop.specs.declared.loop_part.CellStage.{CellStage}
use Rattle.cell_loop.specs.declared.loop_part.CellStage.TheVariants.{Lean, Framed, Whole, Asked, Over}
use Rattle.cell_loop.specs.declared.loop_part.LoopPart.{LoopPart}
use Rattle.cell_loop.specs.Settings.{CellSetting, ServedPlay, desk_of_setting}
use Rattle.conn_refinement.specs.Phases.{HasAllCollected, PhaseTells, IsOpenTied, IsFraming, IsLean}
use Rattle.cell_loop.specs.LoopTied.{CellStageTells, IsReadingAt, IsLoopTied}
use Rattle.cell_loop.specs.Closing.{StageHasSize}
use Rattle.cell_loop.proofs.OneMove.{open_so, owes_so, moves_to_read, moves_to_size}

-- how a connection stands that reads on
abbrev pub StandsReading : Phase → Option ℕ → Option ℕ → CellStage → Type 0
StandsReading (sizing bytes) size admitted stage = (stage ≡ Lean) × (size ≡ None) × (admitted ≡ None)
StandsReading (framing n bytes) size admitted stage = (stage ≡ Framed) × IsSome size × (admitted ≡ size)
StandsReading _ size admitted stage = ⊥

-- a connection of a play reads on
pub record Reading (s : CellSetting) (c : ℕ) (part : LoopPart) (play : ServedPlay) : Type 0 where
  pub below : c < play.cell.loop.count
  pub tied : IsOpenTied s.desk.max_frame (slot_of c part.table.slots).conn (play.cell.loop.conns c)
  pub stages : StandsReading (slot_of c part.table.slots).conn.phase (slot_of c part.table.slots).size (play.admitted c) (slice_index_or part.stages.items c Lean)

-- phases in which one reads on, by how it stands
lean_reads : (phase : Phase) (size admitted : Option ℕ) → IsLean phase → IsReading phase → size ≡ None → admitted ≡ None → StandsReading phase size admitted Lean
lean_reads (sizing bytes) size admitted lean reads a b = (refl, a, b)
lean_reads (held n) size admitted lean reads a b = absurd reads
lean_reads (framing n bytes) size admitted lean reads a b = absurd lean
lean_reads (ready n bytes) size admitted lean reads a b = absurd lean
lean_reads (waiting n) size admitted lean reads a b = absurd lean
lean_reads (writing left) size admitted lean reads a b = absurd reads
lean_reads (ended cause) size admitted lean reads a b = absurd lean

framed_reads : (phase : Phase) (size admitted : Option ℕ) → IsFraming phase → IsSome size → admitted ≡ size → StandsReading phase size admitted Framed
framed_reads (sizing bytes) size admitted framed a b = absurd framed
framed_reads (held n) size admitted framed a b = absurd framed
framed_reads (framing n bytes) size admitted framed a b = (refl, a, b)
framed_reads (ready n bytes) size admitted framed a b = absurd framed
framed_reads (waiting n) size admitted framed a b = absurd framed
framed_reads (writing left) size admitted framed a b = absurd framed
framed_reads (ended cause) size admitted framed a b = absurd framed

-- how a connection stands that is in the table and reads on
reading_by : (s : CellSetting) (c : ℕ) (part : LoopPart) (play : ServedPlay) (stage : CellStage) → c < play.cell.loop.count → IsSome (slot_in c part.table.slots)
    → IsReading (slot_of c part.table.slots).conn.phase → slice_index_or part.stages.items c Lean ≡ stage
    → CellStageTells s.desk.max_frame part.table c (play.cell.loop.conns c) (play.admitted c) stage → Reading s c part play
reading_by s c part play Lean below there reads is tells =
    record {
      below = below;
      tied = tells.0.tied;
      stages = subst (StandsReading (slot_of c part.table.slots).conn.phase (slot_of c part.table.slots).size (play.admitted c)) (sym is)
          (lean_reads (slot_of c part.table.slots).conn.phase (slot_of c part.table.slots).size (play.admitted c) tells.0.in_its_phase reads tells.1 tells.2);
    }
reading_by s c part play Framed below there reads is tells =
    record {
      below = below;
      tied = tells.0.tied;
      stages = subst (StandsReading (slot_of c part.table.slots).conn.phase (slot_of c part.table.slots).size (play.admitted c)) (sym is)
          (framed_reads (slot_of c part.table.slots).conn.phase (slot_of c part.table.slots).size (play.admitted c) tells.0.in_its_phase tells.1.0 tells.1.1);
    }
reading_by s c part play Whole below there reads is tells = absurd (whole_reads (slot_of c part.table.slots).conn.phase reads tells.0.in_its_phase)
  where
    whole_reads : (phase : Phase) → IsReading phase → IsReady phase → ⊥
    whole_reads (sizing bytes) reads other = other
    whole_reads (framing n bytes) reads other = other
    whole_reads (held n) reads other = reads
    whole_reads (ready n bytes) reads other = reads
    whole_reads (waiting n) reads other = reads
    whole_reads (writing left) reads other = reads
    whole_reads (ended cause) reads other = reads
reading_by s c part play Asked below there reads is tells = absurd (asked_reads (slot_of c part.table.slots).conn.phase reads tells.0.in_its_phase)
  where
    asked_reads : (phase : Phase) → IsReading phase → IsWaiting phase → ⊥
    asked_reads (sizing bytes) reads other = other
    asked_reads (framing n bytes) reads other = other
    asked_reads (held n) reads other = reads
    asked_reads (ready n bytes) reads other = reads
    asked_reads (waiting n) reads other = reads
    asked_reads (writing left) reads other = reads
    asked_reads (ended cause) reads other = reads
reading_by s c part play (Over cause) below there reads is tells = absurd (false≢true (subst (λ o. IsSome o) tells.0 there))

pub reading : (s : CellSetting) (c : ℕ) (part : LoopPart) (play : ServedPlay) → IsLoopTied s part play → IsReadingAt c part → Reading s c part play
reading s c part play t reads =
    reading_by s c part play (slice_index_or part.stages.items c Lean) (subst (λ n. c < n) (sym t.count) reads.0) reads.1 reads.2 refl (t.stages c reads.0)

module _ (s : CellSetting) (c : ℕ) (part : LoopPart) (play : ServedPlay) (r : Reading s c part play) where
  -- it is open
  pub is_going : is_open play.cell.loop c ≡ true
  is_going = open_so play.cell.loop c r.below r.tied.going

  -- it has a size, or none, by how it stands
  pub size_so : StageHasSize (slice_index_or part.stages.items c Lean) (slot_of c part.table.slots).size
  size_so = go (slot_of c part.table.slots).conn.phase r.stages
    where
      go : (phase : Phase) → StandsReading phase (slot_of c part.table.slots).size (play.admitted c) (slice_index_or part.stages.items c Lean)
          → StageHasSize (slice_index_or part.stages.items c Lean) (slot_of c part.table.slots).size
      go (sizing bytes) stages = subst (λ k. StageHasSize k (slot_of c part.table.slots).size) (sym stages.0) stages.1
      go (framing n bytes) stages = subst (λ k. StageHasSize k (slot_of c part.table.slots).size) (sym stages.0) stages.1
      go (held n) stages = absurd stages
      go (ready n bytes) stages = absurd stages
      go (waiting n) stages = absurd stages
      go (writing left) stages = absurd stages
      go (ended cause) stages = absurd stages

  -- nothing is owed of it
  nothing_left : (phase : Phase) → StandsReading phase (slot_of c part.table.slots).size (play.admitted c) (slice_index_or part.stages.items c Lean)
      → PhaseTells s.desk.max_frame phase (play.cell.loop.conns c) → HasAllCollected (play.cell.loop.conns c) × ((play.cell.loop.conns c).left ≡ [])
  nothing_left (sizing bytes) stages tells = (tells.0, tells.3)
  nothing_left (framing n bytes) stages tells = (tells.0, tells.5)
  nothing_left (held n) stages tells = absurd stages
  nothing_left (ready n bytes) stages tells = absurd stages
  nothing_left (waiting n) stages tells = absurd stages
  nothing_left (writing left) stages tells = absurd stages
  nothing_left (ended cause) stages tells = absurd stages

  owed : HasAllCollected (play.cell.loop.conns c) × ((play.cell.loop.conns c).left ≡ [])
  owed = nothing_left (slot_of c part.table.slots).conn.phase r.stages r.tied.tells

  pub is_owing_nothing : owes_nothing (play.cell.loop.conns c) ≡ true
  is_owing_nothing = owes_so (play.cell.loop.conns c) owed.0.1 owed.1

  -- its move is a read, of as many bytes at most as are missing
  pub reads_on : (memory : ℕ → MemoryAt) → HasItsSize (slot_of c part.table.slots).conn.phase (slot_of c part.table.slots).size
      → conn_move (desk_of_setting s) handler_rules memory s.budget c play
      ≡ read_move (desk_of_setting s) handler_rules play c (missing (slot_of c part.table.slots).conn.phase) (play.unread c)
  reads_on memory has = go (slot_of c part.table.slots).conn.phase r.stages r.tied.tells has
    where
      go : (phase : Phase) → StandsReading phase (slot_of c part.table.slots).size (play.admitted c) (slice_index_or part.stages.items c Lean)
          → PhaseTells s.desk.max_frame phase (play.cell.loop.conns c) → HasItsSize phase (slot_of c part.table.slots).size
          → conn_move (desk_of_setting s) handler_rules memory s.budget c play ≡ read_move (desk_of_setting s) handler_rules play c (missing phase) (play.unread c)
      go (sizing bytes) stages tells has =
          moves_to_read s c play memory is_going owed.1 owed.0.0 owed.0.1 (subst (λ k. length k < 4) (sym tells.1) tells.2)
          ∙ ap (λ k. read_move (desk_of_setting s) handler_rules play c (4 - length k) (play.unread c)) tells.1
      go (framing n bytes) stages tells has =
          let counted : length (play.cell.loop.conns c).held ≡ 4 + length bytes =
          ap length tells.1 ∙ length-append (to_be_bytes w32 n) bytes in
          moves_to_size s c play memory is_going owed.1 owed.0.0 owed.0.1 (omega arith)
          ∙ ap (size_move (desk_of_setting s) handler_rules memory s.budget play c (play.cell.loop.conns c).held) (stages.2 ∙ has)
          ∙ ap (λ m. read_move (desk_of_setting s) handler_rules play c m (play.unread c)) (less n bytes counted)
        where
          less : (n : ℕ) (bytes : List ℕ) → length (play.cell.loop.conns c).held ≡ 4 + length bytes → (4 + n) - length (play.cell.loop.conns c).held ≡ n - length bytes
          less n bytes counted = omega arith
      go (held n) stages tells has = absurd stages
      go (ready n bytes) stages tells has = absurd stages
      go (waiting n) stages tells has = absurd stages
      go (writing left) stages tells has = absurd stages
      go (ended cause) stages tells has = absurd stages

  -- where all pieces are read, it is what comes after them
  pub reads_behind : (memory : ℕ → MemoryAt) → play.unread c ≡ []
      → conn_move (desk_of_setting s) handler_rules memory s.budget c play ≡ read_behind (desk_of_setting s) handler_rules play c (play.finish c)
  reads_behind memory none = go (slot_of c part.table.slots).conn.phase r.stages r.tied.tells
    where
      go : (phase : Phase) → StandsReading phase (slot_of c part.table.slots).size (play.admitted c) (slice_index_or part.stages.items c Lean)
          → PhaseTells s.desk.max_frame phase (play.cell.loop.conns c)
          → conn_move (desk_of_setting s) handler_rules memory s.budget c play ≡ read_behind (desk_of_setting s) handler_rules play c (play.finish c)
      go (sizing bytes) stages tells =
          moves_to_read s c play memory is_going owed.1 owed.0.0 owed.0.1 (subst (λ k. length k < 4) (sym tells.1) tells.2)
          ∙ ap (read_move (desk_of_setting s) handler_rules play c (4 - length (play.cell.loop.conns c).held)) none
      go (framing n bytes) stages tells =
          let counted : length (play.cell.loop.conns c).held ≡ 4 + length bytes =
          ap length tells.1 ∙ length-append (to_be_bytes w32 n) bytes in
          let size : (k : ℕ) × ((slot_of c part.table.slots).size ≡ Some k) = value_of (slot_of c part.table.slots).size stages.1 in
          moves_to_size s c play memory is_going owed.1 owed.0.0 owed.0.1 (omega arith)
          ∙ ap (size_move (desk_of_setting s) handler_rules memory s.budget play c (play.cell.loop.conns c).held) (stages.2 ∙ size.1)
          ∙ ap (read_move (desk_of_setting s) handler_rules play c ((4 + size.0) - length (play.cell.loop.conns c).held)) none
      go (held n) stages tells = absurd stages
      go (ready n bytes) stages tells = absurd stages
      go (waiting n) stages tells = absurd stages
      go (writing left) stages tells = absurd stages
      go (ended cause) stages tells = absurd stages
