-- What is kept where bytes were taken in, before it is looked what they make.
use Rattle.std.proofs.Common.{◌≡◌, ◌↔◌, ℕ, ◌+◌, ◌*◌, ◌^◌, ◌<◌, ◌≤◌, true, None, Some, IsSome, List, [], ◌∷◌, ◌++◌, length, take, drop, min, slice_set, Vec, Global, sym, ap, ◌∙◌, subst, arith, append_assoc, length-append}
use Rattle.std.specs.Vec.{vec_capacity}
use Rattle.streams.specs.declared.marks.Mark.TheVariants.{Read, Closed}
use Rattle.streams.specs.Rows.{TapeView}
use Rattle.host_model.specs.declared.cause.EndCause.{EndCause}
use Rattle.conn_state.specs.Phase.{ConnView, cause_of, wanted, IsReady}
use Rattle.conn_state.specs.Run.{EachIsByte}
use Rattle.conn_state.specs.Step.{after_took}
use Rattle.conn_table.specs.Slots.{slot_in}
use Rattle.conn_table.specs.Table.{TableView, slot_of, with_state, HasItsSize}
use Rattle.cell_loop.specs.declared.feed.Feed.{Feed}
use Rattle.cell_loop.specs.declared.loop_part.CellStage.{CellStage}
use Rattle.cell_loop.specs.declared.loop_part.CellStage.TheVariants.{Whole, Over}
use Rattle.cell_loop.specs.declared.loop_part.LoopPart.{LoopPart}
use Rattle.script_model.specs.Playing.{pieces_left}
use Rattle.cell_loop.specs.Moving.{one_of_conn}
use Rattle.cell_loop.specs.Feeds.{finish_in, rules_in, front_in, later_in, HasFeed}
use Rattle.cell_loop.specs.LoopTied.{HasRoomToClose, IsReadingAt}
use Rattle.cell_loop.specs.Closing.{IsClosed}
use Rattle.cell_loop.specs.LoopMoves.{IsLoopUnderWay, LoopMoves, HasLongest}
use Rattle.conn_refinement.proofs.Tables.{but_then}
use Rattle.conn_refinement.proofs.Tables.{state_there, state_is, state_size, state_but, state_count}
use Rattle.cell_loop.proofs.TakenIn.{TakesIn, IsPassed, reads_part, reads_whole, reads_over, over_size}
use Rattle.call_rules.specs.Desks.{longest_payload}

-- Connection c has taken in bytes, which were read of its piece.
pub record HasTaken (c max : ℕ) (old mid : LoopPart) (bytes : List ℕ) : Type 0 where
  pub takes : TakesIn c max old bytes
  pub fed : IsPassed c bytes old.feeds.items mid.feeds.items
  pub table : mid.table ≡ record old.table { slots = with_state c (after_took max (slot_of c old.table.slots).conn bytes) old.table.slots }
  pub stages : mid.stages.items ≡ old.stages.items
  pub tape : mid.tape.items ≡ old.tape.items ++ Read c bytes ∷ []
  pub capacity : mid.tape.capacity ≡ old.tape.capacity
  pub ends : mid.ends ≡ old.ends

module _ (c max : ℕ) (old mid : LoopPart) (bytes : List ℕ) (h : HasTaken c max old mid bytes) where
  -- it is in the table still
  pub taken_there : IsSome (slot_in c mid.table.slots)
  taken_there = state_there c (after_took max (slot_of c old.table.slots).conn bytes) old.table mid.table h.takes.reads.1 h.table

  pub taken_state : (slot_of c mid.table.slots).conn ≡ after_took max (slot_of c old.table.slots).conn bytes
  taken_state = state_is c (after_took max (slot_of c old.table.slots).conn bytes) old.table mid.table h.takes.reads.1 h.table

  taken_cause : cause_of (slot_of c mid.table.slots).conn.phase ≡ cause_of (after_took max (slot_of c old.table.slots).conn bytes).phase
  taken_cause = ap (λ (v : ConnView). cause_of v.phase) taken_state

  -- where it has ended, it has no size
  pub taken_size : IsLoopUnderWay old → IsSome (cause_of (slot_of c mid.table.slots).conn.phase) → (slot_of c mid.table.slots).size ≡ None
  taken_size under_way over =
      state_size c (after_took max (slot_of c old.table.slots).conn bytes) old.table mid.table h.takes.reads.1 h.table
      ∙ over_size under_way.setting c max old under_way.play bytes under_way.tied h.takes.reads (subst (λ o. IsSome o) taken_cause over)

  -- it goes on
  pub taken_part : cause_of (slot_of c mid.table.slots).conn.phase ≡ None → (IsReady (slot_of c mid.table.slots).conn.phase → ⊥)
      → LoopMoves (HasLongest max) (λ s. one_of_conn s c) old true mid
  taken_part none not_ready =
      reads_part c max old mid bytes h.takes h.fed h.table h.stages h.tape (sym taken_cause ∙ none)
      (λ r. not_ready (subst (λ (v : ConnView). IsReady v.phase) (sym taken_state) r))

  -- its payload is whole
  pub taken_whole : (new : LoopPart) → new.table ≡ mid.table → new.tape ≡ mid.tape → new.feeds ≡ mid.feeds → new.stages.items ≡ slice_set mid.stages.items c Whole
      → IsReady (slot_of c mid.table.slots).conn.phase → LoopMoves (HasLongest max) (λ s. one_of_conn s c) old true new
  taken_whole new table tape feeds stages is_ready =
      reads_whole c max old new bytes h.takes (subst (λ (v : Vec Feed Global). IsPassed c bytes old.feeds.items v.items) (sym feeds) h.fed) (table ∙ h.table)
      (stages ∙ ap (λ k. slice_set k c Whole) h.stages) (ap (λ v. v.items) tape ∙ h.tape)
      (subst (λ (v : ConnView). IsReady v.phase) taken_state is_ready)

  -- it has ended, and is closed
  pub taken_over : (cause : EndCause) (new : LoopPart) → IsClosed c cause mid new → cause_of (slot_of c mid.table.slots).conn.phase ≡ Some cause
      → LoopMoves (HasLongest max) (λ s. one_of_conn s c) old true new
  taken_over cause new closed is =
      reads_over c max old new bytes h.takes (subst (λ (v : Vec Feed Global). IsPassed c bytes old.feeds.items v.items) (sym closed.feeds) h.fed) cause
      (but_then c old.table mid.table new.table (state_but c (after_took max (slot_of c old.table.slots).conn bytes) old.table mid.table h.takes.reads.1 h.table) closed.table)
      closed.gone (closed.stages ∙ ap (λ k. slice_set k c (Over cause)) h.stages)
      (closed.tape ∙ ap (λ k. k ++ Closed c ∷ []) h.tape ∙ append_assoc old.tape.items (Read c bytes ∷ []) (Closed c ∷ [])) (sym taken_cause ∙ is)

  -- there is room still
  module _ (room : HasRoomToClose old) (one : length old.tape.items + 1 + 2 * length old.table.slots ≤ old.tape.capacity) where
    pub taken_room : HasRoomToClose mid
    taken_room =
        let marks : length mid.tape.items ≡ length old.tape.items + 1 = ap length h.tape ∙ length-append old.tape.items (Read c bytes ∷ []) in
        let slots : length mid.table.slots ≡ length old.table.slots =
        state_count c (after_took max (slot_of c old.table.slots).conn bytes) old.table mid.table h.takes.reads.1 h.table in
        let capacity : mid.tape.capacity ≡ old.tape.capacity = h.capacity in
        let causes : vec_capacity mid.ends ≡ vec_capacity old.ends = ap (λ (v : Vec EndCause Global). vec_capacity v) h.ends in
        let known : length mid.stages.items ≡ length old.stages.items = ap length h.stages in
        let had : length old.stages.items ≤ vec_capacity old.ends = room.for_causes in
        record {
          for_marks = omega arith;
          for_causes = omega arith;
          none_yet = ap (λ (v : Vec EndCause Global). v.items) h.ends ∙ room.none_yet;
          numbered = subst (λ n. n ≤ 2 ^ 32) (sym known) room.numbered;
        }

-- what the calls of `take_in` say, put together
pub has_taken : (c max : ℕ) (old mid : LoopPart) (bytes : List ℕ) (before : TapeView) → IsReadingAt c old
    → HasItsSize (slot_of c old.table.slots).conn.phase (slot_of c old.table.slots).size → 0 < length (front_in old.feeds.items c) → max ≤ longest_payload
    → bytes ≡ take (min (wanted (slot_of c old.table.slots).conn.phase) (length (front_in old.feeds.items c))) (front_in old.feeds.items c) → EachIsByte bytes
    → HasFeed c (pieces_left (drop (length bytes) (front_in old.feeds.items c)) (later_in old.feeds.items c)) (finish_in old.feeds.items c) (rules_in old.feeds.items c) old.feeds.items mid.feeds.items
    → mid.table ≡ record old.table { slots = with_state c (after_took max (slot_of c old.table.slots).conn bytes) old.table.slots } → mid.stages ≡ old.stages
    → mid.tape.items ≡ before.items ++ Read c bytes ∷ [] → mid.tape.capacity ≡ before.capacity → before ≡ old.tape → mid.ends ≡ old.ends → HasTaken c max old mid bytes
has_taken c max old mid bytes before reads_on has some small front are fed table stages items capacity tape ends =
    record {
      takes = record { reads = reads_on; has = has; some = some; small = small; is = front; are = are };
      fed = fed;
      table = table;
      stages = ap (λ (v : Vec CellStage Global). v.items) stages;
      tape = items ∙ ap (λ (v : TapeView). v.items ++ Read c bytes ∷ []) tape;
      capacity = capacity ∙ ap (λ (v : TapeView). v.capacity) tape;
      ends = ends;
    }

-- whether one more frame is counted tells whether a payload is whole
module _ (c : ℕ) (old took now : TableView)
    (whole_if : (slot_of c old.slots).conn.frames < (slot_of c took.slots).conn.frames ↔ IsReady (slot_of c took.slots).conn.phase) (same : now ≡ took) (one other : ConnView) (before later : ℕ)
    (one_is : one ≡ (slot_of c old.slots).conn) (other_is : other ≡ (slot_of c now.slots).conn) (before_is : before ≡ one.frames) (later_is : later ≡ other.frames) where
  was : before ≡ (slot_of c old.slots).conn.frames
  was = before_is ∙ ap (λ (v : ConnView). v.frames) one_is

  is_now : later ≡ (slot_of c took.slots).conn.frames
  is_now = later_is ∙ ap (λ (v : ConnView). v.frames) other_is ∙ ap (λ (t : TableView). (slot_of c t.slots).conn.frames) same

  pub is_whole : before < later → IsReady (slot_of c now.slots).conn.phase
  is_whole more = subst (λ (t : TableView). IsReady (slot_of c t.slots).conn.phase) (sym same) (whole_if.0 (omega (arith, was, is_now)))

  pub is_not_whole : later ≤ before → IsReady (slot_of c now.slots).conn.phase → ⊥
  is_not_whole fewer ready =
      let more : (slot_of c old.slots).conn.frames < (slot_of c took.slots).conn.frames = whole_if.1 (subst (λ (t : TableView). IsReady (slot_of c t.slots).conn.phase) same ready) in
      omega (arith, was, is_now)
