-- A connection is closed after a mark: what is left of room, and that it is what comes after all pieces.
use Rattle.std.proofs.Common.{Vec, Global, ◌≡◌, ℕ, suc, ◌+◌, ◌*◌, ◌^◌, ◌<◌, ◌≤◌, None, Some, List, [], ◌∷◌, ◌++◌, length, slice_set, refl, sym, ap, ◌∙◌, subst, IsSome, length-append, append_assoc, arith}
use Rattle.std.specs.Int.{w32, to_be_bytes}
use Rattle.std.specs.Vec.{vec_capacity}
use Rattle.std.proofs.lemmas.Option.{same_Some}
use Rattle.std.proofs.lemmas.List.{length-set}
use Rattle.streams.specs.declared.marks.Mark.{Mark}
use Rattle.streams.specs.declared.marks.Mark.TheVariants.{Ended, ReadFailed, Closed}
use Rattle.host_model.specs.declared.cause.EndCause.{EndCause}
use Rattle.host_model.specs.declared.cause.EndCause.TheVariants.{Cut, ReadFault}
use Rattle.host_model.specs.World.{end_behind}
use Rattle.conn_state.specs.Phase.{Phase, sizing, held, framing, ready, waiting, writing, ended, cause_of, IsReading}
use Rattle.conn_state.specs.Step.{after_end_of_input}
use Rattle.conn_table.specs.Table.{slot_of}
use Rattle.call_rules.specs.Handling.{handler_rules}
use Rattle.machine_model.specs.Loop.{LoopConn, with_cause}
use Rattle.script_model.specs.Playing.{finishes, faults, read_behind}
use Rattle.cell_loop.specs.declared.loop_part.CellStage.TheVariants.{Over}
use Rattle.cell_loop.specs.declared.loop_part.LoopPart.{LoopPart}
use Rattle.cell_loop.specs.Settings.{CellSetting, ServedPlay, desk_of_setting}
use Rattle.cell_loop.specs.Moving.{HasNoMove, GoesTo, one_of_conn}
use Rattle.cell_loop.specs.Feeds.{unread_in, finish_in}
use Rattle.conn_refinement.specs.Phases.{PhaseTells}
use Rattle.cell_loop.specs.LoopTied.{IsReadingAt, IsLoopTied, HasRoomToClose}
use Rattle.conn_refinement.specs.Tables.{IsSameBut}
use Rattle.cell_loop.specs.Closing.{IsClosed, ClosesBehind}
use Rattle.cell_loop.specs.LoopMoves.{HasSameHall}
use Rattle.conn_refinement.proofs.Tables.{but_then}
use Rattle.cell_loop.proofs.Ending.{once}
use Rattle.cell_loop.proofs.Becoming.{after_one, ended_tied}
use Rattle.cell_loop.proofs.OneMove.{ends_so, fails_so}
use Rattle.cell_loop.proofs.ReadingOn.{Reading, reading, is_going, is_owing_nothing, reads_behind}

-- What is closed in a part that has one mark more, and has changed in the table there alone, is closed after that mark.
pub closes_on : (c : ℕ) (mark : Mark) (cause : EndCause) (old mid new : LoopPart) → IsSameBut c old.table mid.table → length mid.table.slots ≡ length old.table.slots
    → mid.stages.items ≡ old.stages.items → mid.tape.items ≡ old.tape.items ++ mark ∷ [] → mid.tape.capacity ≡ old.tape.capacity → mid.feeds ≡ old.feeds → mid.ends ≡ old.ends
    → IsClosed c cause mid new → ClosesBehind c mark cause old new
closes_on c mark cause old mid new but count stages tape capacity feeds ends closed =
    record {
      table = but_then c old.table mid.table new.table but closed.table;
      gone = closed.gone;
      fewer = closed.fewer ∙ count;
      stages = closed.stages ∙ ap (λ xs. slice_set xs c (Over cause)) stages;
      tape = closed.tape ∙ ap (λ xs. xs ++ Closed c ∷ []) tape ∙ append_assoc old.tape.items (mark ∷ []) (Closed c ∷ []);
      capacity = closed.capacity ∙ capacity;
      feeds = closed.feeds ∙ feeds;
      ends = closed.ends ∙ ends;
    }

-- room is left after a close
pub gone_room : (c : ℕ) (cause : EndCause) (old new : LoopPart) → IsClosed c cause old new → HasRoomToClose old → HasRoomToClose new
gone_room c cause old new closed room =
    let marks : length new.tape.items ≡ length old.tape.items + 1 = ap length closed.tape ∙ length-append old.tape.items (Closed c ∷ []) in
    let fewer : suc (length new.table.slots) ≡ length old.table.slots = closed.fewer in
    let same : new.tape.capacity ≡ old.tape.capacity = closed.capacity in
    let known : length new.stages.items ≡ length old.stages.items = ap length closed.stages ∙ length-set old.stages.items c (Over cause) in
    let was : length old.tape.items + 2 * length old.table.slots ≤ old.tape.capacity = room.for_marks in
    let few : length old.stages.items ≤ 2 ^ 32 = room.numbered in
    record {
      for_marks = omega arith;
      for_causes = subst (λ (v : Vec EndCause Global). length new.stages.items ≤ vec_capacity v) (sym closed.ends) (subst (λ n. n ≤ vec_capacity old.ends) (sym known) room.for_causes);
      none_yet = subst (λ (v : Vec EndCause Global). v.items ≡ []) (sym closed.ends) room.none_yet;
      numbered = subst (λ n. n ≤ 2 ^ 32) (sym known) few;
    }

pub closed_room : (c : ℕ) (mark : Mark) (cause : EndCause) (old new : LoopPart) → ClosesBehind c mark cause old new → HasRoomToClose old → HasRoomToClose new
closed_room c mark cause old new closed room =
    let marks : length new.tape.items ≡ length old.tape.items + 2 = ap length closed.tape ∙ length-append old.tape.items (mark ∷ Closed c ∷ []) in
    let fewer : suc (length new.table.slots) ≡ length old.table.slots = closed.fewer in
    let same : new.tape.capacity ≡ old.tape.capacity = closed.capacity in
    let known : length new.stages.items ≡ length old.stages.items = ap length closed.stages ∙ length-set old.stages.items c (Over cause) in
    let was : length old.tape.items + 2 * length old.table.slots ≤ old.tape.capacity = room.for_marks in
    let few : length old.stages.items ≤ 2 ^ 32 = room.numbered in
    record {
      for_marks = omega arith;
      for_causes = subst (λ (v : Vec EndCause Global). length new.stages.items ≤ vec_capacity v) (sym closed.ends) (subst (λ n. n ≤ vec_capacity old.ends) (sym known) room.for_causes);
      none_yet = subst (λ (v : Vec EndCause Global). v.items ≡ []) (sym closed.ends) room.none_yet;
      numbered = subst (λ n. n ≤ 2 ^ 32) (sym known) few;
    }

-- an end of the input ends it
pub end_over : (phase : Phase) → IsSome (cause_of (after_end_of_input phase))
end_over (sizing []) = refl
end_over (sizing (byte ∷ bytes)) = refl
end_over (held size) = refl
end_over (framing size bytes) = refl
end_over (ready number payload) = refl
end_over (waiting number) = refl
end_over (writing left) = refl
end_over (ended cause) = refl

cut_behind : (bytes : List ℕ) → 0 < length bytes → end_behind bytes ≡ Cut
cut_behind [] l = absurd (let f : ⊥ = omega arith in f)
cut_behind (byte ∷ bytes) l = refl

-- by the cause that the bytes held tell
cause_behind : (max : ℕ) (phase : Phase) (conn : LoopConn) (cause : EndCause) → IsReading phase → PhaseTells max phase conn → cause_of (after_end_of_input phase) ≡ Some cause
    → end_behind conn.held ≡ cause
cause_behind max (sizing []) conn cause reads t e = ap end_behind t.1 ∙ same_Some _ cause e
cause_behind max (sizing (byte ∷ bytes)) conn cause reads t e = ap end_behind t.1 ∙ same_Some _ cause e
cause_behind max (framing size bytes) conn cause reads t e =
    let counted : length conn.held ≡ 4 + length bytes = ap length t.1 ∙ length-append (to_be_bytes w32 size) bytes in
    cut_behind conn.held (omega arith) ∙ same_Some _ cause e
cause_behind max (held size) conn cause reads t e = absurd reads
cause_behind max (ready number payload) conn cause reads t e = absurd reads
cause_behind max (waiting number) conn cause reads t e = absurd reads
cause_behind max (writing left) conn cause reads t e = absurd reads
cause_behind max (ended other) conn cause reads t e = absurd reads

-- Connection c has read all pieces.
module _ (s : CellSetting) (c : ℕ) (old : LoopPart) (play : ServedPlay) (t : IsLoopTied s old play) (reads : IsReadingAt c old) (none : unread_in old.feeds.items c ≡ []) where
  here : Reading s c old play
  here = reading s c old play t reads

  -- It isn't known what comes after them.
  pub rests_behind : finish_in old.feeds.items c ≡ None → HasNoMove (one_of_conn s c) play
  rests_behind unknown passes enough memory =
      reads_behind s c old play here memory (t.unread c ∙ none) ∙ ap (read_behind (desk_of_setting s) handler_rules play c) (t.finish c ∙ unknown)

  -- The input ends.
  pub ends_behind : (cause : EndCause) (new : LoopPart) → finish_in old.feeds.items c ≡ Some finishes → cause_of (after_end_of_input (slot_of c old.table.slots).conn.phase) ≡ Some cause
      → ClosesBehind c (Ended c) cause old new → GoesTo (one_of_conn s c) (λ next. IsLoopTied s new next × HasSameHall play next) play
  ends_behind cause new known over closed =
      let conn : LoopConn = play.cell.loop.conns c in
      let is : end_behind conn.held ≡ cause = cause_behind s.desk.max_frame (slot_of c old.table.slots).conn.phase conn cause reads.2 here.tied.tells over in
      let next : ServedPlay = after_one c (with_cause conn (end_behind conn.held)) (Ended c ∷ Closed c ∷ []) play in (
        next,
        once (one_of_conn s c) play next refl
            (λ passes enough memory.
            reads_behind s c old play here memory (t.unread c ∙ none) ∙ ap (read_behind (desk_of_setting s) handler_rules play c) (t.finish c ∙ known)
            ∙ ends_so s c play (is_going s c old play here) (is_owing_nothing s c old play here)),
        (
          ended_tied s c old new play (with_cause conn (end_behind conn.held)) cause (Ended c ∷ Closed c ∷ []) t reads.0 (ap Some is) closed.table closed.gone closed.stages closed.tape closed.feeds,
          (refl, refl),
        ),
      )

  -- A read fails.
  pub fails_behind : (new : LoopPart) → finish_in old.feeds.items c ≡ Some faults → ClosesBehind c (ReadFailed c) ReadFault old new
      → GoesTo (one_of_conn s c) (λ next. IsLoopTied s new next × HasSameHall play next) play
  fails_behind new known closed =
      let conn : LoopConn = play.cell.loop.conns c in
      let next : ServedPlay = after_one c (with_cause conn ReadFault) (ReadFailed c ∷ Closed c ∷ []) play in (
        next,
        once (one_of_conn s c) play next refl
            (λ passes enough memory.
            reads_behind s c old play here memory (t.unread c ∙ none) ∙ ap (read_behind (desk_of_setting s) handler_rules play c) (t.finish c ∙ known)
            ∙ fails_so s c play (is_going s c old play here) (is_owing_nothing s c old play here)),
        (
          ended_tied s c old new play (with_cause conn ReadFault) ReadFault (ReadFailed c ∷ Closed c ∷ []) t reads.0 refl closed.table closed.gone closed.stages closed.tape closed.feeds,
          (refl, refl),
        ),
      )
