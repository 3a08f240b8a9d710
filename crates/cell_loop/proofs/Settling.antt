-- An outcome is taken: the loop's part is tied to the play that has collected it.
use Rattle.std.proofs.Common.{◌≡◌, ℕ, suc, ◌<◌, Option, None, Some, List, [], ◌∷◌, ◌++◌, length, slice_get, slice_set, refl, sym, ap, ◌∙◌, subst, option_map, append-nil, arith}
use Rattle.std.proofs.lemmas.Bool.{lt-ltb}
use Rattle.std.proofs.lemmas.Option.{none-some}
use Rattle.streams.specs.declared.outcomes.Settled.{Settled}
use Rattle.streams.specs.declared.outcomes.Settled.TheVariants.{Reply, Nothing, Close, NoMemory as NoRoom}
use Rattle.streams.specs.declared.marks.Mark.TheVariants.{Closed}
use Rattle.host_model.specs.declared.cause.EndCause.{EndCause}
use Rattle.conn_state.specs.Phase.{Phase, ConnView, sizing, held, framing, ready, waiting, writing, ended, cause_of, IsWaiting}
use Rattle.conn_state.specs.Step.{after_answer}
use Rattle.conn_table.specs.declared.places.Slot.{Slot}
use Rattle.conn_table.specs.Slots.{slot_in}
use Rattle.conn_table.specs.Table.{slot_of}
use Rattle.call_rules.specs.Handling.{handler_rules}
use Rattle.machine_model.specs.HallState.{JobOutcome, key_of}
use Rattle.machine_model.specs.HallRule.{outcome_of}
use Rattle.machine_model.specs.Loop.{LoopConn, changed, open_conn_settled, open_marks_settled, conn_settled, conn_marks_settled}
use Rattle.machine_model.specs.Plain.{when, collect_plain}
use Rattle.script_model.specs.Playing.{MemoryAt, at_number, freed, collect_first}
use Rattle.cell_loop.specs.declared.loop_part.CellStage.TheVariants.{Lean, Asked, Over}
use Rattle.cell_loop.specs.declared.loop_part.LoopPart.{LoopPart}
use Rattle.cell_loop.specs.Settings.{CellSetting, ServedCell, ServedPlay, desk_of_setting}
use Rattle.cell_loop.specs.Moving.{GoesTo, one_of_outcome}
use Rattle.cell_loop.specs.Replies.{IsReplySome}
use Rattle.conn_refinement.specs.Phases.{HoldsNothing, PhaseTells, IsOpenTied, IsLean}
use Rattle.cell_loop.specs.LoopTied.{CellStageTells, IsLoopTied}
use Rattle.conn_refinement.specs.Tables.{IsSameBut}
use Rattle.cell_loop.specs.Closing.{HasStand}
use Rattle.conn_refinement.proofs.Tables.{no_bytes, place_of}
use Rattle.cell_loop.proofs.Tying.{stand_set, in_table, size_now, feeds_of, loop_changed, changed_tied, stands_so}
use Rattle.cell_loop.proofs.Ending.{once, same_feeds, as_many_feeds, over_tied}

-- what settles a connection for good
over_so : (c : ℕ) (settled : Settled) (cause : EndCause) (conn : LoopConn) → cause_of (after_answer settled) ≡ Some cause
    → ((open_conn_settled settled conn).cause ≡ Some cause) × (open_marks_settled c settled ≡ Closed c ∷ [])
over_so c (Reply reply) cause conn e = absurd (none-some cause e)
over_so c Nothing cause conn e = absurd (none-some cause e)
over_so c (Close fault) cause conn e = (e, refl)
over_so c NoRoom cause conn e = (e, refl)

-- what is known of one that waits
waits_so : (max : ℕ) (phase : Phase) (conn : LoopConn) → IsWaiting phase → PhaseTells max phase conn → HoldsNothing conn × (conn.submitted ≡ length conn.payloads) × (suc conn.collected ≡ length conn.payloads)
waits_so max (waiting number) conn waits t = (t.0, t.1 ∙ sym t.3, ap suc t.2 ∙ sym t.3)
waits_so max (sizing bytes) conn waits t = absurd waits
waits_so max (held size) conn waits t = absurd waits
waits_so max (framing size bytes) conn waits t = absurd waits
waits_so max (ready number payload) conn waits t = absurd waits
waits_so max (writing left) conn waits t = absurd waits
waits_so max (ended cause) conn waits t = absurd waits

-- what settles it and leaves it open
module _ (max : ℕ) (view : ConnView) (conn : LoopConn) (tied : IsOpenTied max view conn) (waits : IsWaiting view.phase) where
  left_open : (settled : Settled) → IsReplySome settled → cause_of (after_answer settled) ≡ None
      → IsLean (after_answer settled) × IsOpenTied max (record view { phase = after_answer settled }) (open_conn_settled settled conn)
  left_open (Reply reply) some e =
      let k : HoldsNothing conn × (conn.submitted ≡ length conn.payloads) × (suc conn.collected ≡ length conn.payloads) = waits_so max view.phase conn waits tied.tells in
      (tt, record { going = tied.going; counted = tied.counted; tells = ((k.1, k.2), k.0.0, refl, some) })
  left_open Nothing some e =
      let k : HoldsNothing conn × (conn.submitted ≡ length conn.payloads) × (suc conn.collected ≡ length conn.payloads) = waits_so max view.phase conn waits tied.tells in
      (tt, record { going = tied.going; counted = tied.counted; tells = ((k.1, k.2), k.0.0, omega arith, k.0.1, no_bytes) })
  left_open (Close fault) some e = absurd (none-some _ (sym e))
  left_open NoRoom some e = absurd (none-some _ (sym e))

no_marks : (c : ℕ) (settled : Settled) → cause_of (after_answer settled) ≡ None → open_marks_settled c settled ≡ []
no_marks c (Reply reply) e = refl
no_marks c Nothing e = refl
no_marks c (Close fault) e = absurd (none-some _ (sym e))
no_marks c NoRoom e = absurd (none-some _ (sym e))

module _ (s : CellSetting) (c i : ℕ) (settled : Settled) (play : ServedPlay) (later : List JobOutcome) where
  -- the play once the outcome is collected, by the cause that its connection had
  abbrev cell_by : Option EndCause → ServedCell
  cell_by cause =
      record play.cell {
        loop = changed play.cell.loop c (conn_settled cause settled (play.cell.loop.conns c)) (conn_marks_settled cause c settled);
        hall = record play.cell.hall { outcomes = later };
      }

  abbrev collected_by : Option EndCause → ServedPlay
  collected_by cause = record play { cell = cell_by cause; moves = suc play.moves; admitted = at_number play.admitted c None }

  abbrev told_by : Option ServedCell → Option ServedPlay
  told_by o = option_map (freed c) (option_map (λ (cell : ServedCell). record play { cell = cell; moves = suc play.moves }) o)

  collects_so : play.cell.hall.outcomes ≡ outcome_of (key_of c i) settled ∷ later → c < play.cell.loop.count → (play.cell.loop.conns c).cause ≡ None
      → (passes enough : ℕ) (memory : ℕ → MemoryAt) → one_of_outcome s passes enough memory play ≡ Some (collected_by None)
  collects_so first below going passes enough memory =
      ap (λ os. collect_first (desk_of_setting s) handler_rules play os) first
      ∙ ap (λ os. told_by (collect_plain play.cell os)) first
      ∙ ap (λ b. told_by (when b (Some (cell_by (play.cell.loop.conns c).cause)))) (lt-ltb c play.cell.loop.count below)
      ∙ ap (λ cause. Some (collected_by cause)) going

-- The connection is open after it.
pub settles_open : (s : CellSetting) (c i : ℕ) (settled : Settled) (old new : LoopPart) (play : ServedPlay) (later : List JobOutcome) → slice_get old.stages.items c ≡ Some Asked
    → IsReplySome settled → IsLoopTied s old play → play.cell.hall.outcomes ≡ outcome_of (key_of c i) settled ∷ later → IsSameBut c old.table new.table → new.feeds ≡ old.feeds
    → (slot : Slot) → slot_in c new.table.slots ≡ Some slot → slot.conn ≡ record (slot_of c old.table.slots).conn { phase = after_answer settled } → slot.size ≡ None
    → cause_of (after_answer settled) ≡ None → new.stages.items ≡ slice_set old.stages.items c Lean → new.tape.items ≡ old.tape.items
    → GoesTo (one_of_outcome s) (λ next. IsLoopTied s new next × (next.cell.workers ≡ play.cell.workers) × (next.cell.hall ≡ record play.cell.hall { outcomes = later })) play
settles_open s c i settled old new play later asked some t first but feeds slot found state size none stages tape =
    let tells : CellStageTells s.desk.max_frame old.table c (play.cell.loop.conns c) (play.admitted c) Asked = stands_so s c old play Asked t asked in
    let below : c < length old.stages.items = place_of old.stages.items c Asked asked in
    let count : play.cell.loop.count ≡ length old.stages.items = t.count in
    let next : ServedPlay = collected_by s c i settled play later None in
    let conn : LoopConn = open_conn_settled settled (play.cell.loop.conns c) in
    let now : IsLean (after_answer settled) × IsOpenTied s.desk.max_frame (record (slot_of c old.table.slots).conn { phase = after_answer settled }) conn =
    left_open s.desk.max_frame (slot_of c old.table.slots).conn (play.cell.loop.conns c) tells.0.tied tells.0.in_its_phase settled some none in (
      next,
      once (one_of_outcome s) play next refl (collects_so s c i settled play later first (omega arith) tells.0.tied.going),
      (
        changed_tied s c old new play next conn None Lean (open_marks_settled c settled) t below but
            (subst (λ xs. HasStand c Lean old.stages.items xs) (sym stages) (stand_set old.stages.items c Lean below))
            (tape ∙ sym (append_nil_is old settled none))
            (loop_changed c conn None (open_marks_settled c settled) play next refl (λ x. refl))
            (as_many_feeds old.feeds new.feeds feeds) (same_feeds old.feeds new.feeds play.unread play.finish play.rules feeds (feeds_of s old play t)) (
              in_table s.desk.max_frame IsLean new.table c slot conn found (subst (λ (v : ConnView). IsLean v.phase) (sym state) now.0)
                  (subst (λ (v : ConnView). IsOpenTied s.desk.max_frame v conn) (sym state) now.1),
              size_now new.table c slot found ∙ size,
              refl,
            ),
        refl,
        refl,
      ),
    )
  where
    append_nil_is : (old : LoopPart) (settled : Settled) → cause_of (after_answer settled) ≡ None → old.tape.items ++ open_marks_settled c settled ≡ old.tape.items
    append_nil_is old settled none = ap (λ marks. old.tape.items ++ marks) (no_marks c settled none) ∙ append-nil old.tape.items

-- It has ended after it.
pub settles_over : (s : CellSetting) (c i : ℕ) (settled : Settled) (old new : LoopPart) (play : ServedPlay) (later : List JobOutcome) → slice_get old.stages.items c ≡ Some Asked
    → IsReplySome settled → IsLoopTied s old play → play.cell.hall.outcomes ≡ outcome_of (key_of c i) settled ∷ later → IsSameBut c old.table new.table → new.feeds ≡ old.feeds
    → (cause : EndCause) → cause_of (after_answer settled) ≡ Some cause → slot_in c new.table.slots ≡ None → new.stages.items ≡ slice_set old.stages.items c (Over cause)
    → new.tape.items ≡ old.tape.items ++ Closed c ∷ []
    → GoesTo (one_of_outcome s) (λ next. IsLoopTied s new next × (next.cell.workers ≡ play.cell.workers) × (next.cell.hall ≡ record play.cell.hall { outcomes = later })) play
settles_over s c i settled old new play later asked some t first but feeds cause is gone stages tape =
    let tells : CellStageTells s.desk.max_frame old.table c (play.cell.loop.conns c) (play.admitted c) Asked = stands_so s c old play Asked t asked in
    let below : c < length old.stages.items = place_of old.stages.items c Asked asked in
    let count : play.cell.loop.count ≡ length old.stages.items = t.count in
    let next : ServedPlay = collected_by s c i settled play later None in
    let conn : LoopConn = open_conn_settled settled (play.cell.loop.conns c) in
    let now : (conn.cause ≡ Some cause) × (open_marks_settled c settled ≡ Closed c ∷ []) = over_so c settled cause (play.cell.loop.conns c) is in (
      next,
      once (one_of_outcome s) play next refl (collects_so s c i settled play later first (omega arith) tells.0.tied.going),
      (
        over_tied s c cause old new play next conn (open_marks_settled c settled) t below but gone stages (tape ∙ ap (λ marks. old.tape.items ++ marks) (sym now.1)) now.0
            (loop_changed c conn None (open_marks_settled c settled) play next refl (λ x. refl))
            (as_many_feeds old.feeds new.feeds feeds) (same_feeds old.feeds new.feeds play.unread play.finish play.rules feeds (feeds_of s old play t)),
        refl,
        refl,
      ),
    )
