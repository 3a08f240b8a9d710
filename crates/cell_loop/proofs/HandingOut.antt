-- A payload is handed out: the loop's part is tied to the play that has submitted it.
use Rattle.std.proofs.Common.{◌≡◌, ℕ, suc, ◌<◌, false, Option, None, Some, List, [], ◌∷◌, ◌++◌, length, slice_get, slice_set, refl, sym, ap, ◌∙◌, subst, IsSome, option_map, append-nil, arith}
use Rattle.std.proofs.lemmas.Bool.{lt-ltb}
use Rattle.conn_state.specs.Phase.{ConnView, ready, waiting, IsWaiting}
use Rattle.conn_table.specs.Slots.{slot_in}
use Rattle.conn_table.specs.Table.{slot_of, with_state}
use Rattle.machine_model.specs.HallState.{key_of}
use Rattle.machine_model.specs.HallRule.{job_of}
use Rattle.machine_model.specs.Loop.{LoopConn, changed, submitted_more}
use Rattle.machine_model.specs.Plain.{when, submit_plain}
use Rattle.script_model.specs.Playing.{MemoryAt}
use Rattle.cell_loop.specs.declared.loop_part.CellStage.TheVariants.{Whole, Asked}
use Rattle.cell_loop.specs.declared.loop_part.LoopPart.{LoopPart}
use Rattle.cell_loop.specs.Settings.{CellSetting, ServedCell, ServedPlay}
use Rattle.cell_loop.specs.Moving.{GoesTo, one_of_conn}
use Rattle.conn_refinement.specs.Phases.{PhaseTells, IsOpenTied}
use Rattle.cell_loop.specs.LoopTied.{CellStageTells, IsLoopTied}
use Rattle.cell_loop.specs.Closing.{HasStand}
use Rattle.conn_refinement.proofs.Tables.{place_of}
use Rattle.cell_loop.proofs.Tying.{stand_set, kept_at, in_table, feeds_of, loop_changed, changed_tied, stands_so}
use Rattle.conn_refinement.proofs.Tables.{stated, state_found, state_size, state_but}
use Rattle.cell_loop.proofs.Ending.{once, same_feeds, as_many_feeds}
use Rattle.cell_loop.proofs.OneMove.{open_so, moves_to_submit}

module _ (s : CellSetting) (c number : ℕ) (payload : List ℕ) (play : ServedPlay) where
  abbrev conn : LoopConn
  conn = play.cell.loop.conns c

  -- the cell once the payload is submitted under this number
  abbrev cell_under : ℕ → ServedCell
  cell_under i =
      record play.cell {
        loop = changed play.cell.loop c (submitted_more conn) [];
        hall = record play.cell.hall { jobs = play.cell.hall.jobs ++ job_of (key_of c i) payload ∷ [] };
      }

  abbrev told_by : Option ServedCell → Option ServedPlay
  told_by o = option_map (λ (cell : ServedCell). record play { cell = cell; moves = suc play.moves }) o

  abbrev handed : ServedPlay
  handed = record play { cell = cell_under number; moves = suc play.moves }

  submits_so : c < play.cell.loop.count → conn.cause ≡ None → conn.left ≡ [] → conn.submitted < length conn.payloads → conn.submitted ≡ number
      → slice_get conn.payloads conn.submitted ≡ Some payload → play.cell.hall.closed ≡ false
      → (passes enough : ℕ) (memory : ℕ → MemoryAt) → one_of_conn s c passes enough memory play ≡ Some handed
  submits_so below going left whole is found unclosed passes enough memory =
      moves_to_submit s c play memory (open_so play.cell.loop c below going) left whole
      ∙ ap (λ b. told_by (when b (submit_plain play.cell c play.cell.hall.closed (slice_get conn.payloads conn.submitted)))) (lt-ltb c play.cell.loop.count below)
      ∙ ap (λ o. told_by (submit_plain play.cell c play.cell.hall.closed o)) found
      ∙ ap (λ b. told_by (submit_plain play.cell c b (Some payload))) unclosed
      ∙ ap (λ i. told_by (Some (cell_under i))) is

pub hands_out : (s : CellSetting) (c : ℕ) (old new : LoopPart) (play : ServedPlay) (number : ℕ) (payload : List ℕ) → slice_get old.stages.items c ≡ Some Whole → IsLoopTied s old play
    → play.cell.hall.closed ≡ false → (slot_of c old.table.slots).conn.phase ≡ ready number payload
    → new.table ≡ record old.table { slots = with_state c (record (slot_of c old.table.slots).conn { phase = waiting number }) old.table.slots } → new.feeds ≡ old.feeds
    → new.stages.items ≡ slice_set old.stages.items c Asked → new.tape.items ≡ old.tape.items
    → ((play.cell.loop.conns c).submitted ≡ number) × (slice_get (play.cell.loop.conns c).payloads number ≡ Some payload)
    × GoesTo (one_of_conn s c) (λ next. IsLoopTied s new next × (next.cell.workers ≡ play.cell.workers)
    × (next.cell.hall ≡ record play.cell.hall { jobs = play.cell.hall.jobs ++ job_of (key_of c number) payload ∷ [] })) play
hands_out s c old new play number payload whole t unclosed given after feeds stages tape =
    let max : ℕ = s.desk.max_frame in
    let conn : LoopConn = play.cell.loop.conns c in
    let view : ConnView = record (slot_of c old.table.slots).conn { phase = waiting number } in
    let tells : CellStageTells max old.table c conn (play.admitted c) Whole = stands_so s c old play Whole t whole in
    let below : c < length old.stages.items = place_of old.stages.items c Whole whole in
    let count : play.cell.loop.count ≡ length old.stages.items = t.count in
    let told : PhaseTells max (ready number payload) conn = subst (λ p. PhaseTells max p conn) given tells.0.tied.tells in
    let submitted : conn.submitted ≡ number = told.1 in
    let many : length conn.payloads ≡ suc number = told.3 in
    let found : slot_in c new.table.slots ≡ Some (stated c view old.table.slots) = state_found c view old.table new.table tells.0.there after in
    let size : (slot_of c new.table.slots).size ≡ (slot_of c old.table.slots).size = state_size c view old.table new.table tells.0.there after in
    let tied : IsOpenTied max view (submitted_more conn) =
    record { going = tells.0.tied.going; counted = tells.0.tied.counted; tells = (told.0, ap suc told.1, told.2, told.3) } in (
      submitted,
      told.4,
      (
        handed s c number payload play,
        once (one_of_conn s c) play (handed s c number payload play) refl
            (submits_so s c number payload play (omega arith) tells.0.tied.going told.0.1 (omega arith) submitted (ap (slice_get conn.payloads) submitted ∙ told.4) unclosed),
        (
          changed_tied s c old new play (handed s c number payload play) (submitted_more conn) (play.admitted c) Asked [] t below
              (state_but c view old.table new.table tells.0.there after)
              (subst (λ xs. HasStand c Asked old.stages.items xs) (sym stages) (stand_set old.stages.items c Asked below))
              (tape ∙ sym (append-nil old.tape.items))
              (loop_changed c (submitted_more conn) (play.admitted c) [] play (handed s c number payload play) refl (λ x. kept_at play.admitted c x))
              (as_many_feeds old.feeds new.feeds feeds) (same_feeds old.feeds new.feeds play.unread play.finish play.rules feeds (feeds_of s old play t)) (
                in_table max IsWaiting new.table c (stated c view old.table.slots) (submitted_more conn) found tt tied,
                (subst (λ o. IsSome o) (sym size) tells.1.0, tells.1.1 ∙ sym size),
              ),
          refl,
          refl,
        ),
      ),
    )
