-- A write of a reply that is left, or one that isn't possible yet, or fails.
use Rattle.std.proofs.Common.{Vec, Global, ◌≡◌, ℕ, suc, ◌<◌, min, None, Some, List, [], ◌∷◌, ◌++◌, length, take, drop, slice_get, refl, sym, ap, ◌∙◌, subst, option_map, arith}
use Rattle.std.proofs.lemmas.Option.{get_or_from_slice_get}
use Rattle.streams.specs.declared.marks.Mark.TheVariants.{Wrote, WriteFailed, Closed}
use Rattle.host_model.specs.declared.cause.EndCause.TheVariants.{WriteFault}
use Rattle.conn_state.specs.Phase.{Phase, ConnView, sizing, held, framing, ready, waiting, writing, ended, left_to_write}
use Rattle.conn_state.specs.Step.{after_wrote}
use Rattle.conn_table.specs.Slots.{slot_in}
use Rattle.conn_table.specs.Table.{slot_of}
use Rattle.call_rules.specs.Handling.{handler_rules}
use Rattle.machine_model.specs.Loop.{LoopConn, with_cause}
use Rattle.script_model.specs.ScriptLines.{PlanRule, takes_most, blocks, fails}
use Rattle.script_model.specs.Playing.{MemoryAt, with_rules, moved_on, write_move}
use Rattle.cell_loop.specs.declared.loop_part.CellStage.{CellStage}
use Rattle.cell_loop.specs.declared.loop_part.CellStage.TheVariants.{Lean}
use Rattle.cell_loop.specs.declared.loop_part.LoopPart.{LoopPart}
use Rattle.cell_loop.specs.Settings.{CellSetting, ServedPlay, desk_of_setting}
use Rattle.cell_loop.specs.Moving.{GoesTo, one_of_conn}
use Rattle.cell_loop.specs.Feeds.{unread_in, finish_in, rules_in, HasFeed}
use Rattle.conn_refinement.specs.Phases.{HasAllCollected, PhaseTells, IsOpenTied, IsLean}
use Rattle.cell_loop.specs.LoopTied.{CellStageTells, IsLoopTied}
use Rattle.cell_loop.specs.Closing.{HasStand, ClosesBehind, Writes}
use Rattle.cell_loop.specs.LoopMoves.{HasSameHall}
use Rattle.conn_refinement.proofs.Tables.{no_bytes, place_of}
use Rattle.cell_loop.proofs.Tying.{stand_same, in_table, size_now, stands_so}
use Rattle.conn_refinement.proofs.Tables.{stated, state_found, state_but}
use Rattle.cell_loop.proofs.Ending.{once}
use Rattle.cell_loop.proofs.Becoming.{after_one, ended_tied, open_tied, rules_passed, moved_tied}
use Rattle.cell_loop.proofs.OneMove.{some_counted, open_so, moves_to_write, writes_so, fails_write_so}

-- what is known of a connection that writes
writes_told : (max : ℕ) (phase : Phase) (conn : LoopConn) → IsLean phase → 0 < length (left_to_write phase) → PhaseTells max phase conn
    → HasAllCollected conn × (conn.held ≡ []) × (conn.left ≡ left_to_write phase)
writes_told max (sizing bytes) conn lean some t = absurd (let f : ⊥ = omega arith in f)
writes_told max (held size) conn lean some t = absurd (let f : ⊥ = omega arith in f)
writes_told max (framing size bytes) conn lean some t = absurd lean
writes_told max (ready number payload) conn lean some t = absurd lean
writes_told max (waiting number) conn lean some t = absurd lean
writes_told max (writing left) conn lean some t = (t.0, t.1, t.2)
writes_told max (ended cause) conn lean some t = absurd lean

-- what it is then, where these bytes are left
wrote_told : (max frames : ℕ) (rest : List ℕ) (conn : LoopConn) → conn.cause ≡ None → frames ≡ length conn.payloads → HasAllCollected conn → conn.held ≡ [] → conn.left ≡ rest
    → IsLean (after_wrote rest) × IsOpenTied max (record { frames = frames; phase = after_wrote rest }) conn
wrote_told max frames [] conn going counted all nothing left = (tt, record { going = going; counted = counted; tells = (all, nothing, omega arith, left, no_bytes) })
wrote_told max frames (byte ∷ rest) conn going counted all nothing left =
    (tt, record { going = going; counted = counted; tells = (all, nothing, left, λ e. let f : byte ∷ rest ≡ [] = e in absurd (let z : suc (length rest) ≡ 0 = ap length f in let g : ⊥ = omega arith in g)) })

module _ (s : CellSetting) (c : ℕ) (old : LoopPart) (play : ServedPlay) (lean : slice_get old.stages.items c ≡ Some Lean)
    (some : 0 < length (left_to_write (slot_of c old.table.slots).conn.phase)) (t : IsLoopTied s old play) where
  abbrev conn : LoopConn
  conn = play.cell.loop.conns c

  abbrev left : List ℕ
  left = left_to_write (slot_of c old.table.slots).conn.phase

  below : c < length old.stages.items
  below = place_of old.stages.items c Lean lean

  tells : CellStageTells s.desk.max_frame old.table c conn (play.admitted c) Lean
  tells = stands_so s c old play Lean t lean

  told : HasAllCollected conn × (conn.held ≡ []) × (conn.left ≡ left)
  told = writes_told s.desk.max_frame (slot_of c old.table.slots).conn.phase conn tells.0.in_its_phase some tells.0.tied.tells

  counted_left : length conn.left ≡ length left
  counted_left = ap length told.2

  opened : c < play.cell.loop.count
  opened = let count : play.cell.loop.count ≡ length old.stages.items = t.count in let l : c < length old.stages.items = below in omega arith

  to_write : (rules : List PlanRule) → play.rules c ≡ rules → (passes enough : ℕ) (memory : ℕ → MemoryAt)
      → one_of_conn s c passes enough memory play ≡ write_move (desk_of_setting s) handler_rules play c conn.left rules
  to_write rules are passes enough memory =
      let k : length conn.left ≡ length left = counted_left in
      moves_to_write s c play memory (open_so play.cell.loop c opened tells.0.tied.going) (some_counted conn.left (omega arith))
      ∙ ap (write_move (desk_of_setting s) handler_rules play c conn.left) are

  -- so many bytes were written
  abbrev written : ℕ → ServedPlay
  written count = after_one c (record conn { left = drop count conn.left }) (Wrote c (take count conn.left) ∷ []) play

  abbrev view_behind : ℕ → ConnView
  view_behind count = record (slot_of c old.table.slots).conn { phase = after_wrote (drop count left) }

  written_tied : (count : ℕ) (new : LoopPart) → Writes c count old new → IsLoopTied s new (written count)
  written_tied count new w =
      let now : IsLean (after_wrote (drop count left)) × IsOpenTied s.desk.max_frame (view_behind count) (record conn { left = drop count conn.left }) =
      wrote_told s.desk.max_frame (slot_of c old.table.slots).conn.frames (drop count left) (record conn { left = drop count conn.left }) tells.0.tied.going tells.0.tied.counted told.0 told.1
      (ap (drop count) told.2) in
      let found : slot_in c new.table.slots ≡ Some (stated c (view_behind count) old.table.slots) = state_found c (view_behind count) old.table new.table tells.0.there w.table in
      open_tied s c old new play (record conn { left = drop count conn.left }) Lean (Wrote c (take count conn.left) ∷ []) t below tells.0.tied.going
      (state_but c (view_behind count) old.table new.table tells.0.there w.table)
      (subst (λ (xs : Vec CellStage Global). HasStand c Lean old.stages.items xs.items) (sym w.stages)
      (stand_same old.stages.items c Lean (get_or_from_slice_get old.stages.items c Lean Lean lean)))
      (w.tape ∙ ap (λ bytes. old.tape.items ++ Wrote c (take count bytes) ∷ []) (sym told.2)) w.feeds (
        in_table s.desk.max_frame IsLean new.table c (stated c (view_behind count) old.table.slots) (record conn { left = drop count conn.left }) found now.0 now.1,
        size_now new.table c (stated c (view_behind count) old.table.slots) found ∙ tells.1,
        tells.2,
      )

  -- No rule is left: all is written.
  pub writes_all : (n : ℕ) (new : LoopPart) → n ≡ length left → play.rules c ≡ [] → Writes c (min n (length left)) old new
      → GoesTo (one_of_conn s c) (λ next. IsLoopTied s new next × HasSameHall play next) play
  writes_all n new all none w =
      let k : length conn.left ≡ length left = counted_left in
      let is : min n (length left) ≡ length conn.left = omega arith in
      let now : Writes c (length conn.left) old new = subst (λ m. Writes c m old new) is w in (
        written (length conn.left),
        once (one_of_conn s c) play (written (length conn.left)) refl
            (λ passes enough memory.
            to_write [] none passes enough memory
            ∙ writes_so s c play (open_so play.cell.loop c opened tells.0.tied.going) (length conn.left) (omega arith) (omega arith)),
        (written_tied (length conn.left) new now, (refl, refl)),
      )

  -- The rule bounds it.
  pub writes_some : (most : ℕ) (rules : List PlanRule) (mid new : LoopPart) → 0 < most → play.rules c ≡ takes_most most ∷ rules → Writes c (min most (length left)) old mid
      → new.table ≡ mid.table → new.tape ≡ mid.tape → new.stages ≡ mid.stages
      → HasFeed c (unread_in mid.feeds.items c) (finish_in mid.feeds.items c) (drop 1 (rules_in mid.feeds.items c)) mid.feeds.items new.feeds.items
      → GoesTo (one_of_conn s c) (λ next. IsLoopTied s new next × HasSameHall play next) play
  writes_some most rules mid new bound are w table tape stages fed =
      let k : length conn.left ≡ length left = counted_left in
      let count : ℕ = min most (length conn.left) in
      let is : min most (length left) ≡ count = ap (min most) (sym k) in
      let now : Writes c count old mid = subst (λ m. Writes c m old mid) is w in (
        with_rules c rules (written count),
        once (one_of_conn s c) play (with_rules c rules (written count)) refl
            (λ passes enough memory.
            to_write (takes_most most ∷ rules) are passes enough memory
            ∙ ap (option_map (with_rules c rules)) (writes_so s c play (open_so play.cell.loop c opened tells.0.tied.going) count (omega arith) (omega arith))),
        (rules_passed s c mid new (written count) (written_tied count mid now) table tape stages (takes_most most) rules are fed, (refl, refl)),
      )

  -- The rule says that it isn't possible yet.
  pub blocks_once : (rules : List PlanRule) (new : LoopPart) → play.rules c ≡ blocks ∷ rules → new.table ≡ old.table → new.tape ≡ old.tape → new.stages ≡ old.stages
      → HasFeed c (unread_in old.feeds.items c) (finish_in old.feeds.items c) (drop 1 (rules_in old.feeds.items c)) old.feeds.items new.feeds.items
      → GoesTo (one_of_conn s c) (λ next. IsLoopTied s new next × HasSameHall play next) play
  blocks_once rules new are table tape stages fed = (
    moved_on (with_rules c rules play),
    once (one_of_conn s c) play (moved_on (with_rules c rules play)) refl (to_write (blocks ∷ rules) are),
    (moved_tied s new (with_rules c rules play) (rules_passed s c old new play t table tape stages blocks rules are fed), (refl, refl)),
  )

  -- The rule says that it fails.
  pub fails_once : (rules : List PlanRule) (mid new : LoopPart) → play.rules c ≡ fails ∷ rules → ClosesBehind c (WriteFailed c) WriteFault old mid
      → new.table ≡ mid.table → new.tape ≡ mid.tape → new.stages ≡ mid.stages
      → HasFeed c (unread_in mid.feeds.items c) (finish_in mid.feeds.items c) (drop 1 (rules_in mid.feeds.items c)) mid.feeds.items new.feeds.items
      → GoesTo (one_of_conn s c) (λ next. IsLoopTied s new next × HasSameHall play next) play
  fails_once rules mid new are closed table tape stages fed =
      let k : length conn.left ≡ length left = counted_left in
      let next : ServedPlay = after_one c (with_cause conn WriteFault) (WriteFailed c ∷ Closed c ∷ []) play in
      let over : IsLoopTied s mid next =
      ended_tied s c old mid play (with_cause conn WriteFault) WriteFault (WriteFailed c ∷ Closed c ∷ []) t below refl closed.table closed.gone closed.stages closed.tape closed.feeds in (
        with_rules c rules next,
        once (one_of_conn s c) play (with_rules c rules next) refl
            (λ passes enough memory.
            to_write (fails ∷ rules) are passes enough memory
            ∙ ap (option_map (with_rules c rules)) (fails_write_so s c play (open_so play.cell.loop c opened tells.0.tied.going) (some_counted conn.left (omega arith)))),
        (rules_passed s c mid new next over table tape stages fails rules are fed, (refl, refl)),
      )
