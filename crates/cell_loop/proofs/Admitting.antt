-- A frame that waits is admitted, or the budget has no room for it, or memory runs out for it.
use Rattle.std.proofs.Common.{◌≡◌, ℕ, suc, ◌+◌, ◌^◌, ◌<◌, ◌≤◌, Bool, true, nat_le, if◌then◌else◌, Option, None, Some, [], ◌∷◌, length, take, slice_get, slice_set, refl, sym, ap, ◌∙◌, subst, IsSome, option_map, append-nil, arith}
use Rattle.std.specs.Int.{w32, to_be_bytes, from_be_bytes}
use Rattle.std.proofs.lemmas.Bool.{le-leb, lt-leb}
use Rattle.std.proofs.lemmas.Nat.{from_be_bytes-to_be_bytes_4}
use Rattle.streams.specs.declared.marks.Mark.TheVariants.{Closed}
use Rattle.host_model.specs.declared.cause.EndCause.TheVariants.{NoMemory}
use Rattle.conn_state.specs.Phase.{Phase, sizing, held, framing, ready, waiting, writing, ended, size_asked, IsHeld}
use Rattle.conn_state.specs.Step.{after_admission}
use Rattle.conn_table.specs.declared.places.Slot.{Slot}
use Rattle.conn_table.specs.Slots.{slot_in, HaveRisingNumbers}
use Rattle.conn_table.specs.Table.{TableView, slot_of, size_given, sizes_given, size_wanted, with_admitted}
use Rattle.conn_table.proofs.Sizing.{found_put}
use Rattle.call_rules.specs.Handling.{handler_rules}
use Rattle.machine_model.specs.Loop.{LoopConn, Loop, changed, with_cause, gives_up}
use Rattle.machine_model.specs.AtFronts.{size_in}
use Rattle.machine_model.specs.Machine.{on_conn}
use Rattle.machine_model.specs.Plain.{when, with_loop, moved_plain, gives_up_plain, goes}
use Rattle.script_model.specs.Playing.{MemoryAt, ample, lacking, at_number, all_admitted, moved_on, or_else, by_memory, admission, size_move, conn_move}
use Rattle.script_model.proofs.Holding.{size_long}
use Rattle.cell_loop.specs.declared.loop_part.CellStage.TheVariants.{Lean, Framed}
use Rattle.cell_loop.specs.declared.loop_part.LoopPart.{LoopPart}
use Rattle.cell_loop.specs.Settings.{CellSetting, ServedCell, ServedPlay, desk_of_setting}
use Rattle.cell_loop.specs.Moving.{HasNoMove, GoesTo, one_of_conn}
use Rattle.conn_refinement.specs.Phases.{HasAllCollected, PhaseTells, IsOpenTied, IsFraming}
use Rattle.cell_loop.specs.LoopTied.{CellStageTells, IsLoopTied}
use Rattle.conn_refinement.specs.Tables.{IsSameBut}
use Rattle.cell_loop.specs.Closing.{HasStand, IsClosed}
use Rattle.cell_loop.specs.LoopMoves.{HasSameHall}
use Rattle.conn_refinement.proofs.Tables.{but_put, place_of}
use Rattle.cell_loop.proofs.Tying.{stand_set, kept_at, in_table, size_now, feeds_of, loop_changed, changed_tied, stands_so}
use Rattle.cell_loop.proofs.Ending.{same_feeds, as_many_feeds, over_tied}
use Rattle.cell_loop.proofs.Counting.{sizes_summed}
use Rattle.cell_loop.proofs.OneMove.{done_at, open_so, moves_to_size}

-- a connection whose size waits
record HeldAt (max : ℕ) (phase : Phase) (conn : LoopConn) : Type 0 where
  pub size : ℕ
  pub is : phase ≡ held size
  pub all : HasAllCollected conn
  pub bytes : conn.held ≡ to_be_bytes w32 size
  pub some : 1 ≤ size
  pub most : size ≤ max
  pub fits : size < 2 ^ 32
  pub nothing : conn.left ≡ []

held_at : (max : ℕ) (phase : Phase) (conn : LoopConn) → IsHeld phase → PhaseTells max phase conn → HeldAt max phase conn
held_at max (held size) conn waits t = record { size = size; is = refl; all = t.0; bytes = t.1; some = t.2; most = t.3; fits = t.4; nothing = t.5 }
held_at max (sizing bytes) conn waits t = absurd waits
held_at max (framing size bytes) conn waits t = absurd waits
held_at max (ready number payload) conn waits t = absurd waits
held_at max (waiting number) conn waits t = absurd waits
held_at max (writing left) conn waits t = absurd waits
held_at max (ended cause) conn waits t = absurd waits

module _ (s : CellSetting) (c : ℕ) (old : LoopPart) (play : ServedPlay) (lean : slice_get old.stages.items c ≡ Some Lean) (waits : IsHeld (slot_of c old.table.slots).conn.phase)
    (rising : HaveRisingNumbers old.table.slots) (t : IsLoopTied s old play) where
  abbrev conn : LoopConn
  conn = play.cell.loop.conns c

  abbrev phase : Phase
  phase = (slot_of c old.table.slots).conn.phase

  below : c < length old.stages.items
  below = place_of old.stages.items c Lean lean

  tells : CellStageTells s.desk.max_frame old.table c conn (play.admitted c) Lean
  tells = stands_so s c old play Lean t lean

  at : HeldAt s.desk.max_frame phase conn
  at = held_at s.desk.max_frame phase conn waits tells.0.tied.tells

  opened : c < play.cell.loop.count
  opened = let count : play.cell.loop.count ≡ length old.stages.items = t.count in let l : c < length old.stages.items = below in omega arith

  four : length conn.held ≡ 4
  four = ap length at.bytes

  size_is : size_in conn.held ≡ at.size
  size_is = let k : length conn.held ≡ 4 = four in size_long conn.held (omega arith) ∙ ap (λ b. from_be_bytes w32 (take 4 b)) at.bytes ∙ from_be_bytes-to_be_bytes_4 at.size at.fits

  wanted_is : size_wanted (slot_of c old.table.slots).conn ≡ at.size
  wanted_is = ap (λ p. size_given (size_asked p)) at.is

  sum_is : all_admitted play ≡ sizes_given old.table.slots
  sum_is = sizes_summed s old play t rising

  -- its move is an admission, where there is room
  abbrev by_room : (ℕ → MemoryAt) → Bool → Option ServedPlay
  by_room memory b = if b then admission (desk_of_setting s) handler_rules memory play c (size_in conn.held) else None

  to_admit : (memory : ℕ → MemoryAt)
      → conn_move (desk_of_setting s) handler_rules memory s.budget c play ≡ by_room memory (nat_le (all_admitted play + size_in conn.held) s.budget)
  to_admit memory =
      let k : length conn.held ≡ 4 = four in
      moves_to_size s c play memory (open_so play.cell.loop c opened tells.0.tied.going) at.nothing at.all.0 at.all.1 (omega arith)
      ∙ ap (size_move (desk_of_setting s) handler_rules memory s.budget play c conn.held) tells.2

  -- The budget has no room.
  pub not_admitted : old.table.budget < sizes_given old.table.slots + size_wanted (slot_of c old.table.slots).conn → HasNoMove (one_of_conn s c) play
  not_admitted over passes enough memory =
      let a : size_in conn.held ≡ at.size = size_is in
      let b : size_wanted (slot_of c old.table.slots).conn ≡ at.size = wanted_is in
      let e : all_admitted play ≡ sizes_given old.table.slots = sum_is in
      let f : old.table.budget ≡ s.budget = t.budget in
      to_admit memory ∙ ap (by_room memory) (lt-leb (all_admitted play + size_in conn.held) s.budget (omega arith))

  -- It has.
  fits_in : sizes_given old.table.slots + size_wanted (slot_of c old.table.slots).conn ≤ old.table.budget → nat_le (all_admitted play + size_in conn.held) s.budget ≡ true
  fits_in within =
      let a : size_in conn.held ≡ at.size = size_is in
      let b : size_wanted (slot_of c old.table.slots).conn ≡ at.size = wanted_is in
      let e : all_admitted play ≡ sizes_given old.table.slots = sum_is in
      let f : old.table.budget ≡ s.budget = t.budget in
      le-leb (all_admitted play + size_in conn.held) s.budget (omega arith)

  -- the play once it is admitted
  abbrev admitted_now : ServedPlay
  admitted_now = moved_on (record play { admitted = at_number play.admitted c (Some (size_in conn.held)) })

  abbrev slot_now : Slot
  slot_now = record { number = c; conn = record (slot_of c old.table.slots).conn { phase = after_admission phase }; size = size_asked phase }

  pub is_admitted : (new : LoopPart) → sizes_given old.table.slots + size_wanted (slot_of c old.table.slots).conn ≤ old.table.budget → new.table ≡ with_admitted c old.table
      → new.feeds ≡ old.feeds → new.stages.items ≡ slice_set old.stages.items c Framed → new.tape.items ≡ old.tape.items
      → GoesTo (one_of_conn s c) (λ next. IsLoopTied s new next × HasSameHall play next) play
  is_admitted new within table feeds stages tape =
      let found : slot_in c new.table.slots ≡ Some slot_now = ap (λ (v : TableView). slot_in c v.slots) table ∙ found_put slot_now old.table.slots tells.0.there in
      let size : size_asked phase ≡ Some at.size = ap size_asked at.is in
      let enough : 0 < at.size = at.some in
      let tied : IsOpenTied s.desk.max_frame (record (slot_of c old.table.slots).conn { phase = framing at.size [] }) conn =
      record {
        going = tells.0.tied.going;
        counted = tells.0.tied.counted;
        tells = (at.all, at.bytes ∙ sym (append-nil (to_be_bytes w32 at.size)), enough, at.most, at.fits, at.nothing);
      } in
      let behind : after_admission phase ≡ framing at.size [] = ap after_admission at.is in (
        admitted_now,
        done_at (one_of_conn s c) play admitted_now ample refl
            (λ passes enough memory so.
            to_admit memory ∙ ap (by_room memory) (fits_in within)
            ∙ ap (λ m. by_memory (desk_of_setting s) handler_rules m play (goes (on_conn (gives_up c NoMemory))) (Some admitted_now)) so),
        (
          changed_tied s c old new play admitted_now conn (Some (size_in conn.held)) Framed [] t below
              (subst (λ (v : TableView). IsSameBut c old.table v) (sym table) (but_put old.table c slot_now refl))
              (subst (λ xs. HasStand c Framed old.stages.items xs) (sym stages) (stand_set old.stages.items c Framed below))
              (tape ∙ sym (append-nil old.tape.items))
              (record { tape = sym (append-nil play.cell.loop.tape); count = refl; own = refl; others = λ x n. refl; size = λ x. refl })
              (as_many_feeds old.feeds new.feeds feeds) (same_feeds old.feeds new.feeds play.unread play.finish play.rules feeds (feeds_of s old play t)) (
                in_table s.desk.max_frame IsFraming new.table c slot_now conn found (subst IsFraming (sym behind) tt)
                    (subst (λ p. IsOpenTied s.desk.max_frame (record (slot_of c old.table.slots).conn { phase = p }) conn) (sym behind) tied),
                (
                  subst (λ o. IsSome o) (sym (size_now new.table c slot_now found ∙ size)) refl,
                  ap Some size_is ∙ sym (size_now new.table c slot_now found ∙ size),
                ),
              ),
          (refl, refl),
        ),
      )

  -- Memory runs out for it.
  abbrev refused_loop : Loop
  refused_loop = changed play.cell.loop c (with_cause conn NoMemory) (Closed c ∷ [])

  abbrev refused_now : ServedPlay
  refused_now = record play { cell = record play.cell { loop = refused_loop }; moves = suc play.moves; wants = suc play.wants }

  abbrev wanting : Option Loop → Option ServedPlay
  wanting o =
      or_else (option_map (λ (cell : ServedCell). record play { cell = cell; moves = suc play.moves; wants = suc play.wants }) (with_loop play.cell o)) (Some admitted_now)

  pub is_refused : (new : LoopPart) → sizes_given old.table.slots + size_wanted (slot_of c old.table.slots).conn ≤ old.table.budget → IsClosed c NoMemory old new
      → GoesTo (one_of_conn s c) (λ next. IsLoopTied s new next × HasSameHall play next) play
  is_refused new within closed = (
    refused_now,
    done_at (one_of_conn s c) play refused_now lacking refl
        (λ passes enough memory so.
        to_admit memory ∙ ap (by_room memory) (fits_in within)
        ∙ ap (λ m. by_memory (desk_of_setting s) handler_rules m play (goes (on_conn (gives_up c NoMemory))) (Some admitted_now)) so
        ∙ ap (λ b. wanting (when b (moved_plain play.cell.loop c (gives_up_plain c NoMemory conn)))) (open_so play.cell.loop c opened tells.0.tied.going)),
    (
      over_tied s c NoMemory old new play refused_now (with_cause conn NoMemory) (Closed c ∷ []) t below closed.table closed.gone closed.stages closed.tape refl
          (loop_changed c (with_cause conn NoMemory) None (Closed c ∷ []) play refused_now refl (λ x. kept_at play.admitted c x ∙ ap (λ o. at_number play.admitted c o x) tells.2))
          (as_many_feeds old.feeds new.feeds closed.feeds) (same_feeds old.feeds new.feeds play.unread play.finish play.rules closed.feeds (feeds_of s old play t)),
      (refl, refl),
    ),
  )
