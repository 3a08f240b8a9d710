-- What the move of a connection is, by what is kept of it, and what an event of it leaves.
use Rattle.std.proofs.Common.{◌≡◌, ℕ, suc, ◌-◌, ◌<◌, ◌≤◌, ◌==◌, Bool, true, false, ◌&&◌, not, nat_lt, nat_le, if◌then◌else◌, Option, None, Some, List, [], ◌∷◌, ◌++◌, length, take, drop, option_map, refl, ap, ◌∙◌, arith}
use Rattle.std.proofs.lemmas.Bool.{and_from, lt-ltb, le-ltb, le-leb, eq-eqb}
use Rattle.streams.specs.declared.marks.Mark.{Mark}
use Rattle.streams.specs.declared.marks.Mark.TheVariants.{Ended, Wrote, ReadFailed, WriteFailed, Closed}
use Rattle.host_model.specs.declared.cause.EndCause.TheVariants.{ReadFault, WriteFault}
use Rattle.host_model.specs.World.{end_behind}
use Rattle.call_rules.specs.Handling.{handler_rules}
use Rattle.machine_model.specs.Loop.{LoopConn, Loop, FrameProgress, read_more, marks_read, changed, with_cause, ConnEvent, reads, ends, fails_read, writes, fails_write}
use Rattle.machine_model.specs.Plain.{when, is_empty, has_none_yet, is_open, owes_nothing, progress_by, stays_in_size, progress_plain, reads_plain, ends_plain, fails_read_plain, writes_plain, fails_write_plain, moved_plain, conn_event_plain, with_loop, goes}
use Rattle.machine_model.specs.Machine.{submits}
use Rattle.script_model.specs.Playing.{MemoryAt, freed_if_over, told_in, on_one, read_move, write_move, size_move, conn_move}
use Rattle.cell_loop.specs.Settings.{CellSetting, ServedPlay, desk_of_setting}
use Rattle.cell_loop.specs.Moving.{Doing, ComesTo}
use Rattle.cell_loop.proofs.Becoming.{after_one}

-- a move that looks at memory as it is then alone
pub done_at : (doing : Doing) (old new : ServedPlay) (at : MemoryAt) → new.moves ≡ suc old.moves
    → ((passes enough : ℕ) (memory : ℕ → MemoryAt) → memory old.moves ≡ at → doing passes enough memory old ≡ Some new) → ComesTo doing old new
done_at doing old new at moves leads =
    record { memories = at ∷ []; counted = omega (arith, moves); fuel = 0; leads = λ passes enough memory p e so. leads passes enough memory so.0 }

-- there are no bytes, or there are
pub none_there : (bytes : List ℕ) → bytes ≡ [] → is_empty bytes ≡ true
none_there bytes e = ap is_empty e

pub some_counted : (bytes : List ℕ) → 0 < length bytes → is_empty bytes ≡ false
some_counted [] l = absurd (let f : ⊥ = omega arith in f)
some_counted (x ∷ xs) l = refl

-- a connection that is open
pub open_so : (loop : Loop) (c : ℕ) → c < loop.count → (loop.conns c).cause ≡ None → is_open loop c ≡ true
open_so loop c l none = and_from (nat_lt c loop.count) (has_none_yet (loop.conns c).cause) (lt-ltb c loop.count l) (ap has_none_yet none)

-- one that owes nothing
pub owes_so : (conn : LoopConn) → conn.collected ≡ length conn.payloads → conn.left ≡ [] → owes_nothing conn ≡ true
owes_so conn collected left = and_from (conn.collected == length conn.payloads) (is_empty conn.left) (eq-eqb conn.collected (length conn.payloads) collected) (none_there conn.left left)

module _ (s : CellSetting) (c : ℕ) (play : ServedPlay) (memory : ℕ → MemoryAt) where
  -- the move, by its tests
  abbrev by_tests : Bool → Bool → Bool → Bool → Bool → Option ServedPlay
  by_tests opened none whole asked short =
      if opened then (if not none then write_move (desk_of_setting s) handler_rules play c (play.cell.loop.conns c).left (play.rules c)
      else if whole then told_in (desk_of_setting s) handler_rules play (goes (submits c))
      else if asked then None
      else if short then read_move (desk_of_setting s) handler_rules play c (4 - length (play.cell.loop.conns c).held) (play.unread c)
      else size_move (desk_of_setting s) handler_rules memory s.budget play c (play.cell.loop.conns c).held (play.admitted c))
      else None

  -- a reply is left
  pub moves_to_write : is_open play.cell.loop c ≡ true → is_empty (play.cell.loop.conns c).left ≡ false
      → conn_move (desk_of_setting s) handler_rules memory s.budget c play ≡ write_move (desk_of_setting s) handler_rules play c (play.cell.loop.conns c).left (play.rules c)
  moves_to_write opened left =
      λ i. by_tests (opened i) (left i) (nat_lt (play.cell.loop.conns c).submitted (length (play.cell.loop.conns c).payloads))
      (nat_lt (play.cell.loop.conns c).collected (play.cell.loop.conns c).submitted) (nat_lt (length (play.cell.loop.conns c).held) 4)

  -- a payload is whole that isn't submitted
  pub moves_to_submit : is_open play.cell.loop c ≡ true → (play.cell.loop.conns c).left ≡ [] → (play.cell.loop.conns c).submitted < length (play.cell.loop.conns c).payloads
      → conn_move (desk_of_setting s) handler_rules memory s.budget c play ≡ told_in (desk_of_setting s) handler_rules play (goes (submits c))
  moves_to_submit opened left whole =
      let none : is_empty (play.cell.loop.conns c).left ≡ true = none_there (play.cell.loop.conns c).left left in
      let test : nat_lt (play.cell.loop.conns c).submitted (length (play.cell.loop.conns c).payloads) ≡ true =
      lt-ltb (play.cell.loop.conns c).submitted (length (play.cell.loop.conns c).payloads) whole in
      λ i. by_tests (opened i) (none i) (test i) (nat_lt (play.cell.loop.conns c).collected (play.cell.loop.conns c).submitted) (nat_lt (length (play.cell.loop.conns c).held) 4)

  -- nothing is owed: a size is read, or what is behind one
  module _ (opened : is_open play.cell.loop c ≡ true) (left : (play.cell.loop.conns c).left ≡ []) (submitted : (play.cell.loop.conns c).submitted ≡ length (play.cell.loop.conns c).payloads)
      (collected : (play.cell.loop.conns c).collected ≡ length (play.cell.loop.conns c).payloads) where
    goes_on : (short : Bool) → nat_lt (length (play.cell.loop.conns c).held) 4 ≡ short
        → conn_move (desk_of_setting s) handler_rules memory s.budget c play ≡ by_tests true true false false short
    goes_on short test =
        let none : is_empty (play.cell.loop.conns c).left ≡ true = none_there (play.cell.loop.conns c).left left in
        let whole : nat_lt (play.cell.loop.conns c).submitted (length (play.cell.loop.conns c).payloads) ≡ false =
        le-ltb (play.cell.loop.conns c).submitted (length (play.cell.loop.conns c).payloads) (omega arith) in
        let asked : nat_lt (play.cell.loop.conns c).collected (play.cell.loop.conns c).submitted ≡ false =
        le-ltb (play.cell.loop.conns c).collected (play.cell.loop.conns c).submitted (omega arith) in
        λ i. by_tests (opened i) (none i) (whole i) (asked i) (test i)

    pub moves_to_read : length (play.cell.loop.conns c).held < 4 → conn_move (desk_of_setting s) handler_rules memory s.budget c play
        ≡ read_move (desk_of_setting s) handler_rules play c (4 - length (play.cell.loop.conns c).held) (play.unread c)
    moves_to_read l = goes_on true (lt-ltb (length (play.cell.loop.conns c).held) 4 l)

    pub moves_to_size : 4 ≤ length (play.cell.loop.conns c).held → conn_move (desk_of_setting s) handler_rules memory s.budget c play
        ≡ size_move (desk_of_setting s) handler_rules memory s.budget play c (play.cell.loop.conns c).held (play.admitted c)
    moves_to_size l = goes_on false (le-ltb (length (play.cell.loop.conns c).held) 4 l)

-- a test that holds, and then what follows it
pub when_so : {X : Type 0} (b : Bool) (o : Option X) → b ≡ true → when b o ≡ o
when_so b o e = ap (λ k. when k o) e

-- an event of a connection that is open
module _ (s : CellSetting) (c : ℕ) (play : ServedPlay) (opened : is_open play.cell.loop c ≡ true) where
  pub happened : (event : ConnEvent) (conn : LoopConn) (marks : List Mark)
      → conn_event_plain s.desk.max_frame play.cell.loop event ≡ Some (changed play.cell.loop c conn marks)
      → on_one (desk_of_setting s) handler_rules play c event ≡ Some (after_one c conn marks play)
  happened event conn marks e =
      ap (λ o. option_map (freed_if_over c) (option_map (λ cell. record play { cell = cell; moves = suc play.moves }) (with_loop play.cell o))) e

  -- its input ends
  pub ends_so : owes_nothing (play.cell.loop.conns c) ≡ true → on_one (desk_of_setting s) handler_rules play c (ends c)
      ≡ Some (after_one c (with_cause (play.cell.loop.conns c) (end_behind (play.cell.loop.conns c).held)) (Ended c ∷ Closed c ∷ []) play)
  ends_so owes =
      happened (ends c) (with_cause (play.cell.loop.conns c) (end_behind (play.cell.loop.conns c).held)) (Ended c ∷ Closed c ∷ [])
      (when_so (is_open play.cell.loop c) (moved_plain play.cell.loop c (ends_plain c (play.cell.loop.conns c))) opened
      ∙ ap (λ b. moved_plain play.cell.loop c (when b (Some (with_cause (play.cell.loop.conns c) (end_behind (play.cell.loop.conns c).held), Ended c ∷ Closed c ∷ [])))) owes)

  -- a read of it fails
  pub fails_so : owes_nothing (play.cell.loop.conns c) ≡ true → on_one (desk_of_setting s) handler_rules play c (fails_read c)
      ≡ Some (after_one c (with_cause (play.cell.loop.conns c) ReadFault) (ReadFailed c ∷ Closed c ∷ []) play)
  fails_so owes =
      happened (fails_read c) (with_cause (play.cell.loop.conns c) ReadFault) (ReadFailed c ∷ Closed c ∷ [])
      (when_so (is_open play.cell.loop c) (moved_plain play.cell.loop c (fails_read_plain c (play.cell.loop.conns c))) opened
      ∙ ap (λ b. moved_plain play.cell.loop c (when b (Some (with_cause (play.cell.loop.conns c) ReadFault, ReadFailed c ∷ Closed c ∷ [])))) owes)

  -- so many bytes of its reply are written
  pub writes_so : (count : ℕ) → 1 ≤ count → count ≤ length (play.cell.loop.conns c).left → on_one (desk_of_setting s) handler_rules play c (writes c count)
      ≡ Some (after_one c (record (play.cell.loop.conns c) { left = drop count (play.cell.loop.conns c).left }) (Wrote c (take count (play.cell.loop.conns c).left) ∷ []) play)
  writes_so count some within =
      happened (writes c count) (record (play.cell.loop.conns c) { left = drop count (play.cell.loop.conns c).left }) (Wrote c (take count (play.cell.loop.conns c).left) ∷ [])
      (when_so (is_open play.cell.loop c) (moved_plain play.cell.loop c (writes_plain c count (play.cell.loop.conns c))) opened
      ∙ ap
      (λ b.
      moved_plain play.cell.loop c
      (when b (Some (record (play.cell.loop.conns c) { left = drop count (play.cell.loop.conns c).left }, Wrote c (take count (play.cell.loop.conns c).left) ∷ []))))
      (and_from (nat_le 1 count) (nat_le count (length (play.cell.loop.conns c).left)) (le-leb 1 count some) (le-leb count (length (play.cell.loop.conns c).left) within)))

  -- a write of it fails
  pub fails_write_so : is_empty (play.cell.loop.conns c).left ≡ false → on_one (desk_of_setting s) handler_rules play c (fails_write c)
      ≡ Some (after_one c (with_cause (play.cell.loop.conns c) WriteFault) (WriteFailed c ∷ Closed c ∷ []) play)
  fails_write_so left =
      happened (fails_write c) (with_cause (play.cell.loop.conns c) WriteFault) (WriteFailed c ∷ Closed c ∷ [])
      (when_so (is_open play.cell.loop c) (moved_plain play.cell.loop c (fails_write_plain c (play.cell.loop.conns c))) opened
      ∙ ap (λ b. moved_plain play.cell.loop c (when (not b) (Some (with_cause (play.cell.loop.conns c) WriteFault, WriteFailed c ∷ Closed c ∷ [])))) left)

  -- bytes of it are read, which make this with those held
  pub reads_so : (bytes : List ℕ) (progress : FrameProgress) → owes_nothing (play.cell.loop.conns c) ≡ true → is_empty bytes ≡ false
      → stays_in_size (play.cell.loop.conns c).held bytes ≡ true → progress_by s.desk.max_frame ((play.cell.loop.conns c).held ++ bytes) ≡ Some progress
      → on_one (desk_of_setting s) handler_rules play c (reads c bytes)
      ≡ Some (after_one c (read_more (play.cell.loop.conns c) bytes progress) (marks_read c bytes progress) play)
  reads_so bytes progress owes some stays made =
      happened (reads c bytes) (read_more (play.cell.loop.conns c) bytes progress) (marks_read c bytes progress)
      (when_so (is_open play.cell.loop c) (moved_plain play.cell.loop c (reads_plain s.desk.max_frame c bytes (play.cell.loop.conns c))) opened
      ∙ (λ i. moved_plain play.cell.loop c (when (owes i && (not (some i) && stays i)) (progress_plain c (play.cell.loop.conns c) bytes (made i)))))
