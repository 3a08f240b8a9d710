-- What a read is, on both sides: it ends the connection, makes its payload whole, or goes on.
use Rattle.std.proofs.Common.{◌≡◌, ℕ, ℤ, ◌+◌, ◌-◌, ◌<◌, ◌≤◌, Bool, true, false, nat_lt, nat_le, min, if◌then◌else◌, Option, None, Some, IsSome, List, [], ◌∷◌, ◌++◌, length, take, drop, slice_get, slice_index_or, slice_set, option_map, refl, sym, ap, ◌∙◌, subst, arith, length-append}
use Rattle.std.specs.Int.{w32, to_be_bytes}
use Rattle.std.proofs.lemmas.Bool.{false≢true, lt-ltb, le-ltb, le-leb}
use Rattle.std.proofs.lemmas.Option.{none-some, same_Some}
use Rattle.std.proofs.lemmas.List.{length-take-le}
use Rattle.streams.specs.declared.marks.Mark.TheVariants.{Read, Closed}
use Rattle.host_model.specs.declared.cause.EndCause.{EndCause}
use Rattle.host_model.specs.declared.cause.EndCause.TheVariants.{SizeFault}
use Rattle.call_rules.specs.Handling.{handler_rules}
use Rattle.conn_state.specs.Phase.{Phase, ConnView, sizing, held, framing, ready, waiting, writing, ended, missing, wanted, cause_of, IsReading, IsReady}
use Rattle.conn_state.specs.Run.{EachIsByte}
use Rattle.conn_state.specs.Step.{after_took}
use Rattle.conn_table.specs.declared.places.Slot.{Slot}
use Rattle.conn_table.specs.Slots.{slot_in}
use Rattle.conn_table.specs.Table.{TableView, slot_of, with_state, HasItsSize}
use Rattle.machine_model.specs.Loop.{LoopConn, FrameProgress, part, bad_size, whole, read_more, marks_read, reads as happens_read}
use Rattle.machine_model.specs.Plain.{progress_by, stays_in_size}
use Rattle.script_model.specs.Playing.{ample, pieces_left, with_unread, read_move, on_one}
use Rattle.cell_loop.specs.declared.feed.Feed.{Feed}
use Rattle.cell_loop.specs.declared.loop_part.CellStage.{CellStage}
use Rattle.cell_loop.specs.declared.loop_part.CellStage.TheVariants.{Lean, Whole, Over}
use Rattle.cell_loop.specs.declared.loop_part.LoopPart.{LoopPart}
use Rattle.cell_loop.specs.Settings.{CellSetting, ServedPlay, desk_of_setting}
use Rattle.cell_loop.specs.Moving.{ComesTo, one_of_conn}
use Rattle.cell_loop.specs.Feeds.{lent_pieces, unread_of, unread_in, finish_in, rules_in, front_in, later_in, HasFeed}
use Rattle.conn_refinement.specs.Phases.{PhaseTells, IsOpenTied, IsFraming, IsLean}
use Rattle.cell_loop.specs.LoopTied.{CellStageTells, IsReadingAt, IsLoopTied}
use Rattle.conn_refinement.specs.Tables.{IsSameBut}
use Rattle.cell_loop.specs.Closing.{HasStand}
use Rattle.cell_loop.specs.LoopMoves.{LoopMoves, HasLongest}
use Rattle.cell_loop.proofs.Tying.{in_table, size_now, stand_set, stand_same}
use Rattle.conn_refinement.proofs.Tables.{stated, state_found, state_but}
use Rattle.cell_loop.proofs.Becoming.{after_one, ended_tied, open_tied, pieces_passed}
use Rattle.cell_loop.proofs.OneMove.{done_at, some_counted, reads_so}
use Rattle.conn_refinement.specs.Progress.{GoesOnFrom, MakesPhase}
use Rattle.conn_refinement.proofs.Taking.{took_is_read}
use Rattle.cell_loop.proofs.ReadingOn.{StandsReading, Reading, reading, is_going, is_owing_nothing, reads_on}
use Rattle.call_rules.specs.Desks.{longest_payload}

-- a piece under way is in front of the others
pub unread_front : (feeds : List Feed) (c : ℕ) → 0 < length (front_in feeds c) → unread_in feeds c ≡ front_in feeds c ∷ later_in feeds c
unread_front feeds c some = go (slice_get feeds c) some
  where
    piece : (front : List ℕ) (later : List (List ℕ)) → 0 < length front → pieces_left front later ≡ front ∷ later
    piece [] later l = absurd (let f : ⊥ = omega arith in f)
    piece (x ∷ xs) later l = refl

    front_got : Option Feed → List ℕ
    front_got o = elim o [ None ↦ [] | Some feed ↦ feed.front.now ]

    unread_got : Option Feed → List (List ℕ)
    unread_got o = elim o [ None ↦ [] | Some feed ↦ unread_of feed ]

    later_got : Option Feed → List (List ℕ)
    later_got o = elim o [ None ↦ [] | Some feed ↦ lent_pieces feed.later.items ]

    go : (o : Option Feed) → 0 < length (front_got o) → unread_got o ≡ front_got o ∷ later_got o
    go None l = absurd (let f : ⊥ = omega arith in f)
    go (Some feed) l = piece feed.front.now (lent_pieces feed.later.items) l

-- what is asked for is something
asks_some : (phase : Phase) (max : ℕ) (conn : LoopConn) → IsReading phase → PhaseTells max phase conn → 0 < wanted phase
asks_some (sizing bytes) max conn reads tells = let l : length bytes < 4 = tells.2 in omega arith
asks_some (framing size bytes) max conn reads tells = let l : length bytes < size = tells.2 in omega arith
asks_some (held n) max conn reads tells = absurd reads
asks_some (ready n bytes) max conn reads tells = absurd reads
asks_some (waiting n) max conn reads tells = absurd reads
asks_some (writing left) max conn reads tells = absurd reads
asks_some (ended cause) max conn reads tells = absurd reads

-- no bytes behind a size are read with it
stays_within : (phase : Phase) (max : ℕ) (conn : LoopConn) (bytes : List ℕ) → IsReading phase → PhaseTells max phase conn → length bytes ≤ wanted phase → stays_in_size conn.held bytes ≡ true
stays_within (sizing front) max conn bytes reads tells most =
    let same : length conn.held ≡ length front = ap length tells.1 in
    let l : length front < 4 = tells.2 in
    let asked : length bytes ≤ min (4 - length front) 65536 = most in
    ap (λ b. if b then nat_le (length conn.held + length bytes) 4 else true) (lt-ltb (length conn.held) 4 (omega arith)) ∙ le-leb (length conn.held + length bytes) 4 (omega arith)
stays_within (framing size front) max conn bytes reads tells most =
    let same : length conn.held ≡ 4 + length front = ap length tells.1 ∙ length-append (to_be_bytes w32 size) front in
    ap (λ b. if b then nat_le (length conn.held + length bytes) 4 else true) (le-ltb (length conn.held) 4 (omega arith))
stays_within (held n) max conn bytes reads tells most = absurd reads
stays_within (ready n payload) max conn bytes reads tells most = absurd reads
stays_within (waiting n) max conn bytes reads tells most = absurd reads
stays_within (writing left) max conn bytes reads tells most = absurd reads
stays_within (ended cause) max conn bytes reads tells most = absurd reads

-- Connection c reads these bytes: as many as are asked for of the piece under way, as far as it goes.
pub record TakesIn (c max : ℕ) (old : LoopPart) (bytes : List ℕ) : Type 0 where
  pub reads : IsReadingAt c old
  pub has : HasItsSize (slot_of c old.table.slots).conn.phase (slot_of c old.table.slots).size
  pub some : 0 < length (front_in old.feeds.items c)
  pub small : max ≤ longest_payload
  pub is : bytes ≡ take (min (wanted (slot_of c old.table.slots).conn.phase) (length (front_in old.feeds.items c))) (front_in old.feeds.items c)
  pub are : EachIsByte bytes

-- the feeds then
abbrev pub IsPassed : ℕ → List ℕ → List Feed → List Feed → Type 0
IsPassed c bytes old new = HasFeed c (pieces_left (drop (length bytes) (front_in old c)) (later_in old c)) (finish_in old c) (rules_in old c) old new

module _ (c max : ℕ) (old : LoopPart) (bytes : List ℕ) (takes : TakesIn c max old bytes) where
  -- how many bytes are read
  counted : length bytes ≡ min (wanted (slot_of c old.table.slots).conn.phase) (length (front_in old.feeds.items c))
  counted =
      ap length takes.is
      ∙ length-take-le (min (wanted (slot_of c old.table.slots).conn.phase) (length (front_in old.feeds.items c))) (front_in old.feeds.items c) (omega arith)

  -- the state of the connection then
  abbrev view_then : ConnView
  view_then = after_took max (slot_of c old.table.slots).conn bytes

  module _ (s : CellSetting) (play : ServedPlay) (longest : HasLongest max s) (t : IsLoopTied s old play) where
    here : Reading s c old play
    here = reading s c old play t takes.reads

    -- what is left of the pieces
    abbrev left_then : List (List ℕ)
    left_then = pieces_left (drop (length bytes) (front_in old.feeds.items c)) (later_in old.feeds.items c)

    abbrev next_by : FrameProgress → ServedPlay
    next_by progress = with_unread c left_then (after_one c (read_more (play.cell.loop.conns c) bytes progress) (marks_read c bytes progress) play)

    -- the move is this read
    comes : (progress : FrameProgress) → progress_by max ((play.cell.loop.conns c).held ++ bytes) ≡ Some progress → ComesTo (one_of_conn s c) play (next_by progress)
    comes progress made =
        done_at (one_of_conn s c) play (next_by progress) ample refl
        (λ passes enough memory e.
        reads_on s c old play here memory takes.has
        ∙ ap (read_move (desk_of_setting s) handler_rules play c (missing (slot_of c old.table.slots).conn.phase)) (t.unread c ∙ unread_front old.feeds.items c takes.some)
        ∙ (λ i. option_map (with_unread c (pieces_left (drop (sym counted i) (front_in old.feeds.items c)) (later_in old.feeds.items c)))
        (on_one (desk_of_setting s) handler_rules play c (happens_read c (sym takes.is i))))
        ∙ ap (option_map (with_unread c left_then))
        (reads_so s c play (is_going s c old play here) bytes progress (is_owing_nothing s c old play here) (some_counted bytes (omega (arith, counted, takes.some, asked)))
        (stays_within (slot_of c old.table.slots).conn.phase s.desk.max_frame (play.cell.loop.conns c) bytes takes.reads.2 here.tied.tells (omega (arith, counted)))
        (subst (λ m. progress_by m ((play.cell.loop.conns c).held ++ bytes) ≡ Some progress) (sym longest) made)))
      where
        asked : 0 < wanted (slot_of c old.table.slots).conn.phase
        asked = asks_some (slot_of c old.table.slots).conn.phase s.desk.max_frame (play.cell.loop.conns c) takes.reads.2 here.tied.tells

    -- what is made is the same on both sides
    made : MakesPhase max (play.cell.loop.conns c) bytes (slot_of c old.table.slots).conn.phase view_then.frames view_then.phase
    made =
        took_is_read max (slot_of c old.table.slots).conn (play.cell.loop.conns c) bytes takes.small takes.reads.2
        (subst (λ m. IsOpenTied m (slot_of c old.table.slots).conn (play.cell.loop.conns c)) longest here.tied) (omega (arith, counted)) takes.are

    -- the pieces are passed in a part of which nothing else has changed
    passed : (new : LoopPart) → IsPassed c bytes old.feeds.items new.feeds.items → IsLoopTied s (record old { feeds = new.feeds }) (with_unread c left_then play)
    passed new fed = pieces_passed s c old (record old { feeds = new.feeds }) play t refl refl refl left_then fed

-- what was made of bytes, by the phase after them
part_of : (max : ℕ) (conn : LoopConn) (bytes : List ℕ) (old : Phase) (frames : ℕ) (phase : Phase) → cause_of phase ≡ None → (IsReady phase → ⊥) → MakesPhase max conn bytes old frames phase
    → GoesOnFrom old phase × (progress_by max (conn.held ++ bytes) ≡ Some part) × IsOpenTied max (record { frames = frames; phase = phase }) (read_more conn bytes part)
part_of max conn bytes old frames (sizing front) none not_ready m = m
part_of max conn bytes old frames (held n) none not_ready m = m
part_of max conn bytes old frames (framing n front) none not_ready m = m
part_of max conn bytes old frames (ready n payload) none not_ready m = absurd (not_ready tt)
part_of max conn bytes old frames (waiting n) none not_ready m = m
part_of max conn bytes old frames (writing left) none not_ready m = m
part_of max conn bytes old frames (ended cause) none not_ready m = absurd (none-some cause (sym none))

whole_of : (max : ℕ) (conn : LoopConn) (bytes : List ℕ) (old : Phase) (frames : ℕ) (phase : Phase) → IsReady phase → MakesPhase max conn bytes old frames phase
    → (payload : List ℕ) × IsFraming old × (progress_by max (conn.held ++ bytes) ≡ Some (whole payload))
    × IsOpenTied max (record { frames = frames; phase = phase }) (read_more conn bytes (whole payload))
whole_of max conn bytes old frames (ready n payload) is m = (payload, m.0, m.1, m.2)
whole_of max conn bytes old frames (sizing front) is m = absurd is
whole_of max conn bytes old frames (held n) is m = absurd is
whole_of max conn bytes old frames (framing n front) is m = absurd is
whole_of max conn bytes old frames (waiting n) is m = absurd is
whole_of max conn bytes old frames (writing left) is m = absurd is
whole_of max conn bytes old frames (ended cause) is m = absurd is

over_of : (max : ℕ) (conn : LoopConn) (bytes : List ℕ) (old : Phase) (frames : ℕ) (phase : Phase) (cause : EndCause) → cause_of phase ≡ Some cause → MakesPhase max conn bytes old frames phase
    → (z : ℤ) × (cause ≡ SizeFault z) × (progress_by max (conn.held ++ bytes) ≡ Some (bad_size z))
over_of max conn bytes old frames (ended x) cause is m = (m.0, sym (same_Some x cause is) ∙ m.2, m.3)
over_of max conn bytes old frames (sizing front) cause is m = absurd (none-some cause is)
over_of max conn bytes old frames (held n) cause is m = absurd (none-some cause is)
over_of max conn bytes old frames (framing n front) cause is m = absurd (none-some cause is)
over_of max conn bytes old frames (ready n payload) cause is m = absurd (none-some cause is)
over_of max conn bytes old frames (waiting n) cause is m = absurd (none-some cause is)
over_of max conn bytes old frames (writing left) cause is m = absurd (none-some cause is)

-- a connection of which the frame goes on stands as it did
stays_standing : (max c : ℕ) (table : TableView) (phase : Phase) (slot : Slot) (conn : LoopConn) (admitted : Option ℕ) (stage : CellStage) → slot_in c table.slots ≡ Some slot
    → StandsReading phase slot.size admitted stage → GoesOnFrom phase slot.conn.phase → IsOpenTied max slot.conn conn → CellStageTells max table c conn admitted stage
stays_standing max c table (sizing front) slot conn admitted stage found stages goes tied =
    subst (CellStageTells max table c conn admitted) (sym stages.0) (in_table max IsLean table c slot conn found goes tied, size_now table c slot found ∙ stages.1, stages.2)
stays_standing max c table (framing n front) slot conn admitted stage found stages goes tied =
    subst (CellStageTells max table c conn admitted) (sym stages.0) (
      in_table max IsFraming table c slot conn found goes tied,
      (subst (λ o. IsSome o) (sym (size_now table c slot found)) stages.1, stages.2 ∙ sym (size_now table c slot found)),
    )
stays_standing max c table (held n) slot conn admitted stage found stages goes tied = absurd stages
stays_standing max c table (ready n payload) slot conn admitted stage found stages goes tied = absurd stages
stays_standing max c table (waiting n) slot conn admitted stage found stages goes tied = absurd stages
stays_standing max c table (writing left) slot conn admitted stage found stages goes tied = absurd stages
stays_standing max c table (ended cause) slot conn admitted stage found stages goes tied = absurd stages

-- one whose payload was read has its size
framed_size : (phase : Phase) (size admitted : Option ℕ) (stage : CellStage) → IsFraming phase → StandsReading phase size admitted stage → IsSome size × (admitted ≡ size)
framed_size (framing n front) size admitted stage framed stages = (stages.1, stages.2)
framed_size (sizing front) size admitted stage framed stages = absurd framed
framed_size (held n) size admitted stage framed stages = absurd framed
framed_size (ready n payload) size admitted stage framed stages = absurd framed
framed_size (waiting n) size admitted stage framed stages = absurd framed
framed_size (writing left) size admitted stage framed stages = absurd framed
framed_size (ended cause) size admitted stage framed stages = absurd framed

-- one that ends by its bytes has none
lean_size : (max frames : ℕ) (phase : Phase) (bytes : List ℕ) (size admitted : Option ℕ) (stage : CellStage) → StandsReading phase size admitted stage
    → IsSome (cause_of (after_took max (record { frames = frames; phase = phase }) bytes).phase) → size ≡ None
lean_size max frames (sizing front) bytes size admitted stage stages over = stages.1
lean_size max frames (framing n front) bytes size admitted stage stages over = absurd (go (nat_lt (length (front ++ bytes)) n) over)
  where
    view_by : Bool → ConnView
    view_by b = if b then record { frames = frames; phase = framing n (front ++ bytes) } else record { frames = frames + 1; phase = ready frames (front ++ bytes) }

    go : (b : Bool) → IsSome (cause_of (view_by b).phase) → ⊥
    go true h = false≢true h
    go false h = false≢true h
lean_size max frames (held n) bytes size admitted stage stages over = absurd stages
lean_size max frames (ready n payload) bytes size admitted stage stages over = absurd stages
lean_size max frames (waiting n) bytes size admitted stage stages over = absurd stages
lean_size max frames (writing left) bytes size admitted stage stages over = absurd stages
lean_size max frames (ended cause) bytes size admitted stage stages over = absurd stages

pub over_size : (s : CellSetting) (c max : ℕ) (old : LoopPart) (play : ServedPlay) (bytes : List ℕ) → IsLoopTied s old play → IsReadingAt c old
    → IsSome (cause_of (after_took max (slot_of c old.table.slots).conn bytes).phase) → (slot_of c old.table.slots).size ≡ None
over_size s c max old play bytes t reads over =
    lean_size max (slot_of c old.table.slots).conn.frames (slot_of c old.table.slots).conn.phase bytes (slot_of c old.table.slots).size (play.admitted c)
    (slice_index_or old.stages.items c Lean) (reading s c old play t reads).stages over

-- the three ends of a read
module _ (c max : ℕ) (old new : LoopPart) (bytes : List ℕ) (takes : TakesIn c max old bytes) (fed : IsPassed c bytes old.feeds.items new.feeds.items) where
  abbrev view_now : ConnView
  view_now = after_took max (slot_of c old.table.slots).conn bytes

  -- the frame goes on
  pub reads_part : new.table ≡ record old.table { slots = with_state c view_now old.table.slots } → new.stages.items ≡ old.stages.items
      → new.tape.items ≡ old.tape.items ++ Read c bytes ∷ [] → cause_of view_now.phase ≡ None → (IsReady view_now.phase → ⊥)
      → LoopMoves (HasLongest max) (λ s. one_of_conn s c) old true new
  reads_part table stages tape none not_ready = λ s play longest t.
      let r : Reading s c old play = reading s c old play t takes.reads in
      let m : GoesOnFrom (slot_of c old.table.slots).conn.phase view_now.phase × (progress_by max ((play.cell.loop.conns c).held ++ bytes) ≡ Some part)
      × IsOpenTied max view_now (read_more (play.cell.loop.conns c) bytes part) =
      part_of max (play.cell.loop.conns c) bytes (slot_of c old.table.slots).conn.phase view_now.frames view_now.phase none not_ready (made c max old bytes takes s play longest t) in
      let tied : IsOpenTied s.desk.max_frame view_now (read_more (play.cell.loop.conns c) bytes part) =
      subst (λ n. IsOpenTied n view_now (read_more (play.cell.loop.conns c) bytes part)) (sym longest) m.2 in
      let now : IsLoopTied s new (next_by c max old bytes takes s play longest t part) =
      open_tied s c (record old { feeds = new.feeds }) new (with_unread c (left_then c max old bytes takes s play longest t) play) (read_more (play.cell.loop.conns c) bytes part)
      (slice_index_or old.stages.items c Lean) (Read c bytes ∷ []) (passed c max old bytes takes s play longest t new fed) takes.reads.0 tied.going
      (state_but c view_now old.table new.table takes.reads.1 table)
      (subst (λ k. HasStand c (slice_index_or old.stages.items c Lean) old.stages.items k) (sym stages) (stand_same old.stages.items c (slice_index_or old.stages.items c Lean) refl))
      tape refl
      (stays_standing s.desk.max_frame c new.table (slot_of c old.table.slots).conn.phase (stated c view_now old.table.slots) (read_more (play.cell.loop.conns c) bytes part) (play.admitted c)
      (slice_index_or old.stages.items c Lean) (state_found c view_now old.table new.table takes.reads.1 table) r.stages m.0 tied) in
      (next_by c max old bytes takes s play longest t part, comes c max old bytes takes s play longest t part m.1, (now, (refl, refl)))

  -- its payload is whole
  pub reads_whole : new.table ≡ record old.table { slots = with_state c view_now old.table.slots } → new.stages.items ≡ slice_set old.stages.items c Whole
      → new.tape.items ≡ old.tape.items ++ Read c bytes ∷ [] → IsReady view_now.phase → LoopMoves (HasLongest max) (λ s. one_of_conn s c) old true new
  reads_whole table stages tape is_ready = λ s play longest t.
      let r : Reading s c old play = reading s c old play t takes.reads in
      let m : (payload : List ℕ) × IsFraming (slot_of c old.table.slots).conn.phase × (progress_by max ((play.cell.loop.conns c).held ++ bytes) ≡ Some (whole payload))
      × IsOpenTied max view_now (read_more (play.cell.loop.conns c) bytes (whole payload)) =
      whole_of max (play.cell.loop.conns c) bytes (slot_of c old.table.slots).conn.phase view_now.frames view_now.phase is_ready (made c max old bytes takes s play longest t) in
      let conn : LoopConn = read_more (play.cell.loop.conns c) bytes (whole m.0) in
      let tied : IsOpenTied s.desk.max_frame view_now (read_more (play.cell.loop.conns c) bytes (whole m.0)) =
      subst (λ n. IsOpenTied n view_now (read_more (play.cell.loop.conns c) bytes (whole m.0))) (sym longest) m.3 in
      let size : IsSome (slot_of c old.table.slots).size × (play.admitted c ≡ (slot_of c old.table.slots).size) =
      framed_size (slot_of c old.table.slots).conn.phase (slot_of c old.table.slots).size (play.admitted c) (slice_index_or old.stages.items c Lean) m.1 r.stages in
      let found : slot_in c new.table.slots ≡ Some (stated c view_now old.table.slots) = state_found c view_now old.table new.table takes.reads.1 table in
      let same : (slot_of c new.table.slots).size ≡ (slot_of c old.table.slots).size = size_now new.table c (stated c view_now old.table.slots) found in
      let now : IsLoopTied s new (next_by c max old bytes takes s play longest t (whole m.0)) =
      open_tied s c (record old { feeds = new.feeds }) new (with_unread c (left_then c max old bytes takes s play longest t) play) (read_more (play.cell.loop.conns c) bytes (whole m.0))
      Whole (Read c bytes ∷ []) (passed c max old bytes takes s play longest t new fed) takes.reads.0 tied.going
      (state_but c view_now old.table new.table takes.reads.1 table)
      (subst (λ k. HasStand c Whole old.stages.items k) (sym stages) (stand_set old.stages.items c Whole takes.reads.0)) tape refl (
        in_table s.desk.max_frame IsReady new.table c (stated c view_now old.table.slots) (read_more (play.cell.loop.conns c) bytes (whole m.0)) found is_ready tied,
        (subst (λ o. IsSome o) (sym same) size.0, size.1 ∙ sym same),
      ) in
      (next_by c max old bytes takes s play longest t (whole m.0), comes c max old bytes takes s play longest t (whole m.0) m.2, (now, (refl, refl)))

  -- its size is one that no frame has
  pub reads_over : (cause : EndCause) → IsSameBut c old.table new.table → slot_in c new.table.slots ≡ None → new.stages.items ≡ slice_set old.stages.items c (Over cause)
      → new.tape.items ≡ old.tape.items ++ Read c bytes ∷ Closed c ∷ [] → cause_of view_now.phase ≡ Some cause
      → LoopMoves (HasLongest max) (λ s. one_of_conn s c) old true new
  reads_over cause table gone stages tape is = λ s play longest t.
      let m : (z : ℤ) × (cause ≡ SizeFault z) × (progress_by max ((play.cell.loop.conns c).held ++ bytes) ≡ Some (bad_size z)) =
      over_of max (play.cell.loop.conns c) bytes (slot_of c old.table.slots).conn.phase view_now.frames view_now.phase cause is (made c max old bytes takes s play longest t) in
      let now : IsLoopTied s new (next_by c max old bytes takes s play longest t (bad_size m.0)) =
      ended_tied s c (record old { feeds = new.feeds }) new (with_unread c (left_then c max old bytes takes s play longest t) play) (read_more (play.cell.loop.conns c) bytes (bad_size m.0))
      cause (Read c bytes ∷ Closed c ∷ []) (passed c max old bytes takes s play longest t new fed) takes.reads.0 (ap Some (sym m.1)) table gone stages tape refl in
      (next_by c max old bytes takes s play longest t (bad_size m.0), comes c max old bytes takes s play longest t (bad_size m.0) m.2, (now, (refl, refl)))

-- where something is left of a piece, and the connection reads on, a byte is read
pub takes_some : (s : CellSetting) (c : ℕ) (old : LoopPart) (play : ServedPlay) (bytes : List ℕ) → IsLoopTied s old play → IsReadingAt c old → 0 < length (front_in old.feeds.items c)
    → bytes ≡ take (min (wanted (slot_of c old.table.slots).conn.phase) (length (front_in old.feeds.items c))) (front_in old.feeds.items c) → 0 < length bytes
takes_some s c old play bytes t reads_on some is =
    let asked : 0 < wanted (slot_of c old.table.slots).conn.phase =
    asks_some (slot_of c old.table.slots).conn.phase s.desk.max_frame (play.cell.loop.conns c) reads_on.2 (reading s c old play t reads_on).tied.tells in
    let same : length bytes ≡ min (wanted (slot_of c old.table.slots).conn.phase) (length (front_in old.feeds.items c)) = ap length is
    ∙ length-take-le (min (wanted (slot_of c old.table.slots).conn.phase) (length (front_in old.feeds.items c))) (front_in old.feeds.items c) (omega arith) in
    omega arith
