-- Bytes that were read were taken in: the loop goes on, whatever they make.
use Rattle.std.proofs.Common.{◌≡◌, ◌≢◌, ℕ, ℤ, ◌+◌, ◌-◌, ◌<◌, ◌≤◌, ◌^◌, None, Some, IsSome, List, [], ◌∷◌, ◌++◌, length, true, min, slice_index_or, refl, sym, ap, ◌∙◌, subst, append-nil, length-append, arith}
use Rattle.std.specs.Int.{w32, to_be_bytes}
use Rattle.std.proofs.lemmas.Option.{none-some, same_Some}
use Rattle.streams.specs.declared.marks.Mark.{Mark}
use Rattle.streams.specs.declared.marks.Mark.TheVariants.{Read, Closed}
use Rattle.streams.specs.Told.{told_with}
use Rattle.outside.specs.LinksState.{LinksState, ChangesOnly}
use Rattle.outside.specs.Closing.{Closes}
use Rattle.host_model.specs.declared.cause.EndCause.{EndCause}
use Rattle.host_model.specs.declared.cause.EndCause.TheVariants.{SizeFault, Stopped}
use Rattle.conn_state.specs.Phase.{Phase, ConnView, sizing, held, framing, ready, waiting, writing, ended, wanted, most_read, cause_of, IsReading, IsReady}
use Rattle.conn_state.specs.Run.{EachIsByte}
use Rattle.conn_state.specs.Step.{after_took}
use Rattle.conn_table.specs.Slots.{slot_in}
use Rattle.conn_table.specs.Table.{TableView, slot_of, with_state, HasItsSize}
use Rattle.conn_table.proofs.Sizing.{took_room}
use Rattle.machine_model.specs.Loop.{LoopConn, FrameProgress, part, bad_size, whole, IsProgress, StaysInSize, read_more, marks_read, changed, reads, Happens}
use Rattle.machine_model.specs.AtFronts.{begun_if_open, all_begun}
use Rattle.machine_model.specs.Merge.{handles}
use Rattle.conn_refinement.specs.Phases.{HasAllCollected, PhaseTells, IsOpenTied, IsFraming, IsLean}
use Rattle.conn_refinement.proofs.Tables.{but_then, state_there, state_is, state_size, state_but}
use Rattle.loop_conns.specs.declared.connections.ConnStage.{ConnStage}
use Rattle.loop_conns.specs.declared.connections.ConnStage.TheVariants.{Lean, Laden, Gone}
use Rattle.loop_conns.specs.declared.connections.LoopConnections.{LoopConnections}
use Rattle.conn_refinement.specs.Tables.{IsSameBut}
use Rattle.loop_conns.specs.Tied.{IsLaden, CauseShows, IsOpenOnLinks, StageTells, IsOrderly, AreTied, PhasesTell}
use Rattle.loop_conns.specs.Woven.{ServedAsk, missing_of, owed_by, LoopIsRunning}
use Rattle.loop_conns.specs.Ended.{IsNumbered, EndsConnection, MovesOnly}
use Rattle.loop_conns.specs.Going.{ReadsAt}
use Rattle.loop_conns.proofs.Ordering.{state_orderly}
use Rattle.loop_conns.proofs.Tying.{set_at, same_at, ChangesOne, changed_tied, changed_phases, told_twice}
use Rattle.loop_conns.proofs.Making.{GoesOnSo, MakesSo, makes_so, missing_is}
use Rattle.loop_conns.proofs.Standing.{Standing, standing, owes_nothing}
use Rattle.loop_conns.proofs.Owing.{begun_fits, owes_none, owes_outcome}
use Rattle.machine_model.specs.OwnCalls.{summed_calls}
use Rattle.machine_model.specs.OwnLoop.{refuses_job}
use Rattle.loop_conns.proofs.Going.{begun_less, change_goes}
use Rattle.call_rules.specs.Desks.{longest_payload}

-- What two moves of one connection leave is what both leave.
pub only_then : (c : ℕ) (old mid new : LinksState) → ChangesOnly c old mid → ChangesOnly c mid new → ChangesOnly c old new
only_then c old mid new a b =
    record {
      listens = b.listens ∙ a.listens;
      opened = b.opened ∙ a.opened;
      over = b.over ∙ a.over;
      rests = b.rests ∙ a.rests;
      net_faults = b.net_faults ∙ a.net_faults;
      is_open = λ x n. b.is_open x n ∙ a.is_open x n;
      left = λ x n. b.left x n ∙ a.left x n;
      arrived = λ x n. b.arrived x n ∙ a.arrived x n;
      faults = λ x n. b.faults x n ∙ a.faults x n;
    }

-- a connection that moved and was closed
pub closed_then : (c : ℕ) (marks : List Mark) (lent : List ℕ) (old mid new : LinksState) → MovesOnly c marks lent old mid → Closes c mid new → MovesOnly c (marks ++ Closed c ∷ []) lent old new
closed_then c marks lent old mid new m b =
    record {
      others = only_then c old mid new m.others b.others;
      tape = b.tape ∙ ap (λ o. told_with o (Closed c ∷ [])) m.tape ∙ told_twice old.tape marks (Closed c ∷ []);
      lengths = b.lengths ∙ m.lengths;
      faults = let f : new.faults c ≡ mid.faults c = b.faults in let g : old.faults c ≤ mid.faults c = m.faults in omega arith;
    }

-- what it makes by the phase after it
pub part_of : (max : ℕ) (conn : LoopConn) (bytes : List ℕ) (old : Phase) (frames : ℕ) (phase : Phase) → cause_of phase ≡ None → (IsReady phase → ⊥) → MakesSo max conn bytes old frames phase
    → GoesOnSo old phase × IsProgress max (conn.held ++ bytes) part × IsOpenTied max (record { frames = frames; phase = phase }) (read_more conn bytes part)
part_of max conn bytes old frames (sizing xs) none not_ready m = m
part_of max conn bytes old frames (held n) none not_ready m = m
part_of max conn bytes old frames (framing n xs) none not_ready m = m
part_of max conn bytes old frames (waiting n) none not_ready m = m
part_of max conn bytes old frames (writing xs) none not_ready m = m
part_of max conn bytes old frames (ready n payload) none not_ready m = absurd (not_ready tt)
part_of max conn bytes old frames (ended cause) none not_ready m = absurd (none-some cause (sym none))

pub whole_of : (max : ℕ) (conn : LoopConn) (bytes : List ℕ) (old : Phase) (frames : ℕ) (phase : Phase) → IsReady phase → MakesSo max conn bytes old frames phase
    → (payload : List ℕ) × IsFraming old × IsProgress max (conn.held ++ bytes) (whole payload) × IsOpenTied max (record { frames = frames; phase = phase }) (read_more conn bytes (whole payload))
whole_of max conn bytes old frames (ready n payload) is m = (payload, m.0, m.1, m.2)
whole_of max conn bytes old frames (sizing xs) is m = absurd is
whole_of max conn bytes old frames (held n) is m = absurd is
whole_of max conn bytes old frames (framing n xs) is m = absurd is
whole_of max conn bytes old frames (waiting n) is m = absurd is
whole_of max conn bytes old frames (writing xs) is m = absurd is
whole_of max conn bytes old frames (ended cause) is m = absurd is

pub over_of : (max : ℕ) (conn : LoopConn) (bytes : List ℕ) (old : Phase) (frames : ℕ) (phase : Phase) (cause : EndCause) → cause_of phase ≡ Some cause → MakesSo max conn bytes old frames phase
    → (z : ℤ) × (cause ≡ SizeFault z) × IsProgress max (conn.held ++ bytes) (bad_size z)
over_of max conn bytes old frames (ended given) cause is m = (m.0, sym (same_Some given cause is) ∙ m.2, m.3)
over_of max conn bytes old frames (sizing xs) cause is m = absurd (none-some cause is)
over_of max conn bytes old frames (held n) cause is m = absurd (none-some cause is)
over_of max conn bytes old frames (framing n xs) cause is m = absurd (none-some cause is)
over_of max conn bytes old frames (ready n payload) cause is m = absurd (none-some cause is)
over_of max conn bytes old frames (waiting n) cause is m = absurd (none-some cause is)
over_of max conn bytes old frames (writing xs) cause is m = absurd (none-some cause is)

-- the place stays, where the frame goes on
place_on : (first l0 l1 : LinksState) (t0 t1 : TableView) (c : ℕ) (conn now : LoopConn) (cause : EndCause) (place : ConnStage) (p0 p1 : Phase) → (slot_of c t0.slots).conn.phase ≡ p0
    → (slot_of c t1.slots).conn.phase ≡ p1 → (slot_of c t1.slots).size ≡ (slot_of c t0.slots).size → HasItsSize p1 (slot_of c t1.slots).size → GoesOnSo p0 p1
    → StageTells first l0 t0 c conn cause place → IsOpenOnLinks l1 t1 c now cause → (place ≡ Gone → ⊥) → StageTells first l1 t1 c now cause place
place_on first l0 l1 t0 t1 c conn now cause Lean (sizing xs) p1 is0 is1 size has goes h here n = (here, subst IsLean (sym is1) goes, size ∙ h.2)
place_on first l0 l1 t0 t1 c conn now cause Laden (framing m xs) p1 is0 is1 size has goes h here n =
    (here, subst IsLaden (sym is1) (framing_laden p1 goes), subst (λ p. HasItsSize p (slot_of c t1.slots).size) (sym is1) has)
  where
    framing_laden : (p : Phase) → IsFraming p → IsLaden p
    framing_laden (framing m xs) g = tt
    framing_laden (sizing xs) g = absurd g
    framing_laden (held m) g = absurd g
    framing_laden (ready m xs) g = absurd g
    framing_laden (waiting m) g = absurd g
    framing_laden (writing xs) g = absurd g
    framing_laden (ended k) g = absurd g
place_on first l0 l1 t0 t1 c conn now cause Laden (sizing xs) p1 is0 is1 size has goes h here n = absurd (subst IsLaden is0 h.1)
place_on first l0 l1 t0 t1 c conn now cause Lean (framing m xs) p1 is0 is1 size has goes h here n = absurd (subst IsLean is0 h.1)
place_on first l0 l1 t0 t1 c conn now cause Gone p0 p1 is0 is1 size has goes h here n = absurd (n refl)
place_on first l0 l1 t0 t1 c conn now cause Lean (held m) p1 is0 is1 size has goes h here n = absurd goes
place_on first l0 l1 t0 t1 c conn now cause Lean (ready m xs) p1 is0 is1 size has goes h here n = absurd goes
place_on first l0 l1 t0 t1 c conn now cause Lean (waiting m) p1 is0 is1 size has goes h here n = absurd goes
place_on first l0 l1 t0 t1 c conn now cause Lean (writing xs) p1 is0 is1 size has goes h here n = absurd goes
place_on first l0 l1 t0 t1 c conn now cause Lean (ended k) p1 is0 is1 size has goes h here n = absurd goes
place_on first l0 l1 t0 t1 c conn now cause Laden (held m) p1 is0 is1 size has goes h here n = absurd goes
place_on first l0 l1 t0 t1 c conn now cause Laden (ready m xs) p1 is0 is1 size has goes h here n = absurd goes
place_on first l0 l1 t0 t1 c conn now cause Laden (waiting m) p1 is0 is1 size has goes h here n = absurd goes
place_on first l0 l1 t0 t1 c conn now cause Laden (writing xs) p1 is0 is1 size has goes h here n = absurd goes
place_on first l0 l1 t0 t1 c conn now cause Laden (ended k) p1 is0 is1 size has goes h here n = absurd goes

-- a payload that has become whole is at a place with a size
place_whole : (first l0 l1 : LinksState) (t0 t1 : TableView) (c : ℕ) (conn now : LoopConn) (cause : EndCause) (place : ConnStage) (p0 p1 : Phase) → (slot_of c t0.slots).conn.phase ≡ p0
    → (slot_of c t1.slots).conn.phase ≡ p1 → HasItsSize p1 (slot_of c t1.slots).size → IsFraming p0 → IsReady p1
    → StageTells first l0 t0 c conn cause place → IsOpenOnLinks l1 t1 c now cause → (place ≡ Gone → ⊥) → StageTells first l1 t1 c now cause place
place_whole first l0 l1 t0 t1 c conn now cause Laden p0 (ready m xs) is0 is1 has framed is_ready h here n =
    (here, subst IsLaden (sym is1) tt, subst (λ p. HasItsSize p (slot_of c t1.slots).size) (sym is1) has)
place_whole first l0 l1 t0 t1 c conn now cause Lean p0 p1 is0 is1 has framed is_ready h here n = absurd (lean_framing p0 (subst IsLean is0 h.1) framed)
  where
    lean_framing : (p : Phase) → IsLean p → IsFraming p → ⊥
    lean_framing (framing m xs) a b = a
    lean_framing (sizing xs) a b = b
    lean_framing (held m) a b = b
    lean_framing (ready m xs) a b = b
    lean_framing (waiting m) a b = b
    lean_framing (writing xs) a b = b
    lean_framing (ended k) a b = b
place_whole first l0 l1 t0 t1 c conn now cause Gone p0 p1 is0 is1 has framed is_ready h here n = absurd (n refl)
place_whole first l0 l1 t0 t1 c conn now cause Laden p0 (sizing xs) is0 is1 has framed is_ready h here n = absurd is_ready
place_whole first l0 l1 t0 t1 c conn now cause Laden p0 (held m) is0 is1 has framed is_ready h here n = absurd is_ready
place_whole first l0 l1 t0 t1 c conn now cause Laden p0 (framing m xs) is0 is1 has framed is_ready h here n = absurd is_ready
place_whole first l0 l1 t0 t1 c conn now cause Laden p0 (waiting m) is0 is1 has framed is_ready h here n = absurd is_ready
place_whole first l0 l1 t0 t1 c conn now cause Laden p0 (writing xs) is0 is1 has framed is_ready h here n = absurd is_ready
place_whole first l0 l1 t0 t1 c conn now cause Laden p0 (ended k) is0 is1 has framed is_ready h here n = absurd is_ready

some_bytes : (bytes : List ℕ) → 0 < length bytes → bytes ≢ []
some_bytes bytes l e = let f : length bytes ≡ 0 = ap length e in let g : ⊥ = omega arith in g

-- no bytes behind a size that isn't whole
stays_in : (max : ℕ) (phase : Phase) (conn : LoopConn) (bytes : List ℕ) → IsReading phase → PhaseTells max phase conn → length bytes ≤ wanted phase → StaysInSize conn.held bytes
stays_in max (sizing xs) conn bytes reading t asked l =
    let same : length conn.held ≡ length xs = ap length t.1 in
    let few : length bytes ≤ min (4 - length xs) most_read = asked in
    omega arith
stays_in max (framing n xs) conn bytes reading t asked l =
    let same : length conn.held ≡ 4 + length xs = ap length t.1 ∙ length-append (to_be_bytes w32 n) xs in
    absurd (let f : ⊥ = omega arith in f)
stays_in max (held n) conn bytes reading t asked l = absurd reading
stays_in max (ready n xs) conn bytes reading t asked l = absurd reading
stays_in max (waiting n) conn bytes reading t asked l = absurd reading
stays_in max (writing xs) conn bytes reading t asked l = absurd reading
stays_in max (ended k) conn bytes reading t asked l = absurd reading

-- What was taken in: connection c of the old ones has read these bytes, and its state in the table has them.
pub record HasTakenIn (max c : ℕ) (old : LoopConnections) (bytes : List ℕ) (mid : TableView) : Type 0 where
  pub small : max ≤ longest_payload
  pub there : IsSome (slot_in c old.table.slots)
  pub reading : IsReading (slot_of c old.table.slots).conn.phase
  pub some : 0 < length bytes
  pub asked : length bytes ≤ wanted (slot_of c old.table.slots).conn.phase
  pub are : EachIsByte bytes
  pub has : HasItsSize (slot_of c old.table.slots).conn.phase (slot_of c old.table.slots).size
  pub table : mid ≡ record old.table { slots = with_state c (after_took max (slot_of c old.table.slots).conn bytes) old.table.slots }

-- a connection that has ended here, after what it did on the links
pub ended_change : (c : ℕ) (cause : EndCause) (marks : List Mark) (lent : List ℕ) (l0 mid l1 : LinksState) (old : LoopConnections) (table : TableView) (new : LoopConnections) → IsSameBut c old.table table
    → (IsOrderly old.table → IsOrderly table) → IsNumbered c old → MovesOnly c marks lent l0 mid → EndsConnection c cause (record old { table = table }) new → Closes c mid l1
    → ChangesOne c Gone cause (marks ++ Closed c ∷ []) lent l0 l1 old new
ended_change c cause marks lent l0 mid l1 old table new but orderly known moves here closed =
    record {
      links = closed_then c marks lent l0 mid l1 moves closed;
      table = but_then c old.table table new.table but here.table;
      orderly = λ o. here.orderly (orderly o);
      stages = set_at Gone c Gone old.stages.items new.stages.items known.0 here.stages;
      causes = set_at Stopped c cause old.causes.items new.causes.items known.1 here.causes;
    }

unlike : (z : ℤ) → SizeFault z ≡ Stopped → ⊥
unlike z e = cc

pub small_max : (max : ℕ) → max ≤ longest_payload → max < 2 ^ 31
small_max max l = omega arith

module _ (max c : ℕ) (old : LoopConnections) (bytes : List ℕ) (mid : TableView) (h : HasTakenIn max c old bytes mid) where
  abbrev view0 : ConnView
  view0 = (slot_of c old.table.slots).conn

  abbrev view1 : ConnView
  view1 = after_took max view0 bytes

  pub taken_there : IsSome (slot_in c mid.slots)
  taken_there = state_there c view1 old.table mid h.there h.table

  pub taken_state : (slot_of c mid.slots).conn ≡ view1
  taken_state = state_is c view1 old.table mid h.there h.table

  pub taken_size : (slot_of c mid.slots).size ≡ (slot_of c old.table.slots).size
  taken_size = state_size c view1 old.table mid h.there h.table

  module _ (first before read_links : LinksState) (asks : List ServedAsk) (g : LoopIsRunning max first before old asks) (reads_at : ReadsAt c old)
      (moves : MovesOnly c (Read c bytes ∷ []) (wanted view0.phase ∷ []) before read_links) where
    stands : Standing before old g.loop c
    stands = standing first before old g.loop c g.so_far.tied reads_at.0

    abbrev conn : LoopConn
    conn = g.loop.conns c

    tied : IsOpenTied max view0 conn
    tied = g.phases c stands.below stands.here.going

    makes : MakesSo max conn bytes view0.phase view1.frames view1.phase
    makes = makes_so max view0 conn bytes h.small h.reading tied h.asked h.are

    owes : HasAllCollected conn × (conn.left ≡ [])
    owes = owes_nothing max view0.phase conn h.reading tied.tells

    happens : (progress : FrameProgress) → IsProgress max (conn.held ++ bytes) progress
        → Happens max g.loop (reads c bytes) (changed g.loop c (read_more conn bytes progress) (marks_read c bytes progress))
    happens progress is =
        (progress, (stands.below, stands.here.going), (owes.0.1, owes.1), some_bytes bytes h.some, stays_in max view0.phase conn bytes h.reading tied.tells h.asked, is, refl)

    -- the lengths lent are those of the event
    lent_is : wanted view0.phase ∷ [] ≡ min (missing_of conn.held) most_read ∷ []
    lent_is = ap (λ n. n ∷ []) (missing_is max view0.phase conn h.reading tied.tells)

    sized : HasItsSize view1.phase (slot_of c mid.slots).size
    sized = subst (λ o. HasItsSize view1.phase o) (sym taken_size) (took_room max view0 bytes h.some h.asked (slot_of c old.table.slots).size h.has)

    cause : EndCause
    cause = slice_index_or old.causes.items c Stopped

    place : ConnStage
    place = slice_index_or old.stages.items c Gone

    -- it is open still
    open_still : (now : LoopConn) → now.cause ≡ None → read_links.is_open c ≡ true → IsOpenOnLinks read_links mid c now (slice_index_or old.causes.items c Stopped)
    open_still now going link = record { there = taken_there; link = link; going = going; stopped = stands.here.stopped }

    moved : MovesOnly c (Read c bytes ∷ []) (min (missing_of conn.held) most_read ∷ []) before read_links
    moved = subst (λ lent. MovesOnly c (Read c bytes ∷ []) lent before read_links) lent_is moves

    -- the change, where it stays open at its place
    stays : (kept : LoopConnections) → kept.table ≡ mid → kept.stages ≡ old.stages → kept.causes ≡ old.causes
        → ChangesOne c (slice_index_or old.stages.items c Gone) (slice_index_or old.causes.items c Stopped) (Read c bytes ∷ []) (min (missing_of conn.held) most_read ∷ []) before read_links old kept
    stays kept table stages causes =
        record {
          links = moved;
          table = subst (λ (t : TableView). IsSameBut c old.table t) (sym table) (state_but c view1 old.table mid h.there h.table);
          orderly = λ o. subst IsOrderly (sym table) (state_orderly c view1 old.table mid h.there h.table o);
          stages = same_at Gone c (slice_index_or old.stages.items c Gone) old.stages.items kept.stages.items (ap (λ v. v.items) stages) refl;
          causes = same_at Stopped c (slice_index_or old.causes.items c Stopped) old.causes.items kept.causes.items (ap (λ v. v.items) causes) refl;
        }

    owed_before : owed_by conn.cause conn ≡ 0
    owed_before = ap (λ o. owed_by o conn) stands.here.going ∙ owes_none conn owes.0.1 owes.1

    -- The frame goes on.
    pub goes_part : (kept : LoopConnections) → kept ≡ record old { table = mid } → read_links.is_open c ≡ true → cause_of (slot_of c mid.slots).conn.phase ≡ None
        → (IsReady (slot_of c mid.slots).conn.phase → ⊥) → LoopIsRunning max first read_links kept asks
    goes_part kept is link none not_ready =
        let m : GoesOnSo view0.phase view1.phase × IsProgress max (conn.held ++ bytes) part × IsOpenTied max view1 (read_more conn bytes part) =
        part_of max conn bytes view0.phase view1.frames view1.phase (sym (ap (λ (v : ConnView). cause_of v.phase) taken_state) ∙ none)
        (λ r. not_ready (subst (λ (v : ConnView). IsReady v.phase) (sym taken_state) r)) makes in
        let now : LoopConn = read_more conn bytes part in
        let tells : StageTells first read_links mid c now (slice_index_or old.causes.items c Stopped) (slice_index_or old.stages.items c Gone) =
        place_on first before read_links old.table mid c conn now (slice_index_or old.causes.items c Stopped) (slice_index_or old.stages.items c Gone) view0.phase view1.phase refl
        (ap (λ (v : ConnView). v.phase) taken_state) taken_size sized m.0 (g.so_far.tied.each c stands.below) (open_still now stands.here.going link) reads_at.0 in
        let change : ChangesOne c (slice_index_or old.stages.items c Gone) (slice_index_or old.causes.items c Stopped) (Read c bytes ∷ []) (min (missing_of conn.held) most_read ∷ []) before
        read_links old (record old { table = mid }) = stays (record old { table = mid }) refl refl refl in
        let phase : IsOpenTied max (slot_of c mid.slots).conn now = subst (λ (v : ConnView). IsOpenTied max v now) (sym taken_state) m.2 in
        let next : AreTied first read_links (record old { table = mid }) (changed g.loop c now (Read c bytes ∷ [])) =
        changed_tied first before read_links old (record old { table = mid }) g.loop c now (slice_index_or old.stages.items c Gone) (slice_index_or old.causes.items c Stopped) (Read c bytes ∷ [])
        (min (missing_of conn.held) most_read ∷ []) g.so_far.tied stands.below change tells in
        let phases : PhasesTell max mid (changed g.loop c now (Read c bytes ∷ [])) = changed_phases max old.table mid g.loop c now (Read c bytes ∷ []) g.phases change.table (λ e. phase) in
        subst (λ k. LoopIsRunning max first read_links k asks) (sym is)
        (subst (λ a. LoopIsRunning max first read_links (record old { table = mid }) a) (append-nil asks)
        (change_goes max (small_max max h.small) first before read_links old (record old { table = mid }) asks g (handles (reads c bytes)) c now (slice_index_or old.stages.items c Gone)
        (slice_index_or old.causes.items c Stopped) (Read c bytes ∷ [])
        (record {
          below = stands.below;
          one = (changed g.loop c now (Read c bytes ∷ []), happens part m.1, refl);
          change = change;
          tells = tells;
          less = subst (λ n. all_begun (changed g.loop c now (Read c bytes ∷ [])) ≤ n) change.table.budget
              (begun_fits max first read_links (record old { table = mid }) (changed g.loop c now (Read c bytes ∷ [])) next phases);
        })
        (record {
          phase = λ e. phase;
          behind = λ n. absurd (n stands.here.going);
          unstopped = λ e. absurd (none-some Stopped (sym stands.here.going ∙ e));
          owing = ap (λ n. old.owing + n) (owed_before ∙ sym (ap (λ o. owed_by o now) stands.here.going ∙ owes_none now owes.0.1 owes.1));
        })
        (ap (summed_calls refuses_job) (append-nil asks) ∙ g.taken)))

    -- Its payload is whole.
    pub goes_whole : (kept : LoopConnections) → kept ≡ record old { table = mid; owing = old.owing + 1 } → read_links.is_open c ≡ true → IsReady (slot_of c mid.slots).conn.phase
        → LoopIsRunning max first read_links kept asks
    goes_whole kept is link is_ready =
        let ready_now : IsReady view1.phase = subst (λ (v : ConnView). IsReady v.phase) taken_state is_ready in
        let m : (payload : List ℕ) × IsFraming view0.phase × IsProgress max (conn.held ++ bytes) (whole payload) × IsOpenTied max view1 (read_more conn bytes (whole payload)) =
        whole_of max conn bytes view0.phase view1.frames view1.phase ready_now makes in
        let now : LoopConn = read_more conn bytes (whole m.0) in
        let new : LoopConnections = record old { table = mid; owing = old.owing + 1 } in
        let tells : StageTells first read_links mid c now (slice_index_or old.causes.items c Stopped) (slice_index_or old.stages.items c Gone) =
        place_whole first before read_links old.table mid c conn now (slice_index_or old.causes.items c Stopped) (slice_index_or old.stages.items c Gone) view0.phase view1.phase refl
        (ap (λ (v : ConnView). v.phase) taken_state) sized m.1 ready_now (g.so_far.tied.each c stands.below) (open_still now stands.here.going link) reads_at.0 in
        let phase : IsOpenTied max (slot_of c mid.slots).conn now = subst (λ (v : ConnView). IsOpenTied max v now) (sym taken_state) m.3 in
        let owed : owed_by now.cause now ≡ 1 = ap (λ o. owed_by o now) stands.here.going
        ∙ owes_outcome now (λ e.
        let longer : length (conn.payloads ++ m.0 ∷ []) ≡ length conn.payloads + 1 = length-append conn.payloads (m.0 ∷ []) in
        let all : conn.collected ≡ length conn.payloads = owes.0.1 in
        let same : conn.collected ≡ length (conn.payloads ++ m.0 ∷ []) = e in
        let f : ⊥ = omega arith in f) in
        subst (λ k. LoopIsRunning max first read_links k asks) (sym is)
        (subst (λ a. LoopIsRunning max first read_links new a) (append-nil asks)
        (change_goes max (small_max max h.small) first before read_links old new asks g (handles (reads c bytes)) c now (slice_index_or old.stages.items c Gone)
        (slice_index_or old.causes.items c Stopped) (Read c bytes ∷ [])
        (record {
          below = stands.below;
          one = (changed g.loop c now (Read c bytes ∷ []), happens (whole m.0) m.2, refl);
          change = stays new refl refl refl;
          tells = tells;
          less = begun_less g.loop c now (Read c bytes ∷ []) old.table.budget stands.below g.so_far.within.now
              (let e : begun_if_open now.cause now.held ≡ 0 = ap (λ o. begun_if_open o []) stands.here.going in omega arith);
        })
        (record {
          phase = λ e. phase;
          behind = λ n. absurd (n stands.here.going);
          unstopped = λ e. absurd (none-some Stopped (sym stands.here.going ∙ e));
          owing = let a : owed_by conn.cause conn ≡ 0 = owed_before in omega arith;
        })
        (ap (summed_calls refuses_job) (append-nil asks) ∙ g.taken)))

    -- Its size is one that no frame has, and it is closed.
    pub goes_over : (kept : LoopConnections) (links : LinksState) (cause : EndCause) → EndsConnection c cause (record old { table = mid }) kept → kept.owing ≡ old.owing → Closes c read_links links
        → cause_of (slot_of c mid.slots).conn.phase ≡ Some cause → LoopIsRunning max first links kept asks
    goes_over kept links why here owing closed is =
        let m : (z : ℤ) × (why ≡ SizeFault z) × IsProgress max (conn.held ++ bytes) (bad_size z) =
        over_of max conn bytes view0.phase view1.frames view1.phase why (sym (ap (λ (v : ConnView). cause_of v.phase) taken_state) ∙ is) makes in
        let now : LoopConn = read_more conn bytes (bad_size m.0) in
        subst (λ a. LoopIsRunning max first links kept a) (append-nil asks)
        (change_goes max (small_max max h.small) first before links old kept asks g (handles (reads c bytes)) c now Gone why (Read c bytes ∷ Closed c ∷ [])
        (record {
          below = stands.below;
          one = (changed g.loop c now (Read c bytes ∷ Closed c ∷ []), happens (bad_size m.0) m.2, refl);
          change =
              ended_change c why (Read c bytes ∷ []) (min (missing_of conn.held) most_read ∷ []) before read_links links old mid kept
              (state_but c view1 old.table mid h.there h.table) (state_orderly c view1 old.table mid h.there h.table) stands.known moved here closed;
          tells = record { gone = here.gone; link = closed.closed; ended = ap Some (sym m.1); shows = subst (CauseShows first links c) (sym m.1) tt };
          less = begun_less g.loop c now (Read c bytes ∷ Closed c ∷ []) old.table.budget stands.below g.so_far.within.now (omega arith);
        })
        (record {
          phase = λ e. absurd (none-some (SizeFault m.0) (sym e));
          behind = λ n. owes.0.1;
          unstopped = λ e. unlike m.0 (same_Some (SizeFault m.0) Stopped e);
          owing = let a : owed_by conn.cause conn ≡ 0 = owed_before in let b : kept.owing ≡ old.owing = owing in omega arith;
        })
        (ap (summed_calls refuses_job) (append-nil asks) ∙ g.taken))
