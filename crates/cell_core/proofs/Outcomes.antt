-- An outcome that is collected is one of a connection whose payload was submitted, and nothing else was done with it since.
use Rattle.std.proofs.Common.{◌≡◌, ◌≢◌, ℕ, suc, ◌+◌, ◌<◌, ◌≤◌, ◌⊎◌, Option, None, Some, List, [], ◌∷◌, length, slice_get, refl, sym, ap, ◌∙◌, subst, inl, inr, arith, length-append}
use Rattle.std.specs.Prelude.{slice_index_or}
use Rattle.std.proofs.lemmas.Bool.{cases_lt}
use Rattle.std.proofs.lemmas.Option.{none-some, slice_get-get_or}
use Rattle.streams.specs.declared.outcomes.Settled.{Settled}
use Rattle.host_model.specs.declared.key.Key.{Key}
use Rattle.host_model.specs.Journal.{entries_of}
use Rattle.host_model.proofs.Lists.{nil-cons}
use Rattle.call_rules.specs.PlainCalls.{PlainAnswer}
use Rattle.call_rules.specs.Entries.{CallEntry}
use Rattle.call_rules.specs.Handling.{handler_rules}
use Rattle.conn_state.specs.Phase.{Phase, sizing, held, framing, ready, waiting, writing, ended, IsReady}
use Rattle.conn_table.specs.Table.{TableView, slot_of}
use Rattle.machine_model.specs.HallState.{JobOutcome}
use Rattle.machine_model.specs.HallRule.{collect, HallAnswer, empty, is_closed, outcome, outcome_of}
use Rattle.machine_model.specs.Loop.{LoopConn}
use Rattle.machine_model.specs.Places.{PayloadPlace, collected_all, ready as at_ready, queued, held_by, put_out, jobs_of, outcomes_of, PayloadIsAt, IsUncollected, CellKeeps}
use Rattle.machine_model.specs.SeenHall.{MayHave, filled, SeenGives}
use Rattle.machine_model.proofs.Lists.{own_first}
use Rattle.script_model.specs.Playing.{collect_first}
use Rattle.hall_core.specs.Meant.{ServedHall}
use Rattle.cell_loop.specs.Settings.{CellSetting, ServedCell, ServedPlay, HallInCell, desk_of_setting}
use Rattle.cell_loop.specs.Moving.{HasNoMove, one_of_outcome}
use Rattle.cell_loop.specs.Reached.{IsReached}
use Rattle.cell_loop.specs.Replies.{IsReplySome}
use Rattle.cell_loop.specs.declared.loop_part.CellStage.{CellStage}
use Rattle.cell_loop.specs.declared.loop_part.CellStage.TheVariants.{Lean, Framed, Whole, Asked, Over}
use Rattle.cell_loop.specs.declared.loop_part.LoopPart.{LoopPart}
use Rattle.conn_refinement.specs.Phases.{PhaseTells, IsLean, IsFraming}
use Rattle.cell_loop.specs.LoopTied.{CellStageTells, IsLoopTied}
use Rattle.cell_core.specs.HallTied.{IsHallTied}
use Rattle.cell_core.specs.Turns.{IsNoOutcome}
use Rattle.cell_core.proofs.HallTying.{AreRepliesSome, GivesFrom, gives_from, same_outcomes, still_open, still_whole, step_tied, same_replies}
use Rattle.cell_core.proofs.Weights.{reached_keeps}

-- a payload that was submitted and isn't collected
abbrev IsUnderHall : LoopConn → Type 0
IsUnderHall conn = (conn.collected < conn.submitted) × (conn.collected < length conn.payloads)

-- a connection of which an outcome waits has one under way
under_hall : (s : CellSetting) (cell : ServedCell) (c : ℕ) (conn : LoopConn) (place : PayloadPlace) (es : List CallEntry) (o : JobOutcome) (outs : List JobOutcome)
    → PayloadIsAt (desk_of_setting s) cell.workers (jobs_of c cell.hall.jobs) (o ∷ outs) es c conn place → IsUnderHall conn
under_hall s cell c conn collected_all es o outs a = absurd (nil-cons o outs (sym a.1))
under_hall s cell c conn at_ready es o outs a = absurd (nil-cons o outs (sym a.4))
under_hall s cell c conn queued es o outs a = absurd (nil-cons o outs (sym a.4))
under_hall s cell c conn (held_by w) es o outs a = absurd (nil-cons o outs (sym a.4))
under_hall s cell c conn (put_out settled) es o outs a =
    let u : IsUncollected conn a.0 a.1 = a.2 in
    let k : conn.collected ≡ length a.0 = u.collected in
    let t : conn.submitted ≡ suc (length a.0) = a.5 in
    let l : length conn.payloads ≡ length a.0 + 1 = ap length u.last ∙ length-append a.0 (a.1 ∷ []) in
    (omega arith, omega arith)

-- the first outcome of a cell that is reached is one of a connection that was opened
opened_there : (s : CellSetting) (play : ServedPlay) (o : JobOutcome) (outs : List JobOutcome) → IsReached s play → play.cell.hall.outcomes ≡ o ∷ outs
    → (o.key.c < play.cell.loop.count) × IsUnderHall (play.cell.loop.conns o.key.c)
opened_there s play o outs reached is =
    let k : CellKeeps (desk_of_setting s) handler_rules s.opening play.cell = reached_keeps s play reached in
    let own : outcomes_of o.key.c play.cell.hall.outcomes ≡ o ∷ outcomes_of o.key.c outs =
    ap (outcomes_of o.key.c) is ∙ own_first (λ (x : JobOutcome). x.key.c) o.key.c o outs refl in
    go k own (cases_lt o.key.c play.cell.loop.count)
  where
    go : CellKeeps (desk_of_setting s) handler_rules s.opening play.cell → outcomes_of o.key.c play.cell.hall.outcomes ≡ o ∷ outcomes_of o.key.c outs
        → (o.key.c < play.cell.loop.count) ⊎ (play.cell.loop.count ≤ o.key.c) → (o.key.c < play.cell.loop.count) × IsUnderHall (play.cell.loop.conns o.key.c)
    go k own (inl l) = (
      l,
      under_hall s play.cell o.key.c (play.cell.loop.conns o.key.c) (k.place o.key.c) (entries_of o.key.c play.cell.hall.journal) o (outcomes_of o.key.c outs)
          (subst (λ (os : List JobOutcome). PayloadIsAt (desk_of_setting s) play.cell.workers (jobs_of o.key.c play.cell.hall.jobs) os (entries_of o.key.c play.cell.hall.journal) o.key.c (play.cell.loop.conns o.key.c) (k.place o.key.c))
          own (k.at o.key.c l)),
    )
    go k own (inr l) = absurd (nil-cons o (outcomes_of o.key.c outs) (sym (k.nobody o.key.c l).1 ∙ own))

-- no phase but the one in which an outcome is awaited has a payload under way
not_lean : (max : ℕ) (phase : Phase) (conn : LoopConn) → IsLean phase → PhaseTells max phase conn → IsUnderHall conn → ⊥
not_lean max (sizing bytes) conn lean tells under =
    let s : conn.submitted ≡ length conn.payloads = tells.0.0 in let k : conn.collected ≡ length conn.payloads = tells.0.1 in let u : conn.collected < conn.submitted = under.0 in omega arith
not_lean max (held size) conn lean tells under =
    let s : conn.submitted ≡ length conn.payloads = tells.0.0 in let k : conn.collected ≡ length conn.payloads = tells.0.1 in let u : conn.collected < conn.submitted = under.0 in omega arith
not_lean max (writing left) conn lean tells under =
    let s : conn.submitted ≡ length conn.payloads = tells.0.0 in let k : conn.collected ≡ length conn.payloads = tells.0.1 in let u : conn.collected < conn.submitted = under.0 in omega arith
not_lean max (framing size bytes) conn lean tells under = lean
not_lean max (ready number payload) conn lean tells under = lean
not_lean max (waiting number) conn lean tells under = lean
not_lean max (ended cause) conn lean tells under = lean

not_framing : (max : ℕ) (phase : Phase) (conn : LoopConn) → IsFraming phase → PhaseTells max phase conn → IsUnderHall conn → ⊥
not_framing max (framing size bytes) conn framed tells under =
    let s : conn.submitted ≡ length conn.payloads = tells.0.0 in let k : conn.collected ≡ length conn.payloads = tells.0.1 in let u : conn.collected < conn.submitted = under.0 in omega arith
not_framing max (sizing bytes) conn framed tells under = framed
not_framing max (held size) conn framed tells under = framed
not_framing max (writing left) conn framed tells under = framed
not_framing max (ready number payload) conn framed tells under = framed
not_framing max (waiting number) conn framed tells under = framed
not_framing max (ended cause) conn framed tells under = framed

not_ready : (max : ℕ) (phase : Phase) (conn : LoopConn) → IsReady phase → PhaseTells max phase conn → IsUnderHall conn → ⊥
not_ready max (ready number payload) conn is_ready tells under =
    let s : conn.submitted ≡ number = tells.1 in let k : conn.collected ≡ number = tells.2 in let u : conn.collected < conn.submitted = under.0 in omega arith
not_ready max (sizing bytes) conn is_ready tells under = is_ready
not_ready max (held size) conn is_ready tells under = is_ready
not_ready max (writing left) conn is_ready tells under = is_ready
not_ready max (framing size bytes) conn is_ready tells under = is_ready
not_ready max (waiting number) conn is_ready tells under = is_ready
not_ready max (ended cause) conn is_ready tells under = is_ready

-- so it stands asked, unless it has ended; and one that has ended has none under way
asked_so : (max : ℕ) (table : TableView) (c : ℕ) (conn : LoopConn) (admitted : Option ℕ) (stage : CellStage) → CellStageTells max table c conn admitted stage
    → (conn.cause ≢ None → conn.collected ≡ length conn.payloads) → IsUnderHall conn → stage ≡ Asked
asked_so max table c conn admitted Asked tells none under = refl
asked_so max table c conn admitted Lean tells none under =
    absurd (not_lean max (slot_of c table.slots).conn.phase conn tells.0.in_its_phase tells.0.tied.tells under)
asked_so max table c conn admitted Framed tells none under =
    absurd (not_framing max (slot_of c table.slots).conn.phase conn tells.0.in_its_phase tells.0.tied.tells under)
asked_so max table c conn admitted Whole tells none under =
    absurd (not_ready max (slot_of c table.slots).conn.phase conn tells.0.in_its_phase tells.0.tied.tells under)
asked_so max table c conn admitted (Over cause) tells none under =
    let all : conn.collected ≡ length conn.payloads = none (λ e. none-some cause (sym e ∙ tells.2)) in
    let u : conn.collected < length conn.payloads = under.1 in
    let f : ⊥ = omega arith in
    absurd f

-- The connection of the first outcome stands asked.
pub stands_asked : (s : CellSetting) (part : LoopPart) (play : ServedPlay) (o : JobOutcome) (outs : List JobOutcome) → IsLoopTied s part play → IsReached s play
    → play.cell.hall.outcomes ≡ o ∷ outs → slice_get part.stages.items o.key.c ≡ Some Asked
stands_asked s part play o outs tied reached is =
    let c : ℕ = o.key.c in
    let t : (c < play.cell.loop.count) × IsUnderHall (play.cell.loop.conns c) = opened_there s play o outs reached is in
    let below : c < length part.stages.items = subst (λ n. c < n) tied.count t.0 in
    slice_get-get_or part.stages.items c Lean below
    ∙ ap Some
    (asked_so s.desk.max_frame part.table c (play.cell.loop.conns c) (play.admitted c) (slice_index_or part.stages.items c Lean) (tied.stages c below) (reached.none_left c t.0) t.1)

-- An outcome was collected: it was the first one.
pub collected_from : (old new : ServedHall) (hall : HallInCell) (key : Key) (settled : Settled) → IsHallTied old hall → SeenGives handler_rules old collect (outcome key settled) new
    → (outs : List JobOutcome) × (hall.outcomes ≡ outcome_of key settled ∷ outs)
collected_from old new hall key settled tied gives =
    let t : (later : List CallEntry) × GivesFrom old hall collect (outcome key settled) new later = gives_from old new hall collect (outcome key settled) tied gives in
    (t.1.1.0, same_outcomes old hall tied ∙ t.1.1.1)

-- a reply that was first among the outcomes has a byte
pub reply_some : (old new : ServedHall) (hall : HallInCell) (key : Key) (settled : Settled) → IsHallTied old hall → SeenGives handler_rules old collect (outcome key settled) new → IsReplySome settled
reply_some old new hall key settled tied gives =
    let t : (outs : List JobOutcome) × (hall.outcomes ≡ outcome_of key settled ∷ outs) = collected_from old new hall key settled tied gives in
    (subst AreRepliesSome t.1 (same_replies old hall tied)).0

-- The others are left.
pub collect_goes : (old new : ServedHall) (hall : HallInCell) (key : Key) (settled : Settled) (outs : List JobOutcome) → IsHallTied old hall
    → SeenGives handler_rules old collect (outcome key settled) new → hall.outcomes ≡ outcome_of key settled ∷ outs → IsHallTied new (record hall { outcomes = outs })
collect_goes old new hall key settled outs tied gives is =
    let t : (later : List CallEntry) × GivesFrom old hall collect (outcome key settled) new later = gives_from old new hall collect (outcome key settled) tied gives in
    let same : t.1.1.0 ≡ outs = tails_same (outcome_of key settled) (outcome_of key settled) t.1.1.0 outs (sym t.1.1.1 ∙ sym (same_outcomes old hall tied) ∙ is) in
    let replies : AreRepliesSome outs = (subst AreRepliesSome is (same_replies old hall tied)).1 in
    step_tied old hall tied new (λ (x : HallInCell). record x { outcomes = outs }) old.faults t.0 t.1.0
    (t.1.1.2 ∙ ap (λ (os : List JobOutcome). record (filled old hall.journal) { outcomes = os }) same) (λ n. refl) (still_open old hall tied) (still_whole old hall tied) replies
  where
    tails_same : (x y : JobOutcome) (xs ys : List JobOutcome) → x ∷ xs ≡ y ∷ ys → xs ≡ ys
    tails_same x y xs ys e = cc

-- There was none: all is as it was, and there is no such move.
none_collected : (s : CellSetting) (old new : ServedHall) (play : ServedPlay) (later : List CallEntry) → IsHallTied old play.cell.hall → MayHave new.told later → old.outcomes ≡ []
    → filled new later ≡ filled old play.cell.hall.journal → HasNoMove (one_of_outcome s) play × IsHallTied new play.cell.hall
none_collected s old new play later tied may none same = (
  λ passes enough memory. ap (λ (os : List JobOutcome). collect_first (desk_of_setting s) handler_rules play os) (same_outcomes old play.cell.hall tied ∙ none),
  step_tied old play.cell.hall tied new (λ (x : HallInCell). x) old.faults later may same (λ n. refl) (still_open old play.cell.hall tied) (still_whole old play.cell.hall tied)
      (same_replies old play.cell.hall tied),
)

pub collect_stays : (s : CellSetting) (old new : ServedHall) (play : ServedPlay) (answer : HallAnswer PlainAnswer) → IsHallTied old play.cell.hall → SeenGives handler_rules old collect answer new
    → IsNoOutcome answer → HasNoMove (one_of_outcome s) play × IsHallTied new play.cell.hall
collect_stays s old new play answer tied gives none =
    let t : (later : List CallEntry) × GivesFrom old play.cell.hall collect answer new later = gives_from old new play.cell.hall collect answer tied gives in go answer t.0 none t.1
  where
    go : (answer : HallAnswer PlainAnswer) (later : List CallEntry) → IsNoOutcome answer → GivesFrom old play.cell.hall collect answer new later
        → HasNoMove (one_of_outcome s) play × IsHallTied new play.cell.hall
    go empty later nothing g = none_collected s old new play later tied g.0 g.1.0 g.1.2
    go is_closed later nothing g = none_collected s old new play later tied g.0 g.1.0 g.1.2
    go (outcome key settled) later nothing g = absurd nothing
    go _ later nothing g = absurd g.1
