-- The rounds and the ends of the loops over moves: what a connection does, each connection, a worker, each worker, the outcomes, passes.
use Rattle.std.proofs.Common.{◌≡◌, ℕ, zero, suc, ◌+◌, ◌-◌, ◌<◌, ◌≤◌, Bool, true, false, ◌||◌, Result, Ok, Err, length, slice_get, refl, sym, ap, ◌∙◌, subst, arith}
use Rattle.std.specs.Prelude.{OnErr, IfErr}
use Rattle.std.specs.Result.{IsErrAnd}
use Rattle.std.proofs.lemmas.Result.{err_from_is_err_and}
use Rattle.call_rules.specs.Desks.{DeskMeaning}
use Rattle.script_model.specs.ScriptLines.{count_up}
use Rattle.script_model.specs.Rehearsing.{is_idle}
use Rattle.cell_core.specs.declared.stop.RunStop.{RunStop}
use Rattle.cell_core.specs.declared.stop.RunStop.TheVariants.{JournalFault, NoMemory}
use Rattle.cell_core.specs.HallTied.{worker_in}
use Rattle.cell_loop.specs.Settings.{CellSetting, ServedPlay}
use Rattle.cell_loop.specs.Moving.{Doing, ComesTo, GoesTo, ContinuesWith, followed_by, one_of_conn, one_of_worker, one_of_outcome, all_of_conn, all_of_conns, first_of_conns, all_of_worker, all_of_workers, first_of_workers, all_of_outcomes, one_pass, all_passes}
use Rattle.cell_loop.proofs.Composing.{then_comes}
use Rattle.cell_loop.proofs.Going.{conn_goes_on, conn_ends, outcomes_go_on, outcomes_end, worker_goes_on, worker_puts, worker_ends, worker_stops, pass_is, passes_go_on, passes_end, conn_counts, worker_counts, outcome_counts, conns_step, conns_end, workers_step, workers_end}
use Rattle.cell_loop.specs.LoopTied.{HasRoomToClose}
use Rattle.cell_loop.specs.LoopMoves.{AnySetting, HasLongest}
use Rattle.cell_core.specs.Parts.{Parts}
use Rattle.cell_core.specs.Work.{steps_left}
use Rattle.cell_core.specs.Machines.{ArePlayed, AreUnderWay, SomeMachine, IsMachine, IsOfDesk, MachineMoves, DeskMoves, StaysPlayed, MoveKeeps, FailsAt, LeavesLess, CountsMove, IsDone, EndsEarly, StopsBy, StopsMachine, ComesThrough, HasDesk, HasCrew}
use Rattle.cell_core.specs.MachineSteps.{HasNoTurn}
use Rattle.cell_core.proofs.Gathering.{ConnReaches}
use Rattle.cell_core.proofs.ConnMoves.{none_steps}
use Rattle.cell_core.proofs.Rounds.{IsGoing, LoopIsRunning, moves_both, less_both, goes_further, done_as, reaches_so, begins, goes_on, goes_last, goes_still, goes_out, comes_last, breaks_off, so_far, stops_behind, under_way_on, kept_both, one_done, none_done, stays_early, or_some}

-- ---- what is said where a call breaks off

pub on_err : {A E : Type 0} {P : Type 0} (r : Result A E) → P → OnErr r P
on_err (Ok value) p = tt
on_err (Err fault) p = p

-- what is said of the fault that is handed on
pub on_same : {A E : Type 0} (r : Result A E) (P : E → Type 0) (fault : E) → IsErrAnd r (λ y. y ≡ fault) → P fault → IfErr r P
on_same {A} {E} r P fault e p =
    let at : (y : E) × (r ≡ Err y) × (y ≡ fault) = err_from_is_err_and r e in
    subst (λ (x : Result A E). IfErr x P) (sym at.1) (subst P (sym at.2) p)

-- ---- what a loop began with is still there

pub desk_some : (desk : DeskMeaning) (old : Parts) → IsOfDesk desk old → SomeMachine old
desk_some desk old m = (m.0, m.2)

-- a machine of a desk is one with its longest payload
pub machine_of : (desk : DeskMeaning) (max : ℕ) (old : Parts) → max ≡ desk.max_frame → IsOfDesk desk old → IsMachine max old
machine_of desk max old same m = (m.0, ap (λ (d : DeskMeaning). d.max_frame) m.1 ∙ sym same, m.2)

-- what was begun with a machine goes on with one
pub machine_on : (max : ℕ) (all left : CellSetting → Doing) (old now : Parts) (moved : Bool) → IsGoing (HasLongest max) all left old moved now → IsMachine max old → IsMachine max now
machine_on max all left old now moved g m =
    let u : AreUnderWay m.0 old = m.2 in
    let next : (next : ServedPlay) × ContinuesWith (all m.0) (left m.0) u.play next × ArePlayed m.0 now next × CountsMove moved u.play next = g.goes m.0 u.play m.1 u.tied in
    (m.0, m.1, under_way_on m.0 old now u g.kept next.0 next.2)

pub some_on : (all left : CellSetting → Doing) (old now : Parts) (moved : Bool) → IsGoing AnySetting all left old moved now → SomeMachine old → SomeMachine now
some_on all left old now moved g m =
    let u : AreUnderWay m.0 old = m.1 in
    let next : (next : ServedPlay) × ContinuesWith (all m.0) (left m.0) u.play next × ArePlayed m.0 now next × CountsMove moved u.play next = g.goes m.0 u.play tt u.tied in
    (m.0, under_way_on m.0 old now u g.kept next.0 next.2)

pub desk_on : (desk : DeskMeaning) (all left : CellSetting → Doing) (old now : Parts) (moved : Bool) → IsGoing (HasDesk desk) all left old moved now → IsOfDesk desk old → IsOfDesk desk now
desk_on desk all left old now moved g m =
    let u : AreUnderWay m.0 old = m.2 in
    let next : (next : ServedPlay) × ContinuesWith (all m.0) (left m.0) u.play next × ArePlayed m.0 now next × CountsMove moved u.play next = g.goes m.0 u.play m.1 u.tied in
    (m.0, m.1, under_way_on m.0 old now u g.kept next.0 next.2)

pub crew_on : (desk : DeskMeaning) (all left : CellSetting → Doing) (old now : Parts) → LoopIsRunning (HasCrew desk (length old.workers)) all left old now → IsOfDesk desk old → IsOfDesk desk now
crew_on desk all left old now g m =
    let u : AreUnderWay m.0 old = m.2 in
    let next : (next : ServedPlay) × ContinuesWith (all m.0) (left m.0) u.play next × ArePlayed m.0 now next = g.goes m.0 u.play (m.1, sym u.counted) u.tied in
    (m.0, m.1, under_way_on m.0 old now u g.kept next.0 next.2)

-- the same after something that was done
pub done_on : (W : CellSetting → Type 0) (desk : DeskMeaning) (doing : CellSetting → Doing) (old new : Parts) (moved : Bool) → ((s : CellSetting) → HasDesk desk s → W s) → IsDone W doing old moved new
    → IsOfDesk desk old → IsOfDesk desk new
done_on W desk doing old new moved narrow d m =
    let u : AreUnderWay m.0 old = m.2 in
    let next : GoesTo (doing m.0) (λ next. ArePlayed m.0 new next × CountsMove moved u.play next) u.play = d.goes m.0 u.play (narrow m.0 m.1) u.tied in
    (m.0, m.1, under_way_on m.0 old new u d.kept next.0 next.2.0)

-- the longest payload of a setting with this desk
pub longest_of : (desk : DeskMeaning) (max : ℕ) → max ≡ desk.max_frame → (s : CellSetting) → HasDesk desk s → HasLongest max s
longest_of desk max same s d = ap (λ (x : DeskMeaning). x.max_frame) d ∙ sym same

-- ---- a connection moves until it can't

module _ (max c : ℕ) (old mid new : Parts) (moved more : Bool) (g : IsGoing (HasLongest max) (λ s. all_of_conn s c) (λ s. all_of_conn s c) old moved mid)
    (kept : MoveKeeps mid new) (count : new.hall.faults ≡ mid.hall.faults) where
  pub conn_round : MachineMoves max (λ s. one_of_conn s c) mid more new → LeavesLess more mid new → more ≡ true → IsGoing (HasLongest max) (λ s. all_of_conn s c) (λ s. all_of_conn s c) old true new
  conn_round moves less e =
      subst (λ b. IsGoing (HasLongest max) (λ s. all_of_conn s c) (λ s. all_of_conn s c) old b new) (or_some moved)
      (goes_on (HasLongest max) (λ s. all_of_conn s c) (λ s. all_of_conn s c) (λ s. one_of_conn s c) (λ s. all_of_conn s c) old mid new moved true (λ s x y z w tied more one two. conn_goes_on s c x y z one two) g
      (one_done (HasLongest max) (λ s. one_of_conn s c) mid new kept count more moves e (λ s a b unclosed comes. conn_counts s c a b unclosed comes) less))

  pub conn_last : MachineMoves max (λ s. one_of_conn s c) mid more new → LeavesLess more mid new → more ≡ false → IsDone (HasLongest max) (λ s. all_of_conn s c) old moved new
  conn_last moves less e =
      goes_still (HasLongest max) (λ s. all_of_conn s c) (λ s. all_of_conn s c) old mid new moved g
      (none_done (HasLongest max) (λ s. one_of_conn s c) mid new kept count (λ s. all_of_conn s c) more moves e (λ s a none. conn_ends s c a none) less)

  pub conn_breaks : StaysPlayed mid new → EndsEarly (HasLongest max) old new
  conn_breaks stays = breaks_off (HasLongest max) (λ s. all_of_conn s c) (λ s. all_of_conn s c) old mid new moved g (stays_early (HasLongest max) mid new stays kept count)

-- ---- outcomes are collected until there is none

module _ (old mid new : Parts) (moved more : Bool) (g : IsGoing AnySetting all_of_outcomes all_of_outcomes old moved mid)
    (kept : MoveKeeps mid new) (count : new.hall.faults ≡ mid.hall.faults) (moves : (max : ℕ) → MachineMoves max one_of_outcome mid more new) (less : LeavesLess more mid new) where
  pub outcome_round : more ≡ true → IsGoing AnySetting all_of_outcomes all_of_outcomes old true new
  outcome_round e =
      subst (λ b. IsGoing AnySetting all_of_outcomes all_of_outcomes old b new) (or_some moved)
      (goes_on AnySetting all_of_outcomes all_of_outcomes one_of_outcome all_of_outcomes old mid new moved true (λ s x y z w tied more one two. outcomes_go_on s x y z one two) g
      (one_done AnySetting one_of_outcome mid new kept count more (λ s play w tied. moves s.desk.max_frame s play refl tied) e (λ s a b unclosed comes. outcome_counts s a b unclosed comes) less))

  pub outcome_last : more ≡ false → IsDone AnySetting all_of_outcomes old moved new
  outcome_last e =
      goes_still AnySetting all_of_outcomes all_of_outcomes old mid new moved g
      (none_done AnySetting one_of_outcome mid new kept count all_of_outcomes more (λ s play w tied. moves s.desk.max_frame s play refl tied) e (λ s a none. outcomes_end s a none) less)

-- ---- each connection

pub conns_begin : (max n : ℕ) (old : Parts) → HasRoomToClose old.part → IsGoing (HasLongest max) (λ s. first_of_conns s n) (λ s. all_of_conns s (count_up 0 (n - 0))) old false old
conns_begin max n old room =
    let all : n ≡ n - 0 = omega arith in
    subst (λ k. IsGoing (HasLongest max) (λ s. first_of_conns s n) (λ s. all_of_conns s (count_up 0 k)) old false old) all (begins (HasLongest max) (λ s. first_of_conns s n) old room)

pub conns_round : (max n c : ℕ) (old mid new : Parts) (moved more both : Bool) → c < n
    → IsGoing (HasLongest max) (λ s. first_of_conns s n) (λ s. all_of_conns s (count_up c (n - c))) old moved mid → IsDone (HasLongest max) (λ s. all_of_conn s c) mid more new → both ≡ (moved || more)
    → IsGoing (HasLongest max) (λ s. first_of_conns s n) (λ s. all_of_conns s (count_up (c + 1) (n - (c + 1)))) old both new
conns_round max n c old mid new moved more both below g d e =
    subst (λ b. IsGoing (HasLongest max) (λ s. first_of_conns s n) (λ s. all_of_conns s (count_up (c + 1) (n - (c + 1)))) old b new) (sym e)
    (goes_on (HasLongest max) (λ s. first_of_conns s n) (λ s. all_of_conns s (count_up c (n - c))) (λ s. all_of_conn s c) (λ s. all_of_conns s (count_up (c + 1) (n - (c + 1))))
    old mid new moved more (λ s x y z w tied some one two. conns_step s n c below x y z one two) g d)

or_none : (b : Bool) → b ≡ (b || false)
or_none true = refl
or_none false = refl

-- a connection that has no turn has nothing to do
still_done : (max c : ℕ) (m : Parts) → ConnReaches → IsMachine max m → HasNoTurn (slice_get m.part.stages.items c) → IsDone (HasLongest max) (λ s. all_of_conn s c) m false m
still_done max c m reaches now still =
    let steps = none_steps {E = Unit {0}} max c m reaches now still in
    conn_last max c m m m false false (begins (HasLongest max) (λ s. all_of_conn s c) m now.2.room) steps.kept steps.count steps.moved steps.less refl

-- those that have none are passed over
pub conns_over : (max n : ℕ) (old mid : Parts) (moved : Bool) → ConnReaches → IsMachine max mid → (c d : ℕ) → c + d ≤ n
    → ((k : ℕ) → c ≤ k → k < c + d → HasNoTurn (slice_get mid.part.stages.items k))
    → IsGoing (HasLongest max) (λ s. first_of_conns s n) (λ s. all_of_conns s (count_up c (n - c))) old moved mid
    → IsGoing (HasLongest max) (λ s. first_of_conns s n) (λ s. all_of_conns s (count_up (c + d) (n - (c + d)))) old moved mid
conns_over max n old mid moved reaches now c zero fits still g =
    let same : c ≡ c + 0 = omega arith in
    subst (λ k. IsGoing (HasLongest max) (λ s. first_of_conns s n) (λ s. all_of_conns s (count_up k (n - k))) old moved mid) same g
conns_over max n old mid moved reaches now c (suc d) fits still g =
    let same : (c + 1) + d ≡ c + suc d = omega arith in
    let below : c < n = omega arith in
    let here : HasNoTurn (slice_get mid.part.stages.items c) = still c (omega arith) (omega arith) in
    let next = conns_round max n c old mid mid moved false moved below g (still_done max c mid reaches now here) (or_none moved) in
    subst (λ k. IsGoing (HasLongest max) (λ s. first_of_conns s n) (λ s. all_of_conns s (count_up k (n - k))) old moved mid) same
    (conns_over max n old mid moved reaches now (c + 1) d (omega arith) (λ k from below. still k (omega arith) (omega arith)) next)

-- up to the next that may have one
pub conns_to : (max n : ℕ) (old mid : Parts) (moved : Bool) → ConnReaches → IsMachine max mid → (c next : ℕ) → c ≤ next → next ≤ n
    → ((k : ℕ) → c ≤ k → k < next → HasNoTurn (slice_get mid.part.stages.items k))
    → IsGoing (HasLongest max) (λ s. first_of_conns s n) (λ s. all_of_conns s (count_up c (n - c))) old moved mid
    → IsGoing (HasLongest max) (λ s. first_of_conns s n) (λ s. all_of_conns s (count_up next (n - next))) old moved mid
conns_to max n old mid moved reaches now c next from within still g =
    let same : c + (next - c) ≡ next = omega arith in
    subst (λ k. IsGoing (HasLongest max) (λ s. first_of_conns s n) (λ s. all_of_conns s (count_up k (n - k))) old moved mid) same
    (conns_over max n old mid moved reaches now c (next - c) (omega arith) (λ k l below. still k l (omega arith)) g)

pub conns_last : (max n c : ℕ) (old new : Parts) (moved : Bool) → n ≤ c → IsGoing (HasLongest max) (λ s. first_of_conns s n) (λ s. all_of_conns s (count_up c (n - c))) old moved new
    → IsDone (HasLongest max) (λ s. first_of_conns s n) old moved new
conns_last max n c old new moved past g =
    goes_out (HasLongest max) (λ s. first_of_conns s n) (λ s. all_of_conns s (count_up c (n - c))) old new moved (λ s a w. conns_end s n c past a) g

-- ---- each worker

pub workers_begin : (desk : DeskMeaning) (n : ℕ) (old : Parts) → HasRoomToClose old.part → IsGoing (HasDesk desk) (λ s. first_of_workers s n) (λ s. all_of_workers s (count_up 0 (n - 0))) old false old
workers_begin desk n old room =
    let all : n ≡ n - 0 = omega arith in
    subst (λ k. IsGoing (HasDesk desk) (λ s. first_of_workers s n) (λ s. all_of_workers s (count_up 0 k)) old false old) all (begins (HasDesk desk) (λ s. first_of_workers s n) old room)

pub workers_round : (desk : DeskMeaning) (n w : ℕ) (old mid new : Parts) (moved more both : Bool) → w < n
    → IsGoing (HasDesk desk) (λ s. first_of_workers s n) (λ s. all_of_workers s (count_up w (n - w))) old moved mid → IsDone (HasDesk desk) (λ s. all_of_worker s 3 w) mid more new → both ≡ (moved || more)
    → IsGoing (HasDesk desk) (λ s. first_of_workers s n) (λ s. all_of_workers s (count_up (w + 1) (n - (w + 1)))) old both new
workers_round desk n w old mid new moved more both below g d e =
    subst (λ b. IsGoing (HasDesk desk) (λ s. first_of_workers s n) (λ s. all_of_workers s (count_up (w + 1) (n - (w + 1)))) old b new) (sym e)
    (goes_on (HasDesk desk) (λ s. first_of_workers s n) (λ s. all_of_workers s (count_up w (n - w))) (λ s. all_of_worker s 3 w) (λ s. all_of_workers s (count_up (w + 1) (n - (w + 1))))
    old mid new moved more (λ s x y z v tied some one two. workers_step s n w below x y z one two) g d)

pub workers_last : (desk : DeskMeaning) (n w : ℕ) (old new : Parts) (moved : Bool) → n ≤ w → IsGoing (HasDesk desk) (λ s. first_of_workers s n) (λ s. all_of_workers s (count_up w (n - w))) old moved new
    → IsDone (HasDesk desk) (λ s. first_of_workers s n) old moved new
workers_last desk n w old new moved past g =
    goes_out (HasDesk desk) (λ s. first_of_workers s n) (λ s. all_of_workers s (count_up w (n - w))) old new moved (λ s a d. workers_end s n w past a) g

-- ---- a worker moves until it has put its job

module _ (desk : DeskMeaning) (n w : ℕ) (old mid new : Parts) (moved more : Bool) (g : IsGoing (HasDesk desk) (λ s. all_of_worker s 3 w) (λ s. all_of_worker s (3 - n) w) old moved mid) where
  module _ (below : n < 3) (kept : MoveKeeps mid new) (count : new.hall.faults ≡ mid.hall.faults) (moves : DeskMoves desk (λ s. one_of_worker s w) mid more new) (less : LeavesLess more mid new) where
    one_is : more ≡ true → IsDone (HasDesk desk) (λ s. one_of_worker s w) mid true new
    one_is e = one_done (HasDesk desk) (λ s. one_of_worker s w) mid new kept count more moves e (λ s a b unclosed comes. worker_counts s w a b unclosed comes) less

    one_less : suc (3 - (n + 1)) ≡ 3 - n
    one_less = omega arith

    -- a move that leaves it with a job, and what is left
    pub work_round : more ≡ true → is_idle (worker_in new.workers w) ≡ false → IsGoing (HasDesk desk) (λ s. all_of_worker s 3 w) (λ s. all_of_worker s (3 - (n + 1)) w) old true new
    work_round e busy =
        subst (λ b. IsGoing (HasDesk desk) (λ s. all_of_worker s 3 w) (λ s. all_of_worker s (3 - (n + 1)) w) old b new) (or_some moved)
        (goes_on (HasDesk desk) (λ s. all_of_worker s 3 w) (λ s. all_of_worker s (3 - n) w) (λ s. one_of_worker s w) (λ s. all_of_worker s (3 - (n + 1)) w) old mid new moved true
        (λ s x y z d tied some one two.
        subst (λ k. ComesTo (all_of_worker s k w) x z) one_less (worker_goes_on s (3 - (n + 1)) w x y z (ap is_idle (tied.workers_tied.each w) ∙ busy) one two))
        g (one_is e))

    -- one that leaves it with none
    pub work_puts : more ≡ true → is_idle (worker_in new.workers w) ≡ true → IsDone (HasDesk desk) (λ s. all_of_worker s 3 w) old true new
    work_puts e rests =
        subst (λ b. IsDone (HasDesk desk) (λ s. all_of_worker s 3 w) old b new) (or_some moved)
        (goes_last (HasDesk desk) (λ s. all_of_worker s 3 w) (λ s. all_of_worker s (3 - n) w) old mid new moved true g
        (done_as (HasDesk desk) (λ s. one_of_worker s w) (λ s. all_of_worker s (3 - n) w) mid new true
        (λ s x y d tied one. subst (λ k. ComesTo (all_of_worker s k w) x y) one_less (worker_puts s (3 - (n + 1)) w x y (ap is_idle (tied.workers_tied.each w) ∙ rests) one))
        (one_is e)))

    -- none
    pub work_ends : more ≡ false → IsDone (HasDesk desk) (λ s. all_of_worker s 3 w) old moved new
    work_ends e =
        goes_still (HasDesk desk) (λ s. all_of_worker s 3 w) (λ s. all_of_worker s (3 - n) w) old mid new moved g
        (none_done (HasDesk desk) (λ s. one_of_worker s w) mid new kept count (λ s. all_of_worker s (3 - n) w) more moves e
        (λ s a none. subst (λ k. ComesTo (all_of_worker s k w) a a) one_less (worker_ends s (3 - (n + 1)) w a none)) less)

pub work_stops : (desk : DeskMeaning) (n w : ℕ) (old new : Parts) (moved : Bool) → 3 ≤ n → IsGoing (HasDesk desk) (λ s. all_of_worker s 3 w) (λ s. all_of_worker s (3 - n) w) old moved new
    → IsDone (HasDesk desk) (λ s. all_of_worker s 3 w) old moved new
work_stops desk n w old new moved past g =
    let none : 0 ≡ 3 - n = omega arith in
    goes_out (HasDesk desk) (λ s. all_of_worker s 3 w) (λ s. all_of_worker s (3 - n) w) old new moved
    (λ s a d. subst (λ k. ComesTo (all_of_worker s k w) a a) none (worker_stops s w a)) g

-- ---- where a worker's move fails

-- a stop is for want of memory
abbrev WantsMemory : RunStop → Type 0
WantsMemory NoMemory = Unit {0}
WantsMemory JournalFault = ⊥

fails_by : (desk : DeskMeaning) (old new : Parts) (stop : RunStop) → stop ≡ JournalFault → FailsAt desk old new → StopsBy (HasDesk desk) old new stop
fails_by desk old new JournalFault e f = f
fails_by desk old new NoMemory e f = absurd (subst WantsMemory e tt)

-- what is said of a move that failed
pub fails_so : (desk : DeskMeaning) (old new : Parts) (stop : RunStop) → stop ≡ JournalFault → FailsAt desk old new → MoveKeeps old new → old.hall.faults ≤ new.hall.faults
    → StopsMachine (HasDesk desk) old new stop
fails_so desk old new stop only f kept later = record { by = fails_by desk old new stop only f; kept = kept; later = later }

-- ---- a run that stops in a loop

pub loop_stops : (W : CellSetting → Type 0) (all left : CellSetting → Doing) (old mid new : Parts) (moved : Bool) (stop : RunStop) → IsGoing W all left old moved mid → StopsMachine W mid new stop
    → StopsMachine W old new stop
loop_stops W all left old mid new moved stop g st =
    stops_behind W old mid new (reaches_so W all left old mid (so_far W all left old mid moved g)) g.count stop g.kept st

pub run_stops : (W : CellSetting → Type 0) (all left : CellSetting → Doing) (old mid new : Parts) (stop : RunStop) → LoopIsRunning W all left old mid → StopsMachine W mid new stop → StopsMachine W old new stop
run_stops W all left old mid new stop g st = stops_behind W old mid new (reaches_so W all left old mid g) g.count stop g.kept st

-- one after what was done
pub done_stops : (W : CellSetting → Type 0) (doing : CellSetting → Doing) (old mid new : Parts) (moved : Bool) (stop : RunStop) → IsDone W doing old moved mid → StopsMachine W mid new stop
    → StopsMachine W old new stop
done_stops W doing old mid new moved stop d st =
    stops_behind W old mid new
    (λ s play w tied. let next : GoesTo (doing s) (λ next. ArePlayed s mid next × CountsMove moved play next) play = d.goes s play w tied in (next.0, next.2.0))
    d.count stop d.kept st

-- ---- a pass, and passes

module _ (desk : DeskMeaning) (max : ℕ) (old one two new : Parts) (read worked collected : Bool) (longest : max ≡ desk.max_frame)
    (reads : IsDone (HasLongest max) (λ s. first_of_conns s (length old.part.stages.items)) old read one)
    (works : IsDone (HasDesk desk) (λ s. first_of_workers s (length one.workers)) one worked two) (collects : IsDone AnySetting all_of_outcomes two collected new) where
  pass_goes : (s : CellSetting) (play : ServedPlay) → HasCrew desk (length old.workers) s → ArePlayed s old play
      → GoesTo (one_pass s) (λ next. ArePlayed s new next × CountsMove ((read || worked) || collected) play next) play
  pass_goes s play crew tied =
      let n : ℕ = length old.part.stages.items in
      let m : ℕ = length one.workers in
      let r : GoesTo (first_of_conns s n) (λ next. ArePlayed s one next × CountsMove read play next) play = reads.goes s play (longest_of desk max longest s crew.0) tied in
      let w : GoesTo (first_of_workers s m) (λ next. ArePlayed s two next × CountsMove worked r.0 next) r.0 = works.goes s r.0 crew.0 r.2.0 in
      let c : GoesTo (all_of_outcomes s) (λ next. ArePlayed s new next × CountsMove collected w.0 next) w.0 = collects.goes s w.0 tt w.2.0 in
      let comes : ComesTo (followed_by (followed_by (first_of_conns s n) (first_of_workers s m)) (all_of_outcomes s)) play c.0 =
      then_comes (followed_by (first_of_conns s n) (first_of_workers s m)) (all_of_outcomes s) play w.0 c.0
      (then_comes (first_of_conns s n) (first_of_workers s m) play r.0 w.0 r.1 w.1) c.1 in (
        c.0,
        pass_is s n m play c.0 tied.loop_tied.count (crew.1 ∙ sym reads.kept.workers) comes,
        (c.2.0, moves_both (read || worked) collected play w.0 c.0 (moves_both read worked play r.0 w.0 r.2.1 w.2.1) c.2.1),
      )

  pass_is_done : IsDone (HasCrew desk (length old.workers)) one_pass old ((read || worked) || collected) new
  pass_is_done =
      record {
        goes = pass_goes;
        kept = kept_both old two new (kept_both old one two reads.kept works.kept) collects.kept;
        less = less_both (read || worked) collected (steps_left old.part old.hall old.workers) (steps_left two.part two.hall two.workers) (steps_left new.part new.hall new.workers)
            (less_both read worked (steps_left old.part old.hall old.workers) (steps_left one.part one.hall one.workers) (steps_left two.part two.hall two.workers) reads.less works.less) collects.less;
        count = collects.count ∙ works.count ∙ reads.count;
      }

  pub pass_done : (moved : Bool) → moved ≡ ((read || worked) || collected) → IsDone (HasCrew desk (length old.workers)) one_pass old moved new
  pass_done moved e = subst (λ b. IsDone (HasCrew desk (length old.workers)) one_pass old b new) (sym e) pass_is_done

module _ (desk : DeskMeaning) (old mid new : Parts) (more : Bool) (g : LoopIsRunning (HasCrew desk (length old.workers)) all_passes all_passes old mid)
    (passed : IsDone (HasCrew desk (length mid.workers)) one_pass mid more new) where
  passed_so : IsDone (HasCrew desk (length old.workers)) one_pass mid more new
  passed_so = subst (λ k. IsDone (HasCrew desk k) one_pass mid more new) g.kept.workers passed

  -- a pass that has moved something, and those after it
  pub drain_round : more ≡ true → LoopIsRunning (HasCrew desk (length old.workers)) all_passes all_passes old new
  drain_round e =
      goes_further (HasCrew desk (length old.workers)) all_passes all_passes one_pass all_passes old mid new true (λ s x y z crew some one two. passes_go_on s x y z some one two) g
      (subst (λ b. IsDone (HasCrew desk (length old.workers)) one_pass mid b new) e passed_so)

  drained : IsDone (HasCrew desk (length old.workers)) one_pass mid false new → ComesThrough (HasCrew desk (length old.workers)) all_passes mid new
  drained d =
      record {
        goes = λ s play crew tied.
            let p : GoesTo (one_pass s) (λ next. ArePlayed s new next × CountsMove false play next) play = d.goes s play crew tied in
            (p.0, passes_end s play p.0 p.2.1 p.1, p.2.0);
        kept = d.kept;
        count = d.count;
      }

  -- one that has moved nothing
  pub drain_last : more ≡ false → ComesThrough (HasCrew desk (length old.workers)) all_passes old new
  drain_last e =
      comes_last (HasCrew desk (length old.workers)) all_passes all_passes old mid new g
      (drained (subst (λ b. IsDone (HasCrew desk (length old.workers)) one_pass mid b new) e passed_so))

-- a pass that stops
pub drain_stops : (desk : DeskMeaning) (old mid new : Parts) (stop : RunStop) → LoopIsRunning (HasCrew desk (length old.workers)) all_passes all_passes old mid
    → StopsMachine (HasCrew desk (length mid.workers)) mid new stop → StopsMachine (HasCrew desk (length old.workers)) old new stop
drain_stops desk old mid new stop g st =
    run_stops (HasCrew desk (length old.workers)) all_passes all_passes old mid new stop g (subst (λ k. StopsMachine (HasCrew desk k) mid new stop) g.kept.workers st)
