-- What is left of a loop over a machine in memory: what it comes to, all of the loop comes to.
use Rattle.std.proofs.Common.{◌≡◌, ℕ, suc, ◌≤◌, Bool, true, false, ◌||◌, refl, sym, ap, ◌∙◌, subst, arith}
use Rattle.std.proofs.lemmas.Bool.{false≢true, true≢false}
use Rattle.streams.specs.Cause.{Rose}
use Rattle.cell_loop.specs.LoopTied.{HasRoomToClose}
use Rattle.cell_core.specs.declared.stop.RunStop.{RunStop}
use Rattle.cell_core.specs.declared.stop.RunStop.TheVariants.{JournalFault, NoMemory}
use Rattle.cell_loop.specs.Settings.{CellSetting, ServedPlay, HallInCell}
use Rattle.cell_loop.specs.Moving.{Doing, ComesTo, HasNoMove, GoesTo, GoesOrStays, ContinuesWith}
use Rattle.cell_core.specs.Parts.{Parts}
use Rattle.cell_core.specs.Work.{steps_left}
use Rattle.cell_core.specs.Machines.{ArePlayed, AreUnderWay, MoveKeeps, HasFailed, IsLess, LeavesLess, CountsMove, IsDone, StaysReached, EndsEarly, StopsBy, StopsMachine, ComesThrough}

-- Whichever play the machine was tied to, with such a setting: it is tied to one from which what is left comes to what all comes to; moves were made up to it, or none.
pub record IsGoing (with_setting : CellSetting → Type 0) (all left : CellSetting → Doing) (old : Parts) (moved : Bool) (now : Parts) : Type 0 where
  pub goes : (s : CellSetting) (play : ServedPlay) → with_setting s → ArePlayed s old play
      → (next : ServedPlay) × ContinuesWith (all s) (left s) play next × ArePlayed s now next × CountsMove moved play next
  pub kept : MoveKeeps old now
  pub less : LeavesLess moved old now
  pub count : now.hall.faults ≡ old.hall.faults

-- The same, where nothing is said of moves.
pub record LoopIsRunning (with_setting : CellSetting → Type 0) (all left : CellSetting → Doing) (old now : Parts) : Type 0 where
  pub goes : (s : CellSetting) (play : ServedPlay) → with_setting s → ArePlayed s old play
      → (next : ServedPlay) × ContinuesWith (all s) (left s) play next × ArePlayed s now next
  pub kept : MoveKeeps old now
  pub count : now.hall.faults ≡ old.hall.faults

-- ---- what two rows of moves are, one after the other

pub moves_both : (one more : Bool) (a b c : ServedPlay) → CountsMove one a b → CountsMove more b c → CountsMove (one || more) a c
moves_both true true a b c l m = omega arith
moves_both true false a b c l m = omega arith
moves_both false true a b c l m = omega arith
moves_both false false a b c l m = m ∙ l

pub less_both : (one more : Bool) (a b c : ℕ) → IsLess one a b → IsLess more b c → IsLess (one || more) a c
less_both true true a b c l m = omega arith
less_both true false a b c l m = omega arith
less_both false true a b c l m = omega arith
less_both false false a b c l m = m ∙ l

pub or_none : (moved : Bool) → (moved || false) ≡ moved
or_none true = refl
or_none false = refl

pub or_some : (moved : Bool) → (moved || true) ≡ true
or_some true = refl
or_some false = refl

pub kept_both : (old mid new : Parts) → MoveKeeps old mid → MoveKeeps mid new → MoveKeeps old new
kept_both old mid new one more = record { room = more.room; workers = more.workers ∙ one.workers; feeds = more.feeds ∙ one.feeds }

pub kept_none : (old : Parts) → HasRoomToClose old.part → MoveKeeps old old
kept_none old room = record { room = room; workers = refl; feeds = refl }

-- a count that rose after others
pub rose_behind : (a b c : ℕ) → a ≤ b → Rose b c → Rose a c
rose_behind a b c l rose = grind (arith, rose)

-- ---- a loop's beginning, its rounds and its end

module _ (W : CellSetting → Type 0) (all : CellSetting → Doing) where
  pub begins : (old : Parts) → HasRoomToClose old.part → IsGoing W all all old false old
  begins old room =
      record { goes = λ s play w tied. (play, (λ last comes. comes), tied, refl); kept = kept_none old room; less = refl; count = refl }

  pub sets_out : (old : Parts) → HasRoomToClose old.part → LoopIsRunning W all all old old
  sets_out old room = record { goes = λ s play w tied. (play, (λ last comes. comes), tied); kept = kept_none old room; count = refl }

  module _ (left one rest : CellSetting → Doing) (old mid new : Parts) where
    -- one more is done
    pub goes_on : (moved more : Bool)
        → ((s : CellSetting) (a b c : ServedPlay) → W s → ArePlayed s new b → CountsMove more a b → ComesTo (one s) a b → ComesTo (rest s) b c → ComesTo (left s) a c)
        → IsGoing W all left old moved mid → IsDone W one mid more new → IsGoing W all rest old (moved || more) new
    goes_on moved more join g d =
        record {
          goes = λ s play w tied.
              let now : (next : ServedPlay) × ContinuesWith (all s) (left s) play next × ArePlayed s mid next × CountsMove moved play next = g.goes s play w tied in
              let then_ : GoesTo (one s) (λ next. ArePlayed s new next × CountsMove more now.0 next) now.0 = d.goes s now.0 w now.2 in (
                then_.0,
                (λ last comes. now.1 last (join s now.0 then_.0 last w then_.2.0 then_.2.1 then_.1 comes)),
                then_.2.0,
                moves_both moved more play now.0 then_.0 now.3 then_.2.1,
              );
          kept = kept_both old mid new g.kept d.kept;
          less = less_both moved more (steps_left old.part old.hall old.workers) (steps_left mid.part mid.hall mid.workers) (steps_left new.part new.hall new.workers) g.less d.less;
          count = d.count ∙ g.count;
        }

    -- the same, where nothing is said of moves so far
    pub goes_further : (more : Bool)
        → ((s : CellSetting) (a b c : ServedPlay) → W s → CountsMove more a b → ComesTo (one s) a b → ComesTo (rest s) b c → ComesTo (left s) a c)
        → LoopIsRunning W all left old mid → IsDone W one mid more new → LoopIsRunning W all rest old new
    goes_further more join g d =
        record {
          goes = λ s play w tied.
              let now : (next : ServedPlay) × ContinuesWith (all s) (left s) play next × ArePlayed s mid next = g.goes s play w tied in
              let then_ : GoesTo (one s) (λ next. ArePlayed s new next × CountsMove more now.0 next) now.0 = d.goes s now.0 w now.2 in (
                then_.0,
                (λ last comes. now.1 last (join s now.0 then_.0 last w then_.2.1 then_.1 comes)),
                then_.2.0,
              );
          kept = kept_both old mid new g.kept d.kept;
          count = d.count ∙ g.count;
        }

    -- the same, where nothing is told of moves
    pub comes_further : ((s : CellSetting) (a b c : ServedPlay) → W s → ComesTo (one s) a b → ComesTo (rest s) b c → ComesTo (left s) a c)
        → LoopIsRunning W all left old mid → ComesThrough W one mid new → LoopIsRunning W all rest old new
    comes_further join g d =
        record {
          goes = λ s play w tied.
              let now : (next : ServedPlay) × ContinuesWith (all s) (left s) play next × ArePlayed s mid next = g.goes s play w tied in
              let then_ : GoesTo (one s) (ArePlayed s new) now.0 = d.goes s now.0 w now.2 in (
                then_.0,
                (λ last comes. now.1 last (join s now.0 then_.0 last w then_.1 comes)),
                then_.2,
              );
          kept = kept_both old mid new g.kept d.kept;
          count = d.count ∙ g.count;
        }

  module _ (left : CellSetting → Doing) where
    -- all that is left is done
    pub goes_last : (old mid new : Parts) (moved more : Bool) → IsGoing W all left old moved mid → IsDone W left mid more new → IsDone W all old (moved || more) new
    goes_last old mid new moved more g d =
        record {
          goes = λ s play w tied.
              let now : (next : ServedPlay) × ContinuesWith (all s) (left s) play next × ArePlayed s mid next × CountsMove moved play next = g.goes s play w tied in
              let then_ : GoesTo (left s) (λ next. ArePlayed s new next × CountsMove more now.0 next) now.0 = d.goes s now.0 w now.2 in (
                then_.0,
                now.1 then_.0 then_.1,
                (then_.2.0, moves_both moved more play now.0 then_.0 now.3 then_.2.1),
              );
          kept = kept_both old mid new g.kept d.kept;
          less = less_both moved more (steps_left old.part old.hall old.workers) (steps_left mid.part mid.hall mid.workers) (steps_left new.part new.hall new.workers) g.less d.less;
          count = d.count ∙ g.count;
        }

    -- it is done, and nothing moved
    pub goes_still : (old mid new : Parts) (moved : Bool) → IsGoing W all left old moved mid → IsDone W left mid false new → IsDone W all old moved new
    goes_still old mid new moved g d = subst (λ b. IsDone W all old b new) (or_none moved) (goes_last old mid new moved false g d)

    -- nothing is left to do
    pub goes_out : (old new : Parts) (moved : Bool) → ((s : CellSetting) (a : ServedPlay) → W s → ComesTo (left s) a a) → IsGoing W all left old moved new → IsDone W all old moved new
    goes_out old new moved none g =
        record {
          goes = λ s play w tied.
              let now : (next : ServedPlay) × ContinuesWith (all s) (left s) play next × ArePlayed s new next × CountsMove moved play next = g.goes s play w tied in
              (now.0, now.1 now.0 (none s now.0 w), (now.2, now.3));
          kept = g.kept;
          less = g.less;
          count = g.count;
        }

    -- the same where nothing is said of moves
    pub comes_last : (old mid new : Parts) → LoopIsRunning W all left old mid → ComesThrough W left mid new → ComesThrough W all old new
    comes_last old mid new g d =
        record {
          goes = λ s play w tied.
              let now : (next : ServedPlay) × ContinuesWith (all s) (left s) play next × ArePlayed s mid next = g.goes s play w tied in
              let then_ : GoesTo (left s) (ArePlayed s new) now.0 = d.goes s now.0 w now.2 in
              (then_.0, now.1 then_.0 then_.1, then_.2);
          kept = kept_both old mid new g.kept d.kept;
          count = d.count ∙ g.count;
        }

    -- what is reached so far, and then where it breaks off
    pub breaks_off : (old mid new : Parts) (moved : Bool) → IsGoing W all left old moved mid → EndsEarly W mid new → EndsEarly W old new
    breaks_off old mid new moved g d =
        record {
          reached = λ s play w tied. let now : (next : ServedPlay) × ContinuesWith (all s) (left s) play next × ArePlayed s mid next × CountsMove moved play next = g.goes s play w tied in
              d.reached s now.0 w now.2;
          kept = kept_both old mid new g.kept d.kept;
          count = d.count ∙ g.count;
        }

    -- a play that the machine is tied to now, whichever it was tied to
    pub so_far : (old now : Parts) (moved : Bool) → IsGoing W all left old moved now → LoopIsRunning W all left old now
    so_far old now moved g =
        record {
          goes = λ s play w tied. let next : (next : ServedPlay) × ContinuesWith (all s) (left s) play next × ArePlayed s now next × CountsMove moved play next = g.goes s play w tied in
              (next.0, next.1, next.2);
          kept = g.kept;
          count = g.count;
        }

-- a play that the machine is tied to now is reached, whichever it was tied to
pub reaches_so : (W : CellSetting → Type 0) (all left : CellSetting → Doing) (old now : Parts) → LoopIsRunning W all left old now → StaysReached W old now
reaches_so W all left old now g = λ s play w tied.
    let next : (next : ServedPlay) × ContinuesWith (all s) (left s) play next × ArePlayed s now next = g.goes s play w tied in
    (next.0, next.2)

-- ---- where a run stops

failed_behind : (s : CellSetting) (old mid new : Parts) → old.hall.faults ≤ mid.hall.faults → HasFailed s mid new → HasFailed s old new
failed_behind s old mid new later f =
    record {
      cell = f.cell;
      play = f.play;
      run = f.run;
      kept = f.kept;
      none_left = f.none_left;
      tied = f.tied;
      same = f.same;
      torn = record { told = f.torn.told; memories = f.torn.memories; torn = f.torn.torn; rose = rose_behind old.hall.faults mid.hall.faults new.hall.faults later f.torn.rose };
    }

-- a run that stops after what was done
module _ (W : CellSetting → Type 0) (old mid new : Parts) (reaches : StaysReached W old mid) (count : mid.hall.faults ≡ old.hall.faults) where
  by_behind : (stop : RunStop) → StopsBy W mid new stop → StopsBy W old new stop
  by_behind NoMemory by = (
    (λ s play w tied. let now : (now : ServedPlay) × ArePlayed s mid now = reaches s play w tied in by.0 s now.0 w now.1),
    by.1 ∙ count,
  )
  by_behind JournalFault by = λ s play w tied.
      let now : (now : ServedPlay) × ArePlayed s mid now = reaches s play w tied in
      failed_behind s old mid new (let same : mid.hall.faults ≡ old.hall.faults = count in omega arith) (by s now.0 w now.1)

  pub stops_behind : (stop : RunStop) → MoveKeeps old mid → StopsMachine W mid new stop → StopsMachine W old new stop
  stops_behind stop kept st =
      record {
        by = by_behind stop st.by;
        kept = kept_both old mid new kept st.kept;
        later = let one_ : mid.hall.faults ≡ old.hall.faults = count in let two : mid.hall.faults ≤ new.hall.faults = st.later in omega arith;
      }

-- one for want of memory
pub early_stops : (W : CellSetting → Type 0) (old new : Parts) (stop : RunStop) → stop ≡ NoMemory → EndsEarly W old new → StopsMachine W old new stop
early_stops W old new stop is e = subst (StopsMachine W old new) (sym is) (record { by = (e.reached, e.count); kept = e.kept; later = let same : new.hall.faults ≡ old.hall.faults = e.count in omega arith })

-- what is done is another thing too
pub done_as : (W : CellSetting → Type 0) (one left : CellSetting → Doing) (old new : Parts) (moved : Bool)
    → ((s : CellSetting) (a b : ServedPlay) → W s → ArePlayed s new b → ComesTo (one s) a b → ComesTo (left s) a b) → IsDone W one old moved new → IsDone W left old moved new
done_as W one left old new moved also d =
    record {
      goes = λ s play w tied.
          let then_ : GoesTo (one s) (λ next. ArePlayed s new next × CountsMove moved play next) play = d.goes s play w tied in
          (then_.0, also s play then_.0 w then_.2.0 then_.1, then_.2);
      kept = d.kept;
      less = d.less;
      count = d.count;
    }

-- what holds for any such setting holds for fewer
module _ (W V : CellSetting → Type 0) (narrow : (s : CellSetting) → V s → W s) where
  pub narrowed_done : (doing : CellSetting → Doing) (old new : Parts) (moved : Bool) → IsDone W doing old moved new → IsDone V doing old moved new
  narrowed_done doing old new moved d = record { goes = λ s play v tied. d.goes s play (narrow s v) tied; kept = d.kept; less = d.less; count = d.count }

  pub narrowed_through : (doing : CellSetting → Doing) (old new : Parts) → ComesThrough W doing old new → ComesThrough V doing old new
  narrowed_through doing old new d = record { goes = λ s play v tied. d.goes s play (narrow s v) tied; kept = d.kept; count = d.count }

  pub narrowed_early : (old new : Parts) → EndsEarly W old new → EndsEarly V old new
  narrowed_early old new e = record { reached = λ s play v tied. e.reached s play (narrow s v) tied; kept = e.kept; count = e.count }

  pub narrowed_stop : (old new : Parts) (stop : RunStop) → StopsMachine W old new stop → StopsMachine V old new stop
  narrowed_stop old new NoMemory st = record { by = ((λ s play v tied. st.by.0 s play (narrow s v) tied), st.by.1); kept = st.kept; later = st.later }
  narrowed_stop old new JournalFault st = record { by = λ s play v tied. st.by s play (narrow s v) tied; kept = st.kept; later = st.later }

-- ---- a machine that is under way goes on

pub under_way_on : (s : CellSetting) (old now : Parts) → AreUnderWay s old → MoveKeeps old now → (next : ServedPlay) → ArePlayed s now next → AreUnderWay s now
under_way_on s old now u kept next tied =
    record { play = next; tied = tied; counted = kept.workers ∙ u.counted; room = kept.room; slots = u.slots; max = u.max }

-- ---- one move is one done, or none

-- the hall of a machine that is tied to a play is open in it
pub hall_open : (s : CellSetting) (now : Parts) (play : ServedPlay) → ArePlayed s now play → play.cell.hall.closed ≡ false
hall_open s now play tied = sym (ap (λ (h : HallInCell). h.closed) tied.hall_tied.same) ∙ tied.hall_tied.unclosed

module _ (W : CellSetting → Type 0) (one : CellSetting → Doing) (old new : Parts) (kept : MoveKeeps old new) (count : new.hall.faults ≡ old.hall.faults) where
  pub one_done : (moved : Bool) → ((s : CellSetting) (play : ServedPlay) → W s → ArePlayed s old play → GoesOrStays (one s) (ArePlayed s new) play moved) → moved ≡ true
      → ((s : CellSetting) (a b : ServedPlay) → a.cell.hall.closed ≡ false → ComesTo (one s) a b → b.moves ≡ suc a.moves) → LeavesLess moved old new → IsDone W one old true new
  one_done true moves e counts less =
      record {
        goes = λ s play w tied.
            let m : GoesTo (one s) (ArePlayed s new) play = moves s play w tied in
            let n : m.0.moves ≡ suc play.moves = counts s play m.0 (hall_open s old play tied) m.1 in
            (m.0, m.1, (m.2, omega arith));
        kept = kept;
        less = less;
        count = count;
      }
  one_done false moves e counts less = absurd (false≢true e)

  -- where there is no move, all that begins with it leaves all as it was
  pub none_done : (left : CellSetting → Doing) (moved : Bool) → ((s : CellSetting) (play : ServedPlay) → W s → ArePlayed s old play → GoesOrStays (one s) (ArePlayed s new) play moved) → moved ≡ false
      → ((s : CellSetting) (a : ServedPlay) → HasNoMove (one s) a → ComesTo (left s) a a) → LeavesLess moved old new → IsDone W left old false new
  none_done left false moves e ends less =
      record {
        goes = λ s play w tied. let m : HasNoMove (one s) play × ArePlayed s new play = moves s play w tied in (play, ends s play m.0, (m.1, refl));
        kept = kept;
        less = less;
        count = count;
      }
  none_done left true moves e ends less = absurd (true≢false e)

  -- one move alone, where there is one, as a line has it
  pub move_left : (line : CellSetting → Doing) (moved : Bool) → ((s : CellSetting) (play : ServedPlay) → W s → ArePlayed s old play → GoesOrStays (one s) (ArePlayed s new) play moved)
      → ((s : CellSetting) (a b : ServedPlay) → ComesTo (one s) a b → ComesTo (line s) a b) → ((s : CellSetting) (a : ServedPlay) → HasNoMove (one s) a → ComesTo (line s) a a)
      → ComesThrough W line old new
  move_left line true moves goes ends =
      record { goes = λ s play w tied. let m : GoesTo (one s) (ArePlayed s new) play = moves s play w tied in (m.0, goes s play m.0 m.1, m.2); kept = kept; count = count }
  move_left line false moves goes ends =
      record { goes = λ s play w tied. let m : HasNoMove (one s) play × ArePlayed s new play = moves s play w tied in (play, ends s play m.0, m.1); kept = kept; count = count }

-- a move that breaks off leaves the machine tied to what it was tied to
pub stays_early : (W : CellSetting → Type 0) (old new : Parts) → ((s : CellSetting) (play : ServedPlay) → ArePlayed s old play → ArePlayed s new play) → MoveKeeps old new
    → new.hall.faults ≡ old.hall.faults → EndsEarly W old new
stays_early W old new stays kept count = record { reached = λ s play w tied. (play, stays s play tied); kept = kept; count = count }
