-- What each kind of line does with a machine in memory.
use Rattle.std.proofs.Common.{◌≡◌, ℕ, zero, suc, ◌+◌, ◌*◌, ◌<◌, ◌≤◌, ◌^◌, Bool, true, false, Result, Ok, Err, Option, None, Some, List, [], ◌∷◌, ◌++◌, map, length, drop, set, get_or, slice_get, Vec, Global, refl, sym, ap, ◌∙◌, subst, arith, length-set}
use Rattle.std.specs.Prelude.{OnOk, IfErr}
use Rattle.std.specs.List.{AllByRecursion}
use Rattle.std.specs.Vec.{vec_capacity}
use Rattle.std.proofs.lemmas.Option.{none-some, same_Some}
use Rattle.host_model.specs.declared.cause.EndCause.{EndCause}
use Rattle.call_rules.specs.Desks.{DeskMeaning}
use Rattle.streams.specs.Rows.{TapeView}
use Rattle.conn_table.specs.Table.{TableView}
use Rattle.machine_model.specs.AtFronts.{KeepsWithin}
use Rattle.machine_model.specs.Bounds.{NoneIsLeftBehind}
use Rattle.script_model.specs.ScriptLines.{PlanLine, PlanRule, opening, piece, input_end, input_fault, resting, turn_of_conn, turn_of_worker, turn_of_outcome}
use Rattle.script_model.specs.Playing.{InputFinish, finishes, faults, MemoryAt, at_number}
use Rattle.script_model.specs.Rehearsing.{left_by}
use Rattle.hall_core.specs.Meant.{ServedHall}
use Rattle.cell_core.specs.declared.stop.RunStop.{RunStop}
use Rattle.cell_core.specs.declared.stop.RunStop.TheVariants.{NoMemory}
use Rattle.cell_core.specs.declared.worker.Holding.{Holding}
use Rattle.cell_core.specs.HallTied.{IsHallTied, AreWorkersTied}
use Rattle.cell_loop.specs.declared.feed.Feed.{Feed}
use Rattle.cell_loop.specs.declared.loop_part.CellStage.{CellStage}
use Rattle.cell_loop.specs.declared.loop_part.LoopPart.{LoopPart}
use Rattle.cell_loop.specs.Feeds.{unread_of, finish_of, rules_left, unread_in, finish_in, rules_in, HasSomePieces, HasFeed}
use Rattle.cell_loop.specs.LoopTied.{IsLoopTied, HasRoomToClose}
use Rattle.cell_loop.specs.LoopMoves.{HasSameHall, StaysTied, LoopMoves, AnySetting, HasLongest}
use Rattle.cell_loop.proofs.Becoming.{fed_so, kept_as, refed_tied, pieces_passed}
use Rattle.cell_loop.specs.Settings.{CellSetting, ServedCell, ServedPlay}
use Rattle.cell_loop.specs.Admitted.{AdmitsWithin}
use Rattle.cell_loop.specs.Reached.{IsRunTo, IsReached, IsReachedFrom}
use Rattle.cell_loop.specs.Moving.{Doing, ComesTo, HasNoMove, GoesTo, GoesOrStays, one_opening, one_of_conn, one_of_worker, one_of_outcome, all_passes, one_line, all_lines}
use Rattle.cell_loop.proofs.Composing.{then_comes}
use Rattle.cell_loop.proofs.Going.{comes_as, none_comes}
use Rattle.cell_core.specs.Parts.{Parts}
use Rattle.cell_core.specs.Machines.{ArePlayed, SomeMachine, MachineMoves, DeskMoves, MoveKeeps, StopsMachine, ComesThrough, HasDesk, HasCrew, IsLineFor}
use Rattle.cell_core.proofs.Rounds.{LoopIsRunning, comes_further, comes_last, narrowed_through, narrowed_stop, move_left}
use Rattle.cell_core.proofs.PassRounds.{run_stops}

-- ---- a move of a schedule

-- a line that leaves what a move leaves
line_left : (one line : CellSetting → Doing) → ((s : CellSetting) (passes enough : ℕ) (memory : ℕ → MemoryAt) (play : ServedPlay) → line s passes enough memory play ≡ Some (left_by play (one s passes enough memory play)))
    → (s : CellSetting) (a b : ServedPlay) → ComesTo (one s) a b → ComesTo (line s) a b
line_left one line is s a b comes =
    comes_as (one s) (line s) a b comes (λ passes enough memory p e first. is s passes enough memory a ∙ ap (λ o. Some (left_by a o)) first)

line_still : (one line : CellSetting → Doing) → ((s : CellSetting) (passes enough : ℕ) (memory : ℕ → MemoryAt) (play : ServedPlay) → line s passes enough memory play ≡ Some (left_by play (one s passes enough memory play)))
    → (s : CellSetting) (a : ServedPlay) → HasNoMove (one s) a → ComesTo (line s) a a
line_still one line is s a none =
    none_comes (one s) (line s) a none (λ passes enough memory first. is s passes enough memory a ∙ ap (λ o. Some (left_by a o)) first)

module _ (old new : Parts) (kept : MoveKeeps old new) (count : new.hall.faults ≡ old.hall.faults) (moved : Bool) where
  pub conn_line : (max c : ℕ) → MachineMoves max (λ s. one_of_conn s c) old moved new → ComesThrough (HasLongest max) (λ s. one_line s (turn_of_conn c)) old new
  conn_line max c moves =
      move_left (HasLongest max) (λ s. one_of_conn s c) old new kept count (λ s. one_line s (turn_of_conn c)) moved moves
      (line_left (λ s. one_of_conn s c) (λ s. one_line s (turn_of_conn c)) (λ s passes enough memory play. refl))
      (line_still (λ s. one_of_conn s c) (λ s. one_line s (turn_of_conn c)) (λ s passes enough memory play. refl))

  pub worker_line : (desk : DeskMeaning) (w : ℕ) → DeskMoves desk (λ s. one_of_worker s w) old moved new → ComesThrough (HasDesk desk) (λ s. one_line s (turn_of_worker w)) old new
  worker_line desk w moves =
      move_left (HasDesk desk) (λ s. one_of_worker s w) old new kept count (λ s. one_line s (turn_of_worker w)) moved moves
      (line_left (λ s. one_of_worker s w) (λ s. one_line s (turn_of_worker w)) (λ s passes enough memory play. refl))
      (line_still (λ s. one_of_worker s w) (λ s. one_line s (turn_of_worker w)) (λ s passes enough memory play. refl))

  pub outcome_line : ((max : ℕ) → MachineMoves max one_of_outcome old moved new) → ComesThrough AnySetting (λ s. one_line s turn_of_outcome) old new
  outcome_line moves =
      move_left AnySetting one_of_outcome old new kept count (λ s. one_line s turn_of_outcome) moved (λ s play w tied. moves s.desk.max_frame s play refl tied)
      (line_left one_of_outcome (λ s. one_line s turn_of_outcome) (λ s passes enough memory play. refl))
      (line_still one_of_outcome (λ s. one_line s turn_of_outcome) (λ s passes enough memory play. refl))

-- ---- a connection is opened

-- hall and workers of a play are tied where they are those of another
pub played_as : (s : CellSetting) (part : LoopPart) (hall : ServedHall) (workers : List Holding) (old : Parts) (play next : ServedPlay) → old.hall ≡ hall → old.workers ≡ workers → ArePlayed s old play
    → IsLoopTied s part next → HasSameHall play next → IsReached s next → ArePlayed s (record { part = part; hall = hall; workers = workers }) next
played_as s part hall workers old play next same_hall same_workers tied loop same reached =
    record {
      loop_tied = loop;
      hall_tied = subst (λ (h : ServedHall). IsHallTied h next.cell.hall) same_hall (subst (IsHallTied old.hall) (sym same.0) tied.hall_tied);
      workers_tied = subst (λ (ws : List Holding). AreWorkersTied s.desk ws next.cell.workers) same_workers (subst (AreWorkersTied s.desk old.workers) (sym same.1) tied.workers_tied);
      reached = reached;
    }

module _ (part : LoopPart) (old : Parts) (room : HasRoomToClose part) (feeds : length part.feeds.items ≡ length old.part.feeds.items) where
  pub part_kept : MoveKeeps old (record { part = part; hall = old.hall; workers = old.workers })
  part_kept = record { room = room; workers = refl; feeds = feeds }

  pub opening_line : (moved : Bool) → ((s : CellSetting) (one other : ServedPlay) → IsReached s one → ComesTo (one_opening s) one other → IsReachedFrom s one other)
      → LoopMoves AnySetting one_opening old.part moved part → ComesThrough AnySetting (λ s. one_line s opening) old (record { part = part; hall = old.hall; workers = old.workers })
  opening_line moved reaches moves =
      move_left AnySetting one_opening old (record { part = part; hall = old.hall; workers = old.workers }) part_kept refl (λ s. one_line s opening) moved
      (λ s play w tied. moves_so s play tied moved (moves s play tt tied.loop_tied))
      (line_left one_opening (λ s. one_line s opening) (λ s passes enough memory play. refl)) (line_still one_opening (λ s. one_line s opening) (λ s passes enough memory play. refl))
    where
      moves_so : (s : CellSetting) (play : ServedPlay) → ArePlayed s old play → (moved : Bool) → GoesOrStays (one_opening s) (λ next. IsLoopTied s part next × HasSameHall play next) play moved
          → GoesOrStays (one_opening s) (ArePlayed s (record { part = part; hall = old.hall; workers = old.workers })) play moved
      moves_so s play tied true m = (
        m.0,
        m.1,
        played_as s part old.hall old.workers old play m.0 refl refl tied m.2.0 m.2.1 (reaches s play m.0 tied.reached m.1).reached,
      )
      moves_so s play tied false m = (m.0, played_as s part old.hall old.workers old play play refl refl tied m.1.0 m.1.1 tied.reached)

  -- one that isn't opened, for want of memory
  pub opening_stops : (stop : RunStop) → stop ≡ NoMemory → StaysTied old.part part → StopsMachine AnySetting old (record { part = part; hall = old.hall; workers = old.workers }) stop
  opening_stops stop is stays =
      subst (StopsMachine AnySetting old (record { part = part; hall = old.hall; workers = old.workers })) (sym is)
      (record {
        by = ((λ s play w tied. (play, played_as s part old.hall old.workers old play play refl refl tied (stays s play tied.loop_tied) (refl, refl) tied.reached)), refl);
        kept = part_kept;
        later = omega arith;
      })

-- ---- a feed changes

-- a play whose cell and admitted sizes are those of one that is reached
reached_as : (s : CellSetting) (old new : ServedPlay) → new.cell ≡ old.cell → new.admitted ≡ old.admitted → IsReached s old → IsReached s new
reached_as s old new cell admitted reached =
    record {
      max = reached.max;
      run = subst (IsRunTo s) (sym cell) reached.run;
      none_left = subst (λ (x : ServedCell). NoneIsLeftBehind x.loop) (sym cell) reached.none_left;
      admits = subst (λ (p : ServedCell × (ℕ → Option ℕ)). AdmitsWithin s.budget p.0.loop p.1) (λ i. (sym cell i, sym admitted i)) reached.admits;
      kept = subst (λ (x : ServedCell). KeepsWithin s.desk.max_frame s.budget x.loop) (sym cell) reached.kept;
    }

set_get : (feeds : List Feed) (c : ℕ) (next : Feed) → c < length feeds → slice_get (set feeds c next) c ≡ Some next
set_get [] c next below = absurd (let k : ⊥ = omega arith in k)
set_get (feed ∷ feeds) zero next below = refl
set_get (feed ∷ feeds) (suc c) next below = set_get feeds c next (omega arith)

set_other : (feeds : List Feed) (c : ℕ) (next : Feed) (x : ℕ) → (c ≡ x → ⊥) → slice_get (set feeds c next) x ≡ slice_get feeds x
set_other [] c next x other = refl
set_other (feed ∷ feeds) zero next zero other = absurd (other refl)
set_other (feed ∷ feeds) zero next (suc x) other = refl
set_other (feed ∷ feeds) (suc c) next zero other = refl
set_other (feed ∷ feeds) (suc c) next (suc x) other = set_other feeds c next x (λ e. other (ap suc e))

set_all : (P : Feed → Type 0) (feeds : List Feed) (c : ℕ) (next : Feed) → AllByRecursion P feeds → P next → AllByRecursion P (set feeds c next)
set_all P [] c next all p = tt
set_all P (feed ∷ feeds) zero next all p = (p, all.1)
set_all P (feed ∷ feeds) (suc c) next all p = (all.0, set_all P feeds c next all.1 p)

pub at_all : (P : Feed → Type 0) (feeds : List Feed) (c : ℕ) (feed : Feed) → AllByRecursion P feeds → slice_get feeds c ≡ Some feed → P feed
at_all P [] c feed all there = absurd (none-some feed there)
at_all P (first ∷ feeds) zero feed all there = subst P (same_Some first feed there) all.0
at_all P (first ∷ feeds) (suc c) feed all there = at_all P feeds c feed all.1 there

-- a feed of pieces that aren't empty is put in the place of another
pub feed_put : (feeds : List Feed) (c : ℕ) (next : Feed) (unread : List (List ℕ)) (finish : Option InputFinish) (rules : List PlanRule) → c < length feeds → AllByRecursion HasSomePieces feeds
    → HasSomePieces next → unread_of next ≡ unread → finish_of next ≡ finish → rules_left next ≡ rules → HasFeed c unread finish rules feeds (set feeds c next)
feed_put feeds c next unread finish rules there all some unread_is finish_is rules_are =
    record {
      count = length-set feeds c next;
      unread_is = ap (λ (o : Option Feed). elim o [ None ↦ [] | Some feed ↦ unread_of feed ]) (set_get feeds c next there) ∙ unread_is;
      finish_is = ap (λ (o : Option Feed). elim o [ None ↦ None | Some feed ↦ finish_of feed ]) (set_get feeds c next there) ∙ finish_is;
      rules_are = ap (λ (o : Option Feed). elim o [ None ↦ [] | Some feed ↦ rules_left feed ]) (set_get feeds c next there) ∙ rules_are;
      others = λ x other. set_other feeds c next x other;
      pieces = set_all HasSomePieces feeds c next all some;
    }

-- what a machine under way says of its feeds
pub pieces_of : (old : Parts) → SomeMachine old → AllByRecursion HasSomePieces old.part.feeds.items
pieces_of old m = m.1.tied.loop_tied.pieces

pub room_in : (old : Parts) → SomeMachine old → HasRoomToClose old.part
room_in old m = m.1.room

-- a part of which the feeds alone have changed
pub record IsFedOnly (old new : LoopPart) : Type 0 where
  pub table : new.table ≡ old.table
  pub tape : new.tape ≡ old.tape
  pub stages : new.stages ≡ old.stages
  pub ends : new.ends ≡ old.ends

fed_room : (old new : LoopPart) → IsFedOnly old new → HasRoomToClose old → HasRoomToClose new
fed_room old new only room =
    record {
      for_marks = subst (λ (p : TableView × TapeView). length p.1.items + 2 * length p.0.slots ≤ p.1.capacity) (λ i. (sym only.table i, sym only.tape i)) room.for_marks;
      for_causes = subst (λ (p : Vec CellStage Global × Vec EndCause Global). length p.0.items ≤ vec_capacity p.1) (λ i. (sym only.stages i, sym only.ends i)) room.for_causes;
      none_yet = ap (λ v. v.items) only.ends ∙ room.none_yet;
      numbered = subst (λ (v : Vec CellStage Global). length v.items ≤ 2 ^ 32) (sym only.stages) room.numbered;
    }

module _ (old : Parts) (new : LoopPart) (c : ℕ) (only : IsFedOnly old.part new) (room : HasRoomToClose old.part) where
  -- a line that changes what is kept of the input of a connection
  input_line : (line : PlanLine) (unread : List (List ℕ)) (finish : Option InputFinish) → HasFeed c unread finish (rules_in old.part.feeds.items c) old.part.feeds.items new.feeds.items
      → (then_ : ServedPlay → ServedPlay) → ((play : ServedPlay) → (then_ play).moves ≡ play.moves) → ((play : ServedPlay) → (then_ play).cell ≡ play.cell)
      → ((play : ServedPlay) → (then_ play).admitted ≡ play.admitted)
      → ((s : CellSetting) (passes enough : ℕ) (memory : ℕ → MemoryAt) (play : ServedPlay) → one_line s line passes enough memory play ≡ Some (then_ play))
      → ((s : CellSetting) (play : ServedPlay) → IsLoopTied s old.part play → IsLoopTied s new (then_ play))
      → ComesThrough AnySetting (λ s. one_line s line) old (record { part = new; hall = old.hall; workers = old.workers })
  input_line line unread finish has then_ moves cell admitted does tied_so =
      record {
        goes = λ s play w tied. (
          then_ play,
          record { memories = []; counted = (let m : (then_ play).moves ≡ play.moves = moves play in omega arith); fuel = 0; leads = λ passes enough memory p e so. does s passes enough memory play },
          played_as s new old.hall old.workers old play (then_ play) refl refl tied (tied_so s play tied.loop_tied) (ap (λ k. k.hall) (cell play), ap (λ k. k.workers) (cell play))
              (reached_as s play (then_ play) (cell play) (admitted play) tied.reached),
        );
        kept = record { room = fed_room old.part new only room; workers = refl; feeds = has.count };
        count = refl;
      }

  -- a piece arrives
  pub piece_line : (bytes : List ℕ)
      → HasFeed c (unread_in old.part.feeds.items c ++ bytes ∷ []) (finish_in old.part.feeds.items c) (rules_in old.part.feeds.items c) old.part.feeds.items new.feeds.items
      → ComesThrough AnySetting (λ s. one_line s (piece c bytes)) old (record { part = new; hall = old.hall; workers = old.workers })
  piece_line bytes has =
      input_line (piece c bytes) (unread_in old.part.feeds.items c ++ bytes ∷ []) (finish_in old.part.feeds.items c) has
      (λ play. record play { unread = at_number play.unread c (play.unread c ++ bytes ∷ []) }) (λ play. refl) (λ play. refl) (λ play. refl) (λ s passes enough memory play. refl)
      (λ s play tied.
      pieces_passed s c old.part new play tied only.table only.tape only.stages (play.unread c ++ bytes ∷ [])
      (subst (λ k. HasFeed c (k ++ bytes ∷ []) (finish_in old.part.feeds.items c) (rules_in old.part.feeds.items c) old.part.feeds.items new.feeds.items) (sym (tied.unread c)) has))

  -- the input ends, or a read after its pieces fails
  finish_line : (line : PlanLine) (finish : InputFinish)
      → ((s : CellSetting) (passes enough : ℕ) (memory : ℕ → MemoryAt) (play : ServedPlay) → one_line s line passes enough memory play ≡ Some (record play { finish = at_number play.finish c (Some finish) }))
      → HasFeed c (unread_in old.part.feeds.items c) (Some finish) (rules_in old.part.feeds.items c) old.part.feeds.items new.feeds.items
      → ComesThrough AnySetting (λ s. one_line s line) old (record { part = new; hall = old.hall; workers = old.workers })
  finish_line line finish does has =
      input_line line (unread_in old.part.feeds.items c) (Some finish) has
      (λ play. record play { finish = at_number play.finish c (Some finish) }) (λ play. refl) (λ play. refl) (λ play. refl) does
      (λ s play tied.
      fed_so s c old.part new play tied only.table only.tape only.stages (unread_in old.part.feeds.items c) (Some finish) (rules_in old.part.feeds.items c)
      (record play { finish = at_number play.finish c (Some finish) }) has (tied.writes c) refl refl (λ x. kept_as c play.unread (unread_in old.part.feeds.items c) (tied.unread c) x)
      (λ x. refl) (λ x. kept_as c play.rules (rules_in old.part.feeds.items c) (tied.rules c) x))

  pub end_line : HasFeed c (unread_in old.part.feeds.items c) (Some finishes) (rules_in old.part.feeds.items c) old.part.feeds.items new.feeds.items
      → ComesThrough AnySetting (λ s. one_line s (input_end c)) old (record { part = new; hall = old.hall; workers = old.workers })
  end_line has = finish_line (input_end c) finishes (λ s passes enough memory play. refl) has

  pub fault_line : HasFeed c (unread_in old.part.feeds.items c) (Some faults) (rules_in old.part.feeds.items c) old.part.feeds.items new.feeds.items
      → ComesThrough AnySetting (λ s. one_line s (input_fault c)) old (record { part = new; hall = old.hall; workers = old.workers })
  fault_line has = finish_line (input_fault c) faults (λ s passes enough memory play. refl) has

  -- a piece that doesn't arrive, for want of memory
  pub piece_stops : (stop : RunStop) → stop ≡ NoMemory
      → HasFeed c (unread_in old.part.feeds.items c) (finish_in old.part.feeds.items c) (rules_in old.part.feeds.items c) old.part.feeds.items new.feeds.items
      → StopsMachine AnySetting old (record { part = new; hall = old.hall; workers = old.workers }) stop
  piece_stops stop is has =
      subst (StopsMachine AnySetting old (record { part = new; hall = old.hall; workers = old.workers })) (sym is)
      (record {
        by = (
          (λ s play w tied. (
            play,
            played_as s new old.hall old.workers old play play refl refl tied (refed_tied s c old.part new play tied.loop_tied only.table only.tape only.stages has) (refl, refl) tied.reached,
          )),
          refl,
        );
        kept = record { room = fed_room old.part new only room; workers = refl; feeds = has.count };
        later = omega arith;
      })

-- ---- a rest, and all lines

pub rest_line : (W : CellSetting → Type 0) (old new : Parts) → ComesThrough W all_passes old new → ComesThrough W (λ s. one_line s resting) old new
rest_line W old new d =
    record {
      goes = λ s play w tied.
          let g : GoesTo (all_passes s) (ArePlayed s new) play = d.goes s play w tied in (
            g.0,
            record { memories = g.1.memories; counted = g.1.counted; fuel = g.1.fuel; leads = λ passes enough memory p e so. g.1.leads enough enough memory e e so },
            g.2,
          );
      kept = d.kept;
      count = d.count;
    }

-- the lines from one on
left_lines : {A : Type 0} (f : A → PlanLine) (lines : List A) (i : ℕ) (line : A) → i < length lines → line ≡ get_or lines i line → drop i (map f lines) ≡ f line ∷ drop (i + 1) (map f lines)
left_lines f [] i line below here = absurd (let k : ⊥ = omega arith in k)
left_lines f (first ∷ lines) zero line below here = ap (λ x. f x ∷ map f lines) (sym here)
left_lines f (first ∷ lines) (suc i) line below here =
    let e : suc i + 1 ≡ suc (i + 1) = omega arith in
    left_lines f lines i line (omega arith) here ∙ ap (λ k. f line ∷ drop k (map f (first ∷ lines))) (sym e)

none_left : {A : Type 0} (f : A → PlanLine) (lines : List A) (i : ℕ) → length lines ≤ i → drop i (map f lines) ≡ []
none_left f [] zero past = refl
none_left f [] (suc i) past = refl
none_left f (first ∷ lines) zero past = absurd (let k : ⊥ = omega arith in k)
none_left f (first ∷ lines) (suc i) past = none_left f lines i (omega arith)

pub good_at : {A : Type 0} (P : PlanLine → Type 0) (f : A → PlanLine) (lines : List A) (i : ℕ) (line : A) → i < length lines → line ≡ get_or lines i line → AllByRecursion P (map f lines) → P (f line)
good_at P f [] i line below here all = absurd (let k : ⊥ = omega arith in k)
good_at P f (first ∷ lines) zero line below here all = subst (λ x. P (f x)) (sym here) all.0
good_at P f (first ∷ lines) (suc i) line below here all = good_at P f lines i line (omega arith) here all.1

module _ {A : Type 0} (f : A → PlanLine) (lines : List A) (desk : DeskMeaning) (i : ℕ) (old mid new : Parts)
    (g : LoopIsRunning (HasCrew desk (length old.workers)) (λ s. all_lines s (map f lines)) (λ s. all_lines s (drop i (map f lines))) old mid) where
  -- a line, and those behind it
  pub lines_round : (line : A) → i < length lines → line ≡ get_or lines i line → ComesThrough (HasCrew desk (length mid.workers)) (λ s. one_line s (f line)) mid new
      → LoopIsRunning (HasCrew desk (length old.workers)) (λ s. all_lines s (map f lines)) (λ s. all_lines s (drop (i + 1) (map f lines))) old new
  lines_round line below here d =
      comes_further (HasCrew desk (length old.workers)) (λ s. all_lines s (map f lines)) (λ s. all_lines s (drop i (map f lines))) (λ s. one_line s (f line))
      (λ s. all_lines s (drop (i + 1) (map f lines))) old mid new
      (λ s x y z w one two.
      subst (λ ls. ComesTo (all_lines s ls) x z) (sym (left_lines f lines i line below here)) (then_comes (one_line s (f line)) (all_lines s (drop (i + 1) (map f lines))) x y z one two))
      g (subst (λ k. ComesThrough (HasCrew desk k) (λ s. one_line s (f line)) mid new) g.kept.workers d)

  -- after the last line
  pub lines_last : length lines ≤ i → ComesThrough (HasCrew desk (length mid.workers)) all_passes mid new → ComesThrough (HasCrew desk (length old.workers)) (λ s. all_lines s (map f lines)) old new
  lines_last past d =
      comes_last (HasCrew desk (length old.workers)) (λ s. all_lines s (map f lines)) (λ s. all_lines s (drop i (map f lines))) old mid new g
      (subst (λ ls. ComesThrough (HasCrew desk (length old.workers)) (λ s. all_lines s ls) mid new) (sym (none_left f lines i past))
      (rest_line (HasCrew desk (length old.workers)) mid new (subst (λ k. ComesThrough (HasCrew desk k) all_passes mid new) g.kept.workers d)))

  pub lines_stop : (stop : RunStop) → StopsMachine (HasCrew desk (length mid.workers)) mid new stop → StopsMachine (HasCrew desk (length old.workers)) old new stop
  lines_stop stop st =
      run_stops (HasCrew desk (length old.workers)) (λ s. all_lines s (map f lines)) (λ s. all_lines s (drop i (map f lines))) old mid new stop g
      (subst (λ k. StopsMachine (HasCrew desk k) mid new stop) g.kept.workers st)

-- ---- a line by its kind, in a setting with this desk and so many workers

module _ (W V : CellSetting → Type 0) (narrow : (s : CellSetting) → V s → W s) (old new : Parts) where
  pub line_through : (line other : PlanLine) → other ≡ line → ComesThrough W (λ s. one_line s line) old new → ComesThrough V (λ s. one_line s other) old new
  line_through line other same d =
      subst (λ (l : PlanLine). ComesThrough V (λ s. one_line s l) old new) (sym same) (narrowed_through W V narrow (λ s. one_line s line) old new d)

  pub line_ok : {A E : Type 0} (r : Result A E) (line other : PlanLine) → other ≡ line → OnOk r (ComesThrough W (λ s. one_line s line) old new) → OnOk r (ComesThrough V (λ s. one_line s other) old new)
  line_ok (Ok value) line other same d = line_through line other same d
  line_ok (Err fault) line other same d = tt

  pub line_err : {A : Type 0} (r : Result A RunStop) → IfErr r (λ stop. StopsMachine W old new stop) → IfErr r (λ stop. StopsMachine V old new stop)
  line_err (Ok value) st = tt
  line_err (Err stop) st = narrowed_stop W V narrow old new stop st

pub rest_ok : {A E : Type 0} (V : CellSetting → Type 0) (old new : Parts) (r : Result A E) (other : PlanLine) → other ≡ resting → OnOk r (ComesThrough V all_passes old new)
    → OnOk r (ComesThrough V (λ s. one_line s other) old new)
rest_ok V old new (Ok value) other same d = subst (λ (l : PlanLine). ComesThrough V (λ s. one_line s l) old new) (sym same) (rest_line V old new d)
rest_ok V old new (Err fault) other same d = tt

-- the last drain after all lines, and where it stops
module _ {A : Type 0} (f : A → PlanLine) (lines : List A) (desk : DeskMeaning) (i : ℕ) (old mid new : Parts)
    (g : LoopIsRunning (HasCrew desk (length old.workers)) (λ s. all_lines s (map f lines)) (λ s. all_lines s (drop i (map f lines))) old mid) where
  pub last_ok : {X E : Type 0} (r : Result X E) → length lines ≤ i → OnOk r (ComesThrough (HasCrew desk (length mid.workers)) all_passes mid new)
      → OnOk r (ComesThrough (HasCrew desk (length old.workers)) (λ s. all_lines s (map f lines)) old new)
  last_ok (Ok value) past d = lines_last f lines desk i old mid new g past d
  last_ok (Err fault) past d = tt

  pub last_err : {X : Type 0} (r : Result X RunStop) → IfErr r (λ stop. StopsMachine (HasCrew desk (length mid.workers)) mid new stop)
      → IfErr r (λ stop. StopsMachine (HasCrew desk (length old.workers)) old new stop)
  last_err (Ok value) st = tt
  last_err (Err stop) st = lines_stop f lines desk i old mid new g stop st

-- the next line may be done by the machine as it is now
pub good_now : {A : Type 0} (f : A → PlanLine) (lines : List A) (old now : Parts) (i : ℕ) (line : A) → MoveKeeps old now → i < length lines → line ≡ get_or lines i line
    → AllByRecursion (IsLineFor (length old.part.feeds.items) (length old.workers)) (map f lines) → IsLineFor (length now.part.feeds.items) (length now.workers) (f line)
good_now f lines old now i line kept below here all =
    subst (λ (k : ℕ × ℕ). IsLineFor k.0 k.1 (f line)) (λ j. (sym kept.feeds j, sym kept.workers j))
    (good_at (IsLineFor (length old.part.feeds.items) (length old.workers)) f lines i line below here all)
