-- A rehearsal's beginning and its end: the machine before the first line, and one whose connections have all ended.
use Rattle.std.proofs.Common.{◌≡◌, ℕ, zero, suc, ◌<◌, ◌≤◌, ◌^◌, Option, None, Some, List, [], ◌∷◌, ◌++◌, length, map, max, replicate, get_or, slice_get, refl, sym, ap, ◌∙◌, subst, arith}
use Rattle.std.specs.List.{AllByRecursion}
use Rattle.std.proofs.lemmas.List.{append_assoc}
use Rattle.std.proofs.lemmas.Option.{none-some}
use Rattle.streams.specs.Cause.{Rose}
use Rattle.host_model.specs.declared.cause.EndCause.{EndCause}
use Rattle.host_model.specs.DeskRules.{DeskRules}
use Rattle.host_model.specs.Journal.{after}
use Rattle.call_rules.specs.PlainCalls.{PlainCall, PlainAnswer}
use Rattle.call_rules.specs.Desks.{DeskMeaning, longest_payload}
use Rattle.call_rules.specs.Entries.{CallEntry}
use Rattle.call_rules.specs.Handling.{ServiceState, handler_rules}
use Rattle.conn_table.specs.Table.{TableView}
use Rattle.machine_model.specs.Loop.{LoopConn}
use Rattle.machine_model.specs.Worker.{idle}
use Rattle.machine_model.specs.Machine.{EventsLead, IsFirst, HaveAllEnded}
use Rattle.machine_model.specs.AtFronts.{KeepsWithin}
use Rattle.machine_model.specs.Bounds.{NoneIsLeftBehind}
use Rattle.machine_model.specs.Places.{CellKeeps}
use Rattle.machine_model.specs.SeenHall.{MayHave, filled}
use Rattle.machine_model.proofs.Budgeting.{first_within}
use Rattle.machine_model.proofs.Fronts.{run_fronts}
use Rattle.machine_model.proofs.Merging.{runs-append}
use Rattle.script_model.specs.ScriptLines.{PlanLine, opening, piece, input_end, input_fault, resting, turn_of_conn, turn_of_worker, turn_of_outcome, PlanRule, takes_most, blocks, fails, ScriptPlan, rules_of, openings}
use Rattle.script_model.specs.Ending.{LetsAllEnd}
use Rattle.script_model.specs.Rehearsing.{workers_among, before_all, IsRehearsalOf}
use Rattle.script_text.specs.Reading.{conn_of_line}
use Rattle.script_text.specs.Sound.{IsSoundPlan, MovesItsWorkers, most_workers}
use Rattle.hall_core.specs.Meant.{ServedHall, opened_hall}
use Rattle.cell_loop.specs.declared.feed.Feed.{Feed}
use Rattle.cell_loop.specs.declared.loop_part.CellStage.{CellStage}
use Rattle.cell_loop.specs.declared.loop_part.CellStage.TheVariants.{Lean, Framed, Whole, Asked, Over}
use Rattle.cell_loop.specs.declared.loop_part.LoopPart.{LoopPart}
use Rattle.cell_loop.specs.Feeds.{unread_in, finish_in, rules_in, HasSomePieces, BoundsSome, AreFreshFeeds}
use Rattle.cell_loop.specs.LoopTied.{CellStageTells, IsLoopTied, HasRoomToClose, IsFreshPart}
use Rattle.cell_loop.specs.LoopMoves.{AreAllOver}
use Rattle.cell_loop.specs.Stops.{open_numbers, stop_of, stops_of}
use Rattle.cell_loop.proofs.Halting.{none_to_stop, is_stopped, stops_within}
use Rattle.cell_loop.proofs.Starting.{starts_tied}
use Rattle.cell_core.specs.declared.worker.Holding.{Holding}
use Rattle.cell_core.specs.declared.worker.Holding.TheVariants.{Idle}
use Rattle.cell_core.specs.HallTied.{worker_in, KnowsItsCall, AreWorkersTied}
use Rattle.cell_loop.specs.Settings.{CellSetting, ServedCell, ServedPlay, HallInCell, desk_of_setting}
use Rattle.cell_loop.specs.Moving.{ComesTo, memory_of, all_lines}
use Rattle.cell_loop.specs.Reached.{IsRunTo, IsReached}
use Rattle.cell_loop.proofs.Going.{so_at_first}
use Rattle.cell_core.specs.Parts.{Parts}
use Rattle.cell_core.specs.Machines.{ArePlayed, AreUnderWay, IsLineFor}
use Rattle.cell_core.specs.Rehearsed.{SeenRun, ShowsRun, IsSeenRun, IsOpenedPart, AreFirstWorkers, LeadsToEnd}
use Rattle.cell_core.proofs.HallTying.{still_whole}
use Rattle.cell_core.proofs.Weights.{reached_keeps}

-- ---- fresh feeds

fresh_unread : (rules : List (List PlanRule)) (feeds : List Feed) → AreFreshFeeds rules feeds → (c : ℕ) → unread_in feeds c ≡ []
fresh_unread [] [] fresh c = refl
fresh_unread [] (feed ∷ feeds) fresh c = absurd fresh
fresh_unread (own ∷ rules) [] fresh c = absurd fresh
fresh_unread (own ∷ rules) (feed ∷ feeds) fresh zero = fresh.0
fresh_unread (own ∷ rules) (feed ∷ feeds) fresh (suc c) = fresh_unread rules feeds fresh.4 c

fresh_finish : (rules : List (List PlanRule)) (feeds : List Feed) → AreFreshFeeds rules feeds → (c : ℕ) → finish_in feeds c ≡ None
fresh_finish [] [] fresh c = refl
fresh_finish [] (feed ∷ feeds) fresh c = absurd fresh
fresh_finish (own ∷ rules) [] fresh c = absurd fresh
fresh_finish (own ∷ rules) (feed ∷ feeds) fresh zero = fresh.1
fresh_finish (own ∷ rules) (feed ∷ feeds) fresh (suc c) = fresh_finish rules feeds fresh.4 c

fresh_rules : (rules : List (List PlanRule)) (feeds : List Feed) → AreFreshFeeds rules feeds → (c : ℕ) → rules_in feeds c ≡ get_or rules c []
fresh_rules [] [] fresh c = refl
fresh_rules [] (feed ∷ feeds) fresh c = absurd fresh
fresh_rules (own ∷ rules) [] fresh c = absurd fresh
fresh_rules (own ∷ rules) (feed ∷ feeds) fresh zero = fresh.2
fresh_rules (own ∷ rules) (feed ∷ feeds) fresh (suc c) = fresh_rules rules feeds fresh.4 c

fresh_pieces : (rules : List (List PlanRule)) (feeds : List Feed) → AreFreshFeeds rules feeds → AllByRecursion HasSomePieces feeds
fresh_pieces [] [] fresh = tt
fresh_pieces [] (feed ∷ feeds) fresh = absurd fresh
fresh_pieces (own ∷ rules) [] fresh = absurd fresh
fresh_pieces (own ∷ rules) (feed ∷ feeds) fresh = (fresh.3, fresh_pieces rules feeds fresh.4)

pub fresh_count : (rules : List (List PlanRule)) (feeds : List Feed) → AreFreshFeeds rules feeds → length feeds ≡ length rules
fresh_count [] [] fresh = refl
fresh_count [] (feed ∷ feeds) fresh = absurd fresh
fresh_count (own ∷ rules) [] fresh = absurd fresh
fresh_count (own ∷ rules) (feed ∷ feeds) fresh = ap suc (fresh_count rules feeds fresh.4)

bounds_all : (rules : List PlanRule) → ((count : ℕ) (above behind : List PlanRule) → rules ≡ above ++ takes_most count ∷ behind → 0 < count) → AllByRecursion BoundsSome rules
bounds_all [] h = tt
bounds_all (takes_most count ∷ rules) h = (h count [] rules refl, bounds_all rules (λ n above behind e. h n (takes_most count ∷ above) behind (ap (λ xs. takes_most count ∷ xs) e)))
bounds_all (blocks ∷ rules) h = (tt, bounds_all rules (λ n above behind e. h n (blocks ∷ above) behind (ap (λ xs. blocks ∷ xs) e)))
bounds_all (fails ∷ rules) h = (tt, bounds_all rules (λ n above behind e. h n (fails ∷ above) behind (ap (λ xs. fails ∷ xs) e)))

-- the part of a script before its first line
pub fresh_part : (s : CellSetting) (script : ScriptPlan) (part : LoopPart) → IsSoundPlan script → IsOpenedPart s.budget script part → IsFreshPart s script part
fresh_part s script part sound opened =
    record {
      table = opened.table;
      tape = opened.tape;
      stages = opened.stages;
      unread = fresh_unread script.rules part.feeds.items opened.feeds;
      finish = fresh_finish script.rules part.feeds.items opened.feeds;
      rules = fresh_rules script.rules part.feeds.items opened.feeds;
      pieces = fresh_pieces script.rules part.feeds.items opened.feeds;
      writes = λ c.
          subst (AllByRecursion BoundsSome) (sym (fresh_rules script.rules part.feeds.items opened.feeds c))
          (bounds_all (rules_of c script) (λ count above behind e. sound.writes c count above behind e));
    }

-- ---- the lines of a script

opened_below : (above behind : List PlanLine) → openings above ≤ openings (above ++ behind)
opened_below [] behind = omega arith
opened_below (line ∷ above) behind = let rest : openings above ≤ openings (above ++ behind) = opened_below above behind in omega arith

module _ (script : ScriptPlan) (sound : IsSoundPlan script) (workers : ℕ) (moves : MovesItsWorkers workers script) (feeds : ℕ) (counted : feeds ≡ length script.rules) where
  -- a line that speaks of a connection speaks of one that has a feed
  has_feed : (above behind : List PlanLine) (line : PlanLine) (c : ℕ) → script.lines ≡ above ++ line ∷ behind → conn_of_line line ≡ Some c → c < feeds
  has_feed above behind line c is of_conn =
      let a : c < openings above = sound.opened above behind line c is of_conn in
      let b : openings above ≤ openings (above ++ line ∷ behind) = opened_below above (line ∷ behind) in
      let e : openings script.lines ≡ openings (above ++ line ∷ behind) = ap openings is in
      let r : length script.rules ≡ openings script.lines = sound.with_rules in
      omega arith

  good_line : (above behind : List PlanLine) (line : PlanLine) → script.lines ≡ above ++ line ∷ behind → IsLineFor feeds (workers_among workers) line
  good_line above behind opening is = tt
  good_line above behind (piece c bytes) is = (has_feed above behind (piece c bytes) c is refl, (sound.pieces above behind c bytes is).0)
  good_line above behind (input_end c) is = has_feed above behind (input_end c) c is refl
  good_line above behind (input_fault c) is = has_feed above behind (input_fault c) c is refl
  good_line above behind resting is = tt
  good_line above behind (turn_of_conn c) is = tt
  good_line above behind (turn_of_worker w) is = moves above behind w is
  good_line above behind turn_of_outcome is = tt

  good_lines : (above lines : List PlanLine) → script.lines ≡ above ++ lines → AllByRecursion (IsLineFor feeds (workers_among workers)) lines
  good_lines above [] is = tt
  good_lines above (line ∷ lines) is = (good_line above lines line is, good_lines (above ++ line ∷ []) lines (is ∙ sym (append_assoc above (line ∷ []) lines)))

  pub all_good : AllByRecursion (IsLineFor feeds (workers_among workers)) script.lines
  all_good = good_lines [] script.lines refl

-- what lets all end for the most workers does for those that there are
pub lets_all : (workers : ℕ) (script : ScriptPlan) → MovesItsWorkers workers script → LetsAllEnd most_workers script → LetsAllEnd workers script
lets_all workers script moves lets = record { moves = record { pieces = lets.moves.pieces; writes = lets.moves.writes; turns = moves }; inputs = lets.inputs }

-- ---- the machine before the first line

-- its cell
abbrev pub first_cell : ServedHall → ServedCell
first_cell hall =
    record {
      loop = record { count = 0; conns = λ c. record { payloads = []; held = []; submitted = 0; collected = 0; left = []; cause = None }; tape = [] };
      hall = filled hall [];
      workers = λ w. idle;
    }

pub first_is : (services : List ServiceState) (told : Option (List CallEntry)) (count : ℕ) → IsFirst services (first_cell (opened_hall services told count))
first_is services told count =
    record {
      tape = refl;
      count = refl;
      hall = record { opened = record { jobs = refl; taken = refl; outcomes = refl; closed = refl; broken = refl }; memories = refl; journal = refl };
      workers = λ w. refl;
    }

idle_each : (n w : ℕ) → idle ≡ worker_in (replicate n Idle) w
idle_each zero w = refl
idle_each (suc n) zero = refl
idle_each (suc n) (suc w) = idle_each n w

idle_known : (desk : DeskMeaning) (n : ℕ) → AllByRecursion (KnowsItsCall desk) (replicate n Idle)
idle_known desk zero = tt
idle_known desk (suc n) = (tt, idle_known desk n)

idle_count : (n : ℕ) → length (replicate n Idle) ≡ n
idle_count zero = refl
idle_count (suc n) = ap suc (idle_count n)

module _ (s : CellSetting) (script : ScriptPlan) (part : LoopPart) (workers : List Holding) (told : Option (List CallEntry)) (count : ℕ) (sound : IsSoundPlan script)
    (opened : IsOpenedPart s.budget script part) (first_workers : AreFirstWorkers s.workers workers) (empty : MayHave told []) (max : s.desk.max_frame ≤ longest_payload) where
  abbrev pub opened_parts : Parts
  opened_parts = record { part = part; hall = opened_hall s.opening told count; workers = workers }

  abbrev pub first_play : ServedPlay
  first_play = before_all (first_cell (opened_hall s.opening told count)) script

  pub first_reached : IsReached s first_play
  first_reached =
      record {
        max = max;
        run = record { first = first_cell (opened_hall s.opening told count); events = []; is_first = first_is s.opening told count; lead = refl };
        none_left = λ c below caused. absurd (let k : ⊥ = omega arith in k);
        admits = record { within = omega arith; each = λ c. record { own = λ size e. absurd (none-some size e); begun = λ below is_open long. absurd (let k : ⊥ = omega arith in k) } };
        kept = first_within s.desk.max_frame small s.budget s.opening (first_cell (opened_hall s.opening told count)) (first_is s.opening told count);
      }
    where
      small : s.desk.max_frame < 2 ^ 31
      small = omega arith

  pub first_played : ArePlayed s opened_parts first_play
  first_played =
      record {
        loop_tied = starts_tied s part (first_cell (opened_hall s.opening told count)) script (first_is s.opening told count) (fresh_part s script part sound opened);
        hall_tied = record { told = empty; same = refl; unclosed = refl; whole = refl; replies = tt };
        workers_tied = subst (λ ws. AreWorkersTied s.desk ws (λ w. idle)) (sym first_workers)
            (record { each = idle_each (workers_among s.workers); known = idle_known s.desk (workers_among s.workers) });
        reached = first_reached;
      }

  first_room : HasRoomToClose part
  first_room =
      let tape : length part.tape.items ≡ 0 = ap length opened.tape in
      let slots : length part.table.slots ≡ 0 = ap (λ (t : TableView). length t.slots) opened.table in
      let stages : length part.stages.items ≡ 0 = ap length opened.stages in
      record { for_marks = omega arith; for_causes = omega arith; none_yet = opened.ends; numbered = omega arith }

  pub first_under_way : s.desk.slots ≡ length s.opening → AreUnderWay s opened_parts
  first_under_way slots =
      record {
        play = first_play;
        tied = first_played;
        counted = ap length first_workers ∙ idle_count (workers_among s.workers);
        room = first_room;
        slots = slots;
        max = max;
      }

-- ---- a machine whose connections have all ended

got_at : (stages : List CellStage) (c : ℕ) → c < length stages → slice_get stages c ≡ Some (get_or stages c Lean)
got_at [] c below = absurd (let k : ⊥ = omega arith in k)
got_at (stage ∷ stages) zero below = refl
got_at (stage ∷ stages) (suc c) below = got_at stages c (omega arith)

below_got : (causes : List EndCause) (c : ℕ) (cause : EndCause) → slice_get causes c ≡ Some cause → c < length causes
below_got [] c cause got = absurd (none-some cause got)
below_got (first ∷ causes) zero cause got = omega arith
below_got (first ∷ causes) (suc c) cause got = let l : c < length causes = below_got causes c cause got in omega arith

over_so : (max : ℕ) (table : TableView) (c : ℕ) (conn : LoopConn) (admitted : Option ℕ) (stage : CellStage) (cause : EndCause) → CellStageTells max table c conn admitted stage → conn.cause ≡ Some cause → stage ≡ Over cause
over_so max table c conn admitted Lean cause tells is = absurd (none-some cause (sym tells.0.tied.going ∙ is))
over_so max table c conn admitted Framed cause tells is = absurd (none-some cause (sym tells.0.tied.going ∙ is))
over_so max table c conn admitted Whole cause tells is = absurd (none-some cause (sym tells.0.tied.going ∙ is))
over_so max table c conn admitted Asked cause tells is = absurd (none-some cause (sym tells.0.tied.going ∙ is))
over_so max table c conn admitted (Over other) cause tells is = ap (λ (o : Option EndCause). elim o [ None ↦ Over other | Some x ↦ Over x ]) (sym tells.2 ∙ is)

pub stands_over : (s : CellSetting) (part : LoopPart) (play : ServedPlay) (causes : List EndCause) → IsLoopTied s part play → HaveAllEnded play.cell.loop causes → AreAllOver part causes
stands_over s part play causes tied over =
    record {
      count = over.count ∙ tied.count;
      each = λ c cause got.
          let l : c < length causes = below_got causes c cause got in
          let n : length causes ≡ play.cell.loop.count = over.count in
          let m : play.cell.loop.count ≡ length part.stages.items = tied.count in
          got_at part.stages.items c (omega arith)
          ∙ ap Some (over_so s.desk.max_frame part.table c (play.cell.loop.conns c) (play.admitted c) (get_or part.stages.items c Lean) cause (tied.stages c (omega arith)) (over.each c (omega arith) ∙ got));
    }

-- ---- what is seen of a run

-- a run to a cell, within the budget, of which what was open is stopped
pub seen_by : (s : CellSetting) (stop last : ServedCell) (run : SeenRun) → s.desk.max_frame ≤ longest_payload → IsRunTo s stop → KeepsWithin s.desk.max_frame s.budget stop.loop → NoneIsLeftBehind stop.loop
    → EventsLead (desk_of_setting s) handler_rules stop (stops_of stop.loop) last → ShowsRun run last
    → ((Rose run.faults_before run.faults → ⊥) → run.services ≡ after handler_rules s.opening last.hall.journal) → IsSeenRun s run
seen_by s stop last run max to kept none_left stops looks services =
    let small : s.desk.max_frame < 2 ^ 31 = omega arith in
    let d : DeskRules PlainCall PlainAnswer = desk_of_setting s in
    let all : EventsLead d handler_rules to.first (to.events ++ stops_of stop.loop) last = runs-append d handler_rules to.first stop last to.events (stops_of stop.loop) to.lead stops in
    let within : KeepsWithin s.desk.max_frame s.budget last.loop =
    stops_within d handler_rules small s.budget s.opening to.first to.is_first (open_numbers stop.loop) to.events stop last to.lead kept stops in
    record {
      first = to.first;
      stop = stop;
      last = last;
      events = to.events;
      is_first = to.is_first;
      lead = to.lead;
      stops = stops;
      none_left = none_left;
      looks = looks;
      stopped = is_stopped d handler_rules stop last run.tape run.causes stops looks.tape looks.ended;
      bounded = λ front back is.
          record {
            few = run_fronts d handler_rules s.opening to.first last (to.events ++ stops_of stop.loop) to.is_first all front back (looks.tape ∙ is);
            sizes = within.fronts front back (looks.tape ∙ is);
          };
      services = services;
    }

-- one whose connections have all ended
pub seen_at : (s : CellSetting) (cell : ServedCell) (run : SeenRun) → s.desk.max_frame ≤ longest_payload → IsRunTo s cell → KeepsWithin s.desk.max_frame s.budget cell.loop → NoneIsLeftBehind cell.loop
    → ShowsRun run cell
    → ((Rose run.faults_before run.faults → ⊥) → run.services ≡ after handler_rules s.opening cell.hall.journal) → IsSeenRun s run
seen_at s cell run max to kept none_left looks services =
    seen_by s cell cell run max to kept none_left
    (subst (λ (numbers : List ℕ). EventsLead (desk_of_setting s) handler_rules cell (map stop_of numbers) cell) (sym (none_to_stop cell.loop run.causes looks.ended)) refl) looks services

-- one that is led to its end
pub seen_led : (s : CellSetting) (cell : ServedCell) (run : SeenRun) → s.desk.max_frame ≤ longest_payload → IsRunTo s cell → KeepsWithin s.desk.max_frame s.budget cell.loop → NoneIsLeftBehind cell.loop
    → LeadsToEnd s cell run.tape run.causes → MayHave run.told cell.hall.journal → cell.hall.memories ≡ run.services
    → ((Rose run.faults_before run.faults → ⊥) → run.services ≡ after handler_rules s.opening cell.hall.journal) → IsSeenRun s run
seen_led s cell run max to kept none_left led told services_are services =
    seen_by s cell (record cell { loop = led.loop }) run max to kept none_left led.lead (record { tape = led.same_tape; ended = led.ended; told = told; services = services_are }) services

-- services of a hall and of the one that it is tied to
pub services_same : (s : CellSetting) (now : Parts) (play : ServedPlay) → ArePlayed s now play → play.cell.hall.memories ≡ now.hall.memories
services_same s now play tied = sym (ap (λ (h : HallInCell). h.memories) tied.hall_tied.same)

-- and they have the memories after its journal
pub services_after : (s : CellSetting) (now : Parts) (play : ServedPlay) → ArePlayed s now play → now.hall.memories ≡ after handler_rules s.opening play.cell.hall.journal
services_after s now play tied =
    let k : CellKeeps (desk_of_setting s) handler_rules s.opening play.cell = reached_keeps s play tied.reached in
    sym (services_same s now play tied) ∙ k.memories (still_whole now.hall play.cell.hall tied.hall_tied)

-- ---- the lines that were done are a rehearsal

pub is_rehearsal : (s : CellSetting) (script : ScriptPlan) (first : ServedCell) (last : ServedPlay) → (comes : ComesTo (λ passes enough memory play. all_lines s script.lines passes enough memory play) (before_all first script) last)
    → IsRehearsalOf (desk_of_setting s) handler_rules (memory_of comes.memories) s.budget s.workers script last.wants first last.cell
is_rehearsal s script first last comes =
    record {
      fuel = comes.fuel;
      play = last;
      done = comes.leads comes.fuel comes.fuel (memory_of comes.memories) (omega arith) (omega arith) (so_at_first comes.memories);
      count = refl;
      same = refl;
    }
