-- What a rehearsal in memory has come to: where all lines were done, where it stopped, and where it wasn't begun.
use Rattle.std.proofs.Common.{◌≡◌, ◌≢◌, ℕ, ◌<◌, ◌≤◌, ◌^◌, Option, Some, List, [], length, slice_get, refl, sym, ap, ◌∙◌, subst, arith}
use Rattle.streams.specs.Cause.{Rose}
use Rattle.streams.specs.declared.marks.Mark.{Mark}
use Rattle.host_model.specs.declared.cause.EndCause.{EndCause}
use Rattle.host_model.specs.declared.cause.EndCause.TheVariants.{Stopped, NoMemory as WantsMemory}
use Rattle.call_rules.specs.Entries.{CallEntry}
use Rattle.call_rules.specs.Handling.{handler_rules}
use Rattle.machine_model.specs.Loop.{Loop}
use Rattle.machine_model.specs.Machine.{EventsLead, IsFirst, HaveAllEnded}
use Rattle.machine_model.specs.SeenHall.{MayHave}
use Rattle.machine_model.proofs.Budgeting.{first_within}
use Rattle.script_model.specs.ScriptLines.{ScriptPlan}
use Rattle.script_model.specs.Playing.{MemoryAt, always_ample}
use Rattle.script_model.specs.Rehearsing.{IsRehearsalOf}
use Rattle.script_model.specs.Fed.{IsFedBy}
use Rattle.script_text.specs.Sound.{IsSoundPlan}
use Rattle.hall_core.specs.Meant.{ServedHall, opened_hall}
use Rattle.cell_loop.specs.declared.loop_part.LoopPart.{LoopPart}
use Rattle.cell_loop.specs.LoopTied.{IsLoopTied}
use Rattle.cell_loop.specs.LoopMoves.{AreAllOver, IsEndedLoop, IsLoopUnderWay, StopsAll}
use Rattle.cell_loop.specs.Stops.{stops_of}
use Rattle.cell_core.specs.declared.stop.RunStop.{RunStop}
use Rattle.cell_core.specs.declared.stop.RunStop.TheVariants.{JournalFault, NoMemory}
use Rattle.cell_core.specs.declared.worker.Holding.{Holding}
use Rattle.cell_loop.specs.Settings.{CellSetting, ServedCell, ServedPlay, desk_of_setting}
use Rattle.cell_loop.specs.Moving.{GoesTo, memory_of, all_lines}
use Rattle.cell_core.specs.Parts.{Parts}
use Rattle.cell_core.specs.Machines.{ArePlayed, AreUnderWay, IsOfDesk, HasFailed, HasCrew, StopsBy, StopsMachine, ComesThrough}
use Rattle.cell_core.specs.Rehearsed.{SeenRun, ShowsRun, IsSeenRun, IsSeenRehearsal, IsOpenedPart, AreFirstWorkers, LeadsToEnd}
use Rattle.cell_core.proofs.Opened.{first_cell, first_is, first_play, first_played, first_under_way, stands_over, seen_at, seen_led, services_same, services_after, is_rehearsal}
use Rattle.cell_core.proofs.Givens.{rose_as}
use Rattle.call_rules.specs.Desks.{longest_payload}

-- a run that wasn't begun
pub nothing_seen : (s : CellSetting) (told : Option (List CallEntry)) (run : SeenRun) → s.desk.max_frame ≤ longest_payload → MayHave told [] → run.tape ≡ [] → run.causes ≡ []
    → run.told ≡ told → run.services ≡ s.opening → IsSeenRun s run
nothing_seen s told run max empty tape causes told_is services =
    let small : s.desk.max_frame < 2 ^ 31 = omega arith in
    seen_at s (first_cell (opened_hall s.opening told 0)) run max
    (record { first = first_cell (opened_hall s.opening told 0); events = []; is_first = first_is s.opening told 0; lead = refl })
    (first_within s.desk.max_frame small s.budget s.opening (first_cell (opened_hall s.opening told 0)) (first_is s.opening told 0))
    (λ c below caused. absurd (let k : ⊥ = omega arith in k))
    (record {
      tape = sym tape;
      ended = record { count = ap length causes; each = λ c below. absurd (let k : ⊥ = omega arith in k) };
      told = subst (λ t. MayHave t []) (sym told_is) empty;
      services = sym services;
    })
    (λ none. services)

-- what a stop of all connections leads to
pub led_to_end : (s : CellSetting) (cell : ServedCell) (part : LoopPart) (tape : List Mark) (ends : List EndCause) → tape ≡ part.tape.items → ((causes : List EndCause) → AreAllOver part causes → ends ≡ causes)
    → (loop : Loop) × EventsLead (desk_of_setting s) handler_rules cell (stops_of cell.loop) (record cell { loop = loop }) × IsEndedLoop part loop → LeadsToEnd s cell tape ends
led_to_end s cell part tape ends tape_is ends_are led =
    record {
      loop = led.0;
      lead = led.1;
      same_tape = led.2.tape ∙ sym tape_is;
      ended = subst (HaveAllEnded led.0) (sym (ends_are led.2.causes led.2.over)) led.2.ended;
    }

-- as many causes are told as connections were opened
pub told_count : (old new : LoopPart) (ends : List EndCause) → IsLoopUnderWay old → StopsAll old new → ((causes : List EndCause) → AreAllOver new causes → ends ≡ causes)
    → length ends ≡ length new.stages.items
told_count old new ends under_way stops ends_are =
    let end : IsEndedLoop new _ = (stops under_way.setting under_way.play.cell under_way.play under_way.tied refl).2 in
    ap length (ends_are end.causes end.over) ∙ end.over.count

module _ (s : CellSetting) (script : ScriptPlan) (part : LoopPart) (workers : List Holding) (told : Option (List CallEntry)) (count : ℕ) (sound : IsSoundPlan script)
    (opened : IsOpenedPart s.budget script part) (first_workers : AreFirstWorkers s.workers workers) (empty : MayHave told []) (max : s.desk.max_frame ≤ longest_payload)
    (hall : ServedHall) (hall_is : hall ≡ opened_hall s.opening told count) (slots : s.desk.slots ≡ length s.opening) where
  abbrev pub begun : Parts
  begun = record { part = part; hall = hall; workers = workers }

  abbrev pub begun_play : ServedPlay
  begun_play = first_play s script part workers told count sound opened first_workers empty max

  pub begun_played : ArePlayed s begun begun_play
  begun_played =
      subst (λ (h : ServedHall). ArePlayed s (record { part = part; hall = h; workers = workers }) begun_play) (sym hall_is)
      (first_played s script part workers told count sound opened first_workers empty max)

  pub begun_under_way : AreUnderWay s begun
  begun_under_way =
      subst (λ (h : ServedHall). AreUnderWay s (record { part = part; hall = h; workers = workers })) (sym hall_is)
      (first_under_way s script part workers told count sound opened first_workers empty max slots)

  pub begun_of_desk : IsOfDesk s.desk begun
  begun_of_desk = (s, refl, begun_under_way)

  begun_crew : HasCrew s.desk (length workers) s
  begun_crew = (refl, sym begun_under_way.counted)

  -- ---- all lines were done

  module _ (new : Parts) (through : ComesThrough (HasCrew s.desk (length workers)) (λ t. all_lines t script.lines) begun new)
      (law_ended : (memory : ℕ → MemoryAt) (wants : ℕ) (first last : ServedCell) → IsFirst s.opening first
      → IsRehearsalOf (desk_of_setting s) handler_rules memory s.budget s.workers script wants first last
      → (causes : List EndCause) × HaveAllEnded last.loop causes × ((c : ℕ) → slice_get causes c ≢ Some Stopped))
      (run : SeenRun) (tape : run.tape ≡ new.part.tape.items) (ends : (causes : List EndCause) → AreAllOver new.part causes → run.causes ≡ causes)
      (services : run.services ≡ new.hall.memories) (told_is : run.told ≡ new.hall.told) where
    abbrev last : GoesTo (λ passes enough memory play. all_lines s script.lines passes enough memory play) (ArePlayed s new) begun_play
    last = through.goes s begun_play begun_crew begun_played

    abbrev first : ServedCell
    first = first_cell (opened_hall s.opening told count)

    is_first : IsFirst s.opening first
    is_first = first_is s.opening told count

    rehearsed : IsRehearsalOf (desk_of_setting s) handler_rules (memory_of last.1.memories) s.budget s.workers script last.0.wants first last.0.cell
    rehearsed = is_rehearsal s script first last.0 last.1

    over : (causes : List EndCause) × HaveAllEnded last.0.cell.loop causes × ((c : ℕ) → slice_get causes c ≢ Some Stopped)
    over = law_ended (memory_of last.1.memories) last.0.wants first last.0.cell is_first rehearsed

    all_over : AreAllOver new.part over.0
    all_over = stands_over s new.part last.0 over.0 last.2.loop_tied over.1

    ends_are : run.causes ≡ over.0
    ends_are = ends over.0 all_over

    looks : ShowsRun run last.0.cell
    looks =
        record {
          tape = last.2.loop_tied.tape ∙ sym tape;
          ended = subst (HaveAllEnded last.0.cell.loop) (sym ends_are) over.1;
          told = subst (λ t. MayHave t last.0.cell.hall.journal) (sym told_is) last.2.hall_tied.told;
          services = services_same s new last.0 last.2 ∙ sym services;
        }

    pub done_seen : IsSeenRun s run
    done_seen = seen_at s last.0.cell run max last.2.reached.run last.2.reached.kept last.2.reached.none_left looks (λ none. services ∙ services_after s new last.0 last.2)

    pub done_counted : length run.causes ≡ length new.part.stages.items
    done_counted = ap length ends_are ∙ all_over.count

    pub done_rehearsed : ((memory : ℕ → MemoryAt) (wants : ℕ) (first last : ServedCell) → IsFirst s.opening first
        → IsRehearsalOf (desk_of_setting s) handler_rules memory s.budget s.workers script wants first last → IsFedBy (desk_of_setting s) s.budget script last.loop.tape last.hall.journal)
        → ((memory : ℕ → MemoryAt) (wants : ℕ) (first last : ServedCell) (causes : List EndCause) → IsFirst s.opening first
        → IsRehearsalOf (desk_of_setting s) handler_rules memory s.budget s.workers script wants first last → HaveAllEnded last.loop causes
        → ((c : ℕ) → slice_get causes c ≢ Some WantsMemory) → IsRehearsalOf (desk_of_setting s) handler_rules always_ample s.budget s.workers script 0 first last)
        → IsSeenRehearsal s script run
    done_rehearsed law_fed law_ample =
        record {
          first = first;
          last = last.0.cell;
          memory = memory_of last.1.memories;
          wants = last.0.wants;
          is_first = is_first;
          rehearsed = rehearsed;
          looks = looks;
          fed = subst (λ (t : List Mark). IsFedBy (desk_of_setting s) s.budget script t last.0.cell.hall.journal) looks.tape
              (law_fed (memory_of last.1.memories) last.0.wants first last.0.cell is_first rehearsed);
          none_stopped = subst (λ (cs : List EndCause). (c : ℕ) → slice_get cs c ≢ Some Stopped) (sym ends_are) over.2;
          with_ample = λ none.
              record {
                first = first;
                last = last.0.cell;
                is_first = is_first;
                rehearsed = law_ample (memory_of last.1.memories) last.0.wants first last.0.cell run.causes is_first rehearsed looks.ended none;
                same_tape = sym looks.tape;
                same_journal = refl;
                ended = looks.ended;
              };
        }

  -- ---- it stopped

  module _ (new : Parts) (stop : RunStop) (stops : StopsMachine (HasCrew s.desk (length workers)) begun new stop) where
    pub stop_under_way : IsLoopUnderWay new.part
    stop_under_way = go stop stops.by
      where
        go : (stop : RunStop) → StopsBy (HasCrew s.desk (length workers)) begun new stop → IsLoopUnderWay new.part
        go NoMemory by =
            let now : (now : ServedPlay) × ArePlayed s new now = by.0 s begun_play begun_crew begun_played in
            record { setting = s; play = now.0; tied = now.1.loop_tied; room = stops.kept.room }
        go JournalFault by =
            let f : HasFailed s begun new = by s begun_play begun_crew begun_played in
            record { setting = s; play = f.play; tied = f.tied; room = stops.kept.room }

    pub stop_seen : (run : SeenRun) → ((s : CellSetting) (cell : ServedCell) (play : ServedPlay) → IsLoopTied s new.part play → cell.loop ≡ play.cell.loop → LeadsToEnd s cell run.tape run.causes)
        → run.services ≡ new.hall.memories → run.told ≡ new.hall.told → run.faults_before ≡ hall.faults → run.faults ≡ new.hall.faults → IsSeenRun s run
    stop_seen run leads services told_is before later = go stop stops.by
      where
        go : (stop : RunStop) → StopsBy (HasCrew s.desk (length workers)) begun new stop → IsSeenRun s run
        go NoMemory by =
            let now : (now : ServedPlay) × ArePlayed s new now = by.0 s begun_play begun_crew begun_played in
            seen_led s now.0.cell run max now.1.reached.run now.1.reached.kept now.1.reached.none_left (leads s now.0.cell now.0 now.1.loop_tied refl)
            (subst (λ t. MayHave t now.0.cell.hall.journal) (sym told_is) now.1.hall_tied.told) (services_same s new now.0 now.1 ∙ sym services)
            (λ none. services ∙ services_after s new now.0 now.1)
        go JournalFault by =
            let f : HasFailed s begun new = by s begun_play begun_crew begun_played in
            seen_led s f.cell run max f.run f.kept f.none_left (leads s f.cell f.play f.tied f.same) (subst (λ t. MayHave t f.cell.hall.journal) (sym told_is) f.torn.told) (f.torn.memories ∙ sym services)
            (λ none. absurd (none (rose_as run.faults_before hall.faults run.faults new.hall.faults before later f.torn.rose)))

    pub stop_rose : stop ≡ JournalFault → Rose hall.faults new.hall.faults
    stop_rose e =
        let by : StopsBy (HasCrew s.desk (length workers)) begun new JournalFault = subst (StopsBy (HasCrew s.desk (length workers)) begun new) e stops.by in
        let f : HasFailed s begun new = by s begun_play begun_crew begun_played in
        f.torn.rose

    pub stop_count : stop ≢ JournalFault → new.hall.faults ≡ hall.faults
    stop_count other = go stop refl stops.by
      where
        go : (which : RunStop) → stop ≡ which → StopsBy (HasCrew s.desk (length workers)) begun new which → new.hall.faults ≡ hall.faults
        go NoMemory is by = by.1
        go JournalFault is by = absurd (other is)
