-- What a move comes to is reached: some memory is so at the moves that were made, and some number of steps suffices, so the move is computed.
use Rattle.std.proofs.Common.{◌≡◌, ℕ, ◌+◌, ◌-◌, ◌<◌, ◌≤◌, ◌^◌, Option, Some, List, ◌++◌, map, length, slice_index_or, ap, subst, arith}
use Rattle.std.specs.Int.{w32, to_be_bytes}
use Rattle.host_model.specs.Frames.{IsPartial}
use Rattle.host_model.proofs.Runs.{stands}
use Rattle.call_rules.specs.Handling.{handler_rules}
use Rattle.machine_model.specs.Loop.{opens}
use Rattle.machine_model.specs.Machine.{MachineEvent, on_conn, EventsLead}
use Rattle.machine_model.specs.AtFronts.{KeepsWithin}
use Rattle.machine_model.specs.Places.{CellKeeps}
use Rattle.machine_model.specs.Plain.{Told, goes, event_told, run_plain}
use Rattle.machine_model.proofs.Computing.{run_is}
use Rattle.machine_model.proofs.Running.{keeps}
use Rattle.script_model.specs.Playing.{MemoryAt, ample}
use Rattle.script_model.proofs.Meeting.{Meets}
use Rattle.script_model.proofs.Leading.{Leads, Leading, told_leads, conn_leads, worker_leads, collect_leads}
use Rattle.cell_loop.specs.Settings.{CellSetting, ServedCell, ServedPlay, desk_of_setting}
use Rattle.cell_loop.specs.Moving.{Doing, ComesTo, one_of_conn, one_of_worker, one_of_outcome, one_opening}
use Rattle.cell_loop.specs.Reached.{IsReached, IsReachedFrom}
use Rattle.cell_loop.proofs.Composing.{so_by}
use Rattle.cell_loop.specs.Admitted.{AdmitsWithin}
use Rattle.cell_loop.proofs.Bounding.{IsWithin, conn_within, worker_within, collect_within, opening_within}
use Rattle.cell_loop.proofs.Reaching.{LedTo, LedOn, waits_from, none_left_in, conn_leads_on, worker_leads_on, collect_leads_on, opening_leads_on}
use Rattle.call_rules.specs.Desks.{longest_payload}

-- some memory and some number of steps with which a thing comes to what it comes to
pub came_so : (doing : Doing) (old new : ServedPlay) → ComesTo doing old new → (memory : ℕ → MemoryAt) × (n : ℕ) × (doing n n memory old ≡ Some new)
came_so doing old new comes =
    let memory : ℕ → MemoryAt = λ m. slice_index_or comes.memories (m - old.moves) ample in (
      memory,
      comes.fuel,
      comes.leads comes.fuel comes.fuel memory (omega arith) (omega arith)
          (so_by memory comes.memories old.moves (λ i l. let back : (i + old.moves) - old.moves ≡ i = omega arith in ap (λ k. slice_index_or comes.memories k ample) back)),
    )

module _ (s : CellSetting) (max : s.desk.max_frame ≤ longest_payload) (short : (bytes : List ℕ) → length bytes < 4 → IsPartial s.desk.max_frame bytes)
    (under_way : (size : ℕ) (bytes : List ℕ) → 1 ≤ size → size ≤ s.desk.max_frame → length bytes < size → IsPartial s.desk.max_frame (to_be_bytes w32 size ++ bytes)) where
  small : s.desk.max_frame < 2 ^ 31
  small = omega arith

  -- what the plain machine computes is a run
  computes : (first cell : ServedCell) (told : List Told) → run_plain (desk_of_setting s) handler_rules told (Some first) ≡ Some cell
      → EventsLead (desk_of_setting s) handler_rules first (map event_told told) cell
  computes first cell told e = run_is (desk_of_setting s) handler_rules small short under_way first told cell e

  module _ (old : ServedPlay) (reached : IsReached s old) where
    -- what holds of each cell that the run comes to
    stays_kept : (cell : ServedCell) (events : List MachineEvent) → EventsLead (desk_of_setting s) handler_rules reached.run.first events cell
        → CellKeeps (desk_of_setting s) handler_rules s.opening cell
    stays_kept cell events lead =
        keeps (desk_of_setting s) handler_rules s.opening (λ acts world w. stands (desk_of_setting s) handler_rules s.opening acts world small w) small
        reached.run.first cell events reached.run.is_first lead

    abbrev Led : ServedCell → Type 0
    Led cell = LedTo (desk_of_setting s) handler_rules s.opening reached.run.first computes stays_kept cell

    abbrev LedBy : Option ServedPlay → Type 0
    LedBy o = LedOn (desk_of_setting s) handler_rules s.opening reached.run.first computes stays_kept o

    -- the run leads to where the move begins
    led : Led old.cell
    led = waits_from (desk_of_setting s) handler_rules s.opening reached.run.first computes stays_kept old.cell reached.run.events reached.run.lead reached.none_left

    -- what is kept within the budget
    abbrev KeptBy : Option ServedPlay → Type 0
    KeptBy o =
        Meets (IsWithin (desk_of_setting s) handler_rules small s.budget computes s.opening reached.run.first reached.run.events old reached.run.is_first reached.run.lead
        (stays_kept old.cell reached.run.events reached.run.lead) reached.admits reached.kept) o

    -- a move that the run goes on by comes to a play that is reached
    reached_by : (memory : ℕ → MemoryAt) (new : ServedPlay) (o : Option ServedPlay) → o ≡ Some new → LedBy o → KeptBy o
        → Leading (desk_of_setting s) handler_rules memory computes old o → IsReachedFrom s old new
    reached_by memory new o e on within leading =
        let now : Led new.cell = subst LedBy e on in
        let bounded : AdmitsWithin s.budget new.cell.loop new.admitted × KeepsWithin s.desk.max_frame s.budget new.cell.loop = subst KeptBy e within in
        let leads : Leads (desk_of_setting s) handler_rules memory computes old new =
        subst (λ (x : Option ServedPlay). Leading (desk_of_setting s) handler_rules memory computes old x) e leading in
        record {
          reached =
              record {
                max = max;
                run = record { first = reached.run.first; events = now.events; is_first = reached.run.is_first; lead = now.lead };
                none_left = none_left_in (desk_of_setting s) handler_rules s.opening reached.run.first computes stays_kept new.cell now;
                admits = bounded.0;
                kept = bounded.1;
              };
          events = leads.events;
          lead = leads.lead;
        }

    pub conn_reaches : (c : ℕ) (new : ServedPlay) → ComesTo (one_of_conn s c) old new → IsReachedFrom s old new
    conn_reaches c new comes =
        let at : (memory : ℕ → MemoryAt) × (n : ℕ) × (one_of_conn s c n n memory old ≡ Some new) = came_so (one_of_conn s c) old new comes in
        reached_by at.0 new (one_of_conn s c at.1 at.1 at.0 old) at.2
        (conn_leads_on (desk_of_setting s) handler_rules s.opening reached.run.first computes stays_kept at.0 s.budget c old led)
        (conn_within (desk_of_setting s) handler_rules small s.budget computes s.opening reached.run.first reached.run.events old reached.run.is_first reached.run.lead
        (stays_kept old.cell reached.run.events reached.run.lead) reached.admits reached.kept at.0 c)
        (conn_leads (desk_of_setting s) handler_rules at.0 computes s.budget c old)

    pub worker_reaches : (w : ℕ) (new : ServedPlay) → ComesTo (one_of_worker s w) old new → IsReachedFrom s old new
    worker_reaches w new comes =
        let at : (memory : ℕ → MemoryAt) × (n : ℕ) × (one_of_worker s w n n memory old ≡ Some new) = came_so (one_of_worker s w) old new comes in
        reached_by at.0 new (one_of_worker s w at.1 at.1 at.0 old) at.2
        (worker_leads_on (desk_of_setting s) handler_rules s.opening reached.run.first computes stays_kept at.0 w old led)
        (worker_within (desk_of_setting s) handler_rules small s.budget computes s.opening reached.run.first reached.run.events old reached.run.is_first reached.run.lead
        (stays_kept old.cell reached.run.events reached.run.lead) reached.admits reached.kept at.0 w)
        (worker_leads (desk_of_setting s) handler_rules at.0 computes w old)

    pub outcome_reaches : (new : ServedPlay) → ComesTo (one_of_outcome s) old new → IsReachedFrom s old new
    outcome_reaches new comes =
        let at : (memory : ℕ → MemoryAt) × (n : ℕ) × (one_of_outcome s n n memory old ≡ Some new) = came_so (one_of_outcome s) old new comes in
        reached_by at.0 new (one_of_outcome s at.1 at.1 at.0 old) at.2
        (collect_leads_on (desk_of_setting s) handler_rules s.opening reached.run.first computes stays_kept old led)
        (collect_within (desk_of_setting s) handler_rules small s.budget computes s.opening reached.run.first reached.run.events old reached.run.is_first reached.run.lead
        (stays_kept old.cell reached.run.events reached.run.lead) reached.admits reached.kept)
        (collect_leads (desk_of_setting s) handler_rules at.0 computes old)

    pub opening_reaches : (new : ServedPlay) → ComesTo (one_opening s) old new → IsReachedFrom s old new
    opening_reaches new comes =
        let at : (memory : ℕ → MemoryAt) × (n : ℕ) × (one_opening s n n memory old ≡ Some new) = came_so (one_opening s) old new comes in
        reached_by at.0 new (one_opening s at.1 at.1 at.0 old) at.2
        (opening_leads_on (desk_of_setting s) handler_rules s.opening reached.run.first computes stays_kept old led)
        (opening_within (desk_of_setting s) handler_rules small s.budget computes s.opening reached.run.first reached.run.events old reached.run.is_first reached.run.lead
        (stays_kept old.cell reached.run.events reached.run.lead) reached.admits reached.kept)
        (told_leads (desk_of_setting s) handler_rules at.0 computes old (goes (on_conn opens)))
