-- What a rehearsal in memory comes to: the lemmas of rehearsals, at the desk and the services of a setting.
use Rattle.std.proofs.Common.{◌≡◌, ◌≢◌, ℕ, ◌<◌, ◌≤◌, ◌^◌, Some, List, ◌++◌, map, length, slice_get, refl, subst, arith}
use Rattle.std.specs.Int.{w32, to_be_bytes}
use Rattle.host_model.specs.declared.cause.EndCause.{EndCause}
use Rattle.host_model.specs.declared.cause.EndCause.TheVariants.{Stopped, NoMemory}
use Rattle.host_model.specs.Frames.{IsPartial}
use Rattle.host_model.proofs.Runs.{stands}
use Rattle.call_rules.specs.Handling.{handler_rules}
use Rattle.machine_model.specs.HallRule.{apply, done}
use Rattle.machine_model.specs.Loop.{most_connections}
use Rattle.machine_model.specs.Worker.{has_none}
use Rattle.machine_model.specs.Bounds.{HasItsService}
use Rattle.machine_model.specs.Machine.{MachineEvent, EventsLead, IsFirst, HaveAllEnded}
use Rattle.machine_model.specs.Places.{CellKeeps}
use Rattle.machine_model.specs.Plain.{Told, event_told, run_plain}
use Rattle.machine_model.proofs.Computing.{run_is}
use Rattle.machine_model.proofs.Running.{keeps}
use Rattle.machine_model.proofs.Fitting.{worker_can}
use Rattle.machine_model.proofs.Pausing.{rests}
use Rattle.script_model.specs.ScriptLines.{ScriptPlan, openings}
use Rattle.script_model.specs.InputEnds.{EndsBehindPieces}
use Rattle.script_model.specs.Ending.{LetsAllEnd}
use Rattle.script_model.specs.Playing.{MemoryAt, always_ample}
use Rattle.script_model.specs.Rehearsing.{IsRehearsalOf}
use Rattle.script_model.specs.Fed.{IsFedBy}
use Rattle.script_model.proofs.Ended.{ended}
use Rattle.script_model.proofs.FedReads.{opens_all, reads_all}
use Rattle.script_model.proofs.Placing.{place_at_rest}
use Rattle.script_model.proofs.Ruling.{each_written}
use Rattle.script_model.proofs.Settling.{exactly}
use Rattle.script_model.proofs.Ample.{with_ample}
use Rattle.cell_loop.specs.Settings.{CellSetting, ServedCell, desk_of_setting}
use Rattle.cell_core.specs.Whole.{IsFitting}
use Rattle.call_rules.specs.Desks.{longest_payload}

module _ (s : CellSetting) (short : (bytes : List ℕ) → length bytes < 4 → IsPartial s.desk.max_frame bytes)
    (under_way : s.desk.max_frame < 2 ^ 31 → (size : ℕ) (bytes : List ℕ) → 1 ≤ size → size ≤ s.desk.max_frame → length bytes < size → IsPartial s.desk.max_frame (to_be_bytes w32 size ++ bytes))
    (fits : IsFitting s) (first : ServedCell) (is_first : IsFirst s.opening first) where
  small : s.desk.max_frame < 2 ^ 31
  small = let m : s.desk.max_frame ≤ longest_payload = fits.max in omega arith

  -- what the plain machine computes is a run
  computes : (old cell : ServedCell) (told : List Told) → run_plain (desk_of_setting s) handler_rules told (Some old) ≡ Some cell
      → EventsLead (desk_of_setting s) handler_rules old (map event_told told) cell
  computes old cell told e = run_is (desk_of_setting s) handler_rules small short (under_way small) old told cell e

  keeps_so : (cell : ServedCell) (events : List MachineEvent) → EventsLead (desk_of_setting s) handler_rules first events cell → CellKeeps (desk_of_setting s) handler_rules s.opening cell
  keeps_so cell events lead =
      keeps (desk_of_setting s) handler_rules s.opening (λ acts world w. stands (desk_of_setting s) handler_rules s.opening acts world small w) small first cell events is_first lead

  -- each call has its service
  services : HasItsService (desk_of_setting s) handler_rules (length s.opening)
  services payload call decided = subst (λ n. call.slot < n) fits.slots (fits.desk.in_slots payload call decided)

  module _ (memory : ℕ → MemoryAt) (script : ScriptPlan) (wants : ℕ) (last : ServedCell)
      (rehearsed : IsRehearsalOf (desk_of_setting s) handler_rules memory s.budget s.workers script wants first last) where
    pub all_end : LetsAllEnd s.workers script → (causes : List EndCause) × HaveAllEnded last.loop causes × ((c : ℕ) → slice_get causes c ≢ Some Stopped)
    all_end lets =
        ended (desk_of_setting s) handler_rules memory computes s.budget s.workers script wants s.opening first last is_first lets.moves keeps_so
        (λ cell events run w key payload call e q.
        (worker_can (desk_of_setting s) handler_rules s.opening (λ acts world r. stands (desk_of_setting s) handler_rules s.opening acts world small r) small first cell events is_first run w
        (apply key call) done (has_none key payload) services (payload, e, q, refl)).1)
        rehearsed fits.within lets.inputs

    pub all_fed : LetsAllEnd s.workers script → openings script.lines ≤ most_connections → EndsBehindPieces script.lines → IsFedBy (desk_of_setting s) s.budget script last.loop.tape last.hall.journal
    all_fed lets few behind_pieces =
        record {
          opened = opens_all (desk_of_setting s) handler_rules memory computes small script s.opening s.budget s.workers wants first last is_first rehearsed few;
          each_read = λ conn. reads_all (desk_of_setting s) handler_rules memory computes small script s.opening s.budget s.workers wants first last is_first rehearsed behind_pieces conn;
          each_written = λ conn. each_written (desk_of_setting s) handler_rules memory script s.opening first computes keeps_so s.budget s.workers wants last is_first rehearsed conn;
          rests = λ before behind is.
              place_at_rest (desk_of_setting s) handler_rules memory computes small s.opening first is_first keeps_so
              (λ cell events run w key payload call e q.
              (worker_can (desk_of_setting s) handler_rules s.opening (λ acts world r. stands (desk_of_setting s) handler_rules s.opening acts world small r) small first cell events is_first run w
              (apply key call) done (has_none key payload) services (payload, e, q, refl)).1)
              (λ mid end events more run rest led.
              rests (desk_of_setting s) handler_rules s.opening (λ acts world r. stands (desk_of_setting s) handler_rules s.opening acts world small r) small first mid end events more is_first run rest led)
              s.budget s.workers script lets.moves wants last rehearsed few before behind is;
        }

    -- memory ran out at no move, where no connection has ended for want of it
    no_want : (causes : List EndCause) → HaveAllEnded last.loop causes → ((c : ℕ) → slice_get causes c ≢ Some NoMemory) → wants ≡ 0
    no_want causes over none = (exactly (desk_of_setting s) handler_rules memory s.opening first computes keeps_so s.budget s.workers script wants last is_first rehearsed causes over).1 none

    pub shows_ample : (causes : List EndCause) → HaveAllEnded last.loop causes → ((c : ℕ) → slice_get causes c ≢ Some NoMemory)
        → IsRehearsalOf (desk_of_setting s) handler_rules always_ample s.budget s.workers script 0 first last
    shows_ample causes over none =
        with_ample (desk_of_setting s) handler_rules memory computes s.budget s.workers script first last
        (subst (λ n. IsRehearsalOf (desk_of_setting s) handler_rules memory s.budget s.workers script n first last) (no_want causes over none) rehearsed)
