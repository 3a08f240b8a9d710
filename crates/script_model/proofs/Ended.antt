-- A rehearsal ends with nothing under way, and each connection that it opened has ended.
use Rattle.std.proofs.Common.{◌≡◌, ◌≢◌, ℕ, ◌+◌, ◌<◌, ◌≤◌, ◌⊎◌, true, None, Some, List, [], ◌∷◌, ◌++◌, map, length, slice_get, refl, sym, ◌∙◌, subst, arith, append_assoc}
use Rattle.std.specs.List.{AllByRecursion}
use Rattle.host_model.specs.declared.key.Key.{Key}
use Rattle.host_model.specs.declared.cause.EndCause.{EndCause}
use Rattle.host_model.specs.declared.cause.EndCause.TheVariants.{Stopped}
use Rattle.host_model.specs.Journal.{ServiceRules}
use Rattle.host_model.specs.DeskRules.{DeskRules, Invoke}
use Rattle.machine_model.specs.Worker.{idle, holds}
use Rattle.machine_model.specs.Machine.{Cell, MachineEvent, EventsLead, IsFirst, HaveAllEnded}
use Rattle.machine_model.specs.Plain.{Told, event_told, run_plain}
use Rattle.machine_model.specs.Places.{CellKeeps}
use Rattle.script_model.specs.ScriptLines.{PlanLine, opening, piece, input_end, input_fault, resting, turn_of_conn, turn_of_worker, turn_of_outcome, PlanRule, takes_most, blocks, fails, ScriptPlan, openings, ends_input, fails_input, some_line, rules_of}
use Rattle.script_model.specs.Playing.{MemoryAt}
use Rattle.script_model.specs.Rehearsing.{before_all, IsRehearsalOf}
use Rattle.script_model.specs.Ending.{LetsAllMove, IsStill}
use Rattle.script_model.proofs.Leading.{is_run}
use Rattle.script_model.proofs.Stilling.{finish_comes, still_at_last}
use Rattle.script_model.proofs.Keeping.{MayWrite, IsGoodLine, KeptSo, KeepsAfter, lines_keep}
use Rattle.script_model.proofs.Concluding.{IsStalled, all_idle, no_jobs, no_outcomes, settled_or, stalls, all_ended}

one_on : {X : Type 0} (all above below : List X) (x : X) → all ≡ above ++ x ∷ below → all ≡ (above ++ x ∷ []) ++ below
one_on all above below x e = e ∙ sym (append_assoc above (x ∷ []) below)

good_rules : (workers : ℕ) (script : ScriptPlan) → LetsAllMove workers script → (c : ℕ) (above rules : List PlanRule) → rules_of c script ≡ above ++ rules → AllByRecursion MayWrite rules
good_rules workers script lets c above [] e = tt
good_rules workers script lets c above (takes_most count ∷ rules) e =
    (lets.writes c count above rules e, good_rules workers script lets c (above ++ takes_most count ∷ []) rules (one_on (rules_of c script) above rules (takes_most count) e))
good_rules workers script lets c above (blocks ∷ rules) e = (tt, good_rules workers script lets c (above ++ blocks ∷ []) rules (one_on (rules_of c script) above rules blocks e))
good_rules workers script lets c above (fails ∷ rules) e = (tt, good_rules workers script lets c (above ++ fails ∷ []) rules (one_on (rules_of c script) above rules fails e))

good_line : (workers : ℕ) (script : ScriptPlan) → LetsAllMove workers script → (above below : List PlanLine) (line : PlanLine) → script.lines ≡ above ++ line ∷ below → IsGoodLine workers line
good_line workers script lets above below (piece c bytes) e = lets.pieces above below c bytes e
good_line workers script lets above below (turn_of_worker w) e = lets.turns above below w e
good_line workers script lets above below opening e = tt
good_line workers script lets above below (input_end c) e = tt
good_line workers script lets above below (input_fault c) e = tt
good_line workers script lets above below resting e = tt
good_line workers script lets above below (turn_of_conn c) e = tt
good_line workers script lets above below turn_of_outcome e = tt

good_lines : (workers : ℕ) (script : ScriptPlan) → LetsAllMove workers script → (above lines : List PlanLine) → script.lines ≡ above ++ lines → AllByRecursion (IsGoodLine workers) lines
good_lines workers script lets above [] e = tt
good_lines workers script lets above (line ∷ lines) e =
    (good_line workers script lets above lines line e, good_lines workers script lets (above ++ line ∷ []) lines (one_on script.lines above lines line e))

module _ {C A M : Type 0} (d : DeskRules C A) (r : ServiceRules C A M) (memory : ℕ → MemoryAt)
    (computes : (first cell : Cell C A M) (told : List Told) → run_plain d r told (Some first) ≡ Some cell → EventsLead d r first (map event_told told) cell)
    (budget workers : ℕ) (script : ScriptPlan) (wants : ℕ) (opened : List M) (first last : Cell C A M) (is_first : IsFirst opened first) (lets : LetsAllMove workers script)
    (keeps : (cell : Cell C A M) (events : List MachineEvent) → EventsLead d r first events cell → CellKeeps d r opened cell)
    (served : (cell : Cell C A M) (events : List MachineEvent) → EventsLead d r first events cell → (w : ℕ) (key : Key) (payload : List ℕ) (call : C) → cell.workers w ≡ holds key payload
    → d.decide payload ≡ Invoke call → r.slot call < length cell.hall.memories)
    (t : IsRehearsalOf d r memory budget workers script wants first last) where
  first_kept : KeptSo d.max workers 0 first.loop first.workers (λ c. rules_of c script) (λ _. []) (λ _. None)
  first_kept =
      let none : first.loop.count ≡ 0 = is_first.count in
      record {
        within = omega arith;
        each = λ c l. absurd (let f : ⊥ = omega arith in f);
        unopened = λ c l. refl;
        resting_beyond = λ w l. is_first.workers w;
        writes = λ c. good_rules workers script lets c [] (rules_of c script) refl;
        pieces = λ c. tt;
      }

  pub kept : KeptSo d.max workers (0 + openings script.lines) t.play.cell.loop t.play.cell.workers t.play.rules t.play.unread t.play.admitted
  kept =
      subst (KeepsAfter d r memory computes workers (0 + openings script.lines)) t.done
      (lines_keep d r memory computes workers 0 t.fuel budget script.lines (before_all first script) (good_lines workers script lets [] script.lines refl) first_kept)

  still : IsStill d r memory budget workers t.play
  still = still_at_last d r memory t.fuel budget workers script.lines (before_all first script) t.play t.done

  led : (events : List MachineEvent) × EventsLead d r first events t.play.cell
  led =
      let run : (events : List MachineEvent) × EventsLead d r first events last = is_run d r memory computes budget workers script wants first last t in
      (run.0, subst (EventsLead d r first run.0) t.same run.1)

  -- nothing is under way then
  pub rests : ((w : ℕ) → last.workers w ≡ idle) × (last.hall.jobs ≡ []) × (last.hall.outcomes ≡ [])
  rests =
      let k : CellKeeps d r opened t.play.cell = keeps t.play.cell led.0 led.1 in
      subst (λ (cell : Cell C A M). ((w : ℕ) → cell.workers w ≡ idle) × (cell.hall.jobs ≡ []) × (cell.hall.outcomes ≡ [])) (sym t.same) (
        all_idle d r memory budget workers (0 + openings script.lines) opened t.play still kept k (served t.play.cell led.0 led.1),
        no_jobs d r memory budget workers (0 + openings script.lines) opened t.play still kept k (served t.play.cell led.0 led.1),
        no_outcomes d r memory budget workers (0 + openings script.lines) opened t.play still kept k (served t.play.cell led.0 led.1),
      )

  -- each payload was submitted and collected, or the last one isn't submitted
  pub settled : (c : ℕ) → c < t.play.cell.loop.count
      → (((t.play.cell.loop.conns c).submitted ≡ length (t.play.cell.loop.conns c).payloads) × ((t.play.cell.loop.conns c).collected ≡ length (t.play.cell.loop.conns c).payloads))
      ⊎ ((t.play.cell.loop.conns c).submitted < length (t.play.cell.loop.conns c).payloads)
  settled =
      settled_or d r memory budget workers (0 + openings script.lines) opened t.play still kept (keeps t.play.cell led.0 led.1) (served t.play.cell led.0 led.1)

  -- and what is still open stands still
  pub stalled : (c : ℕ) → c < t.play.cell.loop.count → (t.play.cell.loop.conns c).cause ≡ None → IsStalled d.max budget t.play c
  stalled = stalls d r memory budget workers (0 + openings script.lines) opened t.play still kept (keeps t.play.cell led.0 led.1) (served t.play.cell led.0 led.1)

  -- each connection whose input ends or fails has ended
  pub ended : d.max ≤ budget → ((c : ℕ) → c < openings script.lines → (some_line (ends_input c) script.lines ≡ true) ⊎ (some_line (fails_input c) script.lines ≡ true))
      → (causes : List EndCause) × HaveAllEnded last.loop causes × ((c : ℕ) → slice_get causes c ≢ Some Stopped)
  ended room inputs =
      let k : CellKeeps d r opened t.play.cell = keeps t.play.cell led.0 led.1 in
      let within : t.play.cell.loop.count ≤ 0 + openings script.lines = kept.within in
      subst (λ (cell : Cell C A M). (causes : List EndCause) × HaveAllEnded cell.loop causes × ((c : ℕ) → slice_get causes c ≢ Some Stopped)) (sym t.same)
      (all_ended d r memory budget workers (0 + openings script.lines) opened t.play still kept k (served t.play.cell led.0 led.1) room
      (λ c l. finish_comes d r memory c t.fuel budget workers script.lines (before_all first script) t.play t.done (inputs c (omega arith))))
