-- A run in memory, as a run of a script.
use Rattle.std.proofs.Common.{◌≡◌, ◌<◌, ◌≤◌, ◌^◌, Option, List, [], ◌++◌, Some, refl, sym, subst, arith}
use Rattle.streams.specs.declared.marks.Mark.{Mark}
use Rattle.host_model.specs.DeskRules.{DeskRules}
use Rattle.host_model.specs.Headline.{Headline}
use Rattle.host_model.proofs.Runs as host
use Rattle.call_rules.specs.Desks.{longest_payload, desk_rules}
use Rattle.call_rules.specs.PlainCalls.{PlainCall, PlainAnswer}
use Rattle.call_rules.specs.Entries.{CallEntry}
use Rattle.call_rules.specs.Handling.{handler_rules}
use Rattle.machine_model.specs.SeenHall.{MayHave}
use Rattle.machine_model.proofs.Merging.{runs-append}
use Rattle.machine_model.proofs.Running.{meets}
use Rattle.script_model.specs.ScriptLines.{ScriptPlan}
use Rattle.script_model.specs.Playing.{always_ample}
use Rattle.script_model.specs.Fed.{IsFedBy}
use Rattle.script_model.specs.Showing.{IsRehearsedTo}
use Rattle.script_model.proofs.FedEnds.{each_ends}
use Rattle.cell_loop.specs.Settings.{CellSetting}
use Rattle.cell_loop.specs.Stops.{stops_of}
use Rattle.cell_core.specs.Rehearsed.{SeenRun, IsSeenRun, IsSeenRehearsal}
use Rattle.cell_core.proofs.Finishing.{nothing_seen}
use Rattle.recorded_runs.specs.Answered.{Answering, IsRunOfScript, TellsSomeRun}

-- what it is run with
abbrev pub setting_of : Answering → CellSetting
setting_of a = record { desk = a.desk; opening = a.services; budget = a.budget; workers = a.workers }

-- it meets the headline
meets_headline : (a : Answering) (run : SeenRun) (entries : List CallEntry) → a.desk.max_frame < 2 ^ 31 → run.told ≡ Some entries → IsSeenRun (setting_of a) run
    → Headline (desk_rules a.desk) handler_rules a.services run.tape entries run.causes
meets_headline a run entries small told seen =
    let d : DeskRules PlainCall PlainAnswer = desk_rules a.desk in
    let same : entries ≡ seen.last.hall.journal = subst (λ o. MayHave o seen.last.hall.journal) told seen.looks.told in
    subst (λ (es : List CallEntry). Headline d handler_rules a.services run.tape es run.causes) (sym same)
    (subst (λ (t : List Mark). Headline d handler_rules a.services t seen.last.hall.journal run.causes) seen.looks.tape
    (meets d handler_rules a.services (λ acts world reached. host.stands d handler_rules a.services acts world small reached) small
    (λ acts world given reached over. host.meets d handler_rules a.services acts world given small reached over) seen.first seen.last (seen.events ++ stops_of seen.stop.loop) run.causes
    seen.is_first (runs-append d handler_rules seen.first seen.stop seen.last seen.events (stops_of seen.stop.loop) seen.lead seen.stops) seen.looks.ended))

-- a rehearsal in memory that tells its journal as these entries is a run of its script
pub ran_script : (a : Answering) (script : ScriptPlan) (run : SeenRun) (entries : List CallEntry) → a.desk.max_frame < 2 ^ 31 → run.told ≡ Some entries → IsSeenRun (setting_of a) run
    → IsSeenRehearsal (setting_of a) script run → IsRunOfScript a script run.tape entries run.causes
ran_script a script run entries small told seen rehearsal =
    let same : entries ≡ rehearsal.last.hall.journal = subst (λ o. MayHave o rehearsal.last.hall.journal) told rehearsal.looks.told in
    let headline = meets_headline a run entries small told seen in
    let fed : IsFedBy (desk_rules a.desk) a.budget script run.tape entries =
    subst (λ (es : List CallEntry). IsFedBy (desk_rules a.desk) a.budget script run.tape es) (sym same) rehearsal.fed in
    record {
      headline = headline;
      fed = fed;
      bounded = seen.bounded;
      none_stopped = rehearsal.none_stopped;
      ends = λ c h. each_ends (desk_rules a.desk) handler_rules a.services a.budget script run.tape entries run.causes headline fed rehearsal.none_stopped c h;
      determined = λ none. subst (λ (es : List CallEntry). IsRehearsedTo (desk_rules a.desk) handler_rules a.services always_ample a.budget a.workers script 0 run.tape es run.causes)
          (sym same) (rehearsal.with_ample none);
    }

-- Whatever a run in memory has come to, a journal that tells these entries tells those of a run.
pub tells_run : (a : Answering) (run : SeenRun) (entries : List CallEntry) → a.desk.max_frame < 2 ^ 31 → run.told ≡ Some entries → IsSeenRun (setting_of a) run
    → TellsSomeRun a run.told
tells_run a run entries small told seen =
    record { tape = run.tape; journal = entries; causes = run.causes; told_so = told; headline = meets_headline a run entries small told seen }

-- one that tells none does, since a run may have no connection
pub tells_none : (a : Answering) (told : Option (List CallEntry)) → a.desk.max_frame ≤ longest_payload → told ≡ Some [] → TellsSomeRun a told
tells_none a told max is =
    let run : SeenRun = record { tape = []; causes = []; told = Some []; services = a.services; faults_before = 0; faults = 0 } in
    let small : a.desk.max_frame < 2 ^ 31 = omega arith in
    record {
      tape = [];
      journal = [];
      causes = [];
      told_so = is;
      headline = meets_headline a run [] small refl (nothing_seen (setting_of a) (Some []) run max refl refl refl refl refl);
    }
