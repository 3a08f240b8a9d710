-- A run of serving links over a script is one of the script.
use Rattle.std.proofs.Common.{◌≡◌, ℕ, ◌<◌, ◌^◌, true, Some, IfSome, List, ◌∷◌, ◌++◌, slice_get, refl, sym, ap, ◌∙◌, subst}
use Rattle.streams.specs.declared.marks.Mark.{Mark}
use Rattle.streams.specs.declared.marks.Mark.TheVariants.{Read, Wrote}
use Rattle.std.proofs.lemmas.Grind.{flat_map-append}
use Rattle.streams.specs.Cause.{Rose}
use Rattle.outside.specs.LinksState.{LinksState}
use Rattle.host_model.specs.Marks.{marks_of, read_by, input}
use Rattle.host_model.specs.Headline.{Headline}
use Rattle.host_model.proofs.Filters.{marks_append}
use Rattle.conn_table.specs.declared.run_limits.Outcome.TheVariants as outcomes
use Rattle.call_rules.specs.Entries.{CallEntry}
use Rattle.call_rules.specs.Desks.{desk_rules}
use Rattle.call_rules.specs.Handling.{handler_rules}
use Rattle.machine_model.specs.OpenAtFronts.{marks_counted}
use Rattle.machine_model.specs.SeenHall.{MayHave}
use Rattle.script_model.specs.ScriptLines.{ScriptPlan}
use Rattle.script_model.specs.Fed.{IsFedBy}
use Rattle.script_model.proofs.Holding.{AreBytes}
use Rattle.script_model.proofs.FedEnds.{each_ends}
use Rattle.script_links.specs.ServedScript.{ServedScript}
use Rattle.script_links.specs.Shown.{links_told}
use Rattle.script_links.specs.Shows.{lent_behind}
use Rattle.script_links.specs.Followed.{AreMadeOf, AreLinksOf, plan_of_links, FollowsScript}
use Rattle.script_links.specs.Serves.{ServesLinks}
use Rattle.script_links.proofs.FedByLinks.{fed}
use Rattle.host_loop.specs.Lengths.{AreLengths, transfer_of}
use Rattle.host_loop.specs.Rests.{AreNotedRests}
use Rattle.host_loop.specs.Served.{ServerSetting, ServedRun, IsServed, ComesOutBy}
use Rattle.recorded_runs.specs.Answered.{Answering, TellsSomeRun}
use Rattle.recorded_runs.specs.ServedScripts.{IsServedScript, setting_of}
use Rattle.recorded_runs.proofs.Pieces.{pieces_are, bytes_begun}
use Rattle.recorded_runs.proofs.Lending.{counted_alike, rested, reads_so, writes_so}

module _ (a : Answering) (script : ScriptPlan) (links : ServedScript) (run : ServedRun) (journal : List CallEntry) (small : a.desk.max_frame < 2 ^ 31)
    (served : IsServed (setting_of a) run) (all : run.outcome ≡ outcomes.All) (is : run.links ≡ links_told links) (told : run.told ≡ Some journal) (own : AreLinksOf script links)
    (follows : FollowsScript script links.tape links.rests links.lengths) where
  tape_same : links.tape ≡ served.tape
  tape_same = subst (λ (s : LinksState). MayHave s.tape served.tape) is served.tape_told

  journal_same : journal ≡ served.journal
  journal_same = subst (λ o. MayHave o served.journal) told served.journal_told

  lengths : AreLengths (desk_rules a.desk) served.journal served.tape links.lengths
  lengths = subst (λ (s : LinksState). IfSome s.lengths (AreLengths (desk_rules a.desk) served.journal served.tape)) is served.lengths

  rests : AreNotedRests (desk_rules a.desk) a.budget served.tape served.journal links.rests
  rests = subst (λ (s : LinksState). IfSome s.rests (AreNotedRests (desk_rules a.desk) a.budget served.tape served.journal)) is served.rests

  followed : FollowsScript script served.tape links.rests links.lengths
  followed = subst (λ (t : List Mark). FollowsScript script t links.rests links.lengths) tape_same follows

  lent : (front : List Mark) (count : ℕ) → lent_behind links.lengths front ≡ Some count → slice_get links.lengths (marks_counted transfer_of front) ≡ Some count
  lent front count e = ap (slice_get links.lengths) (counted_alike front) ∙ e

  -- what was read before a mark is bytes in memory
  read_bytes : (c : ℕ) (front back : List Mark) → served.tape ≡ front ++ back → AreBytes (input (marks_of c front))
  read_bytes c front back e =
      let begun = followed.bytes c in
      let cut : input (marks_of c served.tape) ≡ input (marks_of c front) ++ input (marks_of c back) =
      ap (λ (t : List Mark). input (marks_of c t)) e ∙ ap input (marks_append c front back) ∙ flat_map-append read_by (marks_of c front) (marks_of c back) in
      bytes_begun (input (marks_of c front)) (input (marks_of c back))
      (subst AreBytes cut (bytes_begun (input (marks_of c served.tape)) begun.0 (subst AreBytes begun.1 (pieces_are script own.sound c))))

  serves : ServesLinks (desk_rules a.desk) a.budget served.tape links.rests links.lengths served.journal
  serves = record {
    reads = λ front back c bytes count e l.
        reads_so (desk_rules a.desk) handler_rules a.services served.tape served.journal run.causes served.headline small c front back (Read c bytes) e refl count
        (followed.marks front back (Read c bytes) e).2.some (read_bytes c front (Read c bytes ∷ back) e) (lengths.each front back (Read c bytes) count e (lent front count l));
    writes = λ front back c bytes count e l.
        writes_so (desk_rules a.desk) handler_rules a.services served.tape served.journal run.causes served.headline small c front back (Wrote c bytes) e refl bytes count refl refl
        (lengths.each front back (Wrote c bytes) count e (lent front count l));
    rests = rested (desk_rules a.desk) a.budget served.tape served.journal links.rests rests;
  }

  fed_so : IsFedBy (desk_rules a.desk) a.budget script served.tape served.journal
  fed_so = fed (desk_rules a.desk) a.budget script served.tape links.rests links.lengths served.journal followed serves

  -- The run is one of the script.
  pub runs_script : IsServedScript a script links.tape journal run.causes
  runs_script =
      let comes : ComesOutBy run outcomes.All = subst (ComesOutBy run) all served.comes_out in
      subst (λ (t : List Mark). IsServedScript a script t journal run.causes) (sym tape_same)
      (subst (λ (es : List CallEntry). IsServedScript a script served.tape es run.causes) (sym journal_same)
      (record {
        headline = served.headline;
        fed = fed_so;
        bounded = served.bounded;
        none_stopped = comes.2;
        ends = λ c h. each_ends (desk_rules a.desk) handler_rules a.services a.budget script served.tape served.journal run.causes served.headline fed_so comes.2 c h;
      }))

-- The same of links that were served and then told what they followed.
pub ran : (a : Answering) (script : ScriptPlan) (before links : ServedScript) (run : ServedRun) (journal : List CallEntry) → a.desk.max_frame < 2 ^ 31 → IsServed (setting_of a) run
    → run.outcome ≡ outcomes.All → run.links ≡ links_told links → run.told ≡ Some journal → AreLinksOf script before → plan_of_links links ≡ plan_of_links before
    → ((other : ScriptPlan) → AreLinksOf other links → links.over ≡ true → FollowsScript other links.tape links.rests links.lengths)
    → IsServedScript a script links.tape journal run.causes
ran a script before links run journal small served all is told own plan follow =
    let still : AreLinksOf script links = subst (AreMadeOf script) (sym plan) own in
    let comes : ComesOutBy run outcomes.All = subst (ComesOutBy run) all served.comes_out in
    let over : links.over ≡ true = sym (ap (λ (s : LinksState). s.over) is) ∙ comes.0 in
    runs_script a script links run journal small served all is told still (follow script still over)

-- The journal's count of faults rose, where it failed.
pub journal_rose : (s : ServerSetting) (run : ServedRun) → IsServed s run → run.outcome ≡ outcomes.JournalFault → Rose run.faults_before run.faults
journal_rose s run served is = let comes : ComesOutBy run outcomes.JournalFault = subst (ComesOutBy run) is served.comes_out in comes.1

-- It stays where all is over.
pub journal_stays : (s : ServerSetting) (run : ServedRun) → IsServed s run → run.outcome ≡ outcomes.All → run.faults ≡ run.faults_before
journal_stays s run served is = let comes : ComesOutBy run outcomes.All = subst (ComesOutBy run) is served.comes_out in served.kept comes.1

-- Whatever a run has come to, a journal that tells these entries tells those of a run.
pub tells_served : (a : Answering) (run : ServedRun) (entries : List CallEntry) → IsServed (setting_of a) run → run.told ≡ Some entries → TellsSomeRun a run.told
tells_served a run entries served told =
    let same : entries ≡ served.journal = subst (λ o. MayHave o served.journal) told served.journal_told in
    record {
      tape = served.tape;
      journal = entries;
      causes = run.causes;
      told_so = told;
      headline = subst (λ (es : List CallEntry). Headline (desk_rules a.desk) handler_rules a.services served.tape es run.causes) (sym same) served.headline;
    }
