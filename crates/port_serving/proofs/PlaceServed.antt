-- From a run of serving over links that listen here, and a journal in a file, to a place that was served.
use Rattle.std.proofs.Common.{◌≡◌, ℕ, ◌<◌, ◌≤◌, if◌then◌else◌, Bool, true, false, Option, None, Some, List, refl, sym, ap, ◌∙◌, subst, arith}
use Rattle.std.proofs.lemmas.Bool.{lt-ltb}
use Rattle.streams.specs.Cause.{Rose, next_count, next_if_faulty}
use Rattle.outside.specs.Binding.{StartListening, told_past, there_and_back}
use Rattle.conn_table.specs.declared.run_limits.Outcome.TheVariants as outcomes
use Rattle.call_rules.specs.Entries.{CallEntry}
use Rattle.machine_model.specs.SeenHall.{MayHave}
use Rattle.journal_text.specs.JournalStates.{appended_count}
use Rattle.host_loop.specs.Served.{ServerSetting, ServedRun, ComesOutBy, IsServed}
use Rattle.port_serving.specs.FileJournals.{KeepsJournal}
use Rattle.port_serving.specs.Places.{PortPlace, PlaceChange}
use Rattle.port_serving.specs.Served.{HasServedPort}
use Rattle.port_serving.proofs.Linking.{links_back}

-- A count rises where what came back has counted a fault.
faulty_rose : (faults count : ℕ) → Rose 0 faults → Rose count (next_if_faulty faults count)
faulty_rose faults count rose =
    let some : 0 < faults = (let rose_here : Rose 0 faults = rose in omega arith) in
    let one_more : Rose count (next_count count) = omega arith in
    subst (λ b. Rose count (if b then next_count count else count)) (sym (lt-ltb 0 faults some)) one_more

pub rose_back : (before faults count now : ℕ) → before ≡ 0 → Rose before faults → now ≡ next_if_faulty faults count → Rose count now
rose_back before faults count now none rose is =
    subst (Rose count) (sym is) (faulty_rose faults count (subst (λ n. Rose n faults) none rose))

-- It stays where what came back has counted none.
pub same_count : (faults count now : ℕ) → faults ≡ 0 → now ≡ next_if_faulty faults count → now ≡ count
same_count faults count now none is = is ∙ ap (λ n. next_if_faulty n count) none

-- It rises over two calls where it does in the second.
pub rose_later : (before between now : ℕ) → before ≤ between → Rose between now → Rose before now
rose_later before between now later rose = omega arith

-- Where lines are lost the sink has counted a fault: in the run, or at the end of the journal.
pub lost_rose : (torn lost : Bool) (before between now : ℕ) → before ≡ 0 → (torn ≡ true → Rose before between) → between ≤ now
    → (torn ≡ false → lost ≡ true → Rose between now) → lost ≡ true → Rose before now
lost_rose true lost before between now none in_run later at_end is =
    let first : Rose before between = in_run refl in
    omega (arith, first, later)
lost_rose false lost before between now none in_run later at_end is =
    let last : Rose between now = at_end refl is in
    omega (arith, last, none)

-- Where no line is lost the journal hasn't failed.
pub not_torn : (torn lost : Bool) → (torn ≡ true → lost ≡ true) → lost ≡ false → torn ≡ false
not_torn false lost h whole = refl
not_torn true lost h whole = absurd (let both : true ≡ false = sym (h refl) ∙ whole in let never : ⊥ = cc in never)

module _ (s : ServerSetting) (place : PortPlace) (change : PlaceChange) (run : ServedRun) (entries : List CallEntry) (unwritten : Option CallEntry) (calls faults : ℕ) (lost : Bool) (served : IsServed s run)
    (told : run.told ≡ Some entries) (none : run.faults_before ≡ 0) (starts : StartListening change.past_before place.listening run.first)
    (back : change.past ≡ told_past change.past_before run.links) (once : change.handed ≡ there_and_back change.handed_before) (torn : run.torn ≡ true → lost ≡ true) (later : run.faults ≤ faults)
    (at_end : run.torn ≡ false → lost ≡ true → Rose run.faults faults) (sinks : change.sink_faults ≡ next_if_faulty faults change.sink_faults_before)
    (file : KeepsJournal change.files_before change.files place.journal entries unwritten lost) (written : run.torn ≡ false → unwritten ≡ None)
    (counted : calls ≡ appended_count entries) where
  journal_is : entries ≡ served.journal
  journal_is = subst (λ o. MayHave o served.journal) told served.journal_told

  pub has_served : HasServedPort s place change run.causes calls run.outcome lost
  has_served =
      record {
        run = run;
        served = served;
        causes_are = refl;
        outcome_is = refl;
        comes_out = served.comes_out;
        first = starts;
        back = links_back change.past_before change.past place.listening run.links served.tape back (served.left.listens ∙ starts.listens) served.tape_told;
        once = once;
        told = told ∙ ap Some journal_is;
        counted = counted ∙ ap appended_count journal_is;
        unwritten = unwritten;
        file = subst (λ (es : List CallEntry). KeepsJournal change.files_before change.files place.journal es unwritten lost) journal_is file;
        written = written;
        torn = torn;
        rose = λ is. rose_back run.faults_before faults change.sink_faults_before change.sink_faults none
            (lost_rose run.torn lost run.faults_before run.faults faults none served.torn later at_end is) sinks;
      }

-- Where no line is lost no sink that came back has counted a fault.
pub sinks_stay : (s : ServerSetting) (run : ServedRun) (lost : Bool) (faults before now : ℕ) → IsServed s run → run.faults_before ≡ 0 → (run.torn ≡ true → lost ≡ true)
    → faults ≡ run.faults → now ≡ next_if_faulty faults before → lost ≡ false → now ≡ before
sinks_stay s run lost faults before now served none torn kept back whole =
    same_count faults before now (kept ∙ served.kept (not_torn run.torn lost torn whole) ∙ none) back

-- Where all is over no links that came back have counted one.
pub links_stay : (s : ServerSetting) (run : ServedRun) (before now : ℕ) → IsServed s run → run.first.net_faults ≡ 0 → now ≡ next_if_faulty run.links.net_faults before
    → run.outcome ≡ outcomes.All → now ≡ before
links_stay s run before now served none back is =
    let comes : ComesOutBy run outcomes.All = subst (ComesOutBy run) is served.comes_out in
    same_count run.links.net_faults before now (comes.3 ∙ none) back

-- Where the journal failed in the run lines are lost.
pub journal_torn : (s : ServerSetting) (run : ServedRun) (lost : Bool) → IsServed s run → (run.torn ≡ true → lost ≡ true) → run.outcome ≡ outcomes.JournalFault → lost ≡ true
journal_torn s run lost served torn is =
    let comes : ComesOutBy run outcomes.JournalFault = subst (ComesOutBy run) is served.comes_out in
    torn comes.0

-- Lines that are lost are told of the files.
pub journal_rose : (s : ServerSetting) (run : ServedRun) (lost : Bool) (faults before now : ℕ) → IsServed s run → run.faults_before ≡ 0 → run.faults ≤ faults
    → (run.torn ≡ false → lost ≡ true → Rose run.faults faults) → now ≡ next_if_faulty faults before → lost ≡ true → Rose before now
journal_rose s run lost faults before now served none later at_end back is =
    rose_back run.faults_before faults before now none (lost_rose run.torn lost run.faults_before run.faults faults none served.torn later at_end is) back

-- The links' fault is told of the binder.
pub net_rose : (s : ServerSetting) (run : ServedRun) (before now : ℕ) → IsServed s run → run.first.net_faults ≡ 0 → now ≡ next_if_faulty run.links.net_faults before
    → run.outcome ≡ outcomes.NetFault → Rose before now
net_rose s run before now served none back is =
    let comes : ComesOutBy run outcomes.NetFault = subst (ComesOutBy run) is served.comes_out in
    rose_back run.first.net_faults run.links.net_faults before now none comes back
