-- The calls of a run are plain where its desk makes plain calls alone, so each entry has the line of a call.
use Rattle.std.proofs.Common.{◌≡◌, ℕ, ◌<◌, ◌^◌, suc, inl, inr, List, [], ◌∷◌, refl, sym, subst}
use Rattle.std.specs.List.{AllByRecursion}
use Rattle.host_model.specs.DeskRules.{DeskDecision, Close, Silent, Reply, Invoke}
use Rattle.host_model.specs.Conversation.{but_last, called, called_by}
use Rattle.host_model.specs.Journal.{entries_of}
use Rattle.host_model.proofs.Lists.{all-append}
use Rattle.script_model.specs.Arrival.{Arrival}
use Rattle.script_model.specs.Rehearsal.{IsCallLine, HaveCallLines}
use Rattle.script_model.proofs.Marked.{own_filter}
use Rattle.script_model.proofs.Determined.{IsDone, calls_of, done_of, own_entries}
use Rattle.script_model.proofs.OneRun.{one_run}
use Rattle.call_rules.specs.PlainCalls.{PlainCall, IsPlainCall}
use Rattle.call_rules.specs.Entries.{CallEntry}
use Rattle.call_rules.specs.Desks.{DeskMeaning, IsDesk, desk_rules}
use Rattle.call_rules.specs.Handling.{handler_rules}
use Rattle.recorded_runs.specs.Answered.{Answering}
use Rattle.recorded_runs.specs.OneConnection.{ReportsRun}

-- a call under its number
abbrev IsPlainNumbered : ℕ × PlainCall → Type 0
IsPlainNumbered c = IsPlainCall c.1

-- the call that a decision of the desk makes is plain
plain_by : (desk : DeskMeaning) → IsDesk desk → (i : ℕ) (p : List ℕ) (decision : DeskDecision PlainCall) → desk.decide p ≡ decision
    → AllByRecursion IsPlainNumbered (called_by i decision)
plain_by desk is i p (Invoke call) e = (is.plain p call e, tt)
plain_by desk is i p (Close fault) e = tt
plain_by desk is i p Silent e = tt
plain_by desk is i p (Reply reply) e = tt

-- and so are those that payloads ask for
plain_called : (desk : DeskMeaning) → IsDesk desk → (i : ℕ) (ps : List (List ℕ)) → AllByRecursion IsPlainNumbered (called (desk_rules desk) i ps)
plain_called desk is i [] = tt
plain_called desk is i (p ∷ ps) =
    all-append IsPlainNumbered (called_by i (desk.decide p)) (called (desk_rules desk) (suc i) ps) (plain_by desk is i p (desk.decide p) refl)
    (plain_called desk is (suc i) ps)

-- entries of plain calls have lines of calls
pub lined : (line : CallEntry → List ℕ) → ((e : CallEntry) → IsPlainCall e.call → IsCallLine (line e)) → (es : List CallEntry)
    → AllByRecursion IsPlainNumbered (calls_of es) → HaveCallLines line es
lined line lines [] a = tt
lined line lines (e ∷ es) a = (lines e a.0, lined line lines es a.1)

pub plain_done : (desk : DeskMeaning) → IsDesk desk → (es : List CallEntry) (ps : List (List ℕ)) → IsDone (desk_rules desk) es ps
    → AllByRecursion IsPlainNumbered (calls_of es)
plain_done desk is es ps (inl e) = subst (AllByRecursion IsPlainNumbered) (sym e) (plain_called desk is 0 ps)
plain_done desk is es ps (inr e) = subst (AllByRecursion IsPlainNumbered) (sym e) (plain_called desk is 0 (but_last ps))

-- each entry of a run that is reported has the line of a call
run_lined : (a : Answering) (arrival : Arrival) (text : List ℕ) → IsDesk a.desk → ((e : CallEntry) → IsPlainCall e.call → IsCallLine (a.line e))
    → (x : ReportsRun a arrival text) → HaveCallLines a.line x.journal
run_lined a arrival text is lines x =
    let talk = (x.run.headline.each 0 x.cause refl).talk in
    let all = own_filter (λ e. e.key.c) x.journal (own_entries (desk_rules a.desk) handler_rules a.services arrival x.tape x.journal x.cause x.run) in
    let done : IsDone (desk_rules a.desk) x.journal talk.payloads =
    subst (λ es. IsDone (desk_rules a.desk) es talk.payloads) all
    (done_of (desk_rules a.desk) talk.payloads talk.rest (entries_of 0 x.journal) _ x.cause talk.ended) in
    lined a.line lines x.journal (plain_done a.desk is x.journal talk.payloads done)

-- a report is of one run
pub one_run_told : (a : Answering) (arrival : Arrival) (text : List ℕ) → a.desk.max_frame < 2 ^ 31 → IsDesk a.desk
    → ((e : CallEntry) → IsPlainCall e.call → IsCallLine (a.line e)) → (x y : ReportsRun a arrival text)
    → (x.tape ≡ y.tape) × (x.journal ≡ y.journal) × (x.cause ≡ y.cause)
one_run_told a arrival text small is lines x y =
    one_run (desk_rules a.desk) handler_rules a.services a.line arrival text small x y (run_lined a arrival text is lines x) (run_lined a arrival text is lines y)
