-- A job's payload isn't longer than one that may be submitted.
use Rattle.std.proofs.Common.{◌≡◌, ℕ, ◌≤◌, List, [], ◌∷◌, ◌++◌, length, map, sym, ap, subst, ⊎_elim}
use Rattle.std.specs.List.{AllByRecursion}
use Rattle.host_model.specs.declared.key.Key.{Key}
use Rattle.host_model.specs.Journal.{ServiceRules}
use Rattle.call_history.specs.History.{meaning_after, IsHistory}
use Rattle.call_history.specs.Calls.{calls_by, AllAllowed}
use Rattle.call_history.specs.Laws.{meaning_after-push}
use Rattle.call_history.specs.Induction.{CallKeeps, every_history}
use Rattle.call_rules.specs.Handling.{handler_rules}
use Rattle.machine_model.specs.HallState.{Job, HallState, IsNewlyOpened}
use Rattle.machine_model.specs.HallRule.{HallOperation, submit, take_job, apply, put, collect, close, HallAnswer, done, job, empty, is_closed, applied, no_memory, journal_fault, is_broken, outcome, job_of, TakesEffect, ApplyGives, HallGives}
use Rattle.machine_model.specs.OwnCalls.{HallAsk, longest_payload, OwnAsksAllow}
use Rattle.machine_model.specs.SeenHall.{filled}
use Rattle.hall_core.specs.Meant.{ServedHall}
use Rattle.hall_core.specs.Asked.{operation_of, answer_of, StepCall, ask_seen, StepGives, StepMay}
use Rattle.hall_pool.proofs.Answering.{IsStep, is_step}

-- no payload is longer
abbrev pub AreShort : List Job → Type 0
AreShort jobs = AllByRecursion (λ (j : Job). length j.payload ≤ longest_payload) jobs

short_push : (jobs : List Job) (j : Job) → AreShort jobs → length j.payload ≤ longest_payload → AreShort (jobs ++ j ∷ [])
short_push [] j s l = (l, tt)
short_push (x ∷ jobs) j s l = (s.0, short_push jobs j s.1 l)

module _ {C A M : Type 0} (r : ServiceRules C A M) (old new : HallState C A M) where
  -- a call that is applied leaves the jobs
  jobs_applied : (key : Key) (call : C) (faults : ℕ) (answer : HallAnswer A) → ApplyGives r old key call faults answer new → new.jobs ≡ old.jobs
  jobs_applied key call faults (applied answer) g = ap (λ (h : HallState C A M). h.jobs) g.1.1
  jobs_applied key call faults no_memory g =
      ⊎_elim (λ (t : new ≡ record old { faults = faults }). ap (λ (h : HallState C A M). h.jobs) t)
      (λ (t : (answer : A) × TakesEffect r old key call answer faults new). ap (λ (h : HallState C A M). h.jobs) t.1.1) g.1
  jobs_applied key call faults journal_fault g = ap (λ (h : HallState C A M). h.jobs) g.2
  jobs_applied key call faults is_broken g = ap (λ (h : HallState C A M). h.jobs) g.1
  jobs_applied key call faults _ g = absurd g

  -- an allowed call adds no longer one
  pub stay_short : (first : HallState C A M) (seat : ℕ) (own : List (HallAsk C A)) (op : HallOperation C) (answer : HallAnswer A) → HallGives r old op answer new → OwnAsksAllow r first seat own op
      → AreShort old.jobs → AreShort new.jobs
  stay_short first seat own (submit key payload) done g may s =
      subst AreShort (sym (ap (λ (h : HallState C A M). h.jobs) g.1)) (short_push old.jobs (job_of key payload) s may.3)
  stay_short first seat own (submit key payload) is_closed g may s = subst AreShort (sym (ap (λ (h : HallState C A M). h.jobs) g.1)) s
  stay_short first seat own (submit key payload) _ g may s = absurd g
  stay_short first seat own take_job (job key payload) g may s =
      let all : AreShort (job_of key payload ∷ g.0) = subst AreShort g.1 s in
      subst AreShort (sym (ap (λ (h : HallState C A M). h.jobs) g.2)) all.1
  stay_short first seat own take_job empty g may s = subst AreShort (sym (ap (λ (h : HallState C A M). h.jobs) g.2)) s
  stay_short first seat own take_job is_closed g may s = subst AreShort (sym (ap (λ (h : HallState C A M). h.jobs) g.2)) s
  stay_short first seat own take_job _ g may s = absurd g
  stay_short first seat own (apply key call) answer g may s = subst AreShort (sym (jobs_applied key call g.0 answer g.2)) s
  stay_short first seat own (put key settled) done g may s = subst AreShort (sym (ap (λ (h : HallState C A M). h.jobs) g)) s
  stay_short first seat own (put key settled) _ g may s = absurd g
  stay_short first seat own collect (outcome key settled) g may s = subst AreShort (sym (ap (λ (h : HallState C A M). h.jobs) g.2)) s
  stay_short first seat own collect empty g may s = subst AreShort (sym (ap (λ (h : HallState C A M). h.jobs) g.2)) s
  stay_short first seat own collect is_closed g may s = subst AreShort (sym (ap (λ (h : HallState C A M). h.jobs) g.2)) s
  stay_short first seat own collect _ g may s = absurd g
  stay_short first seat own close done g may s = subst AreShort (sym (ap (λ (h : HallState C A M). h.jobs) g)) s
  stay_short first seat own close _ g may s = absurd g

-- the job that is taken is one of them
pub taken_short : {C A M : Type 0} (r : ServiceRules C A M) (old new : HallState C A M) (key : Key) (payload : List ℕ) → HallGives r old take_job (job key payload) new → AreShort old.jobs
    → length payload ≤ longest_payload
taken_short r old new key payload g s = let all : AreShort (job_of key payload ∷ g.0) = subst AreShort g.1 s in all.0

-- after a history of a newly opened hall whose calls were allowed, all jobs are short
pub jobs_short : (first : ServedHall) → IsNewlyOpened (filled first []) → (log : List StepCall) → IsHistory StepGives first log → AllAllowed StepMay first log → AreShort (meaning_after first log).jobs
jobs_short first opened log history allowed =
    every_history StepGives StepMay first (λ (l : List StepCall). AreShort (meaning_after first l).jobs) (subst AreShort (sym opened.jobs) tt) kept log history allowed
  where
    kept : CallKeeps StepGives StepMay first (λ (l : List StepCall). AreShort (meaning_after first l).jobs)
    kept l e s g may =
        let step : IsStep (meaning_after first l) (operation_of e.op) (answer_of e.reply) e.after = is_step (meaning_after first l) e.after (operation_of e.op) (answer_of e.reply) g in
        subst (λ (h : ServedHall). AreShort h.jobs) (sym (meaning_after-push first l e))
        (stay_short handler_rules (filled (meaning_after first l) step.before) (filled e.after step.later) (filled first []) e.seat (map ask_seen (calls_by e.seat l)) (operation_of e.op)
        (answer_of e.reply) step.gives may.0.1.1 s)
