-- A job's payload isn't longer than one that may be submitted: that is so of all that is taken in a history whose calls were allowed.
use Rattle.std.proofs.Common.{◌≡◌, ℕ, ◌≤◌, List, [], ◌∷◌, ◌++◌, length, refl, sym, ap, subst, ⊎_elim, append_assoc}
use Rattle.std.specs.List.{AllByRecursion}
use Rattle.host_model.specs.declared.key.Key.{Key}
use Rattle.host_model.specs.Journal.{ServiceRules}
use Rattle.call_history.specs.History.{IsHistory}
use Rattle.call_history.specs.Calls.{seat_ask, calls_by, ask_of, asks_of, AllAllowed}
use Rattle.machine_model.specs.HallState.{Job, HallState, IsNewlyOpened}
use Rattle.machine_model.specs.HallRule.{HallOperation, submit, take_job, apply, put, collect, close, HallAnswer, done, job, empty, is_closed, applied, no_memory, journal_fault, is_broken, outcome, job_of, TakesEffect, ApplyGives, HallGives}
use Rattle.machine_model.specs.OwnCalls.{HallCall, HallAsk, longest_payload, OwnAsksAllow, HallMay}

-- no payload is longer
abbrev pub AreShort : List Job → Type 0
AreShort jobs = AllByRecursion (λ (j : Job). length j.payload ≤ longest_payload) jobs

-- nor that of a job which was taken
abbrev pub TookShort : {C A : Type 0} → HallOperation C → HallAnswer A → Type 0
TookShort take_job (job key payload) = length payload ≤ longest_payload
TookShort op answer = Unit {0}

short_push : (jobs : List Job) (j : Job) → AreShort jobs → length j.payload ≤ longest_payload → AreShort (jobs ++ j ∷ [])
short_push [] j s l = (l, tt)
short_push (x ∷ jobs) j s l = (s.0, short_push jobs j s.1 l)

module _ {C A M : Type 0} (r : ServiceRules C A M) (old new : HallState C A M) where
  -- a call that is applied leaves the jobs
  jobs_applied : (key : Key) (call : C) (faults : ℕ) (answer : HallAnswer A) → ApplyGives r old key call faults answer new → new.jobs ≡ old.jobs
  jobs_applied key call faults (applied answer) g = ap (λ (h : HallState C A M). h.jobs) g.1.1
  jobs_applied key call faults no_memory g =
      ⊎_elim (λ (t : new ≡ record old { faults = faults }). ap (λ (h : HallState C A M). h.jobs) t)
      (λ (t : (answer : A) × TakesEffect r old key call answer faults new). ap (λ (h : HallState C A M). h.jobs) t.1.1) g.1
  jobs_applied key call faults journal_fault g = ap (λ (h : HallState C A M). h.jobs) g.2
  jobs_applied key call faults is_broken g = ap (λ (h : HallState C A M). h.jobs) g.1
  jobs_applied key call faults _ g = absurd g

  -- an allowed call adds no longer one
  stay_short : (first : HallState C A M) (seat : ℕ) (own : List (HallAsk C A)) (op : HallOperation C) (answer : HallAnswer A) → HallGives r old op answer new → OwnAsksAllow r first seat own op
      → AreShort old.jobs → AreShort new.jobs
  stay_short first seat own (submit key payload) done g may s =
      subst AreShort (sym (ap (λ (h : HallState C A M). h.jobs) g.1)) (short_push old.jobs (job_of key payload) s may.3)
  stay_short first seat own (submit key payload) is_closed g may s = subst AreShort (sym (ap (λ (h : HallState C A M). h.jobs) g.1)) s
  stay_short first seat own (submit key payload) _ g may s = absurd g
  stay_short first seat own take_job (job key payload) g may s =
      let all : AreShort (job_of key payload ∷ g.0) = subst AreShort g.1 s in
      subst AreShort (sym (ap (λ (h : HallState C A M). h.jobs) g.2)) all.1
  stay_short first seat own take_job empty g may s = subst AreShort (sym (ap (λ (h : HallState C A M). h.jobs) g.2)) s
  stay_short first seat own take_job is_closed g may s = subst AreShort (sym (ap (λ (h : HallState C A M). h.jobs) g.2)) s
  stay_short first seat own take_job _ g may s = absurd g
  stay_short first seat own (apply key call) answer g may s = subst AreShort (sym (jobs_applied key call g.0 answer g.2)) s
  stay_short first seat own (put key settled) done g may s = subst AreShort (sym (ap (λ (h : HallState C A M). h.jobs) g)) s
  stay_short first seat own (put key settled) _ g may s = absurd g
  stay_short first seat own collect (outcome key settled) g may s = subst AreShort (sym (ap (λ (h : HallState C A M). h.jobs) g.2)) s
  stay_short first seat own collect empty g may s = subst AreShort (sym (ap (λ (h : HallState C A M). h.jobs) g.2)) s
  stay_short first seat own collect is_closed g may s = subst AreShort (sym (ap (λ (h : HallState C A M). h.jobs) g.2)) s
  stay_short first seat own collect _ g may s = absurd g
  stay_short first seat own close done g may s = subst AreShort (sym (ap (λ (h : HallState C A M). h.jobs) g)) s
  stay_short first seat own close _ g may s = absurd g

  -- the job that is taken is one of them
  took_short : (op : HallOperation C) (answer : HallAnswer A) → HallGives r old op answer new → AreShort old.jobs → TookShort op answer
  took_short (submit key payload) answer g s = tt
  took_short take_job (job key payload) g s = let all : AreShort (job_of key payload ∷ g.0) = subst AreShort g.1 s in all.0
  took_short take_job _ g s = tt
  took_short (apply key call) answer g s = tt
  took_short (put key settled) answer g s = tt
  took_short collect answer g s = tt
  took_short close answer g s = tt

abbrev AllTookShort : {C A : Type 0} → List (HallAsk C A) → Type 0
AllTookShort {C} {A} asks = AllByRecursion (λ (e : HallAsk C A). TookShort e.op e.reply) asks

last_short : {C A : Type 0} (front : List (HallAsk C A)) (e : HallAsk C A) → AllTookShort (front ++ e ∷ []) → TookShort e.op e.reply
last_short [] e all = all.0
last_short (x ∷ front) e all = last_short front e all.1

module _ {C A M : Type 0} (r : ServiceRules C A M) (opening : HallState C A M) where
  all_short : (front : List (HallAsk C A)) (back : List (HallCall C A M)) (hall : HallState C A M) → AreShort hall.jobs → IsHistory (HallGives r) hall back
      → AllAllowed (HallMay r) opening (front ++ asks_of back) → AllTookShort (asks_of back)
  all_short front [] hall s history allowed = tt
  all_short front (e ∷ back) hall s history allowed =
      let may : OwnAsksAllow r opening e.seat (calls_by e.seat front) e.op = (allowed front (asks_of back) (ask_of e) refl).1 in (
        took_short r hall e.after e.op e.reply history.0 s,
        all_short (front ++ ask_of e ∷ []) back e.after (stay_short r hall e.after opening e.seat (calls_by e.seat front) e.op e.reply history.0 may s) history.1
            (subst (AllAllowed (HallMay r) opening) (sym (append_assoc front (ask_of e ∷ []) (asks_of back))) allowed),
      )

  -- the payload of a job that was taken last
  pub taken_short : (log : List (HallCall C A M)) (front : List (HallAsk C A)) (seat : ℕ) (key : Key) (payload : List ℕ) → IsNewlyOpened opening → IsHistory (HallGives r) opening log
      → AllAllowed (HallMay r) opening (asks_of log) → asks_of log ≡ front ++ seat_ask seat take_job (job key payload) ∷ [] → length payload ≤ longest_payload
  taken_short log front seat key payload opened history allowed last =
      last_short front (seat_ask seat take_job (job key payload))
      (subst AllTookShort last (all_short [] log opening (subst AreShort (sym opened.jobs) tt) history allowed))
