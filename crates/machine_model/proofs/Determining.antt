-- The hall's answers, and the hall after each, are determined but for what is free.
use Rattle.std.proofs.Common.{◌≡◌, ◌≢◌, ◌↔◌, ℕ, ◌<◌, ◌⊎◌, Bool, true, false, Option, None, Some, MatchOption, List, [], ◌∷◌, ◌++◌, length, slice_get, refl, sym, ap, ◌∙◌, subst, inl, inr, ⊎_elim, arith}
use Rattle.std.proofs.lemmas.Bool.{true≢false}
use Rattle.streams.specs.declared.outcomes.Settled.{Settled}
use Rattle.host_model.specs.declared.key.Key.{Key}
use Rattle.host_model.specs.Journal.{ServiceRules, after_call}
use Rattle.host_model.proofs.Lists.{nil-cons, cons_parts}
use Rattle.machine_model.proofs.Lists.{get_within}
use Rattle.machine_model.specs.HallState.{Job, JobOutcome, HallState, without}
use Rattle.machine_model.specs.HallRule.{HallOperation, submit, take_job, apply, put, collect, close, HallAnswer, done, job, empty, is_closed, applied, no_memory, journal_fault, is_broken, outcome, job_of, outcome_of, entry_under, SubmitGives, TakeGives, TakesEffect, ApplyGives, KeepsCount, PutGives, CollectGives, CloseGives, HallGives}
use Rattle.machine_model.specs.Determined.{IsFree, IsApply, IsSameButFaults}
use Rattle.machine_model.specs.OwnCalls.{HallCan}

module _ {C A M : Type 0} (r : ServiceRules C A M) where
  module _ (old new other : HallState C A M) where
    submit_answer : (key : Key) (payload : List ℕ) (answer reply : HallAnswer A) → SubmitGives old key payload answer new → SubmitGives old key payload reply other → answer ≡ reply
    submit_answer key payload done done a b = refl
    submit_answer key payload done is_closed a b = absurd (true≢false (sym b.0 ∙ a.0))
    submit_answer key payload is_closed done a b = absurd (true≢false (sym a.0 ∙ b.0))
    submit_answer key payload is_closed is_closed a b = refl
    submit_answer key payload done _ a b = absurd b
    submit_answer key payload is_closed _ a b = absurd b
    submit_answer key payload _ _ a b = absurd a

    same_job : (k k' : Key) (p p' : List ℕ) (later later' : List Job) → old.jobs ≡ job_of k p ∷ later → old.jobs ≡ job_of k' p' ∷ later'
        → (job_of k p ≡ job_of k' p') × (later ≡ later')
    same_job k k' p p' later later' e f = cons_parts (job_of k p) (job_of k' p') later later' (sym e ∙ f)

    no_job : (k : Key) (p : List ℕ) (later : List Job) → old.jobs ≡ job_of k p ∷ later → old.jobs ≡ [] → ⊥
    no_job k p later e f = nil-cons (job_of k p) later (sym f ∙ e)

    take_answer : (answer reply : HallAnswer A) → TakeGives old answer new → TakeGives old reply other → answer ≡ reply
    take_answer (job k p) (job k' p') a b =
        let e : job_of k p ≡ job_of k' p' = (same_job k k' p p' a.0 b.0 a.1 b.1).0 in ap (λ (j : Job). job j.key j.payload) e
    take_answer (job k p) empty a b = absurd (no_job k p a.0 a.1 b.0)
    take_answer (job k p) is_closed a b = absurd (no_job k p a.0 a.1 b.0)
    take_answer empty (job k p) a b = absurd (no_job k p b.0 b.1 a.0)
    take_answer empty empty a b = refl
    take_answer empty is_closed a b = absurd (true≢false (sym b.1 ∙ a.1))
    take_answer is_closed (job k p) a b = absurd (no_job k p b.0 b.1 a.0)
    take_answer is_closed empty a b = absurd (true≢false (sym a.1 ∙ b.1))
    take_answer is_closed is_closed a b = refl
    take_answer (job k p) _ a b = absurd b
    take_answer empty _ a b = absurd b
    take_answer is_closed _ a b = absurd b
    take_answer _ _ a b = absurd a

    same_outcome : (k k' : Key) (s s' : Settled) (later later' : List JobOutcome) → old.outcomes ≡ outcome_of k s ∷ later → old.outcomes ≡ outcome_of k' s' ∷ later'
        → (outcome_of k s ≡ outcome_of k' s') × (later ≡ later')
    same_outcome k k' s s' later later' e f = cons_parts (outcome_of k s) (outcome_of k' s') later later' (sym e ∙ f)

    no_outcome : (k : Key) (s : Settled) (later : List JobOutcome) → old.outcomes ≡ outcome_of k s ∷ later → old.outcomes ≡ [] → ⊥
    no_outcome k s later e f = nil-cons (outcome_of k s) later (sym f ∙ e)

    collect_answer : (answer reply : HallAnswer A) → CollectGives old answer new → CollectGives old reply other → answer ≡ reply
    collect_answer (outcome k s) (outcome k' s') a b =
        let e : outcome_of k s ≡ outcome_of k' s' = (same_outcome k k' s s' a.0 b.0 a.1 b.1).0 in ap (λ (o : JobOutcome). outcome o.key o.settled) e
    collect_answer (outcome k s) empty a b = absurd (no_outcome k s a.0 a.1 b.0)
    collect_answer (outcome k s) is_closed a b = absurd (no_outcome k s a.0 a.1 b.0)
    collect_answer empty (outcome k s) a b = absurd (no_outcome k s b.0 b.1 a.0)
    collect_answer empty empty a b = refl
    collect_answer empty is_closed a b = absurd (true≢false (sym b.1 ∙ a.1))
    collect_answer is_closed (outcome k s) a b = absurd (no_outcome k s b.0 b.1 a.0)
    collect_answer is_closed empty a b = absurd (true≢false (sym a.1 ∙ b.1))
    collect_answer is_closed is_closed a b = refl
    collect_answer (outcome k s) _ a b = absurd b
    collect_answer empty _ a b = absurd b
    collect_answer is_closed _ a b = absurd b
    collect_answer _ _ a b = absurd a

    put_answer : (key : Key) (settled : Settled) (answer reply : HallAnswer A) → PutGives old key settled answer new → PutGives old key settled reply other → answer ≡ reply
    put_answer key settled done done a b = refl
    put_answer key settled done _ a b = absurd b
    put_answer key settled _ _ a b = absurd a

    close_answer : (answer reply : HallAnswer A) → CloseGives old answer new → CloseGives old reply other → answer ≡ reply
    close_answer done done a b = refl
    close_answer done _ a b = absurd b
    close_answer _ _ a b = absurd a

    -- a service has one answer at a memory
    one_reply : (call : C) (a b : A) (m : Option M) → MatchOption m ⊥ (λ m. a ≡ (r.rule call m).0) → MatchOption m ⊥ (λ m. b ≡ (r.rule call m).0) → a ≡ b
    one_reply call a b None e f = absurd e
    one_reply call a b (Some m) e f = e ∙ sym f

    apply_answer : (key : Key) (call : C) (n k : ℕ) (answer reply : HallAnswer A) → ApplyGives r old key call n answer new → ApplyGives r old key call k reply other
        → (IsFree answer → ⊥) → (IsFree reply → ⊥) → answer ≡ reply
    apply_answer key call n k (applied x) (applied y) a b free free' =
        ap applied (one_reply call x y (slice_get old.memories (r.slot call)) a.1.0 b.1.0)
    apply_answer key call n k (applied x) is_broken a b free free' = absurd (true≢false (sym b.0 ∙ a.0))
    apply_answer key call n k is_broken (applied y) a b free free' = absurd (true≢false (sym a.0 ∙ b.0))
    apply_answer key call n k is_broken is_broken a b free free' = refl
    apply_answer key call n k (applied x) no_memory a b free free' = absurd (free' tt)
    apply_answer key call n k (applied x) journal_fault a b free free' = absurd (free' tt)
    apply_answer key call n k is_broken no_memory a b free free' = absurd (free' tt)
    apply_answer key call n k is_broken journal_fault a b free free' = absurd (free' tt)
    apply_answer key call n k no_memory _ a b free free' = absurd (free tt)
    apply_answer key call n k journal_fault _ a b free free' = absurd (free tt)
    apply_answer key call n k (applied x) _ a b free free' = absurd b
    apply_answer key call n k is_broken _ a b free free' = absurd b
    apply_answer key call n k _ _ a b free free' = absurd a

    pub same_answer : (op : HallOperation C) (answer reply : HallAnswer A) → HallGives r old op answer new → HallGives r old op reply other → (IsFree answer → ⊥) → (IsFree reply → ⊥)
        → answer ≡ reply
    same_answer (submit key payload) answer reply a b free free' = submit_answer key payload answer reply a b
    same_answer take_job answer reply a b free free' = take_answer answer reply a b
    same_answer (apply key call) answer reply a b free free' = apply_answer key call a.0 b.0 answer reply a.2 b.2 free free'
    same_answer (put key settled) answer reply a b free free' = put_answer key settled answer reply a b
    same_answer collect answer reply a b free free' = collect_answer answer reply a b
    same_answer close answer reply a b free free' = close_answer answer reply a b

    -- halls that are the same
    alike : new ≡ other → IsSameButFaults new other
    alike e = ap (λ (h : HallState C A M). record h { faults = other.faults }) (sym e)

    submit_hall : (key : Key) (payload : List ℕ) (answer : HallAnswer A) → SubmitGives old key payload answer new → SubmitGives old key payload answer other → new ≡ other
    submit_hall key payload done a b = a.1 ∙ sym b.1
    submit_hall key payload is_closed a b = a.1 ∙ sym b.1
    submit_hall key payload _ a b = absurd a

    take_hall : (answer : HallAnswer A) → TakeGives old answer new → TakeGives old answer other → new ≡ other
    take_hall (job k p) a b =
        let e : a.0 ≡ b.0 = (same_job k k p p a.0 b.0 a.1 b.1).1 in
        a.2 ∙ ap (λ later. record old { jobs = later; taken = old.taken ++ k ∷ [] }) e ∙ sym b.2
    take_hall empty a b = a.2 ∙ sym b.2
    take_hall is_closed a b = a.2 ∙ sym b.2
    take_hall _ a b = absurd a

    put_hall : (key : Key) (settled : Settled) (answer : HallAnswer A) → PutGives old key settled answer new → PutGives old key settled answer other → new ≡ other
    put_hall key settled done a b = a ∙ sym b
    put_hall key settled _ a b = absurd a

    collect_hall : (answer : HallAnswer A) → CollectGives old answer new → CollectGives old answer other → new ≡ other
    collect_hall (outcome k s) a b =
        let e : a.0 ≡ b.0 = (same_outcome k k s s a.0 b.0 a.1 b.1).1 in
        a.2 ∙ ap (λ later. record old { outcomes = later }) e ∙ sym b.2
    collect_hall empty a b = a.2 ∙ sym b.2
    collect_hall is_closed a b = a.2 ∙ sym b.2
    collect_hall _ a b = absurd a

    close_hall : (answer : HallAnswer A) → CloseGives old answer new → CloseGives old answer other → new ≡ other
    close_hall done a b = a ∙ sym b
    close_hall _ a b = absurd a

    -- halls that are this one with a count each
    counted : (hall : HallState C A M) (n k : ℕ) → new ≡ record hall { faults = n } → other ≡ record hall { faults = k } → IsSameButFaults new other
    counted hall n k a b = b ∙ (λ i. record (sym a i) { faults = (sym b i).faults })

    apply_hall : (key : Key) (call : C) (n k : ℕ) (answer : HallAnswer A) → ApplyGives r old key call n answer new → ApplyGives r old key call k answer other → answer ≢ no_memory
        → IsSameButFaults new other
    apply_hall key call n k (applied x) a b free =
        counted (record old { journal = old.journal ++ entry_under key call x ∷ []; memories = after_call r old.memories call }) n k a.1.1 b.1.1
    apply_hall key call n k journal_fault a b free = counted (record old { memories = after_call r old.memories call; broken = true }) n k a.2 b.2
    apply_hall key call n k is_broken a b free = counted old n k a.1 b.1
    apply_hall key call n k no_memory a b free = absurd (free refl)
    apply_hall key call n k _ a b free = absurd a

    pub same_hall : (op : HallOperation C) (answer : HallAnswer A) → HallGives r old op answer new → HallGives r old op answer other → answer ≢ no_memory → IsSameButFaults new other
    same_hall (submit key payload) answer a b n = alike (submit_hall key payload answer a b)
    same_hall take_job answer a b n = alike (take_hall answer a b)
    same_hall (apply key call) answer a b n = apply_hall key call a.0 b.0 answer a.2 b.2 n
    same_hall (put key settled) answer a b n = alike (put_hall key settled answer a b)
    same_hall collect answer a b n = alike (collect_hall answer a b)
    same_hall close answer a b n = alike (close_hall answer a b)

  module _ (old new : HallState C A M) where
    pub wanting : (key : Key) (call : C) → HallGives r old (apply key call) no_memory new → IsSameButFaults old new ⊎ ((answer : A) × HallGives r old (apply key call) (applied answer) new)
    wanting key call t = go t.2.1
      where
        go : (new ≡ record old { faults = t.0 }) ⊎ ((answer : A) × TakesEffect r old key call answer t.0 new)
            → IsSameButFaults old new ⊎ ((answer : A) × HallGives r old (apply key call) (applied answer) new)
        go (inl e) = inl (counted old old new old old.faults t.0 refl e)
        go (inr u) = inr (u.0, (t.0, t.1, (t.2.0, u.1), t.3))

    unbroken : (answer : HallAnswer A) → old.broken ≡ false → answer ≢ is_broken → (old.broken ≡ true) ↔ (answer ≡ is_broken)
    unbroken answer f n = (λ e. absurd (true≢false (sym e ∙ f)), λ e. absurd (n e))

    broken_by : (key : Key) (call : C) (n : ℕ) (answer : HallAnswer A) → ApplyGives r old key call n answer new → (old.broken ≡ true) ↔ (answer ≡ is_broken)
    broken_by key call n (applied x) a = unbroken (applied x) a.0 (λ e. let f : ⊥ = cc in f)
    broken_by key call n no_memory a = unbroken no_memory a.0 (λ e. let f : ⊥ = cc in f)
    broken_by key call n journal_fault a = unbroken journal_fault a.0 (λ e. let f : ⊥ = cc in f)
    broken_by key call n is_broken a = (λ e. refl, λ e. a.0)
    broken_by key call n _ a = absurd a

    pub broken_where : (key : Key) (call : C) (answer : HallAnswer A) → HallGives r old (apply key call) answer new → (old.broken ≡ true) ↔ (answer ≡ is_broken)
    broken_where key call answer t = broken_by key call t.0 answer t.2

    faults_of : (hall : HallState C A M) → new ≡ hall → hall.faults ≡ old.faults → new.faults ≡ old.faults
    faults_of hall e f = ap (λ (h : HallState C A M). h.faults) e ∙ f

    pub count_kept : (op : HallOperation C) (answer : HallAnswer A) → HallGives r old op answer new → (IsApply op → ⊥) → new.faults ≡ old.faults
    count_kept (submit key payload) done t n = faults_of (record old { jobs = old.jobs ++ job_of key payload ∷ [] }) t.1 refl
    count_kept (submit key payload) is_closed t n = faults_of old t.1 refl
    count_kept (submit key payload) _ t n = absurd t
    count_kept take_job (job k p) t n = faults_of (record old { jobs = t.0; taken = old.taken ++ k ∷ [] }) t.2 refl
    count_kept take_job empty t n = faults_of old t.2 refl
    count_kept take_job is_closed t n = faults_of old t.2 refl
    count_kept take_job _ t n = absurd t
    count_kept (apply key call) answer t n = absurd (n tt)
    count_kept (put key settled) done t n = faults_of (record old { taken = without key old.taken; outcomes = old.outcomes ++ outcome_of key settled ∷ [] }) t refl
    count_kept (put key settled) _ t n = absurd t
    count_kept collect (outcome k s) t n = faults_of (record old { outcomes = t.0 }) t.2 refl
    count_kept collect empty t n = faults_of old t.2 refl
    count_kept collect is_closed t n = faults_of old t.2 refl
    count_kept collect _ t n = absurd t
    count_kept close done t n = faults_of (record old { closed = true }) t refl
    count_kept close _ t n = absurd t

    apply_kept : (key : Key) (call : C) (faults : ℕ) (answer : HallAnswer A) → ApplyGives r old key call faults answer new → KeepsCount answer old.faults faults → answer ≢ journal_fault
        → new.faults ≡ old.faults
    apply_kept key call faults (applied x) t same n = faults_of _ t.1.1 same
    apply_kept key call faults no_memory t same n =
        ⊎_elim (λ (u : new ≡ record old { faults = faults }). faults_of _ u same) (λ (u : (answer : A) × TakesEffect r old key call answer faults new). faults_of _ u.1.1 same) t.1
    apply_kept key call faults journal_fault t same n = absurd (n refl)
    apply_kept key call faults is_broken t same n = faults_of _ t.1 same
    apply_kept key call faults _ t same n = absurd t

    pub count_told : (op : HallOperation C) (answer : HallAnswer A) → HallGives r old op answer new → answer ≢ journal_fault → new.faults ≡ old.faults
    count_told (submit key payload) answer t n = count_kept (submit key payload) answer t (λ f. f)
    count_told take_job answer t n = count_kept take_job answer t (λ f. f)
    count_told (apply key call) answer t n = apply_kept key call t.0 answer t.2 t.3 n
    count_told (put key settled) answer t n = count_kept (put key settled) answer t (λ f. f)
    count_told collect answer t n = count_kept collect answer t (λ f. f)
    count_told close answer t n = count_kept close answer t (λ f. f)

  module _ (old : HallState C A M) where
    abbrev IsAnsweredThen : HallOperation C → Type 0
    IsAnsweredThen op = (answer : HallAnswer A) × (new : HallState C A M) × HallGives r old op answer new

    submits_some : (key : Key) (payload : List ℕ) (b : Bool) → old.closed ≡ b → IsAnsweredThen (submit key payload)
    submits_some key payload true e = (is_closed, old, (e, refl))
    submits_some key payload false e = (done, record old { jobs = old.jobs ++ job_of key payload ∷ [] }, (e, refl))

    takes_some : (jobs : List Job) (b : Bool) → old.jobs ≡ jobs → old.closed ≡ b → IsAnsweredThen take_job
    takes_some [] true j e = (is_closed, old, (j, e, refl))
    takes_some [] false j e = (empty, old, (j, e, refl))
    takes_some (x ∷ later) b j e = (job x.key x.payload, record old { jobs = later; taken = old.taken ++ x.key ∷ [] }, (later, j, refl))

    collects_some : (outcomes : List JobOutcome) (b : Bool) → old.outcomes ≡ outcomes → old.closed ≡ b → IsAnsweredThen collect
    collects_some [] true j e = (is_closed, old, (j, e, refl))
    collects_some [] false j e = (empty, old, (j, e, refl))
    collects_some (x ∷ later) b j e = (outcome x.key x.settled, record old { outcomes = later }, (later, j, refl))

    applies_some : (key : Key) (call : C) (b : Bool) → old.broken ≡ b → r.slot call < length old.memories → IsAnsweredThen (apply key call)
    applies_some key call true e l = (is_broken, record old { faults = old.faults }, (old.faults, omega arith, (e, refl), refl))
    applies_some key call false e l =
        let t : (m : M) × (slice_get old.memories (r.slot call) ≡ Some m) = get_within old.memories (r.slot call) l in
        let a : A = (r.rule call t.0).0 in (
          applied a,
          record old { journal = old.journal ++ entry_under key call a ∷ []; memories = after_call r old.memories call; faults = old.faults },
          (
            old.faults,
            omega arith,
            (e, (subst (λ x. MatchOption x ⊥ (λ m. a ≡ (r.rule call m).0)) (sym t.1) refl, refl)),
            refl,
          ),
        )

    pub there_is : (op : HallOperation C) → HallCan r old op → IsAnsweredThen op
    there_is (submit key payload) can = submits_some key payload old.closed refl
    there_is take_job can = takes_some old.jobs old.closed refl refl
    there_is (apply key call) can = applies_some key call old.broken refl can.1
    there_is (put key settled) can = (done, record old { taken = without key old.taken; outcomes = old.outcomes ++ outcome_of key settled ∷ [] }, refl)
    there_is collect can = collects_some old.outcomes old.closed refl refl
    there_is close can = (done, record old { closed = true }, refl)
