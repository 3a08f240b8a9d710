-- What a history of the hall tells of its journal's faults, of who has closed it, and of its services.
use Rattle.std.proofs.Common.{◌≡◌, ℕ, ◌≤◌, ◌⊎◌, Bool, true, false, ◌||◌, cond, List, [], ◌∷◌, ◌++◌, refl, sym, ap, ◌∙◌, subst, inl, inr, ⊎_elim, arith, append_assoc, append-nil, eqb}
use Rattle.std.proofs.lemmas.Bool.{cases_eq, false≢true, or_left, or_right, or_cases}
use Rattle.host_model.specs.declared.key.Key.{Key}
use Rattle.host_model.specs.Journal.{ServiceRules, after_call, after}
use Rattle.host_model.proofs.Lists.{nil-cons, cons_parts}
use Rattle.call_history.specs.History.{meaning_after, IsHistory}
use Rattle.call_history.specs.Calls.{calls_by, ask_of, asks_of}
use Rattle.call_history.specs.Laws.{calls_by-own, calls_by-first, calls_by-first-other, IsHistory-at, IsHistory-front, asks-append}
use Rattle.machine_model.specs.HallState.{HallState, IsNew}
use Rattle.machine_model.specs.HallRule.{HallOperation, submit, take_job, apply, put, collect, close, HallAnswer, done, job, empty, is_closed, applied, no_memory, journal_fault, is_broken, outcome, TakesEffect, ApplyGives, HallGives}
use Rattle.machine_model.specs.OwnCalls.{HallCall, HallAsk, any_of}
use Rattle.machine_model.specs.Trouble.{tells_of_fault, is_close, any_fault_told, ClosesWhereTold}
use Rattle.machine_model.proofs.Lists.{after_push}
use Rattle.machine_model.proofs.Owning.{any_last}
use Rattle.machine_model.proofs.Singling.{by_first_later}

module _ {C A : Type 0} where
  fault_push : (asks : List (HallAsk C A)) (e : HallAsk C A) → any_fault_told (asks ++ e ∷ []) ≡ true → (any_fault_told asks ≡ true) ⊎ (tells_of_fault e.reply ≡ true)
  fault_push [] e h = ⊎_elim (λ f. inr f) (λ f. absurd (false≢true f)) (or_cases (tells_of_fault e.reply) false h)
  fault_push (x ∷ asks) e h =
      ⊎_elim (λ f. inl (or_left (tells_of_fault x.reply) (any_fault_told asks) f))
      (λ f. ⊎_elim (λ g. inl (or_right (tells_of_fault x.reply) (any_fault_told asks) g)) (λ g. inr g) (fault_push asks e f))
      (or_cases (tells_of_fault x.reply) (any_fault_told (asks ++ e ∷ [])) h)

  -- a fault that was told in front was told
  pub fault_front : (asks more : List (HallAsk C A)) → any_fault_told asks ≡ true → any_fault_told (asks ++ more) ≡ true
  fault_front [] more h = absurd (false≢true h)
  fault_front (x ∷ asks) more h =
      ⊎_elim (or_left (tells_of_fault x.reply) (any_fault_told (asks ++ more))) (λ f. or_right (tells_of_fault x.reply) (any_fault_told (asks ++ more)) (fault_front asks more f))
      (or_cases (tells_of_fault x.reply) (any_fault_told asks) h)

  fault_behind : (asks : List (HallAsk C A)) (e : HallAsk C A) → tells_of_fault e.reply ≡ true → any_fault_told (asks ++ e ∷ []) ≡ true
  fault_behind [] e h = or_left (tells_of_fault e.reply) false h
  fault_behind (x ∷ asks) e h = or_right (tells_of_fault x.reply) (any_fault_told (asks ++ e ∷ [])) (fault_behind asks e h)

  pub fault_by : (seat : ℕ) (asks : List (HallAsk C A)) → any_fault_told (calls_by seat asks) ≡ true → any_fault_told asks ≡ true
  fault_by seat [] h = h
  fault_by seat (e ∷ asks) h = go (eqb e.seat seat) h (fault_by seat asks)
    where
      go : (b : Bool) → any_fault_told (cond b (e ∷ calls_by seat asks) (calls_by seat asks)) ≡ true → (any_fault_told (calls_by seat asks) ≡ true → any_fault_told asks ≡ true)
          → (tells_of_fault e.reply || any_fault_told asks) ≡ true
      go true f rec = ⊎_elim (or_left (tells_of_fault e.reply) (any_fault_told asks)) (λ g. or_right (tells_of_fault e.reply) (any_fault_told asks) (rec g)) (or_cases (tells_of_fault e.reply) (any_fault_told (calls_by seat asks)) f)
      go false f rec = or_right (tells_of_fault e.reply) (any_fault_told asks) (rec f)

  closes_front : (asks more : List (HallAsk C A)) → ClosesWhereTold (asks ++ more) → ClosesWhereTold asks
  closes_front asks more h front back x is = h front (back ++ more) x (ap (λ l. l ++ more) is ∙ append_assoc front (x ∷ back) more)

module _ {C A M : Type 0} (r : ServiceRules C A M) where
  -- what a call does to the count, and to what tells of trouble
  pub record Troubles (old : HallState C A M) (op : HallOperation C) (answer : HallAnswer A) (new : HallState C A M) : Type 0 where
    pub later : old.faults ≤ new.faults
    pub stays : old.broken ≡ true → new.broken ≡ true
    pub broken : new.broken ≡ true → (old.broken ≡ true) ⊎ (tells_of_fault answer ≡ true)
    pub tells : tells_of_fault answer ≡ true → new.broken ≡ true
    pub closed : new.closed ≡ true → (old.closed ≡ true) ⊎ (is_close op ≡ true)

  plainly : (old other new : HallState C A M) (op : HallOperation C) (answer : HallAnswer A) (faults : ℕ) → new ≡ other → old.faults ≤ faults → other.faults ≡ faults → other.broken ≡ old.broken → other.closed ≡ old.closed
      → (tells_of_fault answer ≡ true → old.broken ≡ true) → Troubles old op answer new
  plainly old other new op answer faults is more f b c tells =
      let n : new.faults ≡ faults = ap (λ (h : HallState C A M). h.faults) is ∙ f in
      let same : new.broken ≡ old.broken = ap (λ (h : HallState C A M). h.broken) is ∙ b in
      record {
        later = omega arith;
        stays = λ h. same ∙ h;
        broken = λ h. inl (sym same ∙ h);
        tells = λ h. same ∙ tells h;
        closed = λ h. inl (sym c ∙ sym (ap (λ (h : HallState C A M). h.closed) is) ∙ h);
      }

  after_apply : (old new : HallState C A M) (key : Key) (call : C) (answer : HallAnswer A) (faults : ℕ) → old.faults ≤ faults → ApplyGives r old key call faults answer new → Troubles old (apply key call) answer new
  after_apply old new key call (applied reply) faults more g = plainly old _ new (apply key call) (applied reply) faults g.1.1 more refl refl refl (λ h. absurd (false≢true h))
  after_apply old new key call no_memory faults more g =
      ⊎_elim (λ (t : new ≡ record old { faults = faults }). plainly old _ new (apply key call) no_memory faults t more refl refl refl (λ h. absurd (false≢true h)))
      (λ (t : (reply : A) × TakesEffect r old key call reply faults new). plainly old _ new (apply key call) no_memory faults t.1.1 more refl refl refl (λ h. absurd (false≢true h))) g.1
  after_apply old new key call journal_fault faults more g =
      let n : new.faults ≡ faults = ap (λ (h : HallState C A M). h.faults) g.2 in
      let b : new.broken ≡ true = ap (λ (h : HallState C A M). h.broken) g.2 in
      record {
        later = omega arith;
        stays = λ h. b;
        broken = λ h. inr refl;
        tells = λ h. b;
        closed = λ h. inl (sym (ap (λ (h : HallState C A M). h.closed) g.2) ∙ h);
      }
  after_apply old new key call is_broken faults more g = plainly old _ new (apply key call) is_broken faults g.1 more refl refl refl (λ h. g.0)
  after_apply old new key call _ faults more g = absurd g

  pub troubles : (old new : HallState C A M) (op : HallOperation C) (answer : HallAnswer A) → HallGives r old op answer new → Troubles old op answer new
  troubles old new (submit key payload) done g = plainly old _ new (submit key payload) done old.faults g.1 (omega arith) refl refl refl (λ h. absurd (false≢true h))
  troubles old new (submit key payload) is_closed g = plainly old _ new (submit key payload) is_closed old.faults g.1 (omega arith) refl refl refl (λ h. absurd (false≢true h))
  troubles old new (submit key payload) _ g = absurd g
  troubles old new take_job (job key payload) g = plainly old _ new take_job (job key payload) old.faults g.2 (omega arith) refl refl refl (λ h. absurd (false≢true h))
  troubles old new take_job empty g = plainly old _ new take_job empty old.faults g.2 (omega arith) refl refl refl (λ h. absurd (false≢true h))
  troubles old new take_job is_closed g = plainly old _ new take_job is_closed old.faults g.2 (omega arith) refl refl refl (λ h. absurd (false≢true h))
  troubles old new take_job _ g = absurd g
  troubles old new (apply key call) answer g = after_apply old new key call answer g.0 g.1 g.2
  troubles old new (put key settled) done g = plainly old _ new (put key settled) done old.faults g (omega arith) refl refl refl (λ h. absurd (false≢true h))
  troubles old new (put key settled) _ g = absurd g
  troubles old new collect (outcome key settled) g = plainly old _ new collect (outcome key settled) old.faults g.2 (omega arith) refl refl refl (λ h. absurd (false≢true h))
  troubles old new collect empty g = plainly old _ new collect empty old.faults g.2 (omega arith) refl refl refl (λ h. absurd (false≢true h))
  troubles old new collect is_closed g = plainly old _ new collect is_closed old.faults g.2 (omega arith) refl refl refl (λ h. absurd (false≢true h))
  troubles old new collect _ g = absurd g
  troubles old new close done g =
      let n : new.faults ≡ old.faults = ap (λ (h : HallState C A M). h.faults) g in
      let b : new.broken ≡ old.broken = ap (λ (h : HallState C A M). h.broken) g in
      record {
        later = omega arith;
        stays = λ h. b ∙ h;
        broken = λ h. inl (sym b ∙ h);
        tells = λ h. absurd (false≢true h);
        closed = λ h. inr refl;
      }
  troubles old new close _ g = absurd g

  -- an answer that the hall is closed comes from a closed hall
  found_closed : (old new : HallState C A M) (op : HallOperation C) → HallGives r old op is_closed new → old.closed ≡ true
  found_closed old new (submit key payload) g = g.0
  found_closed old new take_job g = g.1
  found_closed old new (apply key call) g = absurd g.2
  found_closed old new (put key settled) g = absurd g
  found_closed old new collect g = g.1
  found_closed old new close g = absurd g

  module _ (opening : HallState C A M) where
    -- the services are behind the journal, or, where its last append failed, behind one call more
    pub record Stand (hall : HallState C A M) : Type 0 where
      pub whole : hall.broken ≡ false → hall.memories ≡ after r opening.memories hall.journal
      pub ahead : hall.broken ≡ true → (call : C) × (hall.memories ≡ after_call r (after r opening.memories hall.journal) call)

    same_stand : (old new : HallState C A M) → new.memories ≡ old.memories → new.journal ≡ old.journal → new.broken ≡ old.broken → Stand old → Stand new
    same_stand old new m j b s =
        record {
          whole = λ h. m ∙ s.whole (sym b ∙ h) ∙ ap (after r opening.memories) (sym j);
          ahead = λ h. let t : (call : C) × (old.memories ≡ after_call r (after r opening.memories old.journal) call) = s.ahead (sym b ∙ h) in
              (t.0, m ∙ t.1 ∙ ap (λ es. after_call r (after r opening.memories es) t.0) (sym j));
        }

    is_stand : (old other new : HallState C A M) → new ≡ other → other.memories ≡ old.memories → other.journal ≡ old.journal → other.broken ≡ old.broken → Stand old → Stand new
    is_stand old other new is m j b s =
        same_stand old new (ap (λ (h : HallState C A M). h.memories) is ∙ m) (ap (λ (h : HallState C A M). h.journal) is ∙ j) (ap (λ (h : HallState C A M). h.broken) is ∙ b) s

    effect_stands : (old new : HallState C A M) (key : Key) (call : C) (answer : A) (faults : ℕ) → old.broken ≡ false → TakesEffect r old key call answer faults new → Stand old → Stand new
    effect_stands old new key call answer faults whole t s =
        let b : new.broken ≡ false = ap (λ (h : HallState C A M). h.broken) t.1 ∙ whole in
        record {
          whole = λ h. ap (λ (x : HallState C A M). x.memories) t.1 ∙ ap (λ m. after_call r m call) (s.whole whole)
              ∙ sym (after_push r opening.memories old.journal _) ∙ ap (λ (x : HallState C A M). after r opening.memories x.journal) (sym t.1);
          ahead = λ h. absurd (false≢true (sym b ∙ h));
        }

    apply_stands : (old new : HallState C A M) (key : Key) (call : C) (answer : HallAnswer A) (faults : ℕ) → ApplyGives r old key call faults answer new → Stand old → Stand new
    apply_stands old new key call (applied reply) faults g s = effect_stands old new key call reply faults g.0 g.1 s
    apply_stands old new key call no_memory faults g s =
        ⊎_elim (λ (t : new ≡ record old { faults = faults }). is_stand old _ new t refl refl refl s)
        (λ (t : (reply : A) × TakesEffect r old key call reply faults new). effect_stands old new key call t.0 faults g.0 t.1 s) g.1
    apply_stands old new key call journal_fault faults g s =
        record {
          whole = λ h. absurd (false≢true (sym h ∙ ap (λ (x : HallState C A M). x.broken) g.2));
          ahead = λ h. (
            call,
            ap (λ (x : HallState C A M). x.memories) g.2 ∙ ap (λ m. after_call r m call) (s.whole g.0)
                ∙ ap (λ (x : HallState C A M). after_call r (after r opening.memories x.journal) call) (sym g.2),
          );
        }
    apply_stands old new key call is_broken faults g s = is_stand old _ new g.1 refl refl refl s
    apply_stands old new key call _ faults g s = absurd g

    stands_on : (old new : HallState C A M) (op : HallOperation C) (answer : HallAnswer A) → HallGives r old op answer new → Stand old → Stand new
    stands_on old new (submit key payload) done g s = is_stand old _ new g.1 refl refl refl s
    stands_on old new (submit key payload) is_closed g s = is_stand old _ new g.1 refl refl refl s
    stands_on old new (submit key payload) _ g s = absurd g
    stands_on old new take_job (job key payload) g s = is_stand old _ new g.2 refl refl refl s
    stands_on old new take_job empty g s = is_stand old _ new g.2 refl refl refl s
    stands_on old new take_job is_closed g s = is_stand old _ new g.2 refl refl refl s
    stands_on old new take_job _ g s = absurd g
    stands_on old new (apply key call) answer g s = apply_stands old new key call answer g.0 g.2 s
    stands_on old new (put key settled) done g s = is_stand old _ new g refl refl refl s
    stands_on old new (put key settled) _ g s = absurd g
    stands_on old new collect (outcome key settled) g s = is_stand old _ new g.2 refl refl refl s
    stands_on old new collect empty g s = is_stand old _ new g.2 refl refl refl s
    stands_on old new collect is_closed g s = is_stand old _ new g.2 refl refl refl s
    stands_on old new collect _ g s = absurd g
    stands_on old new close done g s = is_stand old _ new g refl refl refl s
    stands_on old new close _ g s = absurd g

    -- what is known after a history
    pub record Accounted (asks : List (HallAsk C A)) (hall : HallState C A M) : Type 0 where
      pub later : opening.faults ≤ hall.faults
      pub told : any_fault_told asks ≡ true → hall.broken ≡ true
      pub broken : hall.broken ≡ true → any_fault_told asks ≡ true
      pub closed : ClosesWhereTold asks → hall.closed ≡ true → (any_of is_close (calls_by 0 asks) ≡ true) ⊎ (any_fault_told asks ≡ true)
      pub services : Stand hall

    one_more : (asks : List (HallAsk C A)) (old new : HallState C A M) (e : HallAsk C A) → Accounted asks old → HallGives r old e.op e.reply new → Accounted (asks ++ e ∷ []) new
    one_more asks old new e k g = made (troubles old new e.op e.reply g)
      where
        closes : ClosesWhereTold (asks ++ e ∷ []) → (e.seat ≡ 0) ⊎ (e.seat ≡ 0 → ⊥) → is_close e.op ≡ true → (any_of is_close (calls_by 0 (asks ++ e ∷ [])) ≡ true) ⊎ (any_fault_told (asks ++ e ∷ []) ≡ true)
        closes rule (inl is) h = inl (ap (any_of is_close) (calls_by-own 0 asks e is) ∙ any_last is_close (calls_by 0 asks) e h)
        closes rule (inr n) h = inr (fault_front asks (e ∷ []) (fault_by e.seat asks (rule asks [] e refl h n)))

        made : Troubles old e.op e.reply new → Accounted (asks ++ e ∷ []) new
        made t =
            let first : opening.faults ≤ old.faults = k.later in
            let second : old.faults ≤ new.faults = t.later in
            record {
              later = omega arith;
              told = λ h. ⊎_elim (λ f. t.stays (k.told f)) (λ f. t.tells f) (fault_push asks e h);
              broken = λ h. ⊎_elim (λ f. fault_front asks (e ∷ []) (k.broken f)) (λ f. fault_behind asks e f) (t.broken h);
              closed = λ rule h.
                  ⊎_elim (λ f. ⊎_elim (λ g. inl (by_first_later is_close asks e g)) (λ g. inr (fault_front asks (e ∷ []) g)) (k.closed (closes_front asks (e ∷ []) rule) f))
                  (closes rule (cases_eq e.seat 0)) (t.closed h);
              services = stands_on old new e.op e.reply g k.services;
            }

    accounted : (front : List (HallAsk C A)) (back : List (HallCall C A M)) (hall : HallState C A M) → Accounted front hall → IsHistory (HallGives r) hall back → Accounted (front ++ asks_of back) (meaning_after hall back)
    accounted front [] hall k history = subst (λ asks. Accounted asks hall) (sym (append-nil front)) k
    accounted front (e ∷ back) hall k history =
        subst (λ asks. Accounted asks (meaning_after e.after back)) (append_assoc front (ask_of e ∷ []) (asks_of back))
        (accounted (front ++ ask_of e ∷ []) back e.after (one_more front hall e.after (ask_of e) k history.0) history.1)

    pub account : (memories : List M) (log : List (HallCall C A M)) → IsNew memories opening → IsHistory (HallGives r) opening log → Accounted (asks_of log) (meaning_after opening log)
    account memories log n history =
        accounted [] log opening
        (record {
          later = omega arith;
          told = λ h. absurd (false≢true h);
          broken = λ h. absurd (false≢true (sym n.opened.broken ∙ h));
          closed = λ rule h. absurd (false≢true (sym n.opened.closed ∙ h));
          services = record {
            whole = λ h. ap (after r opening.memories) (sym n.journal);
            ahead = λ h. absurd (false≢true (sym n.opened.broken ∙ h));
          };
        })
        history

    -- where a call of seat 0 stands in a history
    record Placed (log : List (HallCall C A M)) (front : List (HallAsk C A)) (ask : HallAsk C A) : Type 0 where
      before : List (HallCall C A M)
      call : HallCall C A M
      behind : List (HallCall C A M)
      split : log ≡ before ++ call ∷ behind
      front_is : calls_by 0 (asks_of before) ≡ front
      ask_is : ask_of call ≡ ask

    placed : (log : List (HallCall C A M)) (front back : List (HallAsk C A)) (ask : HallAsk C A) → calls_by 0 (asks_of log) ≡ front ++ ask ∷ back → Placed log front ask
    placed [] [] back ask is = absurd (nil-cons ask back is)
    placed [] (x ∷ front) back ask is = absurd (nil-cons x (front ++ ask ∷ back) is)
    placed (e ∷ log) front back ask is = go (cases_eq e.seat 0) front (λ early same. placed log early back ask same) is
      where
        go : (e.seat ≡ 0) ⊎ (e.seat ≡ 0 → ⊥) → (front : List (HallAsk C A))
            → ((early : List (HallAsk C A)) → calls_by 0 (asks_of log) ≡ early ++ ask ∷ back → Placed log early ask)
            → calls_by 0 (asks_of (e ∷ log)) ≡ front ++ ask ∷ back → Placed (e ∷ log) front ask
        go (inl zeroth) [] again is =
            let parts : (ask_of e ≡ ask) × (calls_by 0 (asks_of log) ≡ back) =
            cons_parts (ask_of e) ask (calls_by 0 (asks_of log)) back (sym (calls_by-first 0 (ask_of e) (asks_of log) zeroth) ∙ is) in
            record { before = []; call = e; behind = log; split = refl; front_is = refl; ask_is = parts.0 }
        go (inl zeroth) (x ∷ front) again is =
            let parts : (ask_of e ≡ x) × (calls_by 0 (asks_of log) ≡ front ++ ask ∷ back) =
            cons_parts (ask_of e) x (calls_by 0 (asks_of log)) (front ++ ask ∷ back) (sym (calls_by-first 0 (ask_of e) (asks_of log) zeroth) ∙ is) in
            let p : Placed log front ask = again front parts.1 in
            record {
              before = e ∷ p.before;
              call = p.call;
              behind = p.behind;
              split = ap (λ (l : List (HallCall C A M)). e ∷ l) p.split;
              front_is = calls_by-first 0 (ask_of e) (asks_of p.before) zeroth ∙ (λ i. parts.0 i ∷ p.front_is i);
              ask_is = p.ask_is;
            }
        go (inr n) front again is =
            let p : Placed log front ask = again front (sym (calls_by-first-other 0 (ask_of e) (asks_of log) n) ∙ is) in
            record {
              before = e ∷ p.before;
              call = p.call;
              behind = p.behind;
              split = ap (λ (l : List (HallCall C A M)). e ∷ l) p.split;
              front_is = calls_by-first-other 0 (ask_of e) (asks_of p.before) n ∙ p.front_is;
              ask_is = p.ask_is;
            }

    -- Where seat 0 finds the hall closed, which it hasn't closed, a fault was told, so the hall is broken.
    pub closed_breaks : (memories : List M) (log : List (HallCall C A M)) (front back : List (HallAsk C A)) (ask : HallAsk C A) → IsNew memories opening → IsHistory (HallGives r) opening log
        → ClosesWhereTold (asks_of log) → calls_by 0 (asks_of log) ≡ front ++ ask ∷ back → ask.reply ≡ is_closed → any_of is_close front ≡ false → (meaning_after opening log).broken ≡ true
    closed_breaks memories log front back ask n history rule is answer open_still =
        let p : Placed log front ask = placed log front back ask is in
        let whole : IsHistory (HallGives r) opening (p.before ++ p.call ∷ p.behind) = subst (IsHistory (HallGives r) opening) p.split history in
        let asks : asks_of log ≡ asks_of p.before ++ asks_of (p.call ∷ p.behind) = ap asks_of p.split ∙ asks-append p.before (p.call ∷ p.behind) in
        let gives : HallGives r (meaning_after opening p.before) p.call.op p.call.reply p.call.after = IsHistory-at (HallGives r) opening p.before p.behind p.call whole in
        let shut : (meaning_after opening p.before).closed ≡ true =
        found_closed (meaning_after opening p.before) p.call.after p.call.op
        (subst (λ x. HallGives r (meaning_after opening p.before) p.call.op x p.call.after) (ap (λ (x : HallAsk C A). x.reply) p.ask_is ∙ answer) gives) in
        let k : Accounted (asks_of p.before) (meaning_after opening p.before) =
        account memories p.before n (IsHistory-front (HallGives r) opening p.before (p.call ∷ p.behind) whole) in
        let told : any_fault_told (asks_of p.before) ≡ true =
        ⊎_elim (λ f. absurd (false≢true (sym (ap (any_of is_close) p.front_is ∙ open_still) ∙ f))) (λ f. f)
        (k.closed (closes_front (asks_of p.before) (asks_of (p.call ∷ p.behind)) (subst ClosesWhereTold asks rule)) shut) in
        (account memories log n history).told (subst (λ l. any_fault_told l ≡ true) (sym asks) (fault_front (asks_of p.before) (asks_of (p.call ∷ p.behind)) told))
