-- A hall is broken, or closed by another than seat 0, only where its journal's count of faults rose; and where it is whole the count is as it was.
use Rattle.std.proofs.Common.{◌≡◌, ℕ, ◌+◌, ◌≤◌, ◌⊎◌, Bool, true, false, ◌||◌, cond, List, [], ◌∷◌, ◌++◌, refl, sym, ap, ◌∙◌, subst, inl, inr, ⊎_elim, arith, append_assoc, append-nil, eqb, min}
use Rattle.std.proofs.lemmas.Bool.{cases_eq, false≢true, or_left, or_right, or_cases}
use Rattle.std.proofs.Math.Nat.{min-le_left, min-le_right, le-min}
use Rattle.streams.specs.Cause.{next_count, Rose}
use Rattle.host_model.specs.declared.key.Key.{Key}
use Rattle.host_model.specs.Journal.{ServiceRules}
use Rattle.call_history.specs.History.{meaning_after, IsHistory}
use Rattle.call_history.specs.Calls.{calls_by, ask_of, asks_of}
use Rattle.call_history.specs.Laws.{calls_by-own}
use Rattle.machine_model.specs.HallState.{HallState, IsNewlyOpened}
use Rattle.machine_model.specs.HallRule.{HallOperation, submit, take_job, apply, put, collect, close, HallAnswer, done, job, empty, is_closed, applied, no_memory, journal_fault, is_broken, outcome, TakesEffect, ApplyGives, KeepsCount, HallGives}
use Rattle.machine_model.specs.OwnCalls.{HallCall, HallAsk, any_of}
use Rattle.machine_model.specs.Trouble.{tells_of_fault, is_close, any_fault_told, ClosesWhereTold}
use Rattle.machine_model.proofs.Owning.{any_last}
use Rattle.machine_model.proofs.Singling.{by_first_later}

-- a count that rose has risen from each lower one, and stays so
lower_min : (a b m c : ℕ) → a ≤ b → min (b + 1) m ≤ c → min (a + 1) m ≤ c
lower_min a b m c l rose =
    let left : min (a + 1) m ≤ a + 1 = min-le_left (a + 1) m in
    let right : min (a + 1) m ≤ m = min-le_right (a + 1) m in
    let both : min (a + 1) m ≤ min (b + 1) m = le-min (omega arith) right in
    omega arith

rose_from : (a b c : ℕ) → a ≤ b → Rose b c → Rose a c
rose_from a b c l rose = lower_min a b _ c l rose

rose_to : (a b c : ℕ) → Rose a b → b ≤ c → Rose a c
rose_to a b c rose l = let r : next_count a ≤ b = rose in omega arith

module _ {C A : Type 0} where
  fault_push : (asks : List (HallAsk C A)) (e : HallAsk C A) → any_fault_told (asks ++ e ∷ []) ≡ true → (any_fault_told asks ≡ true) ⊎ (tells_of_fault e.reply ≡ true)
  fault_push [] e h = ⊎_elim (λ f. inr f) (λ f. absurd (false≢true f)) (or_cases (tells_of_fault e.reply) false h)
  fault_push (x ∷ asks) e h =
      ⊎_elim (λ f. inl (or_left (tells_of_fault x.reply) (any_fault_told asks) f))
      (λ f. ⊎_elim (λ g. inl (or_right (tells_of_fault x.reply) (any_fault_told asks) g)) (λ g. inr g) (fault_push asks e f))
      (or_cases (tells_of_fault x.reply) (any_fault_told (asks ++ e ∷ [])) h)

  fault_by : (seat : ℕ) (asks : List (HallAsk C A)) → any_fault_told (calls_by seat asks) ≡ true → any_fault_told asks ≡ true
  fault_by seat [] h = h
  fault_by seat (e ∷ asks) h = go (eqb e.seat seat) h (fault_by seat asks)
    where
      go : (b : Bool) → any_fault_told (cond b (e ∷ calls_by seat asks) (calls_by seat asks)) ≡ true → (any_fault_told (calls_by seat asks) ≡ true → any_fault_told asks ≡ true)
          → (tells_of_fault e.reply || any_fault_told asks) ≡ true
      go true f rec = ⊎_elim (or_left (tells_of_fault e.reply) (any_fault_told asks)) (λ g. or_right (tells_of_fault e.reply) (any_fault_told asks) (rec g)) (or_cases (tells_of_fault e.reply) (any_fault_told (calls_by seat asks)) f)
      go false f rec = or_right (tells_of_fault e.reply) (any_fault_told asks) (rec f)

  told_before : (asks : List (HallAsk C A)) (e : HallAsk C A) → ClosesWhereTold (asks ++ e ∷ []) → ClosesWhereTold asks
  told_before asks e h front back x is = h front (back ++ e ∷ []) x (ap (λ l. l ++ e ∷ []) is ∙ append_assoc front (x ∷ back) (e ∷ []))

module _ {C A M : Type 0} (r : ServiceRules C A M) where
  -- what a call does to the count, and to what tells of trouble
  record Troubles (old : HallState C A M) (op : HallOperation C) (answer : HallAnswer A) (new : HallState C A M) : Type 0 where
    later : old.faults ≤ new.faults
    broken : new.broken ≡ true → (old.broken ≡ true) ⊎ Rose old.faults new.faults
    tells : tells_of_fault answer ≡ true → (old.broken ≡ true) ⊎ Rose old.faults new.faults
    closed : new.closed ≡ true → (old.closed ≡ true) ⊎ (is_close op ≡ true)

  plainly : (old other new : HallState C A M) (op : HallOperation C) (answer : HallAnswer A) (faults : ℕ) → new ≡ other → old.faults ≤ faults → other.faults ≡ faults → other.broken ≡ old.broken → other.closed ≡ old.closed
      → (tells_of_fault answer ≡ true → old.broken ≡ true) → Troubles old op answer new
  plainly old other new op answer faults is more f b c tells =
      let n : new.faults ≡ faults = ap (λ (h : HallState C A M). h.faults) is ∙ f in
      record {
        later = omega arith;
        broken = λ h. inl (sym b ∙ sym (ap (λ (h : HallState C A M). h.broken) is) ∙ h);
        tells = λ h. inl (tells h);
        closed = λ h. inl (sym c ∙ sym (ap (λ (h : HallState C A M). h.closed) is) ∙ h);
      }

  after_apply : (old new : HallState C A M) (key : Key) (call : C) (answer : HallAnswer A) (faults : ℕ) → old.faults ≤ faults → ApplyGives r old key call faults answer new → Troubles old (apply key call) answer new
  after_apply old new key call (applied reply) faults more g = plainly old _ new (apply key call) (applied reply) faults g.1.1 more refl refl refl (λ h. absurd (false≢true h))
  after_apply old new key call no_memory faults more g =
      ⊎_elim (λ (t : new ≡ record old { faults = faults }). plainly old _ new (apply key call) no_memory faults t more refl refl refl (λ h. absurd (false≢true h)))
      (λ (t : (reply : A) × TakesEffect r old key call reply faults new). plainly old _ new (apply key call) no_memory faults t.1.1 more refl refl refl (λ h. absurd (false≢true h))) g.1
  after_apply old new key call journal_fault faults more g =
      let n : new.faults ≡ faults = ap (λ (h : HallState C A M). h.faults) g.2 in
      let rose : Rose old.faults new.faults = subst (Rose old.faults) (sym n) g.1 in
      record {
        later = omega arith;
        broken = λ h. inr rose;
        tells = λ h. inr rose;
        closed = λ h. inl (sym (ap (λ (h : HallState C A M). h.closed) g.2) ∙ h);
      }
  after_apply old new key call is_broken faults more g = plainly old _ new (apply key call) is_broken faults g.1 more refl refl refl (λ h. g.0)
  after_apply old new key call _ faults more g = absurd g

  troubles : (old new : HallState C A M) (op : HallOperation C) (answer : HallAnswer A) → HallGives r old op answer new → Troubles old op answer new
  troubles old new (submit key payload) done g = plainly old _ new (submit key payload) done old.faults g.1 (omega arith) refl refl refl (λ h. absurd (false≢true h))
  troubles old new (submit key payload) is_closed g = plainly old _ new (submit key payload) is_closed old.faults g.1 (omega arith) refl refl refl (λ h. absurd (false≢true h))
  troubles old new (submit key payload) _ g = absurd g
  troubles old new take_job (job key payload) g = plainly old _ new take_job (job key payload) old.faults g.2 (omega arith) refl refl refl (λ h. absurd (false≢true h))
  troubles old new take_job empty g = plainly old _ new take_job empty old.faults g.2 (omega arith) refl refl refl (λ h. absurd (false≢true h))
  troubles old new take_job is_closed g = plainly old _ new take_job is_closed old.faults g.2 (omega arith) refl refl refl (λ h. absurd (false≢true h))
  troubles old new take_job _ g = absurd g
  troubles old new (apply key call) answer g = after_apply old new key call answer g.0 g.1 g.2
  troubles old new (put key settled) done g = plainly old _ new (put key settled) done old.faults g (omega arith) refl refl refl (λ h. absurd (false≢true h))
  troubles old new (put key settled) _ g = absurd g
  troubles old new collect (outcome key settled) g = plainly old _ new collect (outcome key settled) old.faults g.2 (omega arith) refl refl refl (λ h. absurd (false≢true h))
  troubles old new collect empty g = plainly old _ new collect empty old.faults g.2 (omega arith) refl refl refl (λ h. absurd (false≢true h))
  troubles old new collect is_closed g = plainly old _ new collect is_closed old.faults g.2 (omega arith) refl refl refl (λ h. absurd (false≢true h))
  troubles old new collect _ g = absurd g
  troubles old new close done g =
      let n : new.faults ≡ old.faults = ap (λ (h : HallState C A M). h.faults) g in
      record {
        later = omega arith;
        broken = λ h. inl (sym (ap (λ (h : HallState C A M). h.broken) g) ∙ h);
        tells = λ h. absurd (false≢true h);
        closed = λ h. inr refl;
      }
  troubles old new close _ g = absurd g

  -- where a call leaves the hall whole it was whole before, and the count is as it was
  abbrev StaysWhole : HallState C A M → HallState C A M → Type 0
  StaysWhole old new = new.broken ≡ false → (old.broken ≡ false) × (new.faults ≡ old.faults)

  whole_so : (old other new : HallState C A M) → new ≡ other → other.broken ≡ old.broken → other.faults ≡ old.faults → StaysWhole old new
  whole_so old other new is b f =
      λ h. (sym b ∙ sym (ap (λ (x : HallState C A M). x.broken) is) ∙ h, ap (λ (x : HallState C A M). x.faults) is ∙ f)

  apply_whole : (old new : HallState C A M) (key : Key) (call : C) (answer : HallAnswer A) (faults : ℕ) → ApplyGives r old key call faults answer new → KeepsCount answer old.faults faults
      → StaysWhole old new
  apply_whole old new key call (applied reply) faults g same = whole_so old _ new g.1.1 refl same
  apply_whole old new key call no_memory faults g same =
      ⊎_elim (λ (t : new ≡ record old { faults = faults }). whole_so old _ new t refl same)
      (λ (t : (reply : A) × TakesEffect r old key call reply faults new). whole_so old _ new t.1.1 refl same) g.1
  apply_whole old new key call journal_fault faults g same = λ h. absurd (false≢true (sym h ∙ ap (λ (x : HallState C A M). x.broken) g.2))
  apply_whole old new key call is_broken faults g same = whole_so old _ new g.1 refl same
  apply_whole old new key call _ faults g same = absurd g

  stays_whole : (old new : HallState C A M) (op : HallOperation C) (answer : HallAnswer A) → HallGives r old op answer new → StaysWhole old new
  stays_whole old new (submit key payload) done g = whole_so old _ new g.1 refl refl
  stays_whole old new (submit key payload) is_closed g = whole_so old _ new g.1 refl refl
  stays_whole old new (submit key payload) _ g = absurd g
  stays_whole old new take_job (job key payload) g = whole_so old _ new g.2 refl refl
  stays_whole old new take_job empty g = whole_so old _ new g.2 refl refl
  stays_whole old new take_job is_closed g = whole_so old _ new g.2 refl refl
  stays_whole old new take_job _ g = absurd g
  stays_whole old new (apply key call) answer g = apply_whole old new key call answer g.0 g.2 g.3
  stays_whole old new (put key settled) done g = whole_so old _ new g refl refl
  stays_whole old new (put key settled) _ g = absurd g
  stays_whole old new collect (outcome key settled) g = whole_so old _ new g.2 refl refl
  stays_whole old new collect empty g = whole_so old _ new g.2 refl refl
  stays_whole old new collect is_closed g = whole_so old _ new g.2 refl refl
  stays_whole old new collect _ g = absurd g
  stays_whole old new close done g = whole_so old _ new g refl refl
  stays_whole old new close _ g = absurd g

  -- the same of a history
  pub whole_count : (hall : HallState C A M) (log : List (HallCall C A M)) → IsHistory (HallGives r) hall log → StaysWhole hall (meaning_after hall log)
  whole_count hall [] history = λ h. (h, refl)
  whole_count hall (e ∷ log) history =
      λ h.
      let later : (e.after.broken ≡ false) × ((meaning_after e.after log).faults ≡ e.after.faults) = whole_count e.after log history.1 h in
      let first : (hall.broken ≡ false) × (e.after.faults ≡ hall.faults) = stays_whole hall e.after e.op e.reply history.0 later.0 in
      (first.0, later.1 ∙ first.1)

  module _ (opening : HallState C A M) where
    -- what is known of trouble after a history
    record Accounted (asks : List (HallAsk C A)) (hall : HallState C A M) : Type 0 where
      later : opening.faults ≤ hall.faults
      broken : hall.broken ≡ true → Rose opening.faults hall.faults
      told : any_fault_told asks ≡ true → Rose opening.faults hall.faults
      closed : ClosesWhereTold asks → hall.closed ≡ true → (any_of is_close (calls_by 0 asks) ≡ true) ⊎ Rose opening.faults hall.faults

    one_more : (asks : List (HallAsk C A)) (old new : HallState C A M) (e : HallAsk C A) → Accounted asks old → Troubles old e.op e.reply new → Accounted (asks ++ e ∷ []) new
    one_more asks old new e k t =
        let first : opening.faults ≤ old.faults = k.later in
        let second : old.faults ≤ new.faults = t.later in
        record {
          later = omega arith;
          broken = λ h. risen (t.broken h);
          told = λ h. ⊎_elim (λ f. stays (k.told f)) (λ f. risen (t.tells f)) (fault_push asks e h);
          closed = λ rule h. ⊎_elim (λ f. ⊎_elim (λ g. inl (by_first_later is_close asks e g)) (λ g. inr (stays g)) (k.closed (told_before asks e rule) f)) (closes rule (cases_eq e.seat 0)) (t.closed h);
        }
      where
        stays : Rose opening.faults old.faults → Rose opening.faults new.faults
        stays rose = rose_to opening.faults old.faults new.faults rose t.later

        risen : (old.broken ≡ true) ⊎ Rose old.faults new.faults → Rose opening.faults new.faults
        risen (inl h) = stays (k.broken h)
        risen (inr rose) = rose_from opening.faults old.faults new.faults k.later rose

        closes : ClosesWhereTold (asks ++ e ∷ []) → (e.seat ≡ 0) ⊎ (e.seat ≡ 0 → ⊥) → is_close e.op ≡ true → (any_of is_close (calls_by 0 (asks ++ e ∷ [])) ≡ true) ⊎ Rose opening.faults new.faults
        closes rule (inl is) h = inl (ap (any_of is_close) (calls_by-own 0 asks e is) ∙ any_last is_close (calls_by 0 asks) e h)
        closes rule (inr n) h = inr (stays (k.told (fault_by e.seat asks (rule asks [] e refl h n))))

    accounted : (front : List (HallAsk C A)) (back : List (HallCall C A M)) (hall : HallState C A M) → Accounted front hall → IsHistory (HallGives r) hall back → Accounted (front ++ asks_of back) (meaning_after hall back)
    accounted front [] hall k history = subst (λ asks. Accounted asks hall) (sym (append-nil front)) k
    accounted front (e ∷ back) hall k history =
        subst (λ asks. Accounted asks (meaning_after e.after back)) (append_assoc front (ask_of e ∷ []) (asks_of back))
        (accounted (front ++ ask_of e ∷ []) back e.after (one_more front hall e.after (ask_of e) k (troubles hall e.after e.op e.reply history.0)) history.1)

    none_yet : IsNewlyOpened opening → Accounted [] opening
    none_yet n = record {
      later = omega arith;
      broken = λ h. absurd (false≢true (sym n.broken ∙ h));
      told = λ h. absurd (false≢true h);
      closed = λ rule h. absurd (false≢true (sym n.closed ∙ h));
    }

    pub broken_rose : (log : List (HallCall C A M)) → IsNewlyOpened opening → IsHistory (HallGives r) opening log → (meaning_after opening log).broken ≡ true → Rose opening.faults (meaning_after opening log).faults
    broken_rose log n history h = (accounted [] log opening (none_yet n) history).broken h

    pub told_rose : (log : List (HallCall C A M)) → IsNewlyOpened opening → IsHistory (HallGives r) opening log → any_fault_told (asks_of log) ≡ true → Rose opening.faults (meaning_after opening log).faults
    told_rose log n history h = (accounted [] log opening (none_yet n) history).told h

    pub closed_rose : (log : List (HallCall C A M)) → IsNewlyOpened opening → IsHistory (HallGives r) opening log → ClosesWhereTold (asks_of log) → (meaning_after opening log).closed ≡ true
        → (any_of is_close (calls_by 0 (asks_of log)) ≡ true) ⊎ Rose opening.faults (meaning_after opening log).faults
    closed_rose log n history rule h = (accounted [] log opening (none_yet n) history).closed rule h
