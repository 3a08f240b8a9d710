-- Where each payload was collected, no worker was told that the journal failed, so the hall isn't broken.
use Rattle.std.proofs.Common.{◌≡◌, ◌≢◌, ℕ, ◌<◌, ◌^◌, ◌⊎◌, Bool, true, false, ◌||◌, cond, None, Some, List, [], ◌∷◌, length, map, refl, sym, ap, ◌∙◌, subst, inl, inr, arith, eqb}
use Rattle.std.specs.List.{flat_map}
use Rattle.std.proofs.lemmas.Bool.{cases_eq, false≢true, or_left, or_right, or_cases}
use Rattle.std.proofs.lemmas.Option.{none-some}
use Rattle.host_model.specs.declared.key.Key.{Key}
use Rattle.host_model.specs.declared.cause.EndCause.{EndCause}
use Rattle.host_model.specs.Journal.{ServiceRules, entries_of}
use Rattle.host_model.specs.DeskRules.{DeskRules}
use Rattle.host_model.proofs.Runs.{stands}
use Rattle.call_history.specs.History.{meaning_after, IsHistory}
use Rattle.call_history.specs.Calls.{calls_by, ask_of, asks_of}
use Rattle.call_history.specs.Laws.{calls_by-first}
use Rattle.machine_model.specs.HallState.{HallState}
use Rattle.machine_model.specs.HallRule.{HallOperation, submit, take_job, apply, put, collect, close, HallAnswer, done, job, empty, is_closed, applied, no_memory, journal_fault, is_broken, outcome, HallGives}
use Rattle.machine_model.specs.OwnCalls.{HallCall, HallAsk, any_of}
use Rattle.machine_model.specs.Trouble.{tells_of_fault, any_fault_told}
use Rattle.machine_model.specs.Loop.{Loop, LoopAsks}
use Rattle.machine_model.specs.Bounds.{NoneIsLeftBehind}
use Rattle.machine_model.specs.Worker.{key_held}
use Rattle.machine_model.specs.Machine.{Cell, HaveAllEnded}
use Rattle.machine_model.specs.Places.{held_by, jobs_of, outcomes_of, PayloadIsAt, CellKeeps}
use Rattle.machine_model.specs.Merge.{LoopItem, handles, calls, WorkerTurn, worked, worked_by_call, found_none, stopped, asked, AreTurns, op_with_answer, calls_in, no_loop, Weaves, IsOneHistory, cell_at_first}
use Rattle.machine_model.proofs.Lists.{get_within}
use Rattle.machine_model.proofs.Standing.{under_way_left}
use Rattle.machine_model.proofs.Running.{keeps}
use Rattle.machine_model.proofs.Merging.{first_is}
use Rattle.machine_model.proofs.OwnOrder.{hand_behind, EndsAt, HasBehind, ends_at}
use Rattle.machine_model.proofs.Troubles.{account}

-- an operation applies a call
abbrev is_apply : {C : Type 0} → HallOperation C → Bool
is_apply (apply key call) = true
is_apply _ = false

module _ {C A : Type 0} (d : DeskRules C A) where
  -- some answer of these tells of a failed journal
  abbrev pub any_told : List (HallOperation C × HallAnswer A) → Bool
  any_told [] = false
  any_told (a ∷ asks) = tells_of_fault a.1 || any_told asks

  pub same_told : (own : List (HallAsk C A)) → any_told (map op_with_answer own) ≡ any_fault_told own
  same_told [] = refl
  same_told (e ∷ own) = ap (λ b. tells_of_fault e.reply || b) (same_told own)

  -- a worker that was told so has its job in its hand at last
  told_hand : (turns : List (WorkerTurn C A)) → AreTurns d turns → any_told (flat_map asked turns) ≡ true → (key : Key) × (key_held (hand_behind d turns) ≡ Some key)
  told_hand [] t h = absurd (false≢true h)
  told_hand (worked key payload settled ∷ turns) t h = told_hand turns t.1 h
  told_hand (worked_by_call key payload call (applied answer) settled ∷ turns) t h = told_hand turns t.3 h
  told_hand (worked_by_call key payload call no_memory settled ∷ turns) t h = told_hand turns t.3 h
  told_hand (worked_by_call key payload call _ settled ∷ turns) t h = absurd t.1
  told_hand (found_none empty ∷ turns) t h = told_hand turns t.1 h
  told_hand (found_none is_closed ∷ turns) t h = told_hand turns t.1 h
  told_hand (found_none _ ∷ turns) t h = absurd t.0
  told_hand (stopped key payload call journal_fault ∷ turns) t h = (key, refl)
  told_hand (stopped key payload call is_broken ∷ turns) t h = (key, refl)
  told_hand (stopped key payload call _ ∷ turns) t h = absurd t.1

module _ {C A : Type 0} where
  -- a fault that was told was told to some seat
  fault_seat : (asks : List (HallAsk C A)) → any_fault_told asks ≡ true → (seat : ℕ) × (any_fault_told (calls_by seat asks) ≡ true)
  fault_seat [] h = absurd (false≢true h)
  fault_seat (e ∷ asks) h = go (or_cases (tells_of_fault e.reply) (any_fault_told asks) h) (fault_seat asks)
    where
      with_first : (seat : ℕ) (b : Bool) → any_fault_told (calls_by seat asks) ≡ true → any_fault_told (cond b (e ∷ calls_by seat asks) (calls_by seat asks)) ≡ true
      with_first seat true h = or_right (tells_of_fault e.reply) (any_fault_told (calls_by seat asks)) h
      with_first seat false h = h

      go : (tells_of_fault e.reply ≡ true) ⊎ (any_fault_told asks ≡ true) → (any_fault_told asks ≡ true → (seat : ℕ) × (any_fault_told (calls_by seat asks) ≡ true))
          → (seat : ℕ) × (any_fault_told (calls_by seat (e ∷ asks)) ≡ true)
      go (inl f) rec = (e.seat, ap any_fault_told (calls_by-first e.seat e asks refl) ∙ or_left (tells_of_fault e.reply) (any_fault_told (calls_by e.seat asks)) f)
      go (inr f) rec = let t : (seat : ℕ) × (any_fault_told (calls_by seat asks) ≡ true) = rec f in (t.0, with_first t.0 (eqb e.seat t.0) t.1)

  -- the loop applies no call
  asks_no_apply : (old : Loop) (op : HallOperation C) (answer : HallAnswer A) (new : Loop) → LoopAsks old op answer new → is_apply op ≡ false
  asks_no_apply old (submit key payload) answer new t = refl
  asks_no_apply old take_job answer new t = absurd t
  asks_no_apply old (apply key call) answer new t = absurd t
  asks_no_apply old (put key settled) answer new t = absurd t
  asks_no_apply old collect answer new t = refl
  asks_no_apply old close answer new t = refl

  weaves_no_apply : (max : ℕ) (items : List (LoopItem C A)) (old new : Loop) → Weaves max old items new → any_of is_apply (calls_in items) ≡ false
  weaves_no_apply max [] old new t = refl
  weaves_no_apply max (handles conn_event ∷ items) old new t = weaves_no_apply max items t.0 new t.2
  weaves_no_apply max (calls e ∷ items) old new t =
      ap (λ b. b || any_of is_apply (calls_in items)) (asks_no_apply old e.op e.reply t.0 t.1) ∙ weaves_no_apply max items t.0 new t.2

module _ {C A M : Type 0} (r : ServiceRules C A M) where
  -- a fault is told to an Apply alone
  tells_apply : (old new : HallState C A M) (op : HallOperation C) (answer : HallAnswer A) → HallGives r old op answer new → tells_of_fault answer ≡ true → is_apply op ≡ true
  tells_apply old new (submit key payload) done g h = absurd (false≢true h)
  tells_apply old new (submit key payload) is_closed g h = absurd (false≢true h)
  tells_apply old new (submit key payload) _ g h = absurd g
  tells_apply old new take_job (job key payload) g h = absurd (false≢true h)
  tells_apply old new take_job empty g h = absurd (false≢true h)
  tells_apply old new take_job is_closed g h = absurd (false≢true h)
  tells_apply old new take_job _ g h = absurd g
  tells_apply old new (apply key call) answer g h = refl
  tells_apply old new (put key settled) done g h = absurd (false≢true h)
  tells_apply old new (put key settled) _ g h = absurd g
  tells_apply old new collect (outcome key settled) g h = absurd (false≢true h)
  tells_apply old new collect empty g h = absurd (false≢true h)
  tells_apply old new collect is_closed g h = absurd (false≢true h)
  tells_apply old new collect _ g h = absurd g
  tells_apply old new close done g h = absurd (false≢true h)
  tells_apply old new close _ g h = absurd g

  told_applies : (n : ℕ) (old : HallState C A M) (log : List (HallCall C A M)) → IsHistory (HallGives r) old log → any_fault_told (calls_by n (asks_of log)) ≡ true
      → any_of is_apply (calls_by n (asks_of log)) ≡ true
  told_applies n old [] history h = absurd (false≢true h)
  told_applies n old (e ∷ log) history h = go (eqb e.seat n) h (told_applies n e.after log history.1)
    where
      go : (b : Bool) → any_fault_told (cond b (ask_of e ∷ calls_by n (asks_of log)) (calls_by n (asks_of log))) ≡ true
          → (any_fault_told (calls_by n (asks_of log)) ≡ true → any_of is_apply (calls_by n (asks_of log)) ≡ true)
          → any_of is_apply (cond b (ask_of e ∷ calls_by n (asks_of log)) (calls_by n (asks_of log))) ≡ true
      go false f rec = rec f
      go true f rec = by (or_cases (tells_of_fault e.reply) (any_fault_told (calls_by n (asks_of log))) f)
        where
          by : (tells_of_fault e.reply ≡ true) ⊎ (any_fault_told (calls_by n (asks_of log)) ≡ true) → (is_apply e.op || any_of is_apply (calls_by n (asks_of log))) ≡ true
          by (inl g) = or_left (is_apply e.op) (any_of is_apply (calls_by n (asks_of log))) (tells_apply old e.after e.op e.reply history.0 g)
          by (inr g) = or_right (is_apply e.op) (any_of is_apply (calls_by n (asks_of log))) (rec g)

module _ {C A M : Type 0} (d : DeskRules C A) (small : d.max < 2 ^ 31) (r : ServiceRules C A M) (memories : List M) (opening : HallState C A M) (log : List (HallCall C A M)) (weave : List (LoopItem C A))
    (loop : Loop) (causes : List EndCause) where
  -- a worker has no job in its hand where all have ended and nothing was left behind
  empty_handed : EndsAt d r (HasBehind d r memories opening log) (cell_at_first opening) loop (meaning_after opening log) → IsOneHistory d r memories opening log weave loop → HaveAllEnded loop causes
      → NoneIsLeftBehind loop → (last : Cell C A M) → CellKeeps d r memories last → last.loop ≡ loop → (w : ℕ) (key : Key) → key_held (last.workers w) ≡ Some key → ⊥
  empty_handed e one ended none last k is w key held =
      let at : (key.c < last.loop.count) × (k.place key.c ≡ held_by w) = k.workers w key held in
      let a : PayloadIsAt d last.workers (jobs_of key.c last.hall.jobs) (outcomes_of key.c last.hall.outcomes) (entries_of key.c last.hall.journal) key.c (last.loop.conns key.c) (held_by w) =
      subst (PayloadIsAt d last.workers (jobs_of key.c last.hall.jobs) (outcomes_of key.c last.hall.outcomes) (entries_of key.c last.hall.journal) key.c (last.loop.conns key.c)) at.1 (k.at key.c at.0) in
      let below : key.c < loop.count = subst (λ (l : Loop). key.c < l.count) is at.0 in
      let many : length causes ≡ loop.count = ended.count in
      let cause : (x : EndCause) × _ = get_within causes key.c (omega arith) in
      let over : (loop.conns key.c).cause ≢ None = λ q. none-some cause.0 (sym q ∙ ended.each key.c below ∙ cause.1) in
      let all : (last.loop.conns key.c).collected ≡ length (last.loop.conns key.c).payloads =
      subst (λ (l : Loop). (l.conns key.c).collected ≡ length (l.conns key.c).payloads) (sym is) (none key.c below over) in
      under_way_left d (last.loop.conns key.c) a.0 a.1 a.2 all

  pub unbroken : IsOneHistory d r memories opening log weave loop → HaveAllEnded loop causes → NoneIsLeftBehind loop → (meaning_after opening log).broken ≡ true → ⊥
  unbroken one ended none broken =
      let seat : (v : ℕ) × (any_fault_told (calls_by v (asks_of log)) ≡ true) = fault_seat (asks_of log) ((account r opening memories log one.opened one.history).broken broken) in
      go seat.0 seat.1 (cases_eq seat.0 0)
    where
      go : (v : ℕ) → any_fault_told (calls_by v (asks_of log)) ≡ true → (v ≡ 0) ⊎ (v ≡ 0 → ⊥) → ⊥
      go v told (inl zeroth) =
          let own : any_fault_told (calls_by 0 (asks_of log)) ≡ true = subst (λ n. any_fault_told (calls_by n (asks_of log)) ≡ true) zeroth told in
          false≢true (sym (ap (any_of is_apply) one.same ∙ weaves_no_apply d.max weave no_loop loop one.woven) ∙ told_applies r 0 opening log one.history own)
      go v told (inr n) =
          let e : EndsAt d r (HasBehind d r memories opening log) (cell_at_first opening) loop (meaning_after opening log) = ends_at d r memories opening log weave loop one in
          let has : HasBehind d r memories opening log v (e.last.workers v) = e.hands_are v n in
          let key : (k : Key) × (key_held (hand_behind d has.turns) ≡ Some k) =
          told_hand d has.turns has.are (ap (any_told d) (sym has.calls) ∙ same_told d (calls_by v (asks_of log)) ∙ told) in
          empty_handed e one ended none e.last
          (keeps d r memories (λ acts world reached. stands d r memories acts world small reached) small (cell_at_first opening) e.last e.events (first_is d r memories opening one.opened) e.runs) e.loop_is
          v key.0 (ap key_held has.hand_is ∙ key.1)
