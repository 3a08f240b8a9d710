-- A booth's calls of a hub are a history of the model's hub, so what a seat may ask next the hub can do.
use Rattle.std.proofs.Common.{◌≡◌, ℕ, ◌<◌, Bool, true, false, cond, List, [], ◌∷◌, ◌++◌, map, length, refl, sym, ap, ◌∙◌, subst, eqb}
use Rattle.host_model.proofs.Lists.{nil-cons}
use Rattle.call_rules.specs.PlainCalls.{PlainCall, PlainAnswer, empty}
use Rattle.call_rules.specs.Entries.{CallEntry}
use Rattle.call_rules.specs.Handling.{ServiceState, handler_rules}
use Rattle.call_history.specs.declared.seat_call.SeatCall.{SeatCall}
use Rattle.call_history.specs.History.{seat_call, meaning_after, IsHistory}
use Rattle.call_history.specs.Calls.{seat_ask, calls_by, asks_of, AllAllowed}
use Rattle.machine_model.specs.SeenHall.{MayHave}
use Rattle.hall_core.specs.declared.operation.HallReply.{HallReply}
use Rattle.hall_core.specs.Asked.{answer_of}
use Rattle.hub_model.specs.HubState.{HubState}
use Rattle.hub_model.specs.HubRule.{HubOperation, submit_from, take_one, apply_one, put_one, collect_for, close_all, HubCall, HubAsk, HubGives}
use Rattle.hub_model.specs.HubMay.{HubCan, HubMay}
use Rattle.hub_model.proofs.Counting.{hub_suffices}
use Rattle.hub_core.specs.declared.operation.HubOp.{HubOp}
use Rattle.hub_core.specs.Hub.{ServedHub, hub_filled, hub_operation_of, AsksPlain, HubStepGives, HubStepCan}

-- a call of a booth round a hub
abbrev pub HubStepCall : Type 0
HubStepCall = SeatCall HubOp HallReply ServedHub

-- what was asked and answered there
abbrev pub hub_ask : HubStepCall → HubAsk PlainCall PlainAnswer
hub_ask e = seat_ask e.seat (hub_operation_of e.op) (answer_of e.reply)

-- a step of the hub keeps the number of its loops
abbrev pub ObjectGives : ServedHub → HubOp → HallReply → ServedHub → Type 0
ObjectGives old op reply new = (length new.lists ≡ length old.lists) × HubStepGives (length old.lists) old op reply new

abbrev pub ObjectCan : ServedHub → HubOp → Type 0
ObjectCan hub op = HubStepCan (length hub.lists) hub op

-- the condition of a seat's call
abbrev pub ObjectMay : ServedHub → ℕ → List HubStepCall → HubOp → Type 0
ObjectMay first seat own op =
    MayHave first.hall.told [] × (0 < length first.lists) × HubMay (length first.lists) handler_rules (hub_filled first []) seat (map hub_ask own) (hub_operation_of op) × AsksPlain op

module _ (n : ℕ) where
  -- a history of the model's hub, with the same asks and the same end
  pub record Filled (hub : ServedHub) (entries : List CallEntry) (log : List HubStepCall) : Type 0 where
    pub full : List (HubCall PlainCall PlainAnswer ServiceState)
    pub last : List CallEntry
    pub history : IsHistory (HubGives n handler_rules) (hub_filled hub entries) full
    pub asks : asks_of full ≡ map hub_ask log
    pub ends : meaning_after (hub_filled hub entries) full ≡ hub_filled (meaning_after hub log) last
    pub told : MayHave (meaning_after hub log).hall.told last
    pub count : length (meaning_after hub log).lists ≡ n

  pub filled_all : (hub : ServedHub) (entries : List CallEntry) (log : List HubStepCall) → length hub.lists ≡ n → MayHave hub.hall.told entries → IsHistory ObjectGives hub log → Filled hub entries log
  filled_all hub entries [] is may h = record { full = []; last = entries; history = tt; asks = refl; ends = refl; told = may; count = is }
  filled_all hub entries (e ∷ log) is may h =
      let g : HubStepGives n hub e.op e.reply e.after = subst (λ (m : ℕ). HubStepGives m hub e.op e.reply e.after) is h.0.1 in
      let t : (later : List CallEntry) × MayHave e.after.hall.told later × HubGives n handler_rules (hub_filled hub entries) (hub_operation_of e.op) (answer_of e.reply) (hub_filled e.after later) =
      g entries may in
      let rest : Filled e.after t.0 log = filled_all e.after t.0 log (h.0.0 ∙ is) t.1 h.1 in
      record {
        full = seat_call e.seat (hub_operation_of e.op) (answer_of e.reply) (hub_filled e.after t.0) ∷ rest.full;
        last = rest.last;
        history = (t.2, rest.history);
        asks = ap (λ (l : List (HubAsk PlainCall PlainAnswer)). hub_ask e ∷ l) rest.asks;
        ends = rest.ends;
        told = rest.told;
        count = rest.count;
      }

-- the asks of each seat are its calls'
pub hub_asks_by : (seat : ℕ) (log : List HubStepCall) → calls_by seat (map hub_ask log) ≡ map hub_ask (calls_by seat log)
hub_asks_by seat [] = refl
hub_asks_by seat (e ∷ log) = go (eqb e.seat seat) (hub_asks_by seat log)
  where
    go : (b : Bool) → calls_by seat (map hub_ask log) ≡ map hub_ask (calls_by seat log)
        → cond b (hub_ask e ∷ calls_by seat (map hub_ask log)) (calls_by seat (map hub_ask log)) ≡ map hub_ask (cond b (e ∷ calls_by seat log) (calls_by seat log))
    go true same = ap (λ (l : List (HubAsk PlainCall PlainAnswer)). hub_ask e ∷ l) same
    go false same = same

-- where asks are split, so are the calls
record Split (log : List HubStepCall) (front : List (HubAsk PlainCall PlainAnswer)) (ask : HubAsk PlainCall PlainAnswer) : Type 0 where
  before : List HubStepCall
  call : HubStepCall
  behind : List HubStepCall
  whole : log ≡ before ++ call ∷ behind
  front_is : map hub_ask before ≡ front
  ask_is : hub_ask call ≡ ask

split_asks : (log : List HubStepCall) (front back : List (HubAsk PlainCall PlainAnswer)) (ask : HubAsk PlainCall PlainAnswer) → map hub_ask log ≡ front ++ ask ∷ back → Split log front ask
split_asks [] [] back ask is = absurd (nil-cons ask back is)
split_asks [] (x ∷ front) back ask is = absurd (nil-cons x (front ++ ask ∷ back) is)
split_asks (e ∷ log) [] back ask is =
    record { before = []; call = e; behind = log; whole = refl; front_is = refl; ask_is = cc }
split_asks (e ∷ log) (x ∷ front) back ask is =
    let rest : Split log front ask = split_asks log front back ask cc in
    let first : hub_ask e ≡ x = cc in
    record {
      before = e ∷ rest.before;
      call = rest.call;
      behind = rest.behind;
      whole = ap (λ (l : List HubStepCall). e ∷ l) {y = rest.before ++ rest.call ∷ rest.behind} rest.whole;
      front_is = λ i. first i ∷ rest.front_is i;
      ask_is = rest.ask_is;
    }

pub allowed_asks : (first : ServedHub) (log : List HubStepCall) → AllAllowed ObjectMay first log → AllAllowed (HubMay (length first.lists) handler_rules) (hub_filled first []) (map hub_ask log)
allowed_asks first log allowed front back e is =
    let s : Split log front e = split_asks log front back e is in
    let may : HubMay (length first.lists) handler_rules (hub_filled first []) s.call.seat (map hub_ask (calls_by s.call.seat s.before)) (hub_operation_of s.call.op) = (allowed s.before s.behind s.call s.whole).2 in
    let own : HubMay (length first.lists) handler_rules (hub_filled first []) s.call.seat (calls_by s.call.seat (map hub_ask s.before)) (hub_operation_of s.call.op) =
    subst (λ (l : List (HubAsk PlainCall PlainAnswer)). HubMay (length first.lists) handler_rules (hub_filled first []) s.call.seat l (hub_operation_of s.call.op)) (sym (hub_asks_by s.call.seat s.before)) may in
    subst (λ (p : List (HubAsk PlainCall PlainAnswer) × HubAsk PlainCall PlainAnswer). HubMay (length first.lists) handler_rules (hub_filled first []) p.1.seat (calls_by p.1.seat p.0) p.1.op) (λ i. (s.front_is i, s.ask_is i)) own

-- the condition speaks of no journal
no_journal : (n : ℕ) (hub : ServedHub) (es : List CallEntry) (op : HubOperation PlainCall) → HubCan n handler_rules (hub_filled hub es) op → HubCan n handler_rules (hub_filled hub []) op
no_journal n hub es (submit_from l key payload) can = can
no_journal n hub es take_one can = can
no_journal n hub es (apply_one key call) can = can
no_journal n hub es (put_one key settled) can = can
no_journal n hub es (collect_for l) can = can
no_journal n hub es close_all can = can

-- what a seat may ask the hub can do
pub hub_follows : (first : ServedHub) (seat : ℕ) (log : List HubStepCall) (op : HubOp) → IsHistory ObjectGives first log → AllAllowed ObjectMay first log
    → ObjectMay first seat (calls_by seat log) op → ObjectCan (meaning_after first log) op
hub_follows first seat log op history allowed may =
    let f : Filled (length first.lists) first [] log = filled_all (length first.lists) first [] log refl may.0 history in
    let own : HubMay (length first.lists) handler_rules (hub_filled first []) seat (calls_by seat (asks_of f.full)) (hub_operation_of op) =
    subst (λ (l : List (HubAsk PlainCall PlainAnswer)). HubMay (length first.lists) handler_rules (hub_filled first []) seat l (hub_operation_of op)) (sym (ap (calls_by seat) f.asks ∙ hub_asks_by seat log)) may.2 in
    let all : AllAllowed (HubMay (length first.lists) handler_rules) (hub_filled first []) (asks_of f.full) =
    subst (AllAllowed (HubMay (length first.lists) handler_rules) (hub_filled first [])) (sym f.asks) (allowed_asks first log allowed) in
    let can : HubCan (length first.lists) handler_rules (meaning_after (hub_filled first []) f.full) (hub_operation_of op) =
    hub_suffices (length first.lists) empty handler_rules (hub_filled first []) f.full seat (hub_operation_of op) may.1 f.history all own in
    let there : HubCan (length first.lists) handler_rules (hub_filled (meaning_after first log) f.last) (hub_operation_of op) =
    subst (λ (h : HubState PlainCall PlainAnswer ServiceState). HubCan (length first.lists) handler_rules h (hub_operation_of op)) f.ends can in
    (subst (λ (m : ℕ). HubCan m handler_rules (hub_filled (meaning_after first log) []) (hub_operation_of op)) (sym f.count) (no_journal (length first.lists) (meaning_after first log) f.last (hub_operation_of op) there), may.3)
