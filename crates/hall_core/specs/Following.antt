-- A booth's calls of a hall are a history of the machine's hall, so what a seat may ask next the hall can do.
use Rattle.std.proofs.Common.{◌≡◌, ℕ, Bool, true, false, cond, List, [], ◌∷◌, ◌++◌, map, refl, sym, ap, ◌∙◌, subst, eqb}
use Rattle.host_model.proofs.Lists.{nil-cons}
use Rattle.call_rules.specs.PlainCalls.{PlainCall, PlainAnswer}
use Rattle.call_rules.specs.Handling.{ServiceState, handler_rules}
use Rattle.call_history.specs.History.{seat_call, meaning_after, IsHistory}
use Rattle.call_history.specs.Calls.{calls_by, asks_of, AllAllowed}
use Rattle.machine_model.specs.OwnCalls.{HallAsk}
use Rattle.machine_model.specs.SeenHall.{SeenCall, SeenGives, SeenCan, SeenMay}
use Rattle.machine_model.proofs.Filling.{seen_suffices}
use Rattle.hall_core.specs.declared.operation.HallOp.{HallOp}
use Rattle.hall_core.specs.Meant.{ServedHall}
use Rattle.hall_core.specs.Asked.{operation_of, answer_of, StepGives, StepCan, StepCall, ask_seen, StepMay}

-- a call of the machine's hall
abbrev pub call_seen : StepCall → SeenCall PlainCall PlainAnswer ServiceState
call_seen e = seat_call e.seat (operation_of e.op) (answer_of e.reply) e.after

-- both leave the same hall
pub same_end : (first : ServedHall) (log : List StepCall) → meaning_after first (map call_seen log) ≡ meaning_after first log
same_end first [] = refl
same_end first (e ∷ log) = same_end e.after log

-- and the history is one of the machine's hall
pub seen_history : (first : ServedHall) (log : List StepCall) → IsHistory StepGives first log → IsHistory (SeenGives handler_rules) first (map call_seen log)
seen_history first [] h = tt
seen_history first (e ∷ log) h = (h.0, seen_history e.after log h.1)

-- with the same asks
pub same_asks : (log : List StepCall) → asks_of (map call_seen log) ≡ map ask_seen log
same_asks [] = refl
same_asks (e ∷ log) = ap (λ (l : List (HallAsk PlainCall PlainAnswer)). ask_seen e ∷ l) (same_asks log)

-- the asks of each seat are the same too
pub asks_by : (seat : ℕ) (log : List StepCall) → calls_by seat (map ask_seen log) ≡ map ask_seen (calls_by seat log)
asks_by seat [] = refl
asks_by seat (e ∷ log) = go (eqb e.seat seat) (asks_by seat log)
  where
    go : (b : Bool) → calls_by seat (map ask_seen log) ≡ map ask_seen (calls_by seat log)
        → cond b (ask_seen e ∷ calls_by seat (map ask_seen log)) (calls_by seat (map ask_seen log)) ≡ map ask_seen (cond b (e ∷ calls_by seat log) (calls_by seat log))
    go true same = ap (λ (l : List (HallAsk PlainCall PlainAnswer)). ask_seen e ∷ l) same
    go false same = same

-- where asks are split, so are the calls
record Split (log : List StepCall) (front : List (HallAsk PlainCall PlainAnswer)) (ask : HallAsk PlainCall PlainAnswer) : Type 0 where
  before : List StepCall
  call : StepCall
  behind : List StepCall
  whole : log ≡ before ++ call ∷ behind
  front_is : map ask_seen before ≡ front
  ask_is : ask_seen call ≡ ask

split_asks : (log : List StepCall) (front back : List (HallAsk PlainCall PlainAnswer)) (ask : HallAsk PlainCall PlainAnswer) → map ask_seen log ≡ front ++ ask ∷ back → Split log front ask
split_asks [] [] back ask is = absurd (nil-cons ask back is)
split_asks [] (x ∷ front) back ask is = absurd (nil-cons x (front ++ ask ∷ back) is)
split_asks (e ∷ log) [] back ask is =
    record { before = []; call = e; behind = log; whole = refl; front_is = refl; ask_is = cc }
split_asks (e ∷ log) (x ∷ front) back ask is =
    let rest : Split log front ask = split_asks log front back ask cc in
    let first : ask_seen e ≡ x = cc in
    record {
      before = e ∷ rest.before;
      call = rest.call;
      behind = rest.behind;
      whole = ap (λ (l : List StepCall). e ∷ l) {y = rest.before ++ rest.call ∷ rest.behind} rest.whole;
      front_is = λ i. first i ∷ rest.front_is i;
      ask_is = rest.ask_is;
    }

-- each call of the machine's hall was allowed
pub seen_allowed : (first : ServedHall) (log : List StepCall) → AllAllowed StepMay first log → AllAllowed (SeenMay handler_rules) first (asks_of (map call_seen log))
seen_allowed first log allowed front back e is =
    let s : Split log front e = split_asks log front back e (sym (same_asks log) ∙ is) in
    let may : SeenMay handler_rules first s.call.seat (map ask_seen (calls_by s.call.seat s.before)) (operation_of s.call.op) = (allowed s.before s.behind s.call s.whole).0 in
    let own : SeenMay handler_rules first s.call.seat (calls_by s.call.seat (map ask_seen s.before)) (operation_of s.call.op) =
    subst (λ (l : List (HallAsk PlainCall PlainAnswer)). SeenMay handler_rules first s.call.seat l (operation_of s.call.op)) (sym (asks_by s.call.seat s.before)) may in
    subst (λ (p : List (HallAsk PlainCall PlainAnswer) × HallAsk PlainCall PlainAnswer). SeenMay handler_rules first p.1.seat (calls_by p.1.seat p.0) p.1.op) (λ i. (s.front_is i, s.ask_is i)) own

-- what a seat may ask the hall can do
pub steps_follow : (first : ServedHall) (seat : ℕ) (log : List StepCall) (op : HallOp) → IsHistory StepGives first log → AllAllowed StepMay first log
    → StepMay first seat (calls_by seat log) op → StepCan (meaning_after first log) op
steps_follow first seat log op history allowed may =
    let mine : calls_by seat (asks_of (map call_seen log)) ≡ map ask_seen (calls_by seat log) = ap (calls_by seat) (same_asks log) ∙ asks_by seat log in
    let can : SeenCan handler_rules (meaning_after first (map call_seen log)) (operation_of op) =
    seen_suffices handler_rules first seat (map call_seen log) (operation_of op) (seen_history first log history) (seen_allowed first log allowed)
    (subst (λ (l : List (HallAsk PlainCall PlainAnswer)). SeenMay handler_rules first seat l (operation_of op)) (sym mine) may.0) in
    (subst (λ (h : ServedHall). SeenCan handler_rules h (operation_of op)) (same_end first log) can, may.1)
