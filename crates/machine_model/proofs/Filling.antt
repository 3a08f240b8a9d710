-- A history of a hall as it is seen is one of a hall whose journal is known, with the same asks.
use Rattle.std.proofs.Common.{◌≡◌, ℕ, List, [], ◌∷◌, refl, sym, ap, subst}
use Rattle.host_model.specs.Journal.{JournalEntry, ServiceRules}
use Rattle.call_history.specs.History.{seat_call, meaning_after, IsHistory}
use Rattle.call_history.specs.Calls.{calls_by, ask_of, asks_of, AllAllowed}
use Rattle.machine_model.specs.HallRule.{HallOperation, submit, take_job, apply, put, collect, close, HallGives}
use Rattle.machine_model.specs.OwnCalls.{HallCall, HallAsk, HallCan, HallMay}
use Rattle.machine_model.specs.SeenHall.{SeenHall, MayHave, filled, SeenCall, SeenGives, SeenCan, SeenMay}
use Rattle.machine_model.proofs.Owning.{suffices}

module _ {C A M : Type 0} (r : ServiceRules C A M) where
  -- the history with a journal that is known
  abbrev pub IsFilled : SeenHall C A M → List (JournalEntry C A) → List (SeenCall C A M) → Type 0
  IsFilled opening entries log =
      (full : List (HallCall C A M)) × (last : List (JournalEntry C A)) × IsHistory (HallGives r) (filled opening entries) full × (asks_of full ≡ asks_of log)
      × MayHave (meaning_after opening log).told last × (meaning_after (filled opening entries) full ≡ filled (meaning_after opening log) last)

  pub fill : (opening : SeenHall C A M) (entries : List (JournalEntry C A)) (log : List (SeenCall C A M)) → MayHave opening.told entries → IsHistory (SeenGives r) opening log → IsFilled opening entries log
  fill opening entries [] may history = ([], entries, tt, refl, may, refl)
  fill opening entries (e ∷ log) may history =
      let step : (later : List (JournalEntry C A)) × MayHave e.after.told later × HallGives r (filled opening entries) e.op e.reply (filled e.after later) = history.0 entries may in
      let rest : IsFilled e.after step.0 log = fill e.after step.0 log step.1 history.1 in
      (seat_call e.seat e.op e.reply (filled e.after step.0) ∷ rest.0, rest.1, (step.2, rest.2), ap (λ (l : List (HallAsk C A)). ask_of e ∷ l) rest.3, rest.4, rest.5)

  -- a condition speaks of no journal
  same_can : (hall : SeenHall C A M) (entries : List (JournalEntry C A)) (op : HallOperation C) → HallCan r (filled hall entries) op → SeenCan r hall op
  same_can hall entries (submit key payload) can = can
  same_can hall entries take_job can = can
  same_can hall entries (apply key call) can = can
  same_can hall entries (put key settled) can = can
  same_can hall entries collect can = can
  same_can hall entries close can = can

  pub all_allowed : (opening : SeenHall C A M) (asks : List (HallAsk C A)) → AllAllowed (SeenMay r) opening asks → AllAllowed (HallMay r) (filled opening []) asks
  all_allowed opening asks allowed front back e is = (allowed front back e is).1

  pub seen_suffices : (opening : SeenHall C A M) (seat : ℕ) (log : List (SeenCall C A M)) (op : HallOperation C) → IsHistory (SeenGives r) opening log → AllAllowed (SeenMay r) opening (asks_of log)
      → SeenMay r opening seat (calls_by seat (asks_of log)) op → SeenCan r (meaning_after opening log) op
  seen_suffices opening seat log op history allowed may =
      let full : IsFilled opening [] log = fill opening [] log may.0 history in
      same_can (meaning_after opening log) full.1 op
      (subst (λ hall. HallCan r hall op) full.5
      (suffices r (filled opening []) seat full.0 op full.2 (subst (AllAllowed (HallMay r) (filled opening [])) (sym full.3) (all_allowed opening (asks_of log) allowed))
      (subst (λ asks. HallMay r (filled opening []) seat (calls_by seat asks) op) (sym full.3) may.1)))
