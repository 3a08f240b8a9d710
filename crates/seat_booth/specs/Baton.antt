-- A baton, which one seat at most holds: it is taken where it is there, and put back by the seat that took it.
use Rattle.std.specs.Prelude.{◌≡◌, ◌≢◌, ℕ, Bool, true, false, List, [], ◌∷◌, ◌++◌, not, refl}
use Rattle.std.proofs.Common.{sym, ap, ◌∙◌}
use Rattle.std.proofs.lemmas.Bool.{true≢false, false≢true}
use mathlib.Core.Logic.{dite}
use native.Mathlib.Decide.{ℕ_discrete}
use Rattle.call_history.specs.declared.seat_call.SeatCall.{SeatCall}
use Rattle.seat_booth.specs.declared.baton.BatonOp.{BatonOp}
use Rattle.seat_booth.specs.declared.baton.BatonOp.TheVariants.{Take, Put}
use Rattle.call_history.specs.History.{seat_call, meaning_after, IsHistory}
use Rattle.call_history.specs.Calls.{calls_by, AllAllowed}
use Rattle.call_history.specs.Induction.{every_history}
use Rattle.call_history.specs.Laws.{meaning_after-push, calls_by-own, calls_by-other}

-- a call of a seat: what it asked, whether it got the baton, and whether the baton is out after it
abbrev pub BatonCall : Type 0
BatonCall = SeatCall BatonOp Bool Bool

-- Take answers whether the baton was there, and it is out after it; Put brings it back
abbrev pub BatonGives : Bool → BatonOp → Bool → Bool → Type 0
BatonGives out Take reply after = (reply ≡ not out) × (after ≡ true)
BatonGives out Put reply after = (reply ≡ false) × (after ≡ false)

-- the baton is put back where it is out
abbrev pub BatonCan : Bool → BatonOp → Type 0
BatonCan out Take = Unit {0}
BatonCan out Put = out ≡ true

-- whether a seat holds the baton after one more of its own calls
abbrev pub holds_after : Bool → BatonOp → Bool → Bool
holds_after held Take true = true
holds_after held Take false = held
holds_after held Put reply = false

-- whether a seat holds the baton after its own calls
abbrev pub holds_baton_from : Bool → List BatonCall → Bool
holds_baton_from held [] = held
holds_baton_from held (e ∷ es) = holds_baton_from (holds_after held e.op e.reply) es

-- a seat with these calls holds the baton
abbrev pub holds_baton : List BatonCall → Bool
holds_baton own = holds_baton_from false own

-- a seat puts back only what it took itself
abbrev pub BatonMay : Bool → ℕ → List BatonCall → BatonOp → Type 0
BatonMay first seat own Take = Unit {0}
BatonMay first seat own Put = holds_baton own ≡ true

holds_from-push : (held : Bool) (own : List BatonCall) (e : BatonCall) → holds_baton_from held (own ++ e ∷ []) ≡ holds_after (holds_baton_from held own) e.op e.reply
holds_from-push held [] e = refl
holds_from-push held (x ∷ xs) e = holds_from-push (holds_after held x.op x.reply) xs e

not_out : (b : Bool) → true ≡ not b → b ≡ true → ⊥
not_out true e h = true≢false e
not_out false e h = false≢true h

module _ (first : Bool) where
  -- where a seat holds the baton, it is out, and no other seat holds it
  abbrev IsHeldOnce : List BatonCall → Type 0
  IsHeldOnce log = (seat : ℕ) → holds_baton (calls_by seat log) ≡ true → (meaning_after first log ≡ true) × ((other : ℕ) → holds_baton (calls_by other log) ≡ true → other ≡ seat)

  holds_own : (log : List BatonCall) (e : BatonCall) (seat : ℕ) → e.seat ≡ seat → holds_baton (calls_by seat (log ++ e ∷ [])) ≡ holds_after (holds_baton (calls_by seat log)) e.op e.reply
  holds_own log e seat is = ap holds_baton (calls_by-own seat log e is) ∙ holds_from-push false (calls_by seat log) e

  holds_other : (log : List BatonCall) (e : BatonCall) (seat : ℕ) → e.seat ≢ seat → holds_baton (calls_by seat (log ++ e ∷ [])) ≡ holds_baton (calls_by seat log)
  holds_other log e seat not = ap holds_baton (calls_by-other seat log e not)

  once_more : (log : List BatonCall) (by : ℕ) (op : BatonOp) (reply after : Bool) → IsHeldOnce log → BatonGives (meaning_after first log) op reply after → BatonMay first by (calls_by by log) op → IsHeldOnce (log ++ seat_call by op reply after ∷ [])
  once_more log by Take true after once given may =
      let e : BatonCall = seat_call by Take true after in
      let nobody : (seat : ℕ) → holds_baton (calls_by seat log) ≡ true → ⊥ = λ seat h. not_out (meaning_after first log) given.0 (once seat h).0 in
      let only_by : (seat : ℕ) → holds_baton (calls_by seat (log ++ e ∷ [])) ≡ true → seat ≡ by = λ seat h. dite (ℕ_discrete by seat) (λ is. sym is) (λ not. absurd (nobody seat (sym (holds_other log e seat not) ∙ h))) in
      λ seat h. (meaning_after-push first log e ∙ given.1, λ other h'. only_by other h' ∙ sym (only_by seat h))
  once_more log by Take false after once given may =
      let e : BatonCall = seat_call by Take false after in
      let as_before : (seat : ℕ) → holds_baton (calls_by seat (log ++ e ∷ [])) ≡ holds_baton (calls_by seat log) = λ seat. dite (ℕ_discrete by seat) (λ is. holds_own log e seat is) (λ not. holds_other log e seat not) in
      λ seat h. (meaning_after-push first log e ∙ given.1, λ other h'. (once seat (sym (as_before seat) ∙ h)).1 other (sym (as_before other) ∙ h'))
  once_more log by Put reply after once given may =
      let e : BatonCall = seat_call by Put reply after in
      λ seat h. dite (ℕ_discrete by seat) (λ is. absurd (false≢true (sym (holds_own log e seat is) ∙ h)))
      (λ not. absurd (not (sym ((once by may).1 seat (sym (holds_other log e seat not) ∙ h)))))

  once_always : (log : List BatonCall) → IsHistory BatonGives first log → AllAllowed BatonMay first log → IsHeldOnce log
  once_always = every_history BatonGives BatonMay first IsHeldOnce (λ seat h. absurd (false≢true h)) (λ log e once given may. once_more log e.seat e.op e.reply e.after once given may)

-- the baton is out whenever a seat that holds it puts it back
pub follows_for_baton : (first : Bool) (seat : ℕ) (log : List BatonCall) (op : BatonOp) → IsHistory BatonGives first log → AllAllowed BatonMay first log → BatonMay first seat (calls_by seat log) op → BatonCan (meaning_after first log) op
follows_for_baton first seat log Take history allowed may = tt
follows_for_baton first seat log Put history allowed may = (once_always first log history allowed seat may).0
