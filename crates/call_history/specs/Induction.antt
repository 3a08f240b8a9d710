-- How an object shows its law: by a fact that holds at the opening, and that each allowed call keeps.
use Rattle.std.specs.Prelude.{◌≡◌, ℕ, List, [], ◌∷◌, ◌++◌, refl}
use Rattle.std.proofs.Common.{sym, subst}
use mathlib.Core.List.{append_assoc, append-nil}
use Rattle.call_history.specs.declared.seat_call.SeatCall.{SeatCall}
use Rattle.call_history.specs.History.{meaning_after, IsHistory}
use Rattle.call_history.specs.Calls.{calls_by, AllAllowed}
use Rattle.call_history.specs.Laws.{IsHistory-at}

module _ {Q A M : Type 0} (gives : M → Q → A → M → Type 0) (may : M → ℕ → List (SeatCall Q A M) → Q → Type 0) (first : M) where
  -- an allowed call of the object keeps the fact
  abbrev pub CallKeeps : (List (SeatCall Q A M) → Type 0) → Type 0
  CallKeeps P = (log : List (SeatCall Q A M)) (e : SeatCall Q A M) → P log → gives (meaning_after first log) e.op e.reply e.after → may first e.seat (calls_by e.seat log) e.op → P (log ++ e ∷ [])

  longer : (P : List (SeatCall Q A M) → Type 0) → CallKeeps P → (front back : List (SeatCall Q A M)) → IsHistory gives first (front ++ back) → AllAllowed may first (front ++ back) → P front → P (front ++ back)
  longer P keeps front [] history allowed p = subst P (sym (append-nil front)) p
  longer P keeps front (e ∷ es) history allowed p =
      let same : (front ++ e ∷ []) ++ es ≡ front ++ e ∷ es = append_assoc front (e ∷ []) es in
      subst P same (longer P keeps (front ++ e ∷ []) es (subst (IsHistory gives first) (sym same) history) (subst (AllAllowed may first) (sym same) allowed)
      (keeps front e p (IsHistory-at gives first front es e history) (allowed front es e refl)))

  -- what holds of the empty history, and is kept by each allowed call, holds of every history whose calls were allowed
  pub every_history : (P : List (SeatCall Q A M) → Type 0) → P [] → CallKeeps P → (log : List (SeatCall Q A M)) → IsHistory gives first log → AllAllowed may first log → P log
  every_history P none keeps log history allowed = longer P keeps [] log history allowed none
