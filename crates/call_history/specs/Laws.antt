-- Laws of histories: one more call at the end, and the beginnings of a history.
use Rattle.std.proofs.Common.{◌≡◌, ℕ, ◌≢◌, ◌⊎◌, inl, inr, ⊎_elim, Bool, true, false, cond, eqb, List, [], ◌∷◌, ◌++◌, sym, refl, ap, ◌∙◌, subst, eq-eqb, ne_eqb}
use Rattle.std.proofs.lemmas.List.Elements.{filter-append}
use mathlib.Core.List.{IsPrefix, append_assoc, append-nil}
use Rattle.call_history.specs.declared.seat_call.SeatCall.{SeatCall}
use Rattle.call_history.specs.History.{meaning_after, IsHistory}
use Rattle.call_history.specs.Calls.{SeatAsk, calls_by, ask_of, asks_of, AllAllowed}

module _ {Q A M : Type 0} where
  -- after one more call the object means what the call left
  pub meaning_after-push : (first : M) (log : List (SeatCall Q A M)) (e : SeatCall Q A M) → meaning_after first (log ++ e ∷ []) ≡ e.after
  meaning_after-push first [] e = refl
  meaning_after-push first (x ∷ xs) e = meaning_after-push x.after xs e

  -- one more call of a seat is the last of that seat's calls
  pub calls_by-own : (seat : ℕ) (log : List (SeatCall Q A M)) (e : SeatCall Q A M) → e.seat ≡ seat → calls_by seat (log ++ e ∷ []) ≡ calls_by seat log ++ e ∷ []
  calls_by-own seat log e is = filter-append (λ (x : SeatCall Q A M). eqb x.seat seat) log (e ∷ []) ∙ ap (λ (b : Bool). calls_by seat log ++ cond b (e ∷ []) []) (eq-eqb e.seat seat is)

  -- one more call of another seat leaves a seat's calls as they are
  pub calls_by-other : (seat : ℕ) (log : List (SeatCall Q A M)) (e : SeatCall Q A M) → e.seat ≢ seat → calls_by seat (log ++ e ∷ []) ≡ calls_by seat log
  calls_by-other seat log e not = filter-append (λ (x : SeatCall Q A M). eqb x.seat seat) log (e ∷ []) ∙ (ap (λ (b : Bool). calls_by seat log ++ cond b (e ∷ []) []) (ne_eqb e.seat seat not) ∙ append-nil (calls_by seat log))

  -- a call of a history with one more at the end is that one, or one of the others
  pub last_or_earlier : (log front back : List (SeatCall Q A M)) (e x : SeatCall Q A M) → log ++ e ∷ [] ≡ front ++ x ∷ back → ((log ≡ front) × (e ≡ x)) ⊎ ((more : List (SeatCall Q A M)) × (log ≡ front ++ x ∷ more))
  last_or_earlier [] [] back e x is = inl (refl, cc)
  last_or_earlier [] (y ∷ []) back e x is = absurd (let none : [] ≡ x ∷ back = cc in cc)
  last_or_earlier [] (y ∷ z ∷ ys) back e x is = absurd (let none : [] ≡ z ∷ (ys ++ x ∷ back) = cc in cc)
  last_or_earlier (y ∷ ys) [] back e x is = inr (ys, ap (λ (z : SeatCall Q A M). z ∷ ys) cc)
  last_or_earlier (y ∷ ys) (z ∷ zs) back e x is = let same : y ≡ z = cc in
      ⊎_elim (λ t. inl ((λ i. same i ∷ t.0 i), t.1)) (λ t. inr (t.0, λ i. same i ∷ t.1 i)) (last_or_earlier ys zs back e x cc)

  -- the first call of a history is its seat's first, and no other's
  pub calls_by-first : (seat : ℕ) (e : SeatCall Q A M) (log : List (SeatCall Q A M)) → e.seat ≡ seat → calls_by seat (e ∷ log) ≡ e ∷ calls_by seat log
  calls_by-first seat e log is = ap (λ b. cond b (e ∷ calls_by seat log) (calls_by seat log)) (eq-eqb e.seat seat is)

  pub calls_by-first-other : (seat : ℕ) (e : SeatCall Q A M) (log : List (SeatCall Q A M)) → e.seat ≢ seat → calls_by seat (e ∷ log) ≡ calls_by seat log
  calls_by-first-other seat e log not = ap (λ b. cond b (e ∷ calls_by seat log) (calls_by seat log)) (ne_eqb e.seat seat not)

  -- asks of one seat are its calls' asks
  pub calls_by-asks : (seat : ℕ) (log : List (SeatCall Q A M)) → calls_by seat (asks_of log) ≡ asks_of (calls_by seat log)
  calls_by-asks seat [] = refl
  calls_by-asks seat (x ∷ xs) = go (eqb x.seat seat) (calls_by-asks seat xs)
    where
      go : (b : Bool) → calls_by seat (asks_of xs) ≡ asks_of (calls_by seat xs)
          → cond b (ask_of x ∷ calls_by seat (asks_of xs)) (calls_by seat (asks_of xs)) ≡ asks_of (cond b (x ∷ calls_by seat xs) (calls_by seat xs))
      go true same = ap (λ (l : List (SeatAsk Q A)). ask_of x ∷ l) same
      go false same = same

  -- what stands one behind the other does so as asks
  pub asks-append : (front back : List (SeatCall Q A M)) → asks_of (front ++ back) ≡ asks_of front ++ asks_of back
  asks-append [] back = refl
  asks-append (x ∷ xs) back = ap (λ (l : List (SeatAsk Q A)). ask_of x ∷ l) (asks-append xs back)

  module _ (gives : M → Q → A → M → Type 0) where
    -- a history goes on with what the object gives
    pub IsHistory-push : (first : M) (log : List (SeatCall Q A M)) (e : SeatCall Q A M) → IsHistory gives first log → gives (meaning_after first log) e.op e.reply e.after → IsHistory gives first (log ++ e ∷ [])
    IsHistory-push first [] e h g = (g, tt)
    IsHistory-push first (x ∷ xs) e h g = (h.0, IsHistory-push x.after xs e h.1 g)

    -- each call of a history is what the object gives at the meaning before it
    pub IsHistory-at : (first : M) (front back : List (SeatCall Q A M)) (e : SeatCall Q A M) → IsHistory gives first (front ++ e ∷ back) → gives (meaning_after first front) e.op e.reply e.after
    IsHistory-at first [] back e h = h.0
    IsHistory-at first (x ∷ xs) back e h = IsHistory-at x.after xs back e h.1

    -- the front of a history is one
    pub IsHistory-front : (first : M) (front back : List (SeatCall Q A M)) → IsHistory gives first (front ++ back) → IsHistory gives first front
    IsHistory-front first [] back h = tt
    IsHistory-front first (x ∷ xs) back h = (h.0, IsHistory-front x.after xs back h.1)

  module _ {N : Type 0} (may : N → ℕ → List (SeatCall Q A M) → Q → Type 0) where
    -- one more allowed call leaves all allowed
    pub AllAllowed-push : (first : N) (log : List (SeatCall Q A M)) (e : SeatCall Q A M) → AllAllowed may first log → may first e.seat (calls_by e.seat log) e.op → AllAllowed may first (log ++ e ∷ [])
    AllAllowed-push first log e h m front back x is =
        ⊎_elim (λ (t : (log ≡ front) × (e ≡ x)). subst (λ (z : List (SeatCall Q A M) × SeatCall Q A M). may first z.1.seat (calls_by z.1.seat z.0) z.1.op) (λ i. (t.0 i, t.1 i)) m) (λ (t : (more : List (SeatCall Q A M)) × (log ≡ front ++ x ∷ more)). h front t.0 x t.1) (last_or_earlier log front back e x is)

    -- in the front of a history whose calls are allowed they are allowed
    pub AllAllowed-front : (first : N) (front back : List (SeatCall Q A M)) → AllAllowed may first (front ++ back) → AllAllowed may first front
    AllAllowed-front first front back h xs ys e is = h xs (ys ++ back) e (ap (λ l. l ++ back) is ∙ append_assoc xs (e ∷ ys) back)

  -- a beginning stays one after one more call
  pub IsPrefix-push : (seen log : List (SeatCall Q A M)) (e : SeatCall Q A M) → IsPrefix seen log → IsPrefix seen (log ++ e ∷ [])
  IsPrefix-push seen log e p = (p.0 ++ e ∷ [], sym (append_assoc seen p.0 (e ∷ [])) ∙ ap (λ l. l ++ e ∷ []) p.1)

  -- all of a history is a beginning of it
  pub IsPrefix-same : (log : List (SeatCall Q A M)) → IsPrefix log log
  IsPrefix-same log = ([], append-nil log)
