-- Runs and weaves go on at their end.
use Rattle.std.proofs.Common.{◌≡◌, ℕ, List, [], ◌∷◌, ◌++◌, refl, ap, subst}
use Rattle.machine_model.specs.OwnCalls.{HallAsk}
use Rattle.machine_model.specs.Loop.{Loop}
use Rattle.machine_model.specs.Merge.{LoopItem, handles, calls, calls_in, Weaves}

module _ {C A : Type 0} where
  pub weaves-append : (max : ℕ) (old mid new : Loop) (xs ys : List (LoopItem C A)) → Weaves max old xs mid → Weaves max mid ys new → Weaves max old (xs ++ ys) new
  weaves-append max old mid new [] ys a b = subst (λ loop. Weaves max loop ys new) a b
  weaves-append max old mid new (handles conn_event ∷ xs) ys a b = (a.0, a.1, weaves-append max a.0 mid new xs ys a.2 b)
  weaves-append max old mid new (calls e ∷ xs) ys a b = (a.0, a.1, weaves-append max a.0 mid new xs ys a.2 b)

  pub calls-append : (xs ys : List (LoopItem C A)) → calls_in (xs ++ ys) ≡ calls_in xs ++ calls_in ys
  calls-append [] ys = refl
  calls-append (handles conn_event ∷ xs) ys = calls-append xs ys
  calls-append (calls e ∷ xs) ys = ap (λ (l : List (HallAsk C A)). e ∷ l) (calls-append xs ys)
