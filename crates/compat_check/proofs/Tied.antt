-- Pairs in memory are the same where they are as plain data.
use Rattle.std.proofs.Common.{◌≡◌, Bool, true, false, true≢false, cond, append-nil, List, [], ◌∷◌, ◌++◌, map, refl, sym, ap, ◌∙◌}
use Rattle.std.specs.Prelude.{not, ◌||◌}
use Rattle.std.specs.List.{list_any}
use Rattle.std.proofs.lemmas.Bool.{false≢true}
use Rattle.std.proofs.lemmas.List.{map-append}
use Rattle.compat_check.specs.contracts.pair.PairPartialEq.TheImpl.{eq-value}
use Rattle.compat_check.specs.declared.pair.Pair.{Pair}
use Rattle.compat_check.specs.Fresh.{is_same_pair, was_pair_seen, seen_with, fresh_pairs}
use Rattle.compat_check.specs.Plain.{plain_pair}

tied : (keys : List Pair) (x : Pair) → list_any (eq-value.it x) keys ≡ was_pair_seen (map plain_pair keys) (plain_pair x)
tied [] x = refl
tied (k ∷ ks) x = ap (λ b. is_same_pair (plain_pair x) (plain_pair k) || b) (tied ks x)

-- a key that was inserted
pub inserted : (old new : List Pair) (x : Pair) → new ≡ cond (list_any (eq-value.it x) old) old (old ++ x ∷ []) → map plain_pair new ≡ seen_with (map plain_pair old) (plain_pair x)
inserted old new x is = ap (map plain_pair) is ∙ by_test (list_any (eq-value.it x) old) ∙ ap (λ b. cond b (map plain_pair old) (map plain_pair old ++ plain_pair x ∷ [])) (tied old x)
  where
    by_test : (b : Bool) → map plain_pair (cond b old (old ++ x ∷ [])) ≡ cond b (map plain_pair old) (map plain_pair old ++ plain_pair x ∷ [])
    by_test true = refl
    by_test false = map-append plain_pair old (x ∷ [])

-- it is taken where it wasn't seen, and else passed over
pub taken : (keys items new : List Pair) (x : Pair) (added : Bool) → added ≡ not (list_any (eq-value.it x) keys) → added ≡ true → new ≡ items ++ x ∷ []
    → map plain_pair new ≡ map plain_pair items ++ fresh_pairs (map plain_pair keys) (plain_pair x ∷ [])
taken keys items new x added is on pushed =
    ap (map plain_pair) pushed ∙ map-append plain_pair items (x ∷ [])
    ∙ ap (λ b. map plain_pair items ++ cond b [] (plain_pair x ∷ [])) (sym (unseen (list_any (eq-value.it x) keys) (sym is ∙ on)) ∙ tied keys x)
  where
    unseen : (b : Bool) → not b ≡ true → b ≡ false
    unseen true e = absurd (false≢true e)
    unseen false e = refl

pub passed : (keys items : List Pair) (x : Pair) (added : Bool) → added ≡ not (list_any (eq-value.it x) keys) → added ≡ false
    → map plain_pair items ≡ map plain_pair items ++ fresh_pairs (map plain_pair keys) (plain_pair x ∷ [])
passed keys items x added is off =
    sym (append-nil (map plain_pair items)) ∙ ap (λ b. map plain_pair items ++ cond b [] (plain_pair x ∷ [])) (sym (seen (list_any (eq-value.it x) keys) (sym is ∙ off)) ∙ tied keys x)
  where
    seen : (b : Bool) → not b ≡ false → b ≡ true
    seen true e = refl
    seen false e = absurd (true≢false e)
