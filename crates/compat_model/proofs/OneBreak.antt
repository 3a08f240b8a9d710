-- A change has one first break, and then it isn't compatible.
use Rattle.std.proofs.Common.{◌≡◌, inl, inr, ℕ, ◌<◌, Some, None, Ordering, Less, Equal, Greater, nat_cmp, refl, sym, ap, ◌∙◌}
use Rattle.std.specs.Prelude.{◌⊎◌}
use Rattle.std.specs.Ordering.{MatchOrdering}
use Rattle.std.proofs.lemmas.Cmp.{ranked}
use Rattle.compat_model.specs.Breaks.{PlainBreak, break_in_round, IsCompatible, IsFirstBreak}
use Rattle.compat_model.specs.StructPairs.{SchemaChange}

some_is_none : (ch : SchemaChange) (n : ℕ) (b : PlainBreak) → break_in_round ch n ≡ Some b → break_in_round ch n ≡ None → ⊥
some_is_none ch n b here none = let never : Some b ≡ None = sym here ∙ none in absurd cc

pub no_compatibility : (ch : SchemaChange) (b : PlainBreak) → IsFirstBreak ch b → IsCompatible ch → ⊥
no_compatibility ch b first compatible = some_is_none ch first.round b first.here (compatible first.round)

-- one number is below another, or they are the same
ordered : (m n : ℕ) → (m < n) ⊎ ((n < m) ⊎ (m ≡ n))
ordered m n = by_order (nat_cmp m n) (ranked m n (nat_cmp m n) refl)
  where
    by_order : (o : Ordering) → MatchOrdering o (m < n) (m ≡ n) (n < m) → (m < n) ⊎ ((n < m) ⊎ (m ≡ n))
    by_order Less low = inl low
    by_order Equal same = inr (inr same)
    by_order Greater high = inr (inl high)

pub one_break : (ch : SchemaChange) (b other : PlainBreak) → IsFirstBreak ch b → IsFirstBreak ch other → b ≡ other
one_break ch b other first second = by_order (ordered first.round second.round)
  where
    by_order : (first.round < second.round) ⊎ ((second.round < first.round) ⊎ (first.round ≡ second.round)) → b ≡ other
    by_order (inl low) = absurd (some_is_none ch first.round b first.here (second.before first.round low))
    by_order (inr (inl high)) = absurd (some_is_none ch second.round other second.here (first.before second.round high))
    by_order (inr (inr same)) =
        let equal : Some b ≡ Some other = sym first.here ∙ ap (break_in_round ch) same ∙ second.here in cc
