-- Which rule a write goes by.
use Rattle.std.proofs.Common.{◌≡◌, ℕ, ◌<◌, Option, None, Some, List, [], ◌∷◌, Result, Ok, Err, OnOk, length, drop, slice_get, get_or, option_map, refl, sym, ap, ◌∙◌, subst}
use Rattle.std.specs.List.{AllByRecursion}
use Rattle.std.proofs.lemmas.Option.{none-some, same_Some, slice_get_read}
use Rattle.script_model.specs.ScriptLines.{PlanRule, takes_most}
use Rattle.script_text.specs.Plans.{plain_rule}
use Rattle.script_text.specs.declared.lines.WriteRule.{WriteRule}
use Rattle.cell_loop.specs.declared.feed.Feed.{Feed}
use Rattle.cell_loop.specs.Feeds.{rules_left, rules_in, BoundsSome}

first_none : {X : Type 0} (xs : List X) → slice_get xs 0 ≡ None → xs ≡ []
first_none [] e = refl
first_none (x ∷ xs) e = absurd (none-some x (sym e))

first_some : {X : Type 0} (xs : List X) (x : X) → slice_get xs 0 ≡ Some x → xs ≡ x ∷ drop 1 xs
first_some [] x e = absurd (none-some x e)
first_some (y ∷ xs) x e = ap (λ k. k ∷ xs) (same_Some y x e)

-- the rules of the feed at a place
pub rules_at : (feeds : List Feed) (c : ℕ) (feed : Feed) → c < length feeds → feed ≡ get_or feeds c feed → rules_in feeds c ≡ rules_left feed
rules_at feeds c feed below is = ap (λ (o : Option Feed). elim o [ None ↦ [] | Some f ↦ rules_left f ]) (slice_get_read feeds (length feeds) c feed refl below is)

module _ (feeds : List Feed) (c : ℕ) (feed : Feed) (below : c < length feeds) (is : feed ≡ get_or feeds c feed) (rule : Option WriteRule)
    (next : option_map plain_rule rule ≡ slice_get (rules_left feed) 0) where
  -- none is left
  pub rules_none : rule ≡ None → rules_in feeds c ≡ []
  rules_none none = rules_at feeds c feed below is ∙ first_none (rules_left feed) (sym next ∙ ap (option_map plain_rule) none)

  -- this one is the next
  pub rules_next : (first : WriteRule) → rule ≡ Some first → rules_in feeds c ≡ plain_rule first ∷ drop 1 (rules_in feeds c)
  rules_next first some =
      let same : rules_in feeds c ≡ rules_left feed = rules_at feeds c feed below is in
      same ∙ first_some (rules_left feed) (plain_rule first) (sym next ∙ ap (option_map plain_rule) some) ∙ ap (λ l. plain_rule first ∷ drop 1 l) (sym same)

-- a rule that bounds a write lets it take something
pub bounds_some : (rules : List PlanRule) (most : ℕ) (later : List PlanRule) → AllByRecursion BoundsSome rules → rules ≡ takes_most most ∷ later → 0 < most
bounds_some rules most later all is = (subst (AllByRecursion BoundsSome) is all).0

-- what holds where a call didn't run out of memory goes on to what follows from it
pub on_ok : (P Q : Type 0) {A E : Type 0} (result : Result A E) → (P → Q) → OnOk result P → OnOk result Q
on_ok P Q (Ok value) f p = f p
on_ok P Q (Err error) f p = p
