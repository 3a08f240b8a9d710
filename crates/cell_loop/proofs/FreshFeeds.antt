-- Feeds to which nothing has come, one after the other.
use Rattle.std.proofs.Common.{◌≡◌, None, List, [], ◌∷◌, ◌++◌}
use Rattle.script_model.specs.ScriptLines.{PlanRule}
use Rattle.cell_loop.specs.declared.feed.Feed.{Feed}
use Rattle.cell_loop.specs.Feeds.{unread_of, finish_of, rules_left, HasSomePieces, AreFreshFeeds}

-- one more
pub fresh_more : (rules : List (List PlanRule)) (own : List PlanRule) (feeds : List Feed) (feed : Feed) → unread_of feed ≡ [] → finish_of feed ≡ None → rules_left feed ≡ own → HasSomePieces feed
    → AreFreshFeeds rules feeds → AreFreshFeeds (rules ++ own ∷ []) (feeds ++ feed ∷ [])
fresh_more [] own [] feed a b e d fresh = (a, b, e, d, tt)
fresh_more [] own (first ∷ feeds) feed a b e d fresh = absurd fresh
fresh_more (list ∷ rules) own [] feed a b e d fresh = absurd fresh
fresh_more (list ∷ rules) own (first ∷ feeds) feed a b e d fresh = (fresh.0, fresh.1, fresh.2, fresh.3, fresh_more rules own feeds feed a b e d fresh.4)
