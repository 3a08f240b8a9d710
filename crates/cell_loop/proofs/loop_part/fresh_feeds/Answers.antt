use Rattle.std.proofs.Common.{◌≡◌, ◌+◌, ◌++◌, ◌∷◌, List, [], map, take, ap, ◌∙◌, sym, subst, arith}
use Rattle.std.proofs.lemmas.List.{map_more}
use Rattle.script_model.specs.ScriptLines.{PlanRule}
use Rattle.script_text.specs.Plans.{plain_rules}
use Rattle.cell_loop.specs.declared.feed.Feed.{Feed}
use Rattle.cell_loop.specs.Feeds.{AreFreshFeeds}
use Rattle.cell_loop.proofs.FreshFeeds.{fresh_more}
use Rattle.cell_loop.proofs.loop_part.fresh_feeds.Goals as goal

pub loop-list-preserved : goal.loop-list-preserved
loop-list-preserved c =
    let made : List (List PlanRule) = map plain_rules (take c.loop-list.list-index c.args.rules.now) in
    let own : List PlanRule = plain_rules c.list-item.result in
    let more : map plain_rules (take (c.loop-list.list-index + 1) c.args.rules.now) ≡ made ++ own ∷ [] =
    map_more plain_rules c.args.rules.now c.loop-list.list-index c.list-item.result (omega arith) ∙ ap (λ k. made ++ plain_rules k ∷ []) (sym c.list-item.is) in
    subst (λ (k : List (List PlanRule)). AreFreshFeeds k c.push.new.self.items) (sym {A = List (List PlanRule)} more)
    (subst (λ (k : List Feed). AreFreshFeeds (made ++ own ∷ []) k) (sym {A = List Feed} c.in_ok-push.ensures.items)
    (fresh_more made own c.loop-list.feeds.items c.new.result c.new.ensures.unread c.new.ensures.finish (c.new.ensures.rules ∙ ap plain_rules c.as_slice.ensures) c.new.ensures.some
    c.loop-list.invariant))
