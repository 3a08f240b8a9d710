use Rattle.std.proofs.Common.{◌≡◌, ℕ, ◌+◌, ◌∷◌, List, length, sym, ap, ◌∙◌, arith, length-append}
use Rattle.script_links.specs.Kept.{plain_links}
use Rattle.script_links.proofs.Beginning.{coming_first, coming_left, coming_links}
use Rattle.script_links.proofs.building.coming.Goals as goal

pub rules-init : goal.rules-init
rules-init c = (ap plain_links c.in_ok-items.ensures.items ∙ coming_first c.args.rows.items, c.from-left.ensures.0, ap length c.in_ok-items.ensures.items)

pub rules-preserved : goal.rules-preserved
rules-preserved c =
    let more : length c.push.new.self.items ≡ length c.rules.items.items + 1 = ap length c.in_ok-push.ensures.items ∙ length-append c.rules.items.items _ in
    let same : length c.rules.items.items ≡ length c.rules.yielded = c.rules.invariant.2 in (
      coming_links c.args.rows.items c.rules.left.items c.pop_front.new.self.items c.in-Some-pop_front.row c.rules.yielded c.in-Some.list c.rules.invariant.1 c.in-Some-pop_front.ensures.items
          c.rules.items.items c.push.new.self.items c.coming_link.result c.rules.invariant.0 c.coming_link.ensures c.in_ok-push.ensures.items,
      coming_left c.args.rows.items c.rules.left.items c.pop_front.new.self.items c.in-Some-pop_front.row c.rules.yielded c.in-Some.list c.rules.invariant.1 c.in-Some-pop_front.ensures.items,
      more ∙ ap (λ n. n + 1) same ∙ sym (length-append c.rules.yielded _),
    )
