use Rattle.std.proofs.Common.{map, take}
use Rattle.script_text.specs.Plans.{plain_rules}
use Rattle.cell_loop.specs.Feeds.{AreFreshFeeds}
use Rattle.cell_loop.proofs.loop_part.fresh_feeds.Given as goal

-- a feed for each of the lists so far
abbrev pub invariant-loop-list : goal.invariant-loop-list
invariant-loop-list l = AreFreshFeeds (map plain_rules (take l.list-index l.rules)) l.feeds.items
