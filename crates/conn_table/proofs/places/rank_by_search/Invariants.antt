use Rattle.std.proofs.Common.{◌-◌}
use Rattle.conn_table.proofs.Ranks.{IsBetween}
use Rattle.conn_table.proofs.places.rank_by_search.Given as goal

abbrev pub invariant-loop-low : goal.invariant-loop-low
invariant-loop-low l = IsBetween l.number l.rows l.low l.high

abbrev pub decreases-loop-low : goal.decreases-loop-low
decreases-loop-low l = l.high - l.low
