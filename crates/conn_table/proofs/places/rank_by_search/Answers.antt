use Rattle.std.proofs.Common.{◌≡◌, ◌≤◌, ◌+◌, ◌-◌, ◌/◌, length, arith, subst}
use Rattle.std.proofs.lemmas.Option.{slice_get-get_or}
use Rattle.conn_table.proofs.Ranks.{IsBetween, between_up, between_down, rank_between}
use Rattle.conn_table.proofs.places.rank_by_search.Goals as goal

pub loop-low-preserved-then-rows-middle : goal.loop-low-preserved-then-rows-middle
loop-low-preserved-then-rows-middle c =
    let within : c.loop-low.high ≤ length c.args.rows.now = c.loop-low.invariant.within in
    between_up c.args.number c.args.rows.now c.loop-low.low c.loop-low.high (c.loop-low.low + (c.loop-low.high - c.loop-low.low) / 2) _ c.requires c.loop-low.invariant (omega arith)
    (slice_get-get_or c.args.rows.now (c.loop-low.low + (c.loop-low.high - c.loop-low.low) / 2) _ (omega arith)) c.if-rows-middle.true

pub loop-low-preserved : goal.loop-low-preserved
loop-low-preserved c =
    let within : c.loop-low.high ≤ length c.args.rows.now = c.loop-low.invariant.within in
    between_down c.args.number c.args.rows.now c.loop-low.low c.loop-low.high (c.loop-low.low + (c.loop-low.high - c.loop-low.low) / 2) _ c.requires c.loop-low.invariant (omega arith) (omega arith)
    (slice_get-get_or c.args.rows.now (c.loop-low.low + (c.loop-low.high - c.loop-low.low) / 2) _ (omega arith)) c.if-rows-middle.false

pub returns-clause-rank_below : goal.returns-clause-rank_below
returns-clause-rank_below c =
    let o : c.loop-low.low ≤ c.loop-low.high = c.loop-low.invariant.order in
    let e : c.loop-low.high ≡ c.loop-low.low = omega (arith, c.loop-low-test.false) in
    rank_between c.args.number c.args.rows.now c.loop-low.low (subst (IsBetween c.args.number c.args.rows.now c.loop-low.low) e c.loop-low.invariant)
