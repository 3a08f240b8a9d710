use Rattle.std.proofs.Common.{length, ap, ◌∙◌, sym, subst}
use Rattle.conn_table.specs.Slots.{HaveRisingNumbers}
use Rattle.conn_table.proofs.Placing.{length-kept}
use Rattle.conn_table.proofs.Rising.{kept_rising}
use Rattle.conn_table.proofs.places.Places.len.Goals as goal

pub returns-clause-count : goal.returns-clause-count
returns-clause-count c = ap length c.as_slice.ensures.value ∙ sym (length-kept c.self.inside.slots c.self.inside.rows.items c.self.invariant.placed) ∙ ap length c.self.view_is

pub returns-clause-rising : goal.returns-clause-rising
returns-clause-rising c = subst HaveRisingNumbers c.self.view_is (kept_rising c.self.inside.slots c.self.inside.rows.items c.self.invariant.rising c.self.invariant.placed)
