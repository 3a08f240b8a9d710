use Rattle.script_links.proofs.Beginning.{deal_steps, deal_rows}
use Rattle.script_links.proofs.building.deal.Goals as goal

pub lines-preserved : goal.lines-preserved
lines-preserved c = (
  deal_steps c.lines.steps.items c.push.new.self.items c.in_ok-step.step c.lines.yielded c.in-Some.line c.lines.invariant.0 c.in_ok-push.ensures.items c.in_ok-step.ensures.step,
  deal_rows c.args.rows.now.items c.lines.rows.items c.deal_one.new.rows.items c.lines.yielded c.in-Some.line c.lines.invariant.1 c.in_ok-step.ensures.rows,
)
