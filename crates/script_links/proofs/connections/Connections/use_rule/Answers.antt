use Rattle.script_links.specs.Plain.{with_rule_used}
use Rattle.script_links.proofs.Connected.{changed_at}
use Rattle.script_links.proofs.connections.Connections.use_rule.Goals as goal

pub returns : goal.returns
returns c = changed_at c.args.self.now.items.items c.args.c c.index_mut.result.now c.use_rule.new.self with_rule_used c.requires c.index_mut.ensures.value c.use_rule.ensures
