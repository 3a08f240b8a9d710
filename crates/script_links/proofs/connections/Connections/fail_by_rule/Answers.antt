use Rattle.script_links.specs.Plain.{with_ruled_fault}
use Rattle.script_links.proofs.Connected.{changed_at}
use Rattle.script_links.proofs.connections.Connections.fail_by_rule.Goals as goal

pub returns : goal.returns
returns c = changed_at c.args.self.now.items.items c.args.c c.index_mut.result.now c.fail_by_rule.new.self with_ruled_fault c.requires c.index_mut.ensures.value c.fail_by_rule.ensures
