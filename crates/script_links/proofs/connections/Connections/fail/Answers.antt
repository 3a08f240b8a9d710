use Rattle.script_links.specs.Plain.{with_fault}
use Rattle.script_links.proofs.Connected.{changed_at}
use Rattle.script_links.proofs.connections.Connections.fail.Goals as goal

pub returns : goal.returns
returns c = changed_at c.args.self.now.items.items c.args.c c.index_mut.result.now c.fail.new.self with_fault c.requires c.index_mut.ensures.value c.fail.ensures
