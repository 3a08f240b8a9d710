use Rattle.script_links.specs.Plain.{with_opening}
use Rattle.script_links.proofs.Connected.{changed_at}
use Rattle.script_links.proofs.connections.Connections.open.Goals as goal

pub returns : goal.returns
returns c = changed_at c.args.self.now.items.items c.args.c c.index_mut.result.now c.open.new.self with_opening c.requires c.index_mut.ensures.value c.open.ensures
