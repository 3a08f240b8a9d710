use Rattle.script_links.specs.Plain.{with_closing}
use Rattle.script_links.proofs.Connected.{changed_at}
use Rattle.script_links.proofs.connections.Connections.close.Goals as goal

pub returns : goal.returns
returns c = changed_at c.args.self.now.items.items c.args.c c.index_mut.result.now c.close.new.self with_closing c.requires c.index_mut.ensures.value c.close.ensures
