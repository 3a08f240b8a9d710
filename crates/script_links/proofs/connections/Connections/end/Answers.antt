use Rattle.script_links.specs.Plain.{with_end}
use Rattle.script_links.proofs.Connected.{changed_at}
use Rattle.script_links.proofs.connections.Connections.end.Goals as goal

pub returns : goal.returns
returns c = changed_at c.args.self.now.items.items c.args.c c.index_mut.result.now c.end.new.self with_end c.requires c.index_mut.ensures.value c.end.ensures
