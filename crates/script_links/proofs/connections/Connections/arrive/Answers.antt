use Rattle.script_links.specs.Plain.{with_arrival}
use Rattle.script_links.proofs.Connected.{changed_at}
use Rattle.script_links.proofs.connections.Connections.arrive.Goals as goal

pub returns : goal.returns
returns c = changed_at c.args.self.now.items.items c.args.c c.index_mut.result.now c.arrive.new.self with_arrival c.requires c.index_mut.ensures.value c.arrive.ensures
