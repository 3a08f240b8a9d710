use Rattle.script_links.specs.Plain.{with_finish}
use Rattle.script_links.specs.Kept.{plain_link_finish}
use Rattle.script_links.proofs.Connected.{changed_at}
use Rattle.script_links.proofs.connections.Connections.finish.Goals as goal

pub returns : goal.returns
returns c = changed_at c.args.self.now.items.items c.args.c c.index_mut.result.now c.finish.new.self (with_finish (plain_link_finish c.args.finish)) c.requires c.index_mut.ensures.value c.finish.ensures
