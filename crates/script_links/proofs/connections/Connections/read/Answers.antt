use Rattle.script_links.specs.Plain.{with_bytes_read}
use Rattle.script_links.proofs.Connected.{changed_at}
use Rattle.script_links.proofs.connections.Connections.read.Goals as goal

pub returns : goal.returns
returns c = changed_at c.args.self.now.items.items c.args.c c.index_mut.result.now c.read.new.self (with_bytes_read c.args.count) c.requires.there c.index_mut.ensures.value c.read.ensures
