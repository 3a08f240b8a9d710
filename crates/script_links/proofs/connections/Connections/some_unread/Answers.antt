use Rattle.std.proofs.Common.{◌∙◌}
use Rattle.script_links.specs.Plain.{has_unread}
use Rattle.script_links.proofs.Connected.{any_plain}
use Rattle.script_links.proofs.connections.Connections.some_unread.Goals as goal

pub returns : goal.returns
returns c = c.any_unread.ensures ∙ any_plain has_unread c.args.self.now.items.items
