use Rattle.std.proofs.Common.{ap, ◌∙◌}
use Rattle.net_links.specs.Account.{after_closing}
use Rattle.net_links.proofs.Telling.{closes}
use Rattle.net_links.proofs.net_links.NetLinksLinks.close.Goals as goal

pub returns-clause-closes : goal.returns-clause-closes
returns-clause-closes c = closes c.args.c _ _ (c.close-2.ensures ∙ ap (after_closing c.args.c) c.self.view_is)
