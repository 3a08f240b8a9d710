use Rattle.std.proofs.Common.{rules, ap, ◌∙◌, not, nat_eq}
use Rattle.std.proofs.lemmas.Fn.{filter_same}
use Rattle.net_links.specs.Account.{after_closing}
use Rattle.net_links.proofs.account.Account.close.Goals as goal

pub returns : goal.returns
returns c =
    let kept = filter_same _ (λ n. not (nat_eq n c.args.c)) _ (λ x b f k. search rules) _ _ c.retain.ensures.filtered in
    let old = c.self.inside in
    ap (λ ns. record { listening = record { port = old.port; accept = old.accept }; opened = old.opened; numbers = ns; over = old.over; failed = old.failed.items; most_failed = old.most_failed; net_faults = old.net_faults }) kept
    ∙ ap (after_closing c.args.c) c.self.view_is
