use Rattle.std.proofs.Common.{◌≡◌, ◌++◌, MatchResult, ap, ◌∙◌, subst}
use Rattle.streams.specs.Content.{told_more}
use Rattle.streams.specs.Taken.{IsTakenInPart}
use Rattle.streams.proofs.Taking.{none_taken}
use Rattle.run_report.specs.Summary.{listening_line}
use Rattle.run_report.proofs.Taking.{whole_or_part}
use Rattle.run_report.proofs.summary.write_listening.Goals as goal

pub returns-clause-told : goal.returns-clause-told
returns-clause-told g c =
    let x = g.K.Sink.taken c.args.out.now in
    let z = g.K.Sink.taken c.flush.new.out in
    let items = c.put_listening.new.into.items in
    subst (λ t. MatchResult c.flush.result (λ _. z ≡ told_more x t) (λ _. IsTakenInPart x z t))
    (c.in_ok-put_listening.ensures ∙ ap (λ t. t ++ listening_line c.args.port) c.new-pending.ensures.items)
    (whole_or_part x x z items items c.flush.result (none_taken x items) c.flush.ensures.told)
