use Rattle.std.proofs.Common.{◌≡◌, ℕ, List, [], ◌++◌, take, subst, Option, Result, Ok, Err, MatchResult}
use Rattle.streams.specs.Content.{told_more}
use Rattle.host_model.specs.Report.{report}
use Rattle.streams.specs.Taken.{IsTakenBut, TakesText}
use Rattle.streams.proofs.Taking.{taken_on, last_in_part, all_told, part_told}
use Rattle.run_report.proofs.report.write_report.Goals as goal

-- all lines but the pending ones were taken, and then these
in_the_end : {A E : Type 0} (x y z : Option (List ℕ)) (text left : List ℕ) (result : Result A E) → IsTakenBut x y text left → TakesText y z left [] result
    → MatchResult result (λ _. z ≡ told_more x text) (λ _. (n : ℕ) × (z ≡ told_more x (take n text)))
in_the_end x y z text left (Ok a) f t = all_told x z text (taken_on x y z text left [] f t)
in_the_end x y z text left (Err e) f t = part_told x z text (last_in_part x y z text left f t)

pub returns-clause-told : goal.returns-clause-told
returns-clause-told g c =
    in_the_end _ (g.K.Sink.taken c.write_lines.new.out) _ _ c.write_lines.new.pending.items c.flush.result
    (subst
    (λ t. IsTakenBut (g.K.Sink.taken c.args.out.now) (g.K.Sink.taken c.write_lines.new.out)
    (t ++ report g.L.EntryLine.line c.args.tape.now (g.J.ReportedJournal.listed c.args.journal.now) c.args.causes.now) c.write_lines.new.pending.items)
    c.new-pending.ensures.items (c.in_ok-write_lines.ensures {u = tt}).told)
    c.flush.ensures.told
