use Rattle.std.proofs.Common.{◌≡◌, Some, slice_get, sym, ap, ◌∙◌, arith, to_z}
use Rattle.std.proofs.lemmas.Int.{ints}
use Rattle.std.proofs.lemmas.Option.{slice_get_within, get_or_from_slice_get}
use Rattle.std.specs.Int.{w128}
use Rattle.workload.specs.SummaryText.{answer_adds, sum_of_answers}
use Rattle.recorded_runs.proofs.Summed.{one_summed}
use Rattle.recorded_runs.proofs.summing.sum_of_answers.Goals as goal

pub loop-i-preserved : goal.loop-i-preserved
loop-i-preserved g c =
    let listed = g.J.ReportedJournal.listed c.args.journal.now in
    let item = c.in-Some.one.now in
    let there : slice_get listed c.loop-i.i ≡ Some item = sym c.in-Some.ensures.entry in
    let same : c.from-sum.result ≡ c.answer_adds.result = omega (arith, ints) in
    let worth : c.from-sum.result ≡ answer_adds item.answer = same ∙ c.answer_adds.ensures ∙ ap (λ e. answer_adds e.answer) c.one.view_is in
    let step = one_summed listed c.loop-i.i item (to_z w128 c.loop-i.sum-bits) (sum_of_answers listed)
    (slice_get_within listed c.loop-i.i item there) (sym (get_or_from_slice_get listed c.loop-i.i item item there)) c.loop-i.invariant.sum in
    record { sum = omega (arith, ints, step, worth); low = omega (arith, ints); high = omega (arith, ints) }
