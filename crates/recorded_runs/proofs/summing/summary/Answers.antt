use Rattle.std.proofs.Common.{◌≡◌, ℤ, List, FitsSigned, length, min, ◌∙◌, arith, rules, to_z, of_z}
use Rattle.std.specs.Int.{w128}
use Rattle.std.proofs.lemmas.Int.{to_z-of_z}
use Rattle.call_rules.specs.Entries.{CallEntry}
use Rattle.recorded_runs.proofs.Counted.{told}
use Rattle.recorded_runs.proofs.summing.summary.Goals as goal

pub summed_calls-requires : goal.summed_calls-requires
summed_calls-requires g c =
    let few : length c.args.ends.now ≡ min 8 c.args.work.size =
    (c.requires.comes (g.J.ReportedJournal.listed c.args.journal.now) (g.met.J.ReportedJournal.tells c.args.journal.now)).connections in
    omega (arith, few)

pub returns : goal.returns
returns g c =
    let entries : List CallEntry = g.J.ReportedJournal.listed c.args.journal.now in
    let sum : ℤ = c.sum_of_answers.result in
    let fits : FitsSigned w128 sum = search (rules, c.sum_of_answers.type_inv) in
    told c.args.work.seed c.args.work.size c.args.tape.now entries c.args.ends.now c.requires.most
    (c.requires.comes entries (g.met.J.ReportedJournal.tells c.args.journal.now)) c.in_ok-text.text.items c.summed_calls.result
    c.from.result c.count.result c.bytes_read.result c.bytes_written.result (to_z w128 (of_z w128 sum)) c.summed_calls.ensures c.from.ensures c.count.ensures
    c.bytes_read.ensures c.bytes_written.ensures (to_z-of_z w128 sum fits ∙ c.sum_of_answers.ensures) c.in_ok-text.ensures
