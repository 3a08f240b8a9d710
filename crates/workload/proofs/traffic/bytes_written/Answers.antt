use Rattle.std.proofs.Common.{rules, ◌≡◌, ◌-◌, ◌^◌, [], min, length}
use Rattle.host_model.specs.Marks.{output, written_by}
use Rattle.workload.proofs.Carried.{all_counted}
use Rattle.workload.proofs.traffic.bytes_written.Goals as goal

pub returns : goal.returns
returns c =
    let none : c.tape.marks ≡ [] = search rules in
    all_counted written_by c.tape.marks c.tape.count (2 ^ 64 - 1) (min (length (output c.args.tape.now)) (2 ^ 64 - 1)) none c.tape.invariant.within c.tape.invariant.counted
