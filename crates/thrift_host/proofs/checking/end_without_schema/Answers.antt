use Rattle.std.proofs.Common.{subst, sym}
use Rattle.thrift_host.specs.declared.status.Status.TheVariants.{IdlRefused}
use Rattle.thrift_host.specs.Errors.{Errors}
use Rattle.thrift_host.specs.Steps.{EndsWithout}
use Rattle.thrift_host.proofs.Lines.{said_line}
use Rattle.thrift_host.proofs.checking.end_without_schema.Goals as goal

pub returns-in-Refused : goal.returns-in-Refused
returns-in-Refused g c =
    let e : Errors =
    (record {
      taken_before = g.E.Sink.taken c.args.errors.now;
      taken = g.E.Sink.taken c.end_saying.new.errors;
      faults_before = g.E.Sink.faults c.args.errors.now;
      faults = g.E.Sink.faults c.end_saying.new.errors;
    })
    in
    subst (λ reason. EndsWithout reason c.end_saying.result e) (sym c.in-Refused.is)
    (said_line c.error_line.result (λ line. line.items) IdlRefused c.end_saying.result e _ c.error_line.ensures c.end_saying.ensures)
