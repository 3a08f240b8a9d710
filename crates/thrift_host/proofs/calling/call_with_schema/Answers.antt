use Rattle.std.proofs.Common.{◌∙◌}
use Rattle.command_line.specs.Answering.{plain_asking}
use Rattle.port_calls.specs.Called.{CallChange, MeansCall}
use Rattle.schema.specs.SchemaOf.{schema_of}
use Rattle.thrift_host.proofs.Called.{lent_call}
use Rattle.thrift_host.proofs.Ended.{line_written, net_held}
use Rattle.thrift_host.proofs.calling.call_with_schema.Goals as goal

pub returns-clause-ends : goal.returns-clause-ends
returns-clause-ends g c =
    let change : CallChange =
    (record {
      dialled_before = record { called = g.B.Binder.called c.args.binder.now; handed = g.B.Binder.handed c.args.binder.now };
      dialled = record { called = g.B.Binder.called c.call_port-came_to.new.binder; handed = g.B.Binder.handed c.call_port-came_to.new.binder };
      taken_before = g.K.Sink.taken c.args.output.now;
      taken = g.K.Sink.taken c.call_port-came_to.new.output;
    })
    in (
      c.call_port-came_to.result,
      lent_call (plain_asking c.args.asked.now) (schema_of c.args.schema) _ _ _ (λ call. MeansCall call change c.call_port-came_to.result) (c.as_bytes.ensures.value ∙ c.as_str.ensures)
          (c.as_bytes-2.ensures.value ∙ c.as_str-2.ensures) (c.as_bytes-3.ensures.value ∙ c.as_str-3.ensures) c.call_port-came_to.ensures.means,
      c.end_call.ensures,
    )

pub returns-clause-output_kept : goal.returns-clause-output_kept
returns-clause-output_kept g c not_it = c.call_port-came_to.ensures.output_kept (line_written _ _ c.call_port-came_to.result c.end_call.ensures not_it)

pub returns-clause-binder_kept : goal.returns-clause-binder_kept
returns-clause-binder_kept g c not_it = c.call_port-came_to.ensures.binder_kept (net_held _ _ c.call_port-came_to.result c.end_call.ensures not_it)
