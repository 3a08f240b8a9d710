use Rattle.std.proofs.Common.{map, sym, ◌∙◌}
use Rattle.command_line.specs.Answering.{plain_served}
use Rattle.processor.specs.Offices.{plain_office}
use Rattle.schema.specs.SchemaOf.{schema_of}
use Rattle.thrift_host.proofs.Worked.{workload_bounds, worked_out}
use Rattle.thrift_host.proofs.workloads.bind_calculator.Goals as goal

pub bind_pairs-requires-clause-bounds : goal.bind_pairs-requires-clause-bounds
bind_pairs-requires-clause-bounds g c κs within = workload_bounds (plain_served c.args.served.now) c.args.served.now.workers c.requires.says c.requires.workers

pub returns-then-has_calculator-clause-tells : goal.returns-then-has_calculator-clause-tells
returns-then-has_calculator-clause-tells g c = λ files has.
    worked_out c.bind_pairs.result (λ made. plain_office made.0) (λ made. map g.H.Handler.service made.1.items) (plain_served c.args.served.now) c.args.served.now.workers
    files (map g.H.Handler.service c.args.handlers.items) (schema_of c.args.schema) c.requires.says (c.bind_pairs.ensures.tells files has) c.bind_pairs.ensures.schema
    (sym c.has_calculator.ensures ∙ c.if-has_calculator.true)
