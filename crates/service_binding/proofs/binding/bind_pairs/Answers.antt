use Rattle.std.proofs.Common.{[], length, map, ap, arith}
use Rattle.std.proofs.lemmas.List.{length-map}
use Rattle.schema.specs.SchemaOf.{schema_of}
use Rattle.service_binding.proofs.Served.{as_many, different, places}
use Rattle.service_binding.proofs.binding.bind_pairs.Goals as goal

pub returns-clause-different : goal.returns-clause-different
returns-clause-different g c =
    different (schema_of c.args.schema.now) (map g.H.Handler.service c.args.handlers.items) [] c.as_slice.result.now c.in_ok-progress.progress.names.items
    (map g.H.Handler.service c.in_ok-progress.progress.bound.items) c.in_ok-progress.ensures.bound

pub returns-clause-places : goal.returns-clause-places
returns-clause-places g c =
    places (schema_of c.args.schema.now) (map g.H.Handler.service c.args.handlers.items) [] c.as_slice.result.now c.in_ok-progress.progress.names.items
    (map g.H.Handler.service c.in_ok-progress.progress.bound.items) c.in_ok-progress.ensures.bound

pub returns-clause-names : goal.returns-clause-names
returns-clause-names g c =
    let many =
    as_many (schema_of c.args.schema.now) (map g.H.Handler.service c.args.handlers.items) [] c.as_slice.result.now c.in_ok-progress.progress.names.items
    (map g.H.Handler.service c.in_ok-progress.progress.bound.items) c.in_ok-progress.ensures.bound in
    omega (arith, many.0, ap length c.as_slice.ensures)

pub returns-clause-handlers : goal.returns-clause-handlers
returns-clause-handlers g c =
    let many =
    as_many (schema_of c.args.schema.now) (map g.H.Handler.service c.args.handlers.items) [] c.as_slice.result.now c.in_ok-progress.progress.names.items
    (map g.H.Handler.service c.in_ok-progress.progress.bound.items) c.in_ok-progress.ensures.bound in
    omega (arith, many.1, length-map c.in_ok-progress.progress.bound.items g.H.Handler.service, ap length c.as_slice.ensures)
