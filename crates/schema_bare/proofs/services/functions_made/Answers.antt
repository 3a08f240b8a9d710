use Rattle.std.proofs.Common.{rules, map}
use Rattle.idl_include.specs.SourcesOf.{program_in}
use Rattle.schema.specs.SchemaOf.{plain_function}
use Rattle.schema_bare.proofs.Serving.{function_next, functions_end}
use Rattle.schema_bare.proofs.services.functions_made.Goals as goal

pub loop-place-preserved : goal.loop-place-preserved
loop-place-preserved c =
    function_next (program_in c.args.tables.now.names.now) c.args.file c.args.first c.in_ok-args.args c.args.functions.now c.loop-place.place c.index-functions-place.result
    c.in_ok-one.one c.loop-place.made.items c.push.new.self.items c.loop-place-test.true c.index-functions-place.is c.in_ok-args.ensures
    (search (rules, c.in_ok-push.ensures.items)) c.in_ok-one.ensures c.loop-place.invariant

pub returns : goal.returns
returns c =
    functions_end (program_in c.args.tables.now.names.now) c.args.file c.args.first c.args.functions.now c.loop-place.place (map plain_function c.loop-place.made.items)
    c.loop-place-test.false c.loop-place.invariant
