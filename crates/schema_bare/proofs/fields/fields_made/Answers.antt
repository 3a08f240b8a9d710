use Rattle.std.proofs.Common.{rules, map}
use Rattle.idl_include.specs.SourcesOf.{program_in}
use Rattle.schema.specs.SchemaOf.{plain_field}
use Rattle.check_model.specs.SchemaParts.{NoDefault, IsFieldOf}
use Rattle.schema_bare.specs.ById.{numbered_in}
use Rattle.schema_bare.proofs.Zipped.{zip_next, zip_end}
use Rattle.schema_bare.proofs.fields.fields_made.Goals as goal

pub loop-by_id-preserved : goal.loop-by_id-preserved
loop-by_id-preserved c =
    zip_next (IsFieldOf NoDefault (program_in c.args.tables.now.names.now) c.args.file c.args.list) numbered_in plain_field c.args.sorted.now c.loop-by_id.by_id-index
    c.by_id-item.result c.in_ok-field.field c.loop-by_id.made.items c.push.new.self.items c.loop-by_id-test.true c.by_id-item.is (search (rules, c.in_ok-push.ensures.items))
    c.in_ok-field.ensures c.loop-by_id.invariant

pub returns : goal.returns
returns c =
    zip_end (IsFieldOf NoDefault (program_in c.args.tables.now.names.now) c.args.file c.args.list) numbered_in c.args.sorted.now c.loop-by_id.by_id-index
    (map plain_field c.loop-by_id.made.items) c.loop-by_id-test.false c.loop-by_id.invariant
