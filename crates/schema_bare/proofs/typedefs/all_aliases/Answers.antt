use Rattle.std.proofs.Common.{rules, map}
use Rattle.idl_include.specs.SourcesOf.{program_in}
use Rattle.idl_names.specs.FiledIn.{filed_by, typedef_declared}
use Rattle.schema.specs.SchemaOf.{plain_alias}
use Rattle.check_model.specs.SchemaParts.{IsAliasOf}
use Rattle.schema_bare.proofs.Zipped.{zip_next, zip_end}
use Rattle.schema_bare.proofs.typedefs.all_aliases.Goals as goal

pub loop-one-preserved : goal.loop-one-preserved
loop-one-preserved c =
    zip_next (IsAliasOf (program_in c.args.tables.now.names.now)) (filed_by typedef_declared) plain_alias c.args.given.now c.loop-one.one-index c.one-item.result
    c.in_ok-desc.desc c.loop-one.made.items c.push.new.self.items c.loop-one-test.true c.one-item.is (search (rules, c.in_ok-push.ensures.items)) c.in_ok-desc.ensures
    c.loop-one.invariant

pub returns : goal.returns
returns c =
    zip_end (IsAliasOf (program_in c.args.tables.now.names.now)) (filed_by typedef_declared) c.args.given.now c.loop-one.one-index (map plain_alias c.loop-one.made.items)
    c.loop-one-test.false c.loop-one.invariant
