use Rattle.std.proofs.Common.{rules}
use Rattle.idl_include.specs.SourcesOf.{program_in}
use Rattle.idl_names.specs.FiledIn.{filed_by, const_declared}
use Rattle.schema.specs.SchemaOf.{plain_constant}
use Rattle.schema_bare.proofs.Zipped.{zip_next}
use Rattle.idl_check.specs.Filling.{IsConstantTaken}
use Rattle.idl_check.proofs.constants.all_constants.Goals as goal

pub loop-one-preserved : goal.loop-one-preserved
loop-one-preserved c = (
  zip_next (IsConstantTaken (program_in c.args.tables.now.names.now)) (filed_by const_declared) plain_constant c.args.given.now c.loop-one.one-index c.one-item.result
      c.in_ok-constant.constant c.loop-one.made.items c.push.new.self.items c.loop-one-test.true c.one-item.is (search (rules, c.in_ok-push.ensures.items))
      c.in_ok-constant.ensures.0 c.loop-one.invariant.0,
  c.in_ok-constant.ensures.1,
)
