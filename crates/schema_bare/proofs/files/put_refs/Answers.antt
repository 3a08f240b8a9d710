use Rattle.std.proofs.Common.{rules, ◌++◌, map}
use Rattle.idl_include.specs.DeclaredIn.{definition_in}
use Rattle.idl_include.specs.Numbering.{all_counted}
use Rattle.idl_names.specs.SpotsIn.{counts_in}
use Rattle.idl_names.proofs.Spotted.{counts_next, counts_end}
use Rattle.check_model.specs.SchemaParts.{refs_behind}
use Rattle.schema_bare.proofs.Filing.{ref_next, refs_end}
use Rattle.schema_bare.proofs.files.put_refs.Goals as goal

pub loop-definition-preserved : goal.loop-definition-preserved
loop-definition-preserved c = record {
  refs =
      ref_next c.args.definitions.now c.loop-definition.definition-index c.definition-item.result (counts_in c.loop-definition.met) (counts_in c.in_ok-met.met)
      c.loop-definition.refs.items c.push.new.self.items (c.args.refs.now.items ++ refs_behind (counts_in c.args.counts) (map definition_in c.args.definitions.now))
      c.loop-definition-test.true c.definition-item.is c.in_ok-met.ensures (search (rules, c.in_ok-push.ensures.items)) c.loop-definition.invariant.refs;
  counts =
      counts_next c.args.definitions.now c.loop-definition.definition-index c.definition-item.result (counts_in c.loop-definition.met) (counts_in c.in_ok-met.met)
      (all_counted (counts_in c.args.counts) (map definition_in c.args.definitions.now)) c.loop-definition-test.true c.definition-item.is c.in_ok-met.ensures
      c.loop-definition.invariant.counts;
}

pub returns : goal.returns
returns c = record {
  refs =
      refs_end c.args.definitions.now c.loop-definition.definition-index (counts_in c.loop-definition.met) c.loop-definition.refs.items
      (c.args.refs.now.items ++ refs_behind (counts_in c.args.counts) (map definition_in c.args.definitions.now)) c.loop-definition-test.false c.loop-definition.invariant.refs;
  counts =
      counts_end c.args.definitions.now c.loop-definition.definition-index (counts_in c.loop-definition.met)
      (all_counted (counts_in c.args.counts) (map definition_in c.args.definitions.now)) c.loop-definition-test.false c.loop-definition.invariant.counts;
}
