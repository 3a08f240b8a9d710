use Rattle.std.proofs.Common.{◌≡◌, ◌++◌, map, drop}
use Rattle.idl_include.specs.DeclaredIn.{definition_in}
use Rattle.idl_include.specs.Numbering.{all_counted}
use Rattle.idl_names.specs.SpotsIn.{counts_in}
use Rattle.check_model.specs.SchemaParts.{refs_behind}
use Rattle.schema_bare.proofs.files.put_refs.Given as goal

abbrev pub invariant-loop-definition : goal.invariant-loop-definition
invariant-loop-definition l =
    record {
      refs : l.refs.items ++ refs_behind (counts_in l.met) (map definition_in (drop l.definition-index l.definitions))
          ≡ l.initial.refs.items ++ refs_behind (counts_in l.fn.counts) (map definition_in l.definitions);
      counts : all_counted (counts_in l.met) (map definition_in (drop l.definition-index l.definitions)) ≡ all_counted (counts_in l.fn.counts) (map definition_in l.definitions);
    }
