use Rattle.std.proofs.Common.{ap, subst}
use Rattle.idl_parser.specs.declared.tree.Enum.{Enum}
use Rattle.std.proofs.Common.{List}
use Rattle.idl_include.specs.SourcesOf.{program_in}
use Rattle.idl_include.specs.Numbering.{enums_of}
use Rattle.idl_names.specs.declared.filed.InFile.{InFile}
use Rattle.idl_names.specs.Listing.{Listing}
use Rattle.const_evaluator.specs.EnumTables.{AreTablesOf}
use Rattle.const_evaluator.proofs.Valued.{numbers_found}
use Rattle.const_evaluator.proofs.Meant.{values_found}
use Rattle.const_evaluator.proofs.tables.const_names.Goals as goal

pub invariant_of-result : goal.invariant_of-result
invariant_of-result c = record {
  numbers =
      numbers_found c.args.definitions.now.enums.items (enums_of (program_in c.args.names.now)) c.in_ok-enums.enums.items (ap (λ (l : Listing). l.enums) c.requires.definitions)
      (subst (λ (es : List (InFile Enum)). AreTablesOf es c.in_ok-enums.enums.items) c.as_slice.ensures.value c.in_ok-enums.ensures);
  values =
      values_found (program_in c.args.names.now) c.args.definitions.now.constants.items c.as_slice-2.result.now c.args.places.now c.in-Ok.constants.items
      (ap (λ (l : Listing). l.constants) c.requires.definitions) c.as_slice-2.ensures.value c.requires.places c.in-Ok.ensures;
}
