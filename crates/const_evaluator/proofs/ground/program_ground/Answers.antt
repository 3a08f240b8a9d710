use Rattle.std.proofs.Common.{◌∙◌, List, map, ap}
use Rattle.schema.specs.declared.types.StructDesc.{StructDesc}
use Rattle.schema.specs.SchemaOf.{plain_struct}
use Rattle.idl_parser.specs.declared.tree.Struct.{Struct}
use Rattle.idl_parser.specs.declared.tree.Service.{Service}
use Rattle.idl_include.specs.SourcesOf.{program_in}
use Rattle.idl_names.specs.declared.filed.InFile.{InFile}
use Rattle.idl_names.specs.FiledIn.{filed_structs, filed_services}
use Rattle.idl_names.specs.Listing.{Listing}
use Rattle.const_evaluator.specs.declared.given_fields.GivenFields.{GivenFields}
use Rattle.const_evaluator.specs.GivenFields.{fields_given}
use Rattle.const_evaluator.proofs.InTables.{tables_are}
use Rattle.const_evaluator.proofs.ground.program_ground.Goals as goal

pub returns-in-Ok-clause-right : goal.returns-in-Ok-clause-right
returns-in-Ok-clause-right c = record {
  values = c.requires.values;
  own = c.requires.places.own;
  made = c.requires.schema;
  structs = c.in-Ok.ensures.structs ∙ ap (λ (ds : List StructDesc). map plain_struct ds) c.as_slice-3.ensures;
  tables =
      tables_are (program_in c.args.constants.now) c.args.places.now (map fields_given c.as_slice-2.result.now) c.in-Ok.structs.items c.requires.places
      (ap (λ (ls : List GivenFields). map fields_given ls) c.as_slice-2.ensures.value
      ∙ c.in_ok-lists.ensures (program_in c.args.constants.now)
      (ap (λ (ss : List (InFile Struct)). filed_structs ss) c.as_slice-structs.ensures.value ∙ ap (λ (l : Listing). l.structs) c.requires.definitions)
      (ap (λ (ss : List (InFile Service)). filed_services ss) c.as_slice.ensures.value ∙ ap (λ (l : Listing). l.services) c.requires.definitions))
      c.in-Ok.ensures.right;
  ends = c.in_ok-ends.ensures;
}
