use Rattle.std.proofs.Common.{map, refl, ap, sym, ◌∙◌}
use Rattle.idl_include.specs.SourcesOf.{program_in}
use Rattle.idl_names.specs.FiledIn.{filed_consts, filed_structs, filed_services}
use Rattle.idl_names.specs.Listing.{Listing}
use Rattle.schema.specs.SchemaOf.{schema_of, plain_constant}
use Rattle.idl_check.specs.Filling.{IsServiceFilled, IsConstantTaken}
use Rattle.idl_check.proofs.Zips.{zipped_as, zip_as}
use Rattle.idl_check.proofs.Filled.{schema_whole}
use Rattle.idl_check.proofs.whole.fill_schema.Goals as goal

pub returns : goal.returns
returns c =
    let program = program_in c.args.tables.now.names.now in
    let given_structs = ap filed_structs c.as_slice-structs.ensures.value ∙ ap (λ (l : Listing). l.structs) c.requires.definitions in
    let given_services = ap filed_services c.as_slice-services.ensures.value ∙ ap (λ (l : Listing). l.services) c.requires.definitions in
    let structs = c.in_ok-fill_structs.ensures program given_structs given_services c.requires.worths in
    let services = c.in_ok-fill_services.ensures program structs.1 in
    schema_whole program (schema_of c.args.schema.now) c.requires.made _ refl refl refl structs.0
    (zipped_as (IsServiceFilled program) given_services refl refl services.0)
    (zip_as (IsConstantTaken program) (ap filed_consts c.as_slice.ensures.value ∙ ap (λ (l : Listing). l.constants) c.requires.definitions)
    (ap (map plain_constant) (sym c.new.ensures)) c.in_ok-constants.ensures)
