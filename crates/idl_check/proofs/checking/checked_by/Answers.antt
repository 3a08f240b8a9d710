use Rattle.idl_include.specs.SourcesOf.{program_in}
use Rattle.idl_check.proofs.WholeSchemas.{checked_behind, checked_before}
use Rattle.idl_check.proofs.checking.checked_by.Goals as goal

pub returns-in-Ok : goal.returns-in-Ok
returns-in-Ok c =
    checked_behind c.args.names.now c.with_values.result (λ schema is. c.the_schema_of_loaded_files_is_sound.ensures c.args.names.now schema c.requires.files is)
    c.in-Ok.ensures.passed c.with_values.ensures

-- where a fault at spots was found
pub returns : goal.returns
returns c = checked_before (program_in c.args.names.now) c.in-Err.fault c.in-Err.ensures.passed
