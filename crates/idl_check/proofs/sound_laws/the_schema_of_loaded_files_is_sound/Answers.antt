use Rattle.idl_include.specs.SourcesOf.{program_in}
use Rattle.idl_check.proofs.sound_laws.the_schema_of_loaded_files_is_sound.Goals as goal

pub returns : goal.returns
returns c = λ files schema are is. c.a_schema_is_sound.ensures (program_in files) schema (c.loaded_files_are_a_program_of_texts.ensures files are) is
