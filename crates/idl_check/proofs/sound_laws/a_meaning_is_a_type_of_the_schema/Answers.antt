use Rattle.check_model.specs.SchemaParts.{NoDefault}
use Rattle.check_model.specs.ProgramSchema.{DefaultIn}
use Rattle.idl_check.proofs.SchemaSizes.{kind_in}
use Rattle.idl_check.proofs.sound_laws.a_meaning_is_a_type_of_the_schema.Goals as goal

pub returns-clause-partial : goal.returns-clause-partial
returns-clause-partial c = λ program partial is. kind_in NoDefault program partial is.made

pub returns-clause-whole : goal.returns-clause-whole
returns-clause-whole c = λ program schema is. kind_in (DefaultIn (record { program = program; schema = is.partial })) program schema is.whole
