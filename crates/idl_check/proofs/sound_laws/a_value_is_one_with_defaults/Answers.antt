use Rattle.check_model.specs.SchemaParts.{NoDefault}
use Rattle.check_model.specs.ProgramSchema.{DefaultIn}
use Rattle.idl_check.proofs.SameStructs.{value_of_both}
use Rattle.idl_check.proofs.sound_laws.a_value_is_one_with_defaults.Goals as goal

pub returns : goal.returns
returns c = λ program partial schema made is. value_of_both NoDefault (DefaultIn (record { program = program; schema = is.partial })) program partial schema made.made is.whole
