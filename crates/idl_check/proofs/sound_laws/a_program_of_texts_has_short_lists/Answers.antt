use Rattle.idl_check.proofs.Sizes.{few_constants, few_typedefs, few_enums, few_services, few_lists}
use Rattle.idl_check.proofs.sound_laws.a_program_of_texts_has_short_lists.Goals as goal

pub returns-clause-constants : goal.returns-clause-constants
returns-clause-constants c = few_constants

pub returns-clause-typedefs : goal.returns-clause-typedefs
returns-clause-typedefs c = few_typedefs

pub returns-clause-enums : goal.returns-clause-enums
returns-clause-enums c = few_enums

pub returns-clause-services : goal.returns-clause-services
returns-clause-services c = few_services

pub returns-clause-structs : goal.returns-clause-structs
returns-clause-structs c = few_lists
