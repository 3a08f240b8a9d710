use Rattle.idl_types.proofs.ShownByNumber.{typedefs_by_number, structs_by_number, services_by_number}
use Rattle.idl_types.proofs.laws.definitions_come_by_number.Goals as goal

pub returns-clause-typedefs : goal.returns-clause-typedefs
returns-clause-typedefs c = typedefs_by_number

pub returns-clause-structs : goal.returns-clause-structs
returns-clause-structs c = structs_by_number

pub returns-clause-services : goal.returns-clause-services
returns-clause-services c = services_by_number
