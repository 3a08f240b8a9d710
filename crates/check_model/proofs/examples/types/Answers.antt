use Rattle.std.proofs.Common.{refl}
use Rattle.check_model.specs.Resolved.{alias_kind}
use Rattle.idl_include.specs.Names.{type_named, sought}
use Rattle.idl_include.specs.Numbering.{typedefs_of, enums_of, structs_of}
use Rattle.check_model.specs.FiniteValues.{has_value_within}
use Rattle.check_model.proofs.examples.types.Goals as goal

pub returns-clause-list : goal.returns-clause-list
unfolding alias_kind type_named sought typedefs_of enums_of structs_of has_value_within
returns-clause-list c = (1, refl)

pub returns-clause-name : goal.returns-clause-name
unfolding alias_kind type_named sought typedefs_of enums_of structs_of has_value_within
returns-clause-name c = (1, refl)

pub returns-clause-finite : goal.returns-clause-finite
unfolding alias_kind type_named sought typedefs_of enums_of structs_of has_value_within
returns-clause-finite c = refl

pub returns-clause-loops : goal.returns-clause-loops
unfolding alias_kind type_named sought typedefs_of enums_of structs_of has_value_within
returns-clause-loops c = refl
