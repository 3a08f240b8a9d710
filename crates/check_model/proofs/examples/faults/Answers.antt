use Rattle.std.proofs.Common.{[], refl, arith, inr}
use Rattle.idl_include.specs.Numbering.{typedefs_of, enums_of, structs_of, services_of}
use Rattle.idl_include.specs.Names.{type_named, service_for_name, sought}
use Rattle.idl_include.specs.Cycles.{alias_graph, parent_graph}
use Rattle.check_model.proofs.SmallVerdicts.{thrown_exception, thrown_struct}
use Rattle.check_model.proofs.examples.faults.Goals as goal

pub returns-clause-dotted : goal.returns-clause-dotted
returns-clause-dotted c = refl

pub returns-clause-third_is_second : goal.returns-clause-third_is_second
returns-clause-third_is_second c = refl

pub returns-clause-unknown : goal.returns-clause-unknown
unfolding type_named sought typedefs_of enums_of structs_of
returns-clause-unknown c = refl

pub returns-clause-typedef_itself : goal.returns-clause-typedef_itself
unfolding alias_graph type_named sought typedefs_of enums_of structs_of
returns-clause-typedef_itself c = ([], (0, omega arith, refl))

pub returns-clause-id_zero : goal.returns-clause-id_zero
returns-clause-id_zero c = refl

pub returns-clause-past_the_last : goal.returns-clause-past_the_last
returns-clause-past_the_last c = refl

pub returns-clause-service_itself : goal.returns-clause-service_itself
unfolding parent_graph service_for_name sought services_of
returns-clause-service_itself c = ([], (0, omega arith, refl))

pub returns-clause-inherited : goal.returns-clause-inherited
unfolding parent_graph service_for_name sought services_of
returns-clause-inherited c = inr (0, ([], (0, omega arith, refl)), refl)

pub returns-clause-exception_by_typedef : goal.returns-clause-exception_by_typedef
returns-clause-exception_by_typedef c = λ h. h thrown_exception

pub returns-clause-struct_thrown : goal.returns-clause-struct_thrown
returns-clause-struct_thrown c = thrown_struct
