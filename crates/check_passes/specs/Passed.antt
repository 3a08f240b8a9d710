-- What passes over a program answer: nothing, or a first fault.
use Rattle.std.specs.Prelude.{◌⊎◌, List, [], ◌∷◌, ◌++◌, Result, Ok, Err}
use Rattle.std.specs.List.{AllByRecursion}
use Rattle.idl_include.specs.Program.{Program}
use Rattle.check_model.specs.Passes.{Pass, dotted_name, duplicate_name, unknown_type, typedef_cycle, field_id, duplicate_id, enum_number, service_cycle, duplicate_function, oneway_not_void, oneway_throws, not_exception, struct_loop}
use Rattle.check_model.specs.FirstFlaw.{ProgramFlaw, FindsNothing, IsFirstOf}
use Rattle.check_passes.specs.declared.faults.CheckFault.{CheckFault}
use Rattle.check_passes.specs.Faults.{TellsFlaw}

-- the first fault that the first of these passes finds that finds any
abbrev pub IsFirstAmong : Program → List Pass → ProgramFlaw → Type 0
IsFirstAmong program [] flaw = ⊥
IsFirstAmong program (pass ∷ more) flaw = IsFirstOf program pass flaw ⊎ (FindsNothing program pass × IsFirstAmong program more flaw)

-- Passes in order: each finds nothing, or the fault is the first.
abbrev pub ArePassed : {A : Type 0} → Program → List Pass → Result A CheckFault → Type 0
ArePassed program passes (Ok made) = AllByRecursion (FindsNothing program) passes
ArePassed program passes (Err fault) = TellsFlaw (IsFirstAmong program passes) fault

-- the passes over names, in order
abbrev pub name_passes : List Pass
name_passes = dotted_name ∷ duplicate_name ∷ unknown_type ∷ []

-- the passes over typedefs, fields, enums and services after those
abbrev pub list_passes : List Pass
list_passes = typedef_cycle ∷ field_id ∷ duplicate_id ∷ enum_number ∷ service_cycle ∷ []

-- the passes over functions after those
abbrev pub function_passes : List Pass
function_passes = duplicate_function ∷ oneway_not_void ∷ oneway_throws ∷ []

-- the passes over types after those
abbrev pub struct_passes : List Pass
struct_passes = not_exception ∷ struct_loop ∷ []

-- the passes after those over typedefs, fields, enums and services, as far as they look at spots
abbrev pub passes_behind_lists : List Pass
passes_behind_lists = function_passes ++ struct_passes

-- the passes after those over names, as far as they look at spots
abbrev pub passes_behind_names : List Pass
passes_behind_names = list_passes ++ passes_behind_lists

-- the passes that look at spots, in order
abbrev pub spot_passes : List Pass
spot_passes = name_passes ++ passes_behind_names
