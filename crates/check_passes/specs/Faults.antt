-- What a fault in memory tells of a program.
use Rattle.std.specs.Prelude.{◌≡◌, Option, Some, None, MatchOption}
use Rattle.std.specs.Option.{option_map}
use Rattle.check_model.specs.Passes.{Pass, dotted_name, duplicate_name, unknown_type, typedef_cycle, field_id, duplicate_id, enum_number, service_cycle, duplicate_function, oneway_not_void, oneway_throws, not_exception, struct_loop}
use Rattle.check_model.specs.FirstFlaw.{FlawKind, found_by, of_value, ProgramFlaw}
use Rattle.idl_const.specs.declared.faults.ConstFault.{ConstFault}
use Rattle.idl_const.specs.Flaws.{flaw_of}
use Rattle.check_passes.specs.declared.faults.CheckKind.{CheckKind}
use Rattle.check_passes.specs.declared.faults.CheckKind.TheVariants as check
use Rattle.check_passes.specs.declared.faults.CheckFault.{CheckFault}

-- the pass over spots whose faults are of this kind; those of values are found by the last pass, and want of memory by none
abbrev pub spot_pass : CheckKind → Option Pass
spot_pass check.DottedName = Some dotted_name
spot_pass check.DuplicateName = Some duplicate_name
spot_pass check.UnknownType = Some unknown_type
spot_pass check.TypedefCycle = Some typedef_cycle
spot_pass check.FieldId = Some field_id
spot_pass check.DuplicateId = Some duplicate_id
spot_pass check.EnumValue = Some enum_number
spot_pass check.ServiceCycle = Some service_cycle
spot_pass check.DuplicateFunction = Some duplicate_function
spot_pass check.OnewayNotVoid = Some oneway_not_void
spot_pass check.OnewayThrows = Some oneway_throws
spot_pass check.NotException = Some not_exception
spot_pass check.StructLoop = Some struct_loop
spot_pass (check.Const fault) = None
spot_pass check.NoMemory = None

-- the kind of flaw that a fault tells; want of memory tells none
abbrev pub flaw_told : CheckKind → Option FlawKind
flaw_told (check.Const fault) = option_map of_value (flaw_of fault)
flaw_told kind = option_map found_by (spot_pass kind)

-- the fault tells a flaw of which this holds, or that memory ran out; never want of memory as a fault of a value
abbrev pub TellsFlaw : (ProgramFlaw → Type 0) → CheckFault → Type 0
TellsFlaw P fault = MatchOption (flaw_told fault.kind) (fault.kind ≡ check.NoMemory) (λ kind. P (record { file = fault.file; at = fault.at; kind = kind }))

-- the kind is that of a fault of a value
abbrev pub IsConstKind : ConstFault → CheckKind → Type 0
IsConstKind fault kind = MatchOption (flaw_of fault) (kind ≡ check.NoMemory) (λ flaw. flaw_told kind ≡ Some (of_value flaw))
