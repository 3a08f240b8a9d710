-- A schema that no pass refuses is that of its program, and a fault after the other passes is its first.
use Rattle.std.proofs.Common.{List, [], ◌∷◌, Result, Ok, Err, inl}
use Rattle.std.specs.List.{AllByRecursion}
use Rattle.idl_include.specs.declared.sources.IdlFile.{IdlFile}
use Rattle.idl_include.specs.SourcesOf.{program_in}
use Rattle.idl_include.specs.Program.{Program}
use Rattle.schema.specs.declared.types.Schema.{Schema}
use Rattle.schema.specs.SchemaOf.{schema_of}
use Rattle.schema.specs.PlainSchema.{PlainSchema}
use Rattle.schema.specs.Sound.{IsSound}
use Rattle.check_model.specs.Passes.{bad_constant, passes}
use Rattle.check_model.specs.FirstFlaw.{FindsNothing, IsFirstOf, IsFirstFlaw}
use Rattle.check_model.specs.ProgramSchema.{IsSchemaOf}
use Rattle.check_model.proofs.Shown.{both_all}
use Rattle.check_passes.specs.declared.faults.CheckFault.{CheckFault}
use Rattle.check_passes.specs.Faults.{TellsFlaw}
use Rattle.check_passes.specs.Passed.{IsFirstAmong, spot_passes}
use Rattle.check_passes.proofs.InOrder.{tells_more, first_past, first_of_all, stops}
use Rattle.idl_check.specs.Behind.{IsMadeOf, IsValued, IsCheckOf}

schema_made : (program : Program) (schema : PlainSchema) → AllByRecursion (FindsNothing program) spot_passes → IsMadeOf program schema → IsSchemaOf program schema
schema_made program schema none h = record {
  faultless = both_all (FindsNothing program) spot_passes (bad_constant ∷ []) none (h.values, tt);
  partial = h.partial;
  made = h.made;
  whole = h.whole.whole;
  constants = h.whole.constants;
}

-- what the last stage answers, after passes that find nothing
pub checked_behind : (files : List IdlFile) (result : Result Schema CheckFault) → ((schema : PlainSchema) → IsSchemaOf (program_in files) schema → IsSound schema)
    → AllByRecursion (FindsNothing (program_in files)) spot_passes → IsValued (program_in files) result → IsCheckOf (program_in files) result
checked_behind files (Ok schema) sound none h =
    let made = schema_made (program_in files) (schema_of schema) none h in
    (made, sound (schema_of schema) made)
checked_behind files (Err fault) sound none h =
    let program = program_in files in
    first_of_all program fault
    (tells_more (IsFirstOf program bad_constant) (IsFirstAmong program passes) (λ flaw first. first_past program spot_passes (bad_constant ∷ []) flaw none (inl first)) fault h)

-- a fault at spots is the first
pub checked_before : (program : Program) (fault : CheckFault) → TellsFlaw (IsFirstAmong program spot_passes) fault → TellsFlaw (IsFirstFlaw program) fault
checked_before program fault h = first_of_all program fault (stops program spot_passes (bad_constant ∷ []) fault h)
