-- What the status that a command ends with rules out of what it came to.
use Rattle.std.proofs.Common.{◌≡◌, ◌≢◌, false, Result, Ok, Err, refl, sym, subst}
use Rattle.command_line.specs.Served.{PlainServed}
use Rattle.idl_check.specs.declared.refusal.NoSchema.{NoSchema}
use Rattle.idl_check.specs.declared.refusal.NoSchema.TheVariants as reasons
use Rattle.idl_check.specs.Telling.{is_file_fault}
use Rattle.port_calls.specs.declared.fault.CallFault.{CallFault}
use Rattle.port_calls.specs.declared.fault.CallFault.TheVariants as call_faults
use Rattle.port_serving.specs.declared.fault.PortFault.TheVariants as port_faults
use Rattle.recorded_runs.specs.declared.fault.ServingFault.TheVariants as serving_faults
use Rattle.thrift_host.specs.declared.status.Status.{Status}
use Rattle.thrift_host.specs.declared.status.Status.TheVariants.{FileFault, ReadFault, WriteFault, NetFault}
use Rattle.thrift_host.specs.declared.arranging.RunFault.{RunFault}
use Rattle.thrift_host.specs.declared.arranging.RunFault.TheVariants as faults
use Rattle.thrift_host.specs.CallSteps.{EndsAfterCall}
use Rattle.thrift_host.specs.Counts.{GoesOn}
use Rattle.thrift_host.specs.Errors.{Errors}
use Rattle.thrift_host.specs.Steps.{EndsWithout, EndsAfterRun, is_file_missed, serves_on}

module _ (ended : Status) (e : Errors) where
  -- a file of an IDL that couldn't be read
  pub read_reason : (reason : NoSchema) → EndsWithout reason ended e → ended ≢ FileFault → is_file_fault reason ≡ false
  read_reason (reasons.Refused refusal) ends not_it = refl
  read_reason reasons.FileFault ends not_it = absurd (not_it ends.0)
  read_reason reasons.NoMemory ends not_it = refl

  module _ {A : Type 0} (says : PlainServed) where
    pub read_run : (came_to : Result A RunFault) → EndsAfterRun says came_to ended e → ended ≢ FileFault → is_file_missed came_to ≡ false
    read_run (Ok x) ends not_it = refl
    read_run (Err (faults.NoSchema reason)) ends not_it = read_reason reason ends not_it
    read_run (Err (faults.Unbound fault)) ends not_it = refl
    read_run (Err (faults.Unanswered fault)) ends not_it = refl
    read_run (Err (faults.Unserved port_faults.FileFault)) ends not_it = absurd (not_it ends.0)
    read_run (Err (faults.Unserved port_faults.NetFault)) ends not_it = refl
    read_run (Err (faults.Unserved port_faults.WriteFault)) ends not_it = refl
    read_run (Err (faults.Unserved port_faults.JournalFault)) ends not_it = refl
    read_run (Err (faults.Unserved port_faults.NoMemory)) ends not_it = refl

    -- an input that couldn't be read
    pub input_read : (came_to : Result A RunFault) → EndsAfterRun says came_to ended e → ended ≢ ReadFault → came_to ≢ Err (faults.Unanswered serving_faults.ReadFault)
    input_read came_to ends not_it is = not_it (subst (λ r. EndsAfterRun says r ended e) is ends).0

    -- an output that couldn't be written
    pub output_written : (came_to : Result A RunFault) → EndsAfterRun says came_to ended e → ended ≢ WriteFault
        → came_to ≢ Err (faults.Unanswered serving_faults.WriteFault)
    output_written came_to ends not_it is = not_it (subst (λ r. EndsAfterRun says r ended e) is ends).0

  -- the same of a call, and of the net
  pub line_written : {A : Type 0} (came_to : Result A CallFault) → EndsAfterCall came_to ended e → ended ≢ WriteFault → came_to ≢ Err call_faults.WriteFault
  line_written came_to ends not_it is = not_it (subst (λ r. EndsAfterCall r ended e) is ends).0

  pub net_held : {A : Type 0} (came_to : Result A CallFault) → EndsAfterCall came_to ended e → ended ≢ NetFault → came_to ≢ Err call_faults.NetFault
  net_held came_to ends not_it is = not_it (subst (λ r. EndsAfterCall r ended e) is ends).0

  -- serving that went on after a fault
  pub served_on : {A : Type 0} (says : PlainServed) (came_to : Result A RunFault) → EndsAfterRun says came_to ended e → (GoesOn ended → ⊥) → serves_on came_to ≡ false
  served_on says (Ok x) ends over = refl
  served_on says (Err (faults.NoSchema reason)) ends over = refl
  served_on says (Err (faults.Unbound fault)) ends over = refl
  served_on says (Err (faults.Unanswered fault)) ends over = refl
  served_on says (Err (faults.Unserved port_faults.FileFault)) ends over = refl
  served_on says (Err (faults.Unserved port_faults.NetFault)) ends over = absurd (over (subst GoesOn (sym ends.0) tt))
  served_on says (Err (faults.Unserved port_faults.WriteFault)) ends over = refl
  served_on says (Err (faults.Unserved port_faults.JournalFault)) ends over = absurd (over (subst GoesOn (sym ends.0) tt))
  served_on says (Err (faults.Unserved port_faults.NoMemory)) ends over = absurd (over (subst GoesOn (sym ends.0) tt))

  -- a summary that couldn't be written
  pub summary_written : {A : Type 0} (says : PlainServed) (came_to : Result A RunFault) → EndsAfterRun says came_to ended e → ended ≢ WriteFault
      → came_to ≢ Err (faults.Unserved port_faults.WriteFault)
  summary_written says came_to ends not_it is = not_it (subst (λ r. EndsAfterRun says r ended e) is ends).0
