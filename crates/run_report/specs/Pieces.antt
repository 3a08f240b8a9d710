-- Why a report wasn't handed to a sink.
use Rattle.std.specs.Prelude.{◌≡◌, ◌≢◌, ℕ, ◌≤◌, Result, Err}
use Rattle.streams.specs.Cause.{Rose}
use Rattle.run_report.specs.declared.fault.ReportFault.{ReportFault}
use Rattle.run_report.specs.declared.fault.ReportFault.TheVariants.{Failed}

-- the count of faults never falls; the sink is said to have failed only where it rose, and where that isn't said it is as before, also for want of memory
pub record HasReportCause {A : Type 0} (before now : ℕ) (result : Result A ReportFault) : Type 0 where
  pub later : before ≤ now
  pub failed : result ≡ Err Failed → Rose before now
  pub kept : result ≢ Err Failed → now ≡ before
