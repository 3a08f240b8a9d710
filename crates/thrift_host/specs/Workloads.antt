-- What is promised of a workload that is run: the tutorial's calculator, served on the connections of a script that is made from a seed.
use Rattle.std.specs.Prelude.{◌≡◌, ℕ, Bool, List, [], ◌∷◌, codes, Option, None}
use Rattle.limits.specs.Limits.{usual_payload}
use Rattle.streams.specs.Content.{told_more}
use Rattle.streams.specs.Files.{File}
use Rattle.streams.specs.Taken.{IsTakenInPart}
use Rattle.call_rules.specs.declared.kind.Kind.TheVariants.{Calculator}
use Rattle.call_rules.specs.Handling.{ServiceState}
use Rattle.service_binding.specs.Pairs.{NamedKind}
use Rattle.envelope.specs.declared.head.Protocol.TheVariants.{Binary}
use Rattle.command_line.specs.Served.{PlainServed}
use Rattle.schema.specs.LookUp.{service_named}
use Rattle.schema.specs.PlainSchema.{PlainSchema}
use Rattle.struct_skew.specs.WrittenTests.{some_passes}
use Rattle.recorded_runs.specs.Recorded.{Streams}
use Rattle.workload.specs.ExpectedRun.{work_text}
use Rattle.workload.specs.CalculatorTests.{is_calculator}
use Rattle.thrift_host.specs.declared.status.Status.{Status}
use Rattle.thrift_host.specs.declared.status.Status.TheVariants.{Done, WriteFault}
use Rattle.thrift_host.specs.Runs.{AskedRun, MeansUnarranged}
use Rattle.call_rules.specs.Desks.{longest_payload}

-- the calculator's service, by its handler
abbrev pub calculator_pairs : List NamedKind
calculator_pairs = (codes "Calculator", Calculator) ∷ []

-- what a workload serves, as words would say it: the tutorial's calculator in the binary protocol, within the usual limits
abbrev pub workload_says : ℕ → PlainServed
workload_says workers = record {
  idl = codes "@tutorial";
  protocol = Binary;
  workers = workers;
  pairs = calculator_pairs;
  default_service = None;
  limits = record { max_frame = usual_payload; read_budget = longest_payload };
}

-- a workload that is asked for, with so many workers, with these files and handlers
abbrev pub asked_workload : ℕ → Option (List File) → List ServiceState → AskedRun
asked_workload workers files handlers = record { says = workload_says workers; files = files; handlers = handlers }

-- the service of this name passes the tests of a calculator
abbrev pub has_calculator : PlainSchema → Bool
has_calculator s = some_passes (service_named s (codes "Calculator")) (is_calculator s)

-- What a status says of a workload of a seed and so many frames. Done says that its summary was written, and that nothing was read; WriteFault that a beginning
-- of it was. Else nothing was read, and nothing written.
abbrev pub MeansWorkload : AskedRun → (seed size : ℕ) → Status → Streams → Type 0
MeansWorkload r seed size Done s = (s.left ≡ s.left_before) × (s.taken ≡ told_more s.taken_before (work_text seed size))
MeansWorkload r seed size WriteFault s = (s.left ≡ s.left_before) × IsTakenInPart s.taken_before s.taken (work_text seed size)
MeansWorkload r seed size status s = MeansUnarranged r status s
