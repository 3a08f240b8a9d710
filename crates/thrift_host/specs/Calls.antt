-- What is promised of a call that is made at a port.
use Rattle.std.specs.Prelude.{◌⊎◌, ℕ, List, ◌++◌, Option, Ok, codes}
use Rattle.streams.specs.Files.{File}
use Rattle.text_out.specs.Line.{line_of}
use Rattle.schema.specs.PlainSchema.{PlainSchema}
use Rattle.idl_check.specs.Lines.{idl_refusal_text}
use Rattle.idl_check.specs.Verdicts.{IsUnreadIdl}
use Rattle.command_line.specs.Calls.{PlainAsking}
use Rattle.port_calls.specs.declared.fault.CallRefusal.{CallRefusal}
use Rattle.port_calls.specs.declared.fault.ReplyRefusal.{ReplyRefusal}
use Rattle.port_calls.specs.declared.fault.CallFault.TheVariants as faults
use Rattle.port_calls.specs.Called.{CallChange, IsCallUntouched, MeansCall, MeansCallFault}
use Rattle.port_calls.specs.Calls.{PlainPortCall}
use Rattle.port_calls.specs.Kinds.{refused_call_kind, refused_reply_kind}
use Rattle.thrift_host.specs.declared.status.Status.{Status}
use Rattle.thrift_host.specs.declared.status.Status.TheVariants.{Done, IdlRefused, FileFault, WriteFault, NetFault, NoMemory, CallRefused, ReplyRefused}
use Rattle.thrift_host.specs.Checks.{IsRefusedWith}
use Rattle.thrift_host.specs.Errors.{Errors, IsSaid, IsLineSaid}
use Rattle.thrift_host.specs.Runs.{HasSchema}

-- the call of these words, by the schema of their IDL
abbrev pub port_call_by : PlainAsking → PlainSchema → PlainPortCall
port_call_by a schema =
    record {
      schema = schema;
      protocol = a.protocol;
      name = a.name;
      method = a.method;
      args = a.args;
      multiplexed = a.multiplexed;
      port = a.port;
    }

-- the IDL of the words has a schema, by which this holds of their call
abbrev pub IsCallBy : Option (List File) → PlainAsking → (PlainPortCall → Type 0) → Type 0
IsCallBy files a Holds = (schema : PlainSchema) × HasSchema files a.idl schema × Holds (port_call_by a schema)

-- the errors' line of a call that isn't made
abbrev pub refused_call_text : CallRefusal → List ℕ
refused_call_text refusal = line_of (codes "thriftd: call " ++ refused_call_kind refusal)

-- the errors' line of a reply that is no answer
abbrev pub refused_reply_text : ReplyRefusal → List ℕ
refused_reply_text refusal = line_of (codes "thriftd: reply " ++ refused_reply_kind refusal)

-- What a status says of a call: Done says that its frame went to the port through one pipe, that the pipe was hung up, and that the line of the one frame that came back, or of a
-- call without a reply, was added to the output. ReplyRefused says the same of the pipe, and of its kind. The line of each status was added to the errors.
abbrev pub MeansPortCall : Option (List File) → PlainAsking → Status → CallChange → Errors → Type 0
MeansPortCall files a Done c e = IsCallBy files a (λ call. MeansCall call c {A = Unit {0}} (Ok tt)) × IsLineSaid Done e
MeansPortCall files a IdlRefused c e = IsRefusedWith files a.idl (λ file at kind. IsCallUntouched c × IsSaid e (idl_refusal_text file at kind))
MeansPortCall files a FileFault c e = IsUnreadIdl files a.idl × IsCallUntouched c × IsLineSaid FileFault e
MeansPortCall files a CallRefused c e =
    (refusal : CallRefusal) × IsCallBy files a (λ call. MeansCallFault call c (faults.Refused refusal)) × IsSaid e (refused_call_text refusal)
MeansPortCall files a ReplyRefused c e =
    (refusal : ReplyRefusal) × IsCallBy files a (λ call. MeansCallFault call c (faults.ReplyRefused refusal)) × IsSaid e (refused_reply_text refusal)
MeansPortCall files a NetFault c e = IsCallBy files a (λ call. MeansCallFault call c faults.NetFault) × IsLineSaid NetFault e
MeansPortCall files a WriteFault c e = IsCallBy files a (λ call. MeansCallFault call c faults.WriteFault) × IsLineSaid WriteFault e
MeansPortCall files a NoMemory c e =
    (IsCallUntouched c ⊎ IsCallBy files a (λ call. MeansCallFault call c faults.NoMemory)) × IsLineSaid NoMemory e
MeansPortCall files a _ c e = ⊥
