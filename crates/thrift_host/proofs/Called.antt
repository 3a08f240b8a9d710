-- What a call means by how it ends.
use Rattle.std.proofs.Common.{◌≡◌, ap, inl, inr, ℕ, List, Option, None, Some, Result, Ok, Err, sym, subst}
use Rattle.streams.specs.Files.{File}
use Rattle.outside.specs.Calling.{Dialled}
use Rattle.schema.specs.PlainSchema.{PlainSchema}
use Rattle.idl_check.specs.declared.refusal.NoSchema.{NoSchema}
use Rattle.idl_check.specs.declared.refusal.NoSchema.TheVariants as reasons
use Rattle.idl_check.specs.Telling.{TellsWhy}
use Rattle.idl_check.specs.Verdicts.{IsIdlVerdict, IsUnreadIdl}
use Rattle.command_line.specs.declared.command.WordsFault.{WordsFault}
use Rattle.command_line.specs.declared.command.WordsFault.TheVariants as words_faults
use Rattle.command_line.specs.Answering.{AnswersWords}
use Rattle.command_line.specs.Calls.{PlainAsking}
use Rattle.command_line.specs.Words.{PlainCommand, checks, compares, rehearses, records, serves, runs, calls}
use Rattle.port_calls.specs.declared.asking_fault.AskingFault.{AskingFault}
use Rattle.port_calls.specs.declared.asking_fault.AskingFault.TheVariants as asking
use Rattle.port_calls.specs.declared.fault.CallFault.TheVariants as faults
use Rattle.port_calls.specs.declared.fault.ReplyRefusal.{ReplyRefusal}
use Rattle.port_calls.specs.declared.fault.ReplyRefusal.TheVariants.{Cut, SizeFault, Unheard}
use Rattle.port_calls.specs.Called.{CallChange, IsCallUntouched, IsAsked, IsUnanswered}
use Rattle.port_calls.specs.Calls.{PlainPortCall, IsSent}
use Rattle.thrift_host.specs.declared.status.Status.{Status}
use Rattle.thrift_host.specs.declared.status.Status.TheVariants as status
use Rattle.thrift_host.specs.Calls.{MeansPortCall, port_call_by, refused_call_text, refused_reply_text}
use Rattle.thrift_host.specs.CallSteps.{EndsCall}
use Rattle.thrift_host.specs.Errors.{Errors, IsSaid, IsLineSaid}
use Rattle.thrift_host.specs.Runs.{HasSchema}
use Rattle.thrift_host.specs.Steps.{EndsAs, EndsSaying, EndsWithout, EndsWithoutCommand}
use Rattle.thrift_host.specs.Top.{MeansCalled}

-- the port was asked, where what came back is no answer
asked_then : (call : PlainPortCall) (c : CallChange) (refusal : ReplyRefusal) → IsUnanswered call c refusal
    → (sent : IsSent call) × (came : Result (Option (List ℕ)) AskingFault) × IsAsked call c sent came
asked_then call c Cut u = (u.0, Err asking.Cut, u.1)
asked_then call c (SizeFault size) u = (u.0, Err (asking.SizeFault size), u.1)
asked_then call c (Unheard fault) u = (u.0, Ok (Some u.1), u.2)

module _ (files : Option (List File)) (a : PlainAsking) (c : CallChange) (e : Errors) where
  ended_as : (meant ended : Status) → EndsAs meant ended e → (IsLineSaid meant e → MeansPortCall files a meant c e) → MeansPortCall files a ended c e
  ended_as meant ended ends means = subst (λ st. MeansPortCall files a st c e) (sym ends.0) (means ends.1)

  ended_saying : (meant : Status) (text : List ℕ) (ended : Status) → EndsSaying meant text ended e → (IsSaid e text → MeansPortCall files a meant c e)
      → (IsLineSaid status.NoMemory e → MeansPortCall files a status.NoMemory c e) → MeansPortCall files a ended c e
  ended_saying meant text ended (inl said) means no_memory = subst (λ st. MeansPortCall files a st c e) (sym said.0) (means said.1)
  ended_saying meant text ended (inr ends) means no_memory = ended_as status.NoMemory ended ends no_memory

  -- by the schema of its IDL
  pub call_means : (schema : PlainSchema) (ended : Status) → HasSchema files a.idl schema → EndsCall (port_call_by a schema) ended c e → MeansPortCall files a ended c e
  call_means schema ended has (Ok x, m, ends) = ended_as status.Done ended ends (λ said. ((schema, has, m), said))
  call_means schema ended has (Err (faults.Refused refusal), m, ends) =
      ended_saying status.CallRefused (refused_call_text refusal) ended ends (λ said. (refusal, (schema, has, m), said)) (λ said. (inl m.1, said))
  call_means schema ended has (Err (faults.ReplyRefused refusal), m, ends) =
      ended_saying status.ReplyRefused (refused_reply_text refusal) ended ends (λ said. (refusal, (schema, has, m), said))
      (λ said. (inr (schema, has, (m.1, inr (asked_then (port_call_by a schema) c refusal m.0))), said))
  call_means schema ended has (Err faults.NetFault, m, ends) = ended_as status.NetFault ended ends (λ said. ((schema, has, m), said))
  call_means schema ended has (Err faults.WriteFault, m, ends) = ended_as status.WriteFault ended ends (λ said. ((schema, has, m), said))
  call_means schema ended has (Err faults.NoMemory, m, ends) = ended_as status.NoMemory ended ends (λ said. (inr (schema, has, m), said))

  -- without a schema
  pub no_call_means : (reason : NoSchema) (ended : Status) → IsCallUntouched c → TellsWhy (IsIdlVerdict files a.idl) (IsUnreadIdl files a.idl) reason → EndsWithout reason ended e
      → MeansPortCall files a ended c e
  no_call_means (reasons.Refused refusal) ended same tells ends =
      ended_saying status.IdlRefused _ ended ends (λ said. (refusal.file, refusal.at, refusal.kind, tells, (same, said))) (λ said. (inl same, said))
  no_call_means reasons.FileFault ended same tells ends = ended_as status.FileFault ended ends (λ said. (tells, same, said))
  no_call_means reasons.NoMemory ended same tells ends = ended_as status.NoMemory ended ends (λ said. (inl same, said))

  -- it reads no input and writes no journal
  pub no_read : (ended : Status) → MeansPortCall files a ended c e → ended ≡ status.ReadFault → ⊥
  no_read ended means is = subst (λ st. MeansPortCall files a st c e) is means

  pub no_journal : (ended : Status) → MeansPortCall files a ended c e → ended ≡ status.JournalFault → ⊥
  no_journal ended means is = subst (λ st. MeansPortCall files a st c e) is means

-- what is said of a call's parts as they were lent is said of the words
pub lent_call : (a : PlainAsking) (schema : PlainSchema) (name method args : List ℕ) (P : PlainPortCall → Type 0) → name ≡ a.name → method ≡ a.method → args ≡ a.args
    → P (record { schema = schema; protocol = a.protocol; name = name; method = method; args = args; multiplexed = a.multiplexed; port = a.port }) → P (port_call_by a schema)
lent_call a schema name method args P is_name is_method is_args h =
    subst (λ (n : List ℕ). P (record { schema = schema; protocol = a.protocol; name = n; method = a.method; args = a.args; multiplexed = a.multiplexed; port = a.port })) is_name
    (subst (λ (m : List ℕ). P (record { schema = schema; protocol = a.protocol; name = name; method = m; args = a.args; multiplexed = a.multiplexed; port = a.port })) is_method
    (subst (λ (t : List ℕ). P (record { schema = schema; protocol = a.protocol; name = name; method = method; args = t; multiplexed = a.multiplexed; port = a.port })) is_args h))

-- where the words weren't read as a command, no port was dialled
memory_called : (meant : Option PlainCommand) (files : Option (List File)) (c : CallChange) (e : Errors) → IsCallUntouched c → IsLineSaid status.NoMemory e
    → MeansCalled meant files status.NoMemory c e
memory_called (Some (checks idl)) files c e same said = same.0
memory_called (Some (compares old new)) files c e same said = same.0
memory_called (Some (rehearses says)) files c e same said = same.0
memory_called (Some (records says)) files c e same said = same.0
memory_called (Some (serves says port accept journal)) files c e same said = ap (λ (d : Dialled). d.called) same.0
memory_called (Some (runs seed size workers)) files c e same said = same.0
memory_called (Some (calls asked)) files c e same said = (inl same, said)
memory_called None files c e same said = same.0

pub unread_called : (fault : WordsFault) (ended : Status) (files : Option (List File)) (c : CallChange) (e : Errors) → EndsWithoutCommand fault ended e → IsCallUntouched c
    → (meant : Option PlainCommand) → AnswersWords (Err fault) meant → MeansCalled meant files ended c e
unread_called words_faults.Usage ended files c e ends same meant none = subst (λ m. MeansCalled m files ended c e) (sym none) same.0
unread_called words_faults.NoMemory ended files c e ends same meant any =
    subst (λ st. MeansCalled meant files st c e) (sym ends.0) (memory_called meant files c e same ends.1)
