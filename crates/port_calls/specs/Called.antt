-- What an answer says of the pipe and of the output.
use Rattle.std.specs.Prelude.{◌≡◌, ◌⊎◌, ℕ, List, Option, None, Some, Result, Ok, Err}
use Rattle.outside.specs.Calling.{Dialled}
use Rattle.streams.specs.Content.{told_more}
use Rattle.streams.specs.Taken.{IsTakenInPart}
use Rattle.client_desk.specs.declared.heard_fault.HeardFault.{HeardFault}
use Rattle.client_desk.specs.Hearing.{PlainHeard, heard}
use Rattle.port_calls.specs.Asked.{MeansAsked}
use Rattle.port_calls.specs.declared.asking_fault.AskingFault.{AskingFault}
use Rattle.port_calls.specs.declared.asking_fault.AskingFault.TheVariants as asking
use Rattle.port_calls.specs.declared.fault.CallFault.{CallFault}
use Rattle.port_calls.specs.declared.fault.CallFault.TheVariants.{Refused, NetFault, ReplyRefused, WriteFault, NoMemory}
use Rattle.port_calls.specs.declared.fault.ReplyRefusal.{ReplyRefusal}
use Rattle.port_calls.specs.declared.fault.ReplyRefusal.TheVariants.{Cut, SizeFault, Unheard}
use Rattle.port_calls.specs.Calls.{PlainPortCall, IsSent, IsCallRefused, caller, call_id, longest_call, waits_for}
use Rattle.port_calls.specs.HeardText.{heard_line, sent_line}

-- what a call found and left: what was dialled, and what the output had taken
pub record CallChange : Type 0 where
  pub dialled_before : Dialled
  pub dialled : Dialled
  pub taken_before : Option (List ℕ)
  pub taken : Option (List ℕ)

-- nothing was written
abbrev pub IsOutputKept : CallChange → Type 0
IsOutputKept c = c.taken ≡ c.taken_before

-- nothing was dialled, and nothing written
abbrev pub IsCallUntouched : CallChange → Type 0
IsCallUntouched c = (c.dialled ≡ c.dialled_before) × IsOutputKept c

module _ (a : PlainPortCall) (c : CallChange) where
  -- the frame went out through one pipe, and this came back
  abbrev pub IsAsked : IsSent a → Result (Option (List ℕ)) AskingFault → Type 0
  IsAsked sent came = MeansAsked (λ (payload : List ℕ). payload) c.dialled_before c.dialled a.port sent.frame (waits_for a.schema sent.service a.method) longest_call came

  -- a payload answers the call so
  abbrev pub IsHeard : IsSent a → List ℕ → Result PlainHeard HeardFault → Type 0
  IsHeard sent payload what = heard (caller a sent.service) a.method call_id payload ≡ what

  -- the line of what came back: that the call was sent, or what its reply says
  abbrev pub IsReplyLine : IsSent a → Option (List ℕ) → List ℕ → Type 0
  IsReplyLine sent None line = line ≡ sent_line
  IsReplyLine sent (Some payload) line = (h : PlainHeard) × IsHeard sent payload (Ok h) × (line ≡ heard_line h)

  -- the call was made and answered, and this line tells so
  pub record IsCallAnswered (line : List ℕ) : Type 0 where
    pub sent : IsSent a
    pub reply : Option (List ℕ)
    pub came : IsAsked sent (Ok reply)
    pub is_line : IsReplyLine sent reply line

  -- the call was made, and what came back is no answer
  abbrev pub IsUnanswered : ReplyRefusal → Type 0
  IsUnanswered Cut = (sent : IsSent a) × IsAsked sent (Err asking.Cut)
  IsUnanswered (SizeFault size) = (sent : IsSent a) × IsAsked sent (Err (asking.SizeFault size))
  IsUnanswered (Unheard fault) =
      (sent : IsSent a) × (payload : List ℕ) × IsAsked sent (Ok (Some payload)) × IsHeard sent payload (Err fault)

  -- what a fault says: a write fails at a line that tells an answer; memory may run out before the port is dialled, or after
  abbrev pub MeansCallFault : CallFault → Type 0
  MeansCallFault (Refused refusal) = IsCallRefused a refusal × IsCallUntouched c
  MeansCallFault NetFault = ((sent : IsSent a) × IsAsked sent (Err asking.NetFault)) × IsOutputKept c
  MeansCallFault (ReplyRefused refusal) = IsUnanswered refusal × IsOutputKept c
  MeansCallFault WriteFault = (line : List ℕ) × IsCallAnswered line × IsTakenInPart c.taken_before c.taken line
  MeansCallFault NoMemory =
      IsOutputKept c × ((c.dialled ≡ c.dialled_before) ⊎ ((sent : IsSent a) × (came : Result (Option (List ℕ)) AskingFault) × IsAsked sent came))

  -- what a result says: the call was made and answered, and the line that tells so was written
  abbrev pub MeansCall : {A : Type 0} → Result A CallFault → Type 0
  MeansCall (Ok _) = (line : List ℕ) × IsCallAnswered line × (c.taken ≡ told_more c.taken_before line)
  MeansCall (Err fault) = MeansCallFault fault
