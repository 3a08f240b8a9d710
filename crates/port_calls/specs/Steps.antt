-- Steps of a call on the way to what it promises. No clause of `call_port` cites them.
use Rattle.std.specs.Prelude.{◌≡◌, ⊤, ℕ, Bool, List, Option, None, Some, IsErr, Result, Ok, Err}
use Rattle.streams.specs.Content.{told_more}
use Rattle.streams.specs.Taken.{IsTakenInPart}
use Rattle.client_desk.specs.declared.ask_fault.AskFault.{AskFault}
use Rattle.client_desk.specs.declared.heard_fault.HeardFault.{HeardFault}
use Rattle.client_desk.specs.Asking.{asked_frame}
use Rattle.client_desk.specs.Clients.{PlainClient}
use Rattle.client_desk.specs.Hearing.{PlainHeard, heard}
use Rattle.port_calls.specs.Asked.{MeansAsked}
use Rattle.port_calls.specs.declared.asking_fault.AskingFault.{AskingFault}
use Rattle.port_calls.specs.declared.asking_fault.AskingFault.TheVariants as asking
use Rattle.thrift_value.specs.declared.value.Value.{Value}
use Rattle.thrift_value.specs.Tree.{Tree}
use Rattle.thrift_value.specs.TreeOf.{tree_of}
use Rattle.port_calls.specs.declared.fault.CallFault.{CallFault}
use Rattle.port_calls.specs.declared.fault.CallFault.TheVariants as faults
use Rattle.port_calls.specs.declared.fault.CallRefusal.TheVariants as refusals
use Rattle.port_calls.specs.declared.fault.ReplyRefusal.{ReplyRefusal}
use Rattle.port_calls.specs.declared.fault.ReplyRefusal.TheVariants as replies
use Rattle.port_calls.specs.Called.{CallChange, IsOutputKept}
use Rattle.port_calls.specs.Calls.{call_id, longest_call}
use Rattle.port_calls.specs.HeardText.{heard_line, sent_line}

-- arguments are what their text says, or the fault says that it is no text of a value
abbrev pub ReadsArguments : Result Value CallFault → Result Tree ℕ → Type 0
ReadsArguments (Ok args) meant = meant ≡ Ok (tree_of args)
ReadsArguments (Err faults.NoMemory) meant = ⊤
ReadsArguments (Err (faults.Refused refusals.ArgsText)) meant = IsErr meant
ReadsArguments (Err _) meant = ⊥

-- a frame is the one that asks for the call, or the fault says why there is none
abbrev pub AsksFrame : {A : Type 0} → (A → List ℕ) → Result A CallFault → Result (List ℕ) AskFault → Type 0
AsksFrame bytes (Ok frame) meant = meant ≡ Ok (bytes frame)
AsksFrame bytes (Err faults.NoMemory) meant = ⊤
AsksFrame bytes (Err (faults.Refused (refusals.Unasked fault))) meant = meant ≡ Err fault
AsksFrame bytes (Err _) meant = ⊥

-- the same by what the text of its arguments is read as
abbrev pub FramesCall : {A : Type 0} → (A → List ℕ) → PlainClient → List ℕ → Result Tree ℕ → Result A CallFault → Type 0
FramesCall bytes client method (Ok args) result = AsksFrame bytes result (asked_frame client method args call_id)
FramesCall bytes client method (Err place) (Err faults.NoMemory) = ⊤
FramesCall bytes client method (Err place) (Err (faults.Refused refusals.ArgsText)) = ⊤
FramesCall bytes client method (Err place) _ = ⊥

-- the fault of a port that gave no answer
abbrev pub fault_of_asking : AskingFault → CallFault
fault_of_asking asking.NetFault = faults.NetFault
fault_of_asking asking.Cut = faults.ReplyRefused replies.Cut
fault_of_asking (asking.SizeFault size) = faults.ReplyRefused (replies.SizeFault size)
fault_of_asking asking.NoMemory = faults.NoMemory

-- a line tells what a payload answers, or the fault says why it is no answer
abbrev pub HearsLine : {A : Type 0} → (A → List ℕ) → Result A CallFault → Result PlainHeard HeardFault → Type 0
HearsLine bytes (Ok line) meant = (h : PlainHeard) × (meant ≡ Ok h) × (bytes line ≡ heard_line h)
HearsLine bytes (Err faults.NoMemory) meant = ⊤
HearsLine bytes (Err (faults.ReplyRefused (replies.Unheard fault))) meant = meant ≡ Err fault
HearsLine bytes (Err _) meant = ⊥

-- the line of what came back: that the call was sent, or what its reply says
abbrev pub TellsReply : {A B : Type 0} → (A → List ℕ) → (B → List ℕ) → PlainClient → List ℕ → Option A → Result B CallFault → Type 0
TellsReply payload bytes c method None (Ok line) = bytes line ≡ sent_line
TellsReply payload bytes c method None (Err faults.NoMemory) = ⊤
TellsReply payload bytes c method None (Err _) = ⊥
TellsReply payload bytes c method (Some reply) result = HearsLine bytes result (heard c method call_id (payload reply))

-- a frame that goes to a port, and whether a reply is waited for
pub record PlainExchange : Type 0 where
  pub port : ℕ
  pub frame : List ℕ
  pub waits : Bool

module _ (client : PlainClient) (method : List ℕ) (e : PlainExchange) (c : CallChange) where
  -- the frame went out through one pipe, and this came back
  abbrev pub IsExchanged : Result (Option (List ℕ)) AskingFault → Type 0
  IsExchanged came = MeansAsked (λ (payload : List ℕ). payload) c.dialled_before c.dialled e.port e.frame e.waits longest_call came

  -- this line tells what came back
  pub record IsTold (line : List ℕ) : Type 0 where
    pub reply : Option (List ℕ)
    pub came : IsExchanged (Ok reply)
    pub told : TellsReply {B = List ℕ} (λ (payload : List ℕ). payload) (λ l. l) client method reply (Ok line)

  abbrev pub TellsUnheard : ReplyRefusal → Type 0
  TellsUnheard replies.Cut = IsExchanged (Err asking.Cut)
  TellsUnheard (replies.SizeFault size) = IsExchanged (Err (asking.SizeFault size))
  TellsUnheard (replies.Unheard fault) = (payload : List ℕ) × IsExchanged (Ok (Some payload)) × (heard client method call_id payload ≡ Err fault)

  -- what an exchange says of the pipe and of the output
  abbrev pub TellsExchange : {A : Type 0} → Result A CallFault → Type 0
  TellsExchange (Ok _) = (line : List ℕ) × IsTold line × (c.taken ≡ told_more c.taken_before line)
  TellsExchange (Err (faults.Refused refusal)) = ⊥
  TellsExchange (Err faults.NetFault) = IsExchanged (Err asking.NetFault) × IsOutputKept c
  TellsExchange (Err (faults.ReplyRefused refusal)) = TellsUnheard refusal × IsOutputKept c
  TellsExchange (Err faults.WriteFault) = (line : List ℕ) × IsTold line × IsTakenInPart c.taken_before c.taken line
  TellsExchange (Err faults.NoMemory) = ((came : Result (Option (List ℕ)) AskingFault) × IsExchanged came) × IsOutputKept c
