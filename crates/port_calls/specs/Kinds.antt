-- The words of kinds of refusals.
use Rattle.std.specs.Prelude.{ℕ, List, codes}
use Rattle.client_desk.specs.declared.ask_fault.AskFault.TheVariants.{NoMethod, Unfit, TooLarge, NoMemory}
use Rattle.client_desk.specs.declared.heard_fault.HeardFault.TheVariants as heard
use Rattle.port_calls.specs.declared.fault.CallRefusal.{CallRefusal}
use Rattle.port_calls.specs.declared.fault.CallRefusal.TheVariants.{NoService, ArgsText, Unasked}
use Rattle.port_calls.specs.declared.fault.ReplyRefusal.{ReplyRefusal}
use Rattle.port_calls.specs.declared.fault.ReplyRefusal.TheVariants.{Cut, SizeFault, Unheard}

-- why a call isn't made
abbrev pub refused_call_kind : CallRefusal → List ℕ
refused_call_kind NoService = codes "NoService"
refused_call_kind ArgsText = codes "ArgsText"
refused_call_kind (Unasked NoMethod) = codes "NoMethod"
refused_call_kind (Unasked Unfit) = codes "Unfit"
refused_call_kind (Unasked TooLarge) = codes "TooLarge"
refused_call_kind (Unasked NoMemory) = codes "NoMemory"

-- why what came back is no answer
abbrev pub refused_reply_kind : ReplyRefusal → List ℕ
refused_reply_kind Cut = codes "Cut"
refused_reply_kind (SizeFault size) = codes "SizeFault"
refused_reply_kind (Unheard (heard.Head fault)) = codes "Head"
refused_reply_kind (Unheard heard.WrongName) = codes "WrongName"
refused_reply_kind (Unheard (heard.WrongId id)) = codes "WrongId"
refused_reply_kind (Unheard (heard.Wire fault)) = codes "Wire"
refused_reply_kind (Unheard (heard.Skew fault)) = codes "Skew"
refused_reply_kind (Unheard heard.NoMemory) = codes "NoMemory"
