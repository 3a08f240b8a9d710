-- What an exchange with a port says of a call.
use Rattle.std.proofs.Common.{◌≡◌, ℕ, suc, ◌+◌, ◌<◌, Bool, true, false, cond, is_some, MatchOption, arith, List, [], ◌∷◌, length, Option, Some, None, Result, Ok, Err, inl, inr, ⊎_elim, IsErr, refl, subst, sym}
use Rattle.std.specs.Prelude.{⊤}
use Rattle.std.specs.List.{position_from}
use Rattle.outside.specs.Calling.{PastPipe, Dialled}
use Rattle.call_model.specs.Names.{separator_of}
use Rattle.client_desk.specs.Clients.{PlainClient}
use Rattle.schema.specs.LookUp.{is_service_name, service_named}
use Rattle.schema.specs.PlainSchema.{PlainSchema}
use Rattle.schema.specs.Sound.{IsPlaceIn}
use Rattle.thrift_value.specs.Tree.{Tree}
use Rattle.value_text.specs.Reading.{reading_of}
use Rattle.port_calls.specs.Asked.{MayCome, MayBeUndialled, PipeTells, TellsOneMore, MeansAsked}
use Rattle.port_calls.specs.declared.asking_fault.AskingFault.{AskingFault}
use Rattle.port_calls.specs.declared.asking_fault.AskingFault.TheVariants as asking
use Rattle.port_calls.specs.declared.fault.CallFault.{CallFault}
use Rattle.port_calls.specs.declared.fault.CallFault.TheVariants as faults
use Rattle.port_calls.specs.declared.fault.CallRefusal.TheVariants as refusals
use Rattle.port_calls.specs.declared.fault.ReplyRefusal.TheVariants as replies
use Rattle.port_calls.specs.Called.{CallChange, IsCallUntouched, IsOutputKept, IsReplyLine, IsCallAnswered, MeansCall, MeansCallFault}
use Rattle.port_calls.specs.Calls.{PlainPortCall, IsSent, caller, longest_call, service_called, service_known, waits_for}
use Rattle.port_calls.specs.Steps.{PlainExchange, FramesCall, IsTold, TellsExchange, TellsReply, fault_of_asking}

-- what came, as plain data
abbrev came : {A : Type 0} → (A → List ℕ) → Result (Option A) AskingFault → Result (Option (List ℕ)) AskingFault
came view (Ok None) = Ok None
came view (Ok (Some a)) = Ok (Some (view a))
came view (Err fault) = Err fault

module _ {A : Type 0} (view : A → List ℕ) (port : ℕ) (sent : List ℕ) (waits : Bool) (most : ℕ) where
  plain_tells : (r : Result (Option A) AskingFault) (pipe : PastPipe) → PipeTells view port sent waits most r pipe
      → PipeTells (λ (payload : List ℕ). payload) port sent waits most (came view r) pipe
  plain_tells (Ok None) pipe h = h
  plain_tells (Ok (Some a)) pipe h = h
  plain_tells (Err asking.NetFault) pipe h = h
  plain_tells (Err asking.Cut) pipe h = h
  plain_tells (Err (asking.SizeFault z)) pipe h = h
  plain_tells (Err asking.NoMemory) pipe h = h

  plain_undialled : (r : Result (Option A) AskingFault) → MayBeUndialled r → MayBeUndialled (came view r)
  plain_undialled (Ok None) h = h
  plain_undialled (Ok (Some a)) h = h
  plain_undialled (Err asking.NetFault) h = h
  plain_undialled (Err asking.Cut) h = h
  plain_undialled (Err (asking.SizeFault z)) h = h
  plain_undialled (Err asking.NoMemory) h = h

  plain_more : (before now : Option (List PastPipe)) (r : Result (Option A) AskingFault) → TellsOneMore before now (PipeTells view port sent waits most r)
      → TellsOneMore before now (PipeTells (λ (payload : List ℕ). payload) port sent waits most (came view r))
  plain_more None now r h = h
  plain_more (Some rows) now r (pipe, is, tells) = (pipe, is, plain_tells r pipe tells)

  plain_comes : (r : Result (Option A) AskingFault) → MayCome view waits most r → MayCome (λ (payload : List ℕ). payload) waits most (came view r)
  plain_comes (Ok None) h = h
  plain_comes (Ok (Some a)) h = h
  plain_comes (Err asking.NetFault) h = h
  plain_comes (Err asking.Cut) h = h
  plain_comes (Err (asking.SizeFault z)) h = h
  plain_comes (Err asking.NoMemory) h = h

  plain_asked : (before now : Dialled) (r : Result (Option A) AskingFault) → MeansAsked view before now port sent waits most r
      → MeansAsked (λ (payload : List ℕ). payload) before now port sent waits most (came view r)
  plain_asked before now r m =
      record {
        comes = plain_comes r m.comes;
        so = ⊎_elim (λ h. inl (record { once = h.once; told = plain_more before.called now.called r h.told })) (λ h. inr (h.0, plain_undialled r h.1)) m.so;
      }

module _ {A B : Type 0} (payload : A → List ℕ) (bytes : B → List ℕ) (client : PlainClient) (method : List ℕ) (e : PlainExchange) (c : CallChange) where
  abbrev Asked : Result (Option A) AskingFault → Type 0
  Asked r = MeansAsked payload c.dialled_before c.dialled e.port e.frame e.waits longest_call r

  plain : (r : Result (Option A) AskingFault) → Asked r → MeansAsked (λ (p : List ℕ). p) c.dialled_before c.dialled e.port e.frame e.waits longest_call (came payload r)
  plain r m = plain_asked payload e.port e.frame e.waits longest_call c.dialled_before c.dialled r m

  -- no answer came
  unasked : (D : Type 0) (fault : AskingFault) → Asked (Err fault) → IsOutputKept c → TellsExchange client method e c {A = D} (Err (fault_of_asking fault))
  unasked D asking.NetFault m same = (plain (Err asking.NetFault) m, same)
  unasked D asking.Cut m same = (plain (Err asking.Cut) m, same)
  unasked D (asking.SizeFault size) m same = (plain (Err (asking.SizeFault size)) m, same)
  unasked D asking.NoMemory m same = ((Err asking.NoMemory, plain (Err asking.NoMemory) m), same)

  -- what came is no answer
  unheard : (D : Type 0) (reply : Option A) (fault : CallFault) → Asked (Ok reply) → TellsReply payload bytes client method reply (Err fault) → IsOutputKept c
      → TellsExchange client method e c {A = D} (Err fault)
  unheard D None faults.NoMemory m told same = ((Ok None, plain (Ok None) m), same)
  unheard D None (faults.Refused refusal) m told same = absurd told
  unheard D None faults.NetFault m told same = absurd told
  unheard D None (faults.ReplyRefused refusal) m told same = absurd told
  unheard D None faults.WriteFault m told same = absurd told
  unheard D (Some a) faults.NoMemory m told same = ((Ok (Some (payload a)), plain (Ok (Some a)) m), same)
  unheard D (Some a) (faults.ReplyRefused (replies.Unheard fault)) m told same = ((payload a, plain (Ok (Some a)) m, told), same)
  unheard D (Some a) (faults.ReplyRefused replies.Cut) m told same = absurd told
  unheard D (Some a) (faults.ReplyRefused (replies.SizeFault size)) m told same = absurd told
  unheard D (Some a) (faults.Refused refusal) m told same = absurd told
  unheard D (Some a) faults.NetFault m told same = absurd told
  unheard D (Some a) faults.WriteFault m told same = absurd told

  pub ends_unasked : (D : Type 0) (fault : AskingFault) (ended : CallFault) → ended ≡ fault_of_asking fault → Asked (Err fault) → IsOutputKept c
      → TellsExchange client method e c {A = D} (Err ended)
  ends_unasked D fault ended is m same = subst (λ (f : CallFault). TellsExchange client method e c {A = D} (Err f)) (sym is) (unasked D fault m same)

  pub ends_unheard : (D : Type 0) (reply : Option A) (fault : CallFault) (ended : Result D CallFault) → ended ≡ Err fault → Asked (Ok reply)
      → TellsReply payload bytes client method reply (Err fault) → IsOutputKept c → TellsExchange client method e c ended
  ends_unheard D reply fault ended is m told same = subst (λ (r : Result D CallFault). TellsExchange client method e c r) (sym is) (unheard D reply fault m told same)

  -- a line tells what came
  pub is_told : (reply : Option A) (line : B) → Asked (Ok reply) → TellsReply payload bytes client method reply (Ok line) → IsTold client method e c (bytes line)
  is_told None line m told = record { reply = None; came = plain (Ok None) m; told = told }
  is_told (Some a) line m told = record { reply = Some (payload a); came = plain (Ok (Some a)) m; told = told }

-- what an exchange says is what the call means whose frame went out
module _ (a : PlainPortCall) (c : CallChange) (sent : IsSent a) where
  abbrev Exchange : PlainExchange
  Exchange = record { port = a.port; frame = sent.frame; waits = waits_for a.schema sent.service a.method }

  line_of : (reply : Option (List ℕ)) (line : List ℕ) → TellsReply {B = List ℕ} (λ (p : List ℕ). p) (λ l. l) (caller a sent.service) a.method reply (Ok line)
      → IsReplyLine a c sent reply line
  line_of None line told = told
  line_of (Some payload) line told = told

  answered : (line : List ℕ) → IsTold (caller a sent.service) a.method Exchange c line → IsCallAnswered a c line
  answered line told = record { sent = sent; reply = told.reply; came = told.came; is_line = line_of told.reply line told.told }

  pub call_means : {A : Type 0} (r : Result A CallFault) → TellsExchange (caller a sent.service) a.method Exchange c r → MeansCall a c r
  call_means (Ok x) tells = (tells.0, answered tells.0 tells.1, tells.2)
  call_means (Err (faults.Refused refusal)) tells = absurd tells
  call_means (Err faults.NetFault) tells = ((sent, tells.0), tells.1)
  call_means (Err (faults.ReplyRefused replies.Cut)) tells = ((sent, tells.0), tells.1)
  call_means (Err (faults.ReplyRefused (replies.SizeFault size))) tells = ((sent, tells.0), tells.1)
  call_means (Err (faults.ReplyRefused (replies.Unheard fault))) tells = ((sent, tells.0.0, tells.0.1, tells.0.2), tells.1)
  call_means (Err faults.WriteFault) tells = (tells.0, answered tells.0 tells.1, tells.2)
  call_means (Err faults.NoMemory) tells = (tells.1, inr (sent, tells.0.0, tells.0.1))

-- the service that is known by a name is one of the schema's
within_case : (b : Bool) (i n : ℕ) (o : Option ℕ) → MatchOption o ⊤ (λ k. k < (i + 1) + n) → MatchOption (cond b (Some i) o) ⊤ (λ k. k < i + suc n)
within_case true i n o h = omega arith
within_case false i n None h = tt
within_case false i n (Some k) h = omega (arith, h)

position_within : {A : Type 0} (test : A → Bool) (i : ℕ) (xs : List A) → MatchOption (position_from test i xs) ⊤ (λ k. k < i + length xs)
position_within test i [] = tt
position_within test i (x ∷ xs) = within_case (test x) i (length xs) (position_from test (i + 1) xs) (position_within test (i + 1) xs)

found_in : (whole : Option ℕ) (o : Option ℕ) (service n : ℕ) → MatchOption o ⊤ (λ k. k < n) → cond (is_some whole) None o ≡ Some service → service < n
found_in None (Some k) service n h is = (let same : k ≡ service = cc in subst (λ (x : ℕ). x < n) same h)
found_in None None service n h is = absurd (let g : ⊥ = cc in g)
found_in (Some at) o service n h is = absurd (let g : ⊥ = cc in g)

pub known_place : (s : PlainSchema) (name : List ℕ) (service : ℕ) → service_known s name ≡ Some service → IsPlaceIn s.services service
known_place s name service is =
    let inside : service < 0 + length s.services =
    found_in (separator_of name) (service_named s name) service (0 + length s.services) (position_within (is_service_name s name) 0 s.services) is in
    omega (arith, inside)

-- what the making of a frame says of a call of a service, by who calls it
module _ {B : Type 0} (bytes : B → List ℕ) (a : PlainPortCall) (c : CallChange) (service : ℕ) (is_service : service_called a ≡ Some service) (client : PlainClient)
    (is_client : client ≡ caller a service) where
  -- the call means what the exchange says
  made_by : {D : Type 0} (frame : B) (read : Result Tree ℕ) → reading_of a.args ≡ read → FramesCall bytes (caller a service) a.method read (Ok frame)
      → (r : Result D CallFault)
      → TellsExchange (caller a service) a.method (record { port = a.port; frame = bytes frame; waits = waits_for a.schema service a.method }) c r → MeansCall a c r
  made_by frame (Ok args) is framed r tells =
      call_means a c (record { service = service; args = args; frame = bytes frame; is_service = is_service; is_args = is; is_frame = framed }) r tells
  made_by frame (Err place) is framed r tells = absurd framed

  pub made : {D : Type 0} (frame : B) (lent : List ℕ) (waits : Bool) → FramesCall bytes client a.method (reading_of a.args) (Ok frame) → lent ≡ bytes frame
      → waits ≡ waits_for a.schema service a.method → (r : Result D CallFault)
      → TellsExchange client a.method (record { port = a.port; frame = lent; waits = waits }) c r → MeansCall a c r
  made frame lent waits framed is_lent is_waits r tells =
      made_by frame (reading_of a.args) refl (subst (λ (cl : PlainClient). FramesCall bytes cl a.method (reading_of a.args) (Ok frame)) is_client framed) r
      (subst (λ (cl : PlainClient). TellsExchange cl a.method (record { port = a.port; frame = bytes frame; waits = waits_for a.schema service a.method }) c r) is_client
      (subst (λ (l : List ℕ). TellsExchange client a.method (record { port = a.port; frame = l; waits = waits_for a.schema service a.method }) c r) is_lent
      (subst (λ (w : Bool). TellsExchange client a.method (record { port = a.port; frame = lent; waits = w }) c r) is_waits tells)))

  -- or there is no frame
  refused_by : (fault : CallFault) (read : Result Tree ℕ) → reading_of a.args ≡ read → FramesCall bytes (caller a service) a.method read (Err fault) → IsCallUntouched c
      → MeansCallFault a c fault
  refused_by faults.NoMemory read is framed same = (same.1, inl same.0)
  refused_by (faults.Refused refusals.ArgsText) (Err place) is framed same = ((service, is_service, subst IsErr (sym is) refl), same)
  refused_by (faults.Refused (refusals.Unasked fault)) (Ok args) is framed same = ((service, args, is_service, is, framed), same)
  refused_by (faults.Refused refusals.NoService) (Ok args) is framed same = absurd framed
  refused_by (faults.Refused refusals.NoService) (Err place) is framed same = absurd framed
  refused_by (faults.Refused refusals.ArgsText) (Ok args) is framed same = absurd framed
  refused_by (faults.Refused (refusals.Unasked fault)) (Err place) is framed same = absurd framed
  refused_by faults.NetFault (Ok args) is framed same = absurd framed
  refused_by faults.NetFault (Err place) is framed same = absurd framed
  refused_by (faults.ReplyRefused refusal) (Ok args) is framed same = absurd framed
  refused_by (faults.ReplyRefused refusal) (Err place) is framed same = absurd framed
  refused_by faults.WriteFault (Ok args) is framed same = absurd framed
  refused_by faults.WriteFault (Err place) is framed same = absurd framed

  pub refused_of : {D : Type 0} (fault : CallFault) (ended : Result D CallFault) → ended ≡ Err fault
      → FramesCall bytes client a.method (reading_of a.args) (Err fault) → IsCallUntouched c → MeansCall a c ended
  refused_of {D} fault ended is framed same =
      subst (λ (r : Result D CallFault). MeansCall a c r) (sym is)
      (refused_by fault (reading_of a.args) refl (subst (λ (cl : PlainClient). FramesCall bytes cl a.method (reading_of a.args) (Err fault)) is_client framed) same)
