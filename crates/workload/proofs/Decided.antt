-- What an office decides on the payload of a call of one of its functions, and what it replies.
use Rattle.std.proofs.Common.{◌≡◌, ℕ, ℤ, pos, ◌≤◌, false, if◌then◌else◌, List, [], ◌∷◌, ◌++◌, length, Some, None, Result, Ok, ap, ◌∙◌}
use Rattle.std.proofs.lemmas.Bool.{le-leb}
use Rattle.streams.specs.declared.outcomes.EnvelopeFault.{EnvelopeFault}
use Rattle.host_model.specs.Frames.{frame}
use Rattle.host_model.specs.DeskRules.{Invoke}
use Rattle.envelope.specs.declared.head.Head.{Head}
use Rattle.envelope.specs.declared.head.Protocol.TheVariants.{Binary}
use Rattle.envelope.specs.Spelling.{head_text}
use Rattle.envelope.specs.Readout.{head_at}
use Rattle.thrift_value.specs.Tree.{Tree, of_i32, of_struct, no_fields, field}
use Rattle.binary_codec.specs.Reading.{binary}
use Rattle.binary_codec.specs.Written.{binary_encoder}
use Rattle.wire_model.specs.Encoder.{text}
use Rattle.wire_model.specs.Place.{struct_at, found_struct}
use Rattle.schema.specs.PlainKind.{kind_i32}
use Rattle.schema.specs.PlainSchema.{PlainFunction, PlainSchema}
use Rattle.schema.specs.LookUp.{function_named}
use Rattle.struct_skew.specs.declared.fault.SkewFault.{SkewFault}
use Rattle.struct_skew.specs.Projection.{projection}
use Rattle.call_model.specs.Offices.{Binding, PlainOffice}
use Rattle.call_model.specs.Names.{Bound, service_asked, function_asked, method_part}
use Rattle.call_model.specs.Arguments.{projected_or_fault, read_as_arguments, arguments_at}
use Rattle.call_model.specs.Decisions.{call_made, decided_on_function, decided_on_service, decided_on_head, decision, failure_frame}
use Rattle.call_model.specs.Failures.{too_large}
use Rattle.call_model.specs.Replies.{success_fields, may_go_back, reply_head, reply_text, within_frame, result_frame, reply_of_function, reply_of_service, reply_to_head, reply_of}
use Rattle.envelope.specs.Said.{reply}
use Rattle.workload.specs.Calls.{answered}

-- an office that serves one service in the binary protocol
abbrev pub office_with : PlainSchema → Binding → ℕ → PlainOffice
office_with s b max = record { schema = s; bindings = b ∷ []; default_slot = None; protocol = Binary; max_frame = max }

abbrev pub bound_first : Binding → Bound
bound_first b = record { slot = 0; service = b.1 }

-- the head of a call of this method with this number, up to a place
abbrev pub call_head_at : List ℕ → ℕ → ℕ → Head
call_head_at method k behind = record { name = method; kind = 1; id = pos k; behind = behind }

abbrev pub head_read : Head → Result Head EnvelopeFault
head_read head = Ok head

abbrev pub args_read : Tree → Result Tree SkewFault
args_read args = Ok args

-- the message of a reply that has this number
abbrev pub reply_message : List ℕ → ℕ → ℤ → List ℕ
reply_message method k n = head_text Binary (record { name = method; kind = reply; id = pos k }) ++ text binary_encoder (of_struct (field (pos 0) (of_i32 n) no_fields))

module _ (s : PlainSchema) (b : Binding) (max : ℕ) (method : List ℕ) (k : ℕ) (args : Tree) (payload : List ℕ) (behind end : ℕ) (f : PlainFunction)
    (head : head_at Binary payload ≡ head_read (call_head_at method k behind)) (asked : service_asked None (b ∷ []) method ≡ Some (bound_first b)) (own : method_part method ≡ method)
    (found : function_named s b.1 method ≡ Some f) where
  abbrev office : PlainOffice
  office = office_with s b max

  abbrev said : Head
  said = call_head_at method k behind

  asks : function_asked office (bound_first b) method ≡ Some f
  asks = ap (function_named s b.1) own ∙ found

  -- the decision is the call
  pub decided : f.oneway ≡ false → struct_at binary payload behind ≡ found_struct args end → projection s f.args args ≡ args_read args
      → decision office payload ≡ Invoke (record { slot = 0; method = method; args = args; silent = false })
  unfolding decided_on_head decided_on_service decided_on_function arguments_at
  decided loud read projected =
      ap (decided_on_head office payload) head
      ∙ ap (decided_on_service office payload said) asked
      ∙ ap (decided_on_function office payload said (bound_first b)) asks
      ∙ ap (λ x. call_made office said (bound_first b) f (read_as_arguments s f.args x)) read
      ∙ ap (λ x. call_made office said (bound_first b) f (projected_or_fault s x)) projected
      ∙ (λ i. Invoke (record { slot = 0; method = own i; args = args; silent = loud i }))

  named : (n : ℤ) → reply_text Binary said (field (pos 0) (of_i32 n) no_fields) ≡ reply_message method k n
  unfolding reply_head
  named n = ap (λ name. reply_message name k n) own

  sized : (n : ℤ) → length (reply_message method k n) ≤ max → within_frame office said (reply_message method k n) ≡ frame (reply_message method k n)
  unfolding within_frame
  sized n room =
      ap (λ t. if t then frame (reply_message method k n) else failure_frame Binary said too_large) (le-leb (length (reply_message method k n)) max room)

  -- the reply to a number that it is answered with
  pub replied_with : f.result ≡ Some kind_i32 → (n : ℤ) → length (reply_message method k n) ≤ max → reply_of office payload (answered n) ≡ frame (reply_message method k n)
  unfolding reply_to_head reply_of_service reply_of_function result_frame may_go_back
  replied_with gives n room =
      ap (reply_to_head office (answered n)) head
      ∙ ap (reply_of_service office said (answered n)) asked
      ∙ ap (reply_of_function office said (answered n)) asks
      ∙ ap (λ x. result_frame office said (success_fields s.structs x (of_i32 n))) gives
      ∙ ap (within_frame office said) (named n)
      ∙ sized n room
