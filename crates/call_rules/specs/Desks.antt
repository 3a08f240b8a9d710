-- What a desk means (Thrift: a processor): how many services it has, what it decides, and what it replies.
use Rattle.std.specs.Prelude.{◌≡◌, ℕ, ◌<◌, ◌≤◌, ◌^◌, ◌-◌, false, List, length}
use Rattle.host_model.specs.Frames.{frame, IsPayload}
use Rattle.host_model.specs.DeskRules.{DeskRules, DeskDecision, Close, Silent, Reply, Invoke}
use Rattle.call_rules.specs.PlainCalls.{PlainCall, PlainAnswer, IsPlainCall}
pub use Rattle.limits.specs.Limits.{longest_payload}

-- the number of slots, the longest payload that connections may bring, the decision on each payload, and the reply to each payload
-- whose call has this answer
pub record DeskMeaning : Type 0 where
  pub slots : ℕ
  pub max_frame : ℕ
  pub decide : List ℕ → DeskDecision PlainCall
  pub reply : List ℕ → PlainAnswer → List ℕ

-- the rules that a machine follows which has this desk
abbrev pub desk_rules : DeskMeaning → DeskRules PlainCall PlainAnswer
desk_rules desk = record { max = desk.max_frame; decide = desk.decide; silent = λ call. call.silent; reply = desk.reply }

-- the bytes are a whole frame, its size included
pub record IsWholeFrame (bytes : List ℕ) : Type 0 where
  pub payload : List ℕ
  pub is : IsPayload (2 ^ 31 - 1) payload
  pub whole : bytes ≡ frame payload

-- a payload with this decision calls for a reply by its call's answer
abbrev pub IsAnsweredCall : DeskDecision PlainCall → Type 0
IsAnsweredCall (Invoke call) = call.silent ≡ false
IsAnsweredCall _ = ⊥

-- What holds of every desk: slots have numbers of 32 bits; each call that it makes is plain, and its slot is there; and each reply to a
-- payload that isn't too long is a whole frame.
pub record IsDesk (desk : DeskMeaning) : Type 0 where
  pub few : desk.slots < 2 ^ 32
  pub in_slots : (payload : List ℕ) (call : PlainCall) → desk.decide payload ≡ Invoke call → call.slot < desk.slots
  pub plain : (payload : List ℕ) (call : PlainCall) → desk.decide payload ≡ Invoke call → IsPlainCall call
  pub framed : (payload reply : List ℕ) → length payload ≤ longest_payload → desk.decide payload ≡ Reply reply → IsWholeFrame reply
  pub replied : (payload : List ℕ) (answer : PlainAnswer) → length payload ≤ longest_payload → IsAnsweredCall (desk.decide payload)
      → IsWholeFrame (desk.reply payload answer)
