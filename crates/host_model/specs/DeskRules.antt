-- What decides on messages and replies to calls (Thrift: a processor).
use Rattle.std.specs.Prelude.{ℕ, Bool, List}
use Rattle.streams.specs.declared.outcomes.EnvelopeFault.{EnvelopeFault}

-- What is decided on a payload: its head is refused, which ends the connection; it gets no reply and makes no call; it gets this reply without a
-- call; or it makes this call.
pub data DeskDecision (C : Type 0) : Type 0 where
  Close : (fault : EnvelopeFault) → DeskDecision C
  Silent : DeskDecision C
  Reply : (reply : List ℕ) → DeskDecision C
  Invoke : (call : C) → DeskDecision C

-- A desk: the longest payload that it takes, its decision on each payload, whether a call gets no reply, and the frame, its size included, that goes
-- back for a payload whose call had this answer.
pub record DeskRules (C A : Type 0) : Type 0 where
  pub max : ℕ
  pub decide : List ℕ → DeskDecision C
  pub silent : C → Bool
  pub reply : List ℕ → A → List ℕ
