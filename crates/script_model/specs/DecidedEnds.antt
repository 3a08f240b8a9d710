-- By what a connection ends on which nothing fails: its bytes alone decide.
use Rattle.std.specs.Prelude.{◌≡◌, ◌≢◌, List, [], ◌++◌, ℕ}
use Rattle.std.specs.List.{flat_map}
use Rattle.host_model.specs.declared.cause.EndCause.{EndCause}
use Rattle.host_model.specs.declared.cause.EndCause.TheVariants.{End, Cut, SizeFault, Envelope}
use Rattle.host_model.specs.Conversation.{AllKeepConnection}
use Rattle.host_model.specs.DeskRules.{DeskRules, Close}
use Rattle.host_model.specs.Frames.{frame, size_bytes, IsPayload, ArePayloads, IsOutside, IsPartial}

-- What is left behind frames that keep a connection ends it so: nothing is; less than a frame is; a size that no frame has stands in front; or a frame does whose
-- head is refused.
abbrev pub IsEndedBy : {C A : Type 0} → DeskRules C A → List ℕ → EndCause → Type 0
IsEndedBy d left End = left ≡ []
IsEndedBy d left Cut = (left ≢ []) × IsPartial d.max left
IsEndedBy d left (SizeFault z) = (more : List ℕ) × (left ≡ size_bytes z ++ more) × IsOutside d.max z
IsEndedBy d left (Envelope fault) = (p more : List ℕ) × (left ≡ frame p ++ more) × IsPayload d.max p × (d.decide p ≡ Close fault)
IsEndedBy d left _ = ⊥

-- a connection ends so on these bytes: payloads that keep it stand in front, and what is left ends it
pub record EndsOn {C A : Type 0} (d : DeskRules C A) (bytes : List ℕ) (cause : EndCause) : Type 0 where
  pub payloads : List (List ℕ)
  pub left : List ℕ
  pub whole : bytes ≡ flat_map frame payloads ++ left
  pub each : ArePayloads d.max payloads
  pub kept : AllKeepConnection d payloads
  pub ended : IsEndedBy d left cause

-- a cause that bytes may decide
abbrev pub IsOfBytes : EndCause → Type 0
IsOfBytes End = Unit {0}
IsOfBytes Cut = Unit {0}
IsOfBytes (SizeFault z) = Unit {0}
IsOfBytes (Envelope fault) = Unit {0}
IsOfBytes _ = ⊥

-- what may be left unread where a connection ends so: nothing after its input has ended, and else anything
abbrev pub MayBeUnread : EndCause → List ℕ → Type 0
MayBeUnread End left = left ≡ []
MayBeUnread Cut left = left ≡ []
MayBeUnread _ left = Unit {0}
