-- The conversation of one connection: what its payloads ask, what its entries answer, and what it is sent.
use Rattle.std.specs.Prelude.{◌≡◌, ◌≢◌, ℕ, suc, ◌==◌, if◌then◌else◌, Option, None, Some, ◌⊎◌, List, [], ◌∷◌, ◌++◌, map}
use Rattle.std.specs.List.{AllByRecursion}
use Rattle.streams.specs.declared.outcomes.EnvelopeFault.{EnvelopeFault}
use Rattle.streams.specs.declared.marks.Mark.{Mark}
use Rattle.host_model.specs.declared.cause.EndCause.{EndCause}
use Rattle.host_model.specs.declared.cause.EndCause.TheVariants.{End, Cut, SizeFault, Envelope, ReadFault, WriteFault, NoMemory, Stopped}
use Rattle.host_model.specs.Frames.{Frames, IsOutside, HasNoBadSize, size_bytes}
use Rattle.host_model.specs.Marks.{Marks, input, output}
use Rattle.host_model.specs.Journal.{JournalEntry}
use Rattle.host_model.specs.DeskRules.{DeskRules, DeskDecision, Close, Silent, Reply, Invoke}

-- all but the last
abbrev pub but_last : {X : Type 0} → List X → List X
but_last [] = []
but_last (x ∷ []) = []
but_last (x ∷ y ∷ xs) = x ∷ but_last (y ∷ xs)

-- the call that this decision makes, with the number of its frame
abbrev pub called_by : {C : Type 0} → ℕ → DeskDecision C → List (ℕ × C)
called_by i (Invoke call) = (i, call) ∷ []
called_by i _ = []

-- the calls that payloads ask for, with the numbers of their frames, the first of which is i
abbrev pub called : {C A : Type 0} → DeskRules C A → ℕ → List (List ℕ) → List (ℕ × C)
called d i [] = []
called d i (p ∷ ps) = called_by i (d.decide p) ++ called d (suc i) ps

-- the entries are these payloads' calls, each once, in order
abbrev pub Done : {C A : Type 0} → DeskRules C A → List (JournalEntry C A) → List (List ℕ) → Type 0
Done d es ps = map (λ e. (e.key.i, e.call)) es ≡ called d 0 ps

-- the answer to the call of frame i, where it stands in the entries
abbrev pub answer_at : {C A : Type 0} → List (JournalEntry C A) → ℕ → Option A
answer_at [] i = None
answer_at (e ∷ es) i = if e.key.i == i then Some e.answer else answer_at es i

-- the reply to a call, where it is answered and not a silent one
abbrev pub replied : {C A : Type 0} → DeskRules C A → List ℕ → C → Option A → List ℕ
replied d p call None = []
replied d p call (Some answer) = if d.silent call then [] else d.reply p answer

-- the reply to a payload, or nothing
abbrev pub reply_for : {C A : Type 0} → DeskRules C A → List ℕ → DeskDecision C → Option A → List ℕ
reply_for d p (Close fault) answer = []
reply_for d p Silent answer = []
reply_for d p (Reply reply) answer = reply
reply_for d p (Invoke call) answer = replied d p call answer

-- all that is sent to these payloads, the first of which is number i
abbrev pub sent : {C A : Type 0} → DeskRules C A → List (JournalEntry C A) → ℕ → List (List ℕ) → List ℕ
sent d es i [] = []
sent d es i (p ∷ ps) = reply_for d p (d.decide p) (answer_at es i) ++ sent d es (suc i) ps

-- xs is the beginning of ys
abbrev pub IsPrefix : List ℕ → List ℕ → Type 0
IsPrefix xs ys = (more : List ℕ) × (ys ≡ xs ++ more)

-- all replies but the last are written, and of the last one a part, nothing or the whole
pub record IsReplying {C A : Type 0} (d : DeskRules C A) (es : List (JournalEntry C A)) (ps : List (List ℕ)) (out : List ℕ) : Type 0 where
  pub before : IsPrefix (sent d es 0 (but_last ps)) out
  pub within : IsPrefix out (sent d es 0 ps)

-- a decision that doesn't end the connection
abbrev pub KeepsConnection : {C : Type 0} → DeskDecision C → Type 0
KeepsConnection (Close fault) = ⊥
KeepsConnection _ = Unit {0}

-- no payload ends the connection
abbrev pub AllKeepConnection : {C A : Type 0} → DeskRules C A → List (List ℕ) → Type 0
AllKeepConnection d ps = AllByRecursion (λ p. KeepsConnection (d.decide p)) ps

-- p is the last of these, behind those before it
abbrev pub IsLast : List (List ℕ) → List (List ℕ) → List ℕ → Type 0
IsLast ps before p = ps ≡ before ++ p ∷ []

-- the last payload's head is refused
abbrev pub LastCloses : {C A : Type 0} → DeskRules C A → List (List ℕ) → EnvelopeFault → Type 0
LastCloses d ps fault = (before : List (List ℕ)) × (p : List ℕ) × IsLast ps before p × (d.decide p ≡ Close fault)

-- each payload's call is done, and each reply is written
pub record IsFinished {C A : Type 0} (d : DeskRules C A) (es : List (JournalEntry C A)) (ps : List (List ℕ)) (out : List ℕ) : Type 0 where
  pub done : Done d es ps
  pub written : out ≡ sent d es 0 ps

-- Broken off: the last payload's call is done or isn't, and its reply may be written in part. Bytes behind the last payload were read only where
-- nothing was owed any more and the connection went on.
pub record IsBrokenOff {C A : Type 0} (d : DeskRules C A) (ps : List (List ℕ)) (rest : List ℕ) (es : List (JournalEntry C A)) (out : List ℕ) : Type 0 where
  pub done : Done d es ps ⊎ Done d es (but_last ps)
  pub replying : IsReplying d es ps out
  pub behind : rest ≢ [] → AllKeepConnection d ps × HasNoBadSize d.max rest × IsFinished d es ps out

-- what holds of the payloads, the rest behind them, the entries and the bytes written where a connection ends by this cause
abbrev pub EndsBy : {C A : Type 0} → DeskRules C A → List (List ℕ) → List ℕ → List (JournalEntry C A) → List ℕ → EndCause → Type 0
EndsBy d ps rest es out End = AllKeepConnection d ps × (rest ≡ []) × IsFinished d es ps out
EndsBy d ps rest es out Cut = AllKeepConnection d ps × (rest ≢ []) × HasNoBadSize d.max rest × IsFinished d es ps out
EndsBy d ps rest es out (SizeFault z) = AllKeepConnection d ps × (rest ≡ size_bytes z) × IsOutside d.max z × IsFinished d es ps out
EndsBy d ps rest es out (Envelope fault) = LastCloses d ps fault × (rest ≡ []) × IsFinished d es ps out
EndsBy d ps rest es out ReadFault = AllKeepConnection d ps × HasNoBadSize d.max rest × IsFinished d es ps out
EndsBy d ps rest es out WriteFault = AllKeepConnection d ps × (rest ≡ []) × Done d es ps × IsReplying d es ps out × (out ≢ sent d es 0 ps)
EndsBy d ps rest es out NoMemory = IsBrokenOff d ps rest es out
EndsBy d ps rest es out Stopped = IsBrokenOff d ps rest es out

-- The talk of a connection that has ended: its bytes are frames and a rest, no head before the last one is refused, and what its cause says holds.
pub record Talk {C A : Type 0} (d : DeskRules C A) (bytes : List ℕ) (es : List (JournalEntry C A)) (out : List ℕ) (cause : EndCause) : Type 0 where
  pub payloads : List (List ℕ)
  pub rest : List ℕ
  pub frames : Frames d.max bytes payloads rest
  pub open_before : AllKeepConnection d (but_last payloads)
  pub ended : EndsBy d payloads rest es out cause

-- After these marks no reply has gone out before its frame was whole, and where bytes of a further frame were read all replies are written.
pub record IsInTurn {C A : Type 0} (d : DeskRules C A) (es : List (JournalEntry C A)) (front : List Mark) : Type 0 where
  pub payloads : List (List ℕ)
  pub rest : List ℕ
  pub frames : Frames d.max (input front) payloads rest
  pub replying : IsReplying d es payloads (output front)
  pub first_sent : rest ≢ [] → output front ≡ sent d es 0 payloads

-- it is so at each moment of the connection
abbrev pub Turns : {C A : Type 0} → DeskRules C A → List (JournalEntry C A) → List Mark → Type 0
Turns d es marks = (front back : List Mark) → marks ≡ front ++ back → IsInTurn d es front

-- a whole conversation: the talk, its turns and its marks
pub record Conversation {C A : Type 0} (d : DeskRules C A) (c : ℕ) (own : List Mark) (es : List (JournalEntry C A)) (cause : EndCause) : Type 0 where
  pub talk : Talk d (input own) es (output own) cause
  pub turns : Turns d es own
  pub marks : Marks c own cause
