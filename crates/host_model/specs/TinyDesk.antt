-- A tiny desk over numbers, with a service that counts its calls, for examples.
use Rattle.std.specs.Prelude.{ℕ, suc, ◌==◌, if◌then◌else◌, List, [], ◌∷◌}
use Rattle.streams.specs.declared.outcomes.EnvelopeFault.TheVariants.{Short}
use Rattle.streams.specs.declared.marks.Mark.{Mark}
use Rattle.host_model.specs.declared.cause.EndCause.{EndCause}
use Rattle.host_model.specs.Journal.{JournalEntry, ServiceRules}
use Rattle.host_model.specs.DeskRules.{DeskRules, DeskDecision, Close, Silent, Reply, Invoke}
use Rattle.host_model.specs.Headline.{Headline}

-- The first byte of a payload says what is decided: 1 calls 10, 2 is replied to at once, 3 is passed over, 4 is refused, any other calls 11.
abbrev pub tiny_decision : List ℕ → DeskDecision ℕ
tiny_decision [] = Silent
tiny_decision (kind ∷ bytes) =
    if kind == 1 then Invoke 10 else if kind == 2 then Reply (20 ∷ 21 ∷ []) else if kind == 3 then Silent else if kind == 4 then Close Short else Invoke 11

-- Payloads have at most two bytes, call 11 gets no reply, and a reply is the answer, twice.
abbrev pub tiny_desk : DeskRules ℕ ℕ
tiny_desk = record { max = 2; decide = tiny_decision; silent = λ call. call == 11; reply = λ payload answer. answer ∷ answer ∷ [] }

-- one service, whose answer is the number of calls before
abbrev pub counting : ServiceRules ℕ ℕ ℕ
counting = record { slot = λ call. 0; rule = λ call count. (count, suc count) }

-- the call of the first frame of connection c, with its answer
abbrev pub tiny_entry : ℕ → ℕ → JournalEntry ℕ ℕ
tiny_entry c answer = record { key = record { c = c; i = 0 }; call = 10; answer = answer }

-- the size of a payload of one byte
abbrev pub size_of_one : List ℕ
size_of_one = 0 ∷ 0 ∷ 0 ∷ 1 ∷ []

-- these are the tape, the journal and the causes of a run of this desk whose service has had five calls before
abbrev pub IsTinyRun : List Mark → List (JournalEntry ℕ ℕ) → List EndCause → Type 0
IsTinyRun tape journal causes = Headline tiny_desk counting (5 ∷ []) tape journal causes
