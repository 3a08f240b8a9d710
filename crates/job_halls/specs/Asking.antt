-- What a loop asks of a hall of its own, and what it is answered.
use Rattle.std.specs.Prelude.{◌≡◌, ℕ, ◌+◌, ◌<◌, ◌≤◌, Bool, true, false, List, [], ◌∷◌, ◌++◌, length}
use Rattle.host_model.specs.declared.key.Key.{Key}
use Rattle.call_history.specs.Calls.{seat_ask}
use Rattle.call_rules.specs.PlainCalls.{PlainCall, PlainAnswer}
use Rattle.machine_model.specs.HallRule.{HallOperation, submit, collect, close, HallAnswer, done, empty, is_closed, outcome}
use Rattle.machine_model.specs.OwnCalls.{HallAsk, longest_payload, submits_key, any_of, adds_key, frees_key, summed_calls}
use Rattle.job_halls.specs.declared.job_hall.TakenOutcome.{TakenOutcome}
use Rattle.job_halls.specs.declared.job_hall.TakenOutcome.TheVariants.{Outcome, Empty, Closed}

-- an ask of a hall, over plain calls and answers
abbrev pub LoopAsk : Type 0
LoopAsk = HallAsk PlainCall PlainAnswer

-- what a loop's own asks allow it to submit, where it may have so many keys: there is room for one more, which is new, and the payload isn't too long
abbrev pub MaySubmit : ℕ → List LoopAsk → Key → List ℕ → Type 0
MaySubmit share own key payload =
    (summed_calls adds_key own < share + summed_calls frees_key own) × (any_of (submits_key key) own ≡ false) × (length payload ≤ longest_payload)

-- one ask more, which its own seat made
abbrev pub GoesOnBy : List LoopAsk → List LoopAsk → HallOperation PlainCall → HallAnswer PlainAnswer → Type 0
GoesOnBy old new op answer = new ≡ old ++ seat_ask 0 op answer ∷ []

-- a job was to be submitted, and the hall took it, or was closed
abbrev pub HandsInJob : List LoopAsk → List LoopAsk → Key → List ℕ → Bool → Type 0
HandsInJob old new key payload true = GoesOnBy old new (submit key payload) done
HandsInJob old new key payload false = GoesOnBy old new (submit key payload) is_closed

-- an outcome was to be collected, and this has come of it
abbrev pub GainsOutcome : List LoopAsk → List LoopAsk → TakenOutcome → Type 0
GainsOutcome old new (Outcome key settled) = GoesOnBy old new collect (outcome key settled)
GainsOutcome old new Empty = GoesOnBy old new collect empty
GainsOutcome old new Closed = GoesOnBy old new collect is_closed

-- the hall was closed
abbrev pub ClosesIt : List LoopAsk → List LoopAsk → Type 0
ClosesIt old new = GoesOnBy old new close done
