-- What the wrong steps of the examples contradict.
use Rattle.std.proofs.Common.{◌≡◌, ℕ, false, ◌==◌, Option, None, Some, List, [], ◌∷◌, sym, ◌∙◌, eq-eqb}
use Rattle.std.proofs.lemmas.Bool.{true≢false}
use Rattle.streams.specs.declared.outcomes.Settled.{Settled}
use Rattle.streams.specs.declared.outcomes.Settled.TheVariants.{Reply as Replied, Nothing, NoMemory}
use Rattle.host_model.specs.declared.key.Key.{Key}
use Rattle.host_model.specs.DeskRules.{DeskDecision, Invoke}
use Rattle.machine_model.specs.HallState.{Job, JobOutcome}
use Rattle.machine_model.specs.Worker.{WorkerState, idle, holds, has_answer, has_none}

-- numbers that differ
pub differ : (m n : ℕ) → (m == n) ≡ false → m ≡ n → ⊥
differ m n s e = true≢false (sym (eq-eqb m n e) ∙ s)

pub some_list : {X : Type 0} (x : X) (xs : List X) → x ∷ xs ≡ [] → ⊥
some_list x xs e = cc

abbrev pub first_of : List ℕ → ℕ
first_of [] = 0
first_of (x ∷ xs) = x

abbrev pub first_in : Option (List ℕ) → ℕ
first_in None = 0
first_in (Some xs) = first_of xs

abbrev pub first_job : List Job → ℕ
first_job [] = 0
first_job (j ∷ jobs) = j.key.c

abbrev pub first_outcome : List JobOutcome → ℕ
first_outcome [] = 0
first_outcome (o ∷ outcomes) = o.key.c

-- a hand's kind, and its payload
abbrev pub kind_of : WorkerState ℕ → ℕ
kind_of idle = 0
kind_of (holds key payload) = 1
kind_of (has_answer key payload answer) = 2
kind_of (has_none key payload) = 3

abbrev pub payload_of : WorkerState ℕ → List ℕ
payload_of idle = []
payload_of (holds key payload) = payload
payload_of (has_answer key payload answer) = payload
payload_of (has_none key payload) = payload

-- the call that a decision makes, or 0
abbrev pub call_made : DeskDecision ℕ → ℕ
call_made (Invoke call) = call
call_made _ = 0

abbrev pub connection_in : Option Key → ℕ
connection_in None = 0
connection_in (Some key) = key.c

-- the first byte of a reply, or 0
abbrev pub reply_in : Option Settled → ℕ
reply_in (Some (Replied reply)) = first_of reply
reply_in _ = 0

abbrev pub outcome_kind : Settled → ℕ
outcome_kind Nothing = 1
outcome_kind NoMemory = 2
outcome_kind _ = 0
