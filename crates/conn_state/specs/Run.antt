-- The calls that change a connection, and a run of them with one largest size.
use Rattle.std.specs.Prelude.{◌≡◌, ℕ, ◌^◌, ◌<◌, ◌≤◌, List, [], ◌∷◌, ◌++◌, length, drop, slice_index}
use Rattle.streams.specs.declared.outcomes.Settled.{Settled}
use Rattle.host_model.specs.declared.cause.EndCause.{EndCause}
use Rattle.conn_state.specs.Phase.{ConnView, waiting, ready, ended, wanted, left_to_write, IsHeld, IsReading, IsWaiting, HasNotEnded}
use Rattle.conn_state.specs.Step.{after_took, after_admission, after_answer, after_wrote, after_end_of_input, IsFromOutside}

-- each item is a byte
abbrev pub EachIsByte : List ℕ → Type 0
EachIsByte bytes = (i : ℕ) → slice_index bytes i < 2 ^ 8

-- one call
pub data ConnCall : Type 0 where
  took : (bytes : List ℕ) → ConnCall
  -- a frame was admitted, or there was no memory for it
  admitted : ConnCall
  refused : ConnCall
  gave : (number : ℕ) (payload : List ℕ) → ConnCall
  answered : (settled : Settled) → ConnCall
  wrote : (count : ℕ) → ConnCall
  input_ended : ConnCall
  ended_by : (cause : EndCause) → ConnCall

-- the call may be made of the old view, and leaves the new one
abbrev pub CallLeads : ℕ → ConnView → ConnCall → ConnView → Type 0
CallLeads max old (took bytes) new =
    EachIsByte bytes × (0 < length bytes) × (length bytes ≤ wanted old.phase) × (new ≡ after_took max old bytes)
CallLeads max old admitted new = IsHeld old.phase × (new ≡ record old { phase = after_admission old.phase })
CallLeads max old refused new = IsHeld old.phase × (new ≡ old)
CallLeads max old (gave number payload) new =
    (old.phase ≡ ready number payload) × (new ≡ record old { phase = waiting number })
CallLeads max old (answered settled) new =
    IsWaiting old.phase × (new ≡ record old { phase = after_answer settled })
CallLeads max old (wrote count) new =
    (0 < count) × (count ≤ length (left_to_write old.phase))
    × (new ≡ record old { phase = after_wrote (drop count (left_to_write old.phase)) })
CallLeads max old input_ended new = IsReading old.phase × (new ≡ record old { phase = after_end_of_input old.phase })
CallLeads max old (ended_by cause) new = HasNotEnded old.phase × IsFromOutside cause × (new ≡ record old { phase = ended cause })

-- these calls, in order, lead from one view to another
abbrev pub CallsLead : ℕ → ConnView → List ConnCall → ConnView → Type 0
CallsLead max old [] new = new ≡ old
CallsLead max old (event ∷ events) new = (between : ConnView) × CallLeads max old event between × CallsLead max between events new

-- the bytes that one call took
abbrev pub taken_by : ConnCall → List ℕ
taken_by (took bytes) = bytes
taken_by _ = []

-- the bytes that the calls took, joined
abbrev pub taken : List ConnCall → List ℕ
taken [] = []
taken (event ∷ events) = taken_by event ++ taken events

-- the numbered payload that one call handed out
abbrev pub handed_by : ConnCall → List (ℕ × List ℕ)
handed_by (gave number payload) = (number, payload) ∷ []
handed_by _ = []

-- the numbered payloads that the calls handed out, in order
abbrev pub given : List ConnCall → List (ℕ × List ℕ)
given [] = []
given (event ∷ events) = handed_by event ++ given events
