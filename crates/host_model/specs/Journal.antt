-- The journal: the calls in the order in which they took effect, and what makes it a legal history of services that one thread runs.
use Rattle.std.specs.Prelude.{◌≡◌, ℕ, ◌==◌, None, Some, MatchOption, List, [], ◌∷◌, filter, slice_get, slice_set}
use Rattle.host_model.specs.declared.key.Key.{Key}

-- a call with its answer, under the key of the frame that asked for it
pub record JournalEntry (C A : Type 0) : Type 0 where
  pub key : Key
  pub call : C
  pub answer : A

-- the entries of one connection
abbrev pub entries_of : {C A : Type 0} → ℕ → List (JournalEntry C A) → List (JournalEntry C A)
entries_of c journal = filter (λ e. e.key.c == c) journal

-- How services answer: the slot of the service that a call is for, and that service's answer from its memory, with the memory that it has then.
pub record ServiceRules (C A M : Type 0) : Type 0 where
  pub slot : C → ℕ
  pub rule : C → M → A × M

-- the memories, one a slot, after a call
abbrev pub after_call : {C A M : Type 0} → ServiceRules C A M → List M → C → List M
after_call r memories call =
    elim (slice_get memories (r.slot call)) [ None ↦ memories | Some m ↦ slice_set memories (r.slot call) (r.rule call m).1 ]

-- the memories after a journal
abbrev pub after : {C A M : Type 0} → ServiceRules C A M → List M → List (JournalEntry C A) → List M
after r memories [] = memories
after r memories (e ∷ es) = after r (after_call r memories e.call) es

-- the answer is the one of the call's service, which there is, at the memory that it has
abbrev pub IsAnswered : {C A M : Type 0} → ServiceRules C A M → List M → JournalEntry C A → Type 0
IsAnswered r memories e = MatchOption (slice_get memories (r.slot e.call)) ⊥ (λ m. e.answer ≡ (r.rule e.call m).0)

-- a legal history from these memories: each call is answered at the memories that the calls before it left
abbrev pub Legal : {C A M : Type 0} → ServiceRules C A M → List M → List (JournalEntry C A) → Type 0
Legal r memories [] = Unit {0}
Legal r memories (e ∷ es) = IsAnswered r memories e × Legal r (after_call r memories e.call) es
