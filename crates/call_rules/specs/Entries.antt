-- Entries of a journal, over plain calls and answers.
use Rattle.std.specs.Prelude.{ℕ, refl}
use Rattle.std.specs.Coded.{Coded, code_by, coded×, coded_ℕ}
use Rattle.host_model.specs.Journal.{JournalEntry}
use Rattle.call_rules.specs.PlainCalls.{PlainCall, PlainAnswer, plain_call_code, plain_answer_code}

-- an entry: a key, a call and its answer
abbrev pub CallEntry : Type 0
CallEntry = JournalEntry PlainCall PlainAnswer

-- an entry is told by its key's two numbers, its call and its answer
abbrev pub call_entry_code : Coded CallEntry
call_entry_code =
    code_by ((ℕ × ℕ) × (PlainCall × PlainAnswer)) (coded× (coded× coded_ℕ coded_ℕ) (coded× plain_call_code plain_answer_code))
    (λ e. ((e.key.c, e.key.i), (e.call, e.answer)))
    (λ p. record { key = record { c = p.0.0; i = p.0.1 }; call = p.1.0; answer = p.1.1 })
    (λ _. refl)
