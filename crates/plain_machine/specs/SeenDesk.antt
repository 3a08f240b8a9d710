-- What the plain programs take, as the definitions see it.
use Rattle.std.specs.Prelude.{List, map}
use Rattle.plain_machine.specs.declared.desks.Decided.{Decided}
use Rattle.plain_machine.specs.declared.desks.Decided.TheVariants.{Refused, Passed, Replied, Called}
use Rattle.plain_machine.specs.declared.journals.PlainEntry.{PlainEntry}
use Rattle.host_model.specs.Journal.{JournalEntry}
use Rattle.host_model.specs.DeskRules.{DeskDecision, Close, Silent, Reply, Invoke}

-- a decision
abbrev pub decision_seen : {C : Type 0} → Decided C → DeskDecision C
decision_seen (Refused fault) = Close fault
decision_seen Passed = Silent
decision_seen (Replied reply) = Reply reply
decision_seen (Called call) = Invoke call

-- an entry
abbrev pub entry_seen : {C A : Type 0} → PlainEntry C A → JournalEntry C A
entry_seen e = record { key = e.key; call = e.call; answer = e.answer }

-- the entries of a list
abbrev pub journal_seen : {C A : Type 0} → List (PlainEntry C A) → List (JournalEntry C A)
journal_seen entries = map entry_seen entries
