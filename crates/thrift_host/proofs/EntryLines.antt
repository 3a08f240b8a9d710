-- An entry's text is the line of a call.
use Rattle.std.proofs.Common.{Bool, true, false, List, ℕ, ◌++◌, codes, inl, inr, ◌⊎◌}
use Rattle.host_model.specs.Conversation.{IsPrefix}
use Rattle.script_model.specs.Rehearsal.{IsCallLine}
use Rattle.call_rules.specs.Entries.{CallEntry}
use Rattle.journal_text.specs.EntryText.{call_word, entry_text}
use Rattle.journal_text.specs.Lines.{IsEntryText}

named : (silent : Bool) (text : List ℕ) → IsPrefix (call_word silent ++ codes " ") text → IsPrefix (codes "call ") text ⊎ IsPrefix (codes "oneway ") text
named false text p = inl p
named true text p = inr p

pub is_call_line : (e : CallEntry) → IsEntryText e (entry_text e) → IsCallLine (entry_text e)
is_call_line e is = record { named = named e.call.silent (entry_text e) is.named; one = is.one }
