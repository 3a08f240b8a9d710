-- What tells an entry's text from other texts.
use Rattle.std.specs.Prelude.{◌≢◌, ℕ, List, ◌++◌, codes}
use Rattle.std.specs.List.{AllByRecursion}
use Rattle.host_model.specs.Conversation.{IsPrefix}
use Rattle.text_out.specs.Bytes.{line_feed}
use Rattle.call_rules.specs.Entries.{CallEntry}
use Rattle.journal_text.specs.EntryText.{call_word}

-- it begins with `call ` or `oneway `, by whether the call gets a reply, and has no newline
pub record IsEntryText (e : CallEntry) (text : List ℕ) : Type 0 where
  pub named : IsPrefix (call_word e.call.silent ++ codes " ") text
  pub one : AllByRecursion (λ b. b ≢ line_feed) text
