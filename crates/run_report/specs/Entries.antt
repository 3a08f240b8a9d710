-- Entries that have a line.
use Rattle.call_rules.specs.Entries.{CallEntry}
use Rattle.call_rules.specs.PlainCalls.{IsPlainCall, IsPlainAnswer}

-- an entry of a plain call and a plain answer
pub record IsPlainEntry (entry : CallEntry) : Type 0 where
  pub call : IsPlainCall entry.call
  pub answer : IsPlainAnswer entry.answer
