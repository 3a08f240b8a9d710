-- Which entries have a line that is read back, and whose a line is.
use Rattle.std.specs.Prelude.{◌≡◌, ⊤, ℕ, ◌<◌, ◌^◌, List, FitsSigned}
use Rattle.std.specs.Int.{w16}
use Rattle.thrift_value.specs.Ranges.{IsInRange}
use Rattle.call_rules.specs.PlainCalls.{PlainAnswer, success, empty, throws, broken, IsPlainCall, IsPlainAnswer}
use Rattle.call_rules.specs.Entries.{CallEntry}
use Rattle.journal_text.specs.EntryText.{call_line}

-- the numbers of an answer are those of one in memory
abbrev pub IsRangedAnswer : PlainAnswer → Type 0
IsRangedAnswer (success value) = IsInRange value
IsRangedAnswer empty = ⊤
IsRangedAnswer (throws id exception) = FitsSigned w16 id × IsInRange exception
IsRangedAnswer broken = ⊤

-- the numbers of an entry are those of one in memory
pub record IsRangedEntry (e : CallEntry) : Type 0 where
  pub c : e.key.c < 2 ^ 32
  pub i : e.key.i < 2 ^ 64
  pub slot : e.call.slot < 2 ^ 32
  pub args : IsInRange e.call.args
  pub answer : IsRangedAnswer e.answer

-- a plain call with a plain answer, under numbers that there are in memory
pub record HasEntryLine (e : CallEntry) : Type 0 where
  pub call : IsPlainCall e.call
  pub answer : IsPlainAnswer e.answer
  pub in_range : IsRangedEntry e

-- this is the line of the entry, its newline included
pub record IsLineOf (line : List ℕ) (e : CallEntry) : Type 0 where
  pub has_line : HasEntryLine e
  pub whole : line ≡ call_line e
