-- What a call comes to in a service: an answer, and the memory that is left.
use Rattle.std.specs.Prelude.{Option, None, Some}
use Rattle.thrift_value.specs.Tree.{Tree}
use Rattle.call_rules.specs.PlainCalls.{PlainAnswer, broken}

-- the answer to a call, and the memory after it
pub record Handled : Type 0 where
  pub answer : PlainAnswer
  pub memory : Tree

-- an answer that leaves the memory as it is
abbrev pub keeping : Tree → PlainAnswer → Handled
keeping memory answer = record { answer = answer; memory = memory }

-- what comes next with what was passed; where nothing that fits was passed, the call is broken and changes nothing
abbrev pub or_broken : {X : Type 0} → Tree → Option X → (X → Handled) → Handled
or_broken memory None next = keeping memory broken
or_broken memory (Some x) next = next x
