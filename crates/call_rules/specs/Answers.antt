-- What answers and decisions in memory stand for.
use Rattle.host_model.specs.DeskRules as desk
use Rattle.host_model.specs.DeskRules.{DeskDecision}
use Rattle.thrift_value.specs.TreeOf.{tree_of}
use Rattle.call_rules.specs.declared.call.Answer.{Answer}
use Rattle.call_rules.specs.declared.call.Answer.TheVariants.{Success, Empty, Throws, Broken}
use Rattle.call_rules.specs.declared.decision.Decision.{Decision}
use Rattle.call_rules.specs.declared.decision.Decision.TheVariants.{Close, Silent, Reply, Invoke}
use Rattle.call_rules.specs.PlainCalls.{PlainCall, PlainAnswer, success, empty, throws, broken}

-- an answer
abbrev pub plain_answer : Answer → PlainAnswer
plain_answer (Success value) = success (tree_of value)
plain_answer Empty = empty
plain_answer (Throws id exception) = throws id (tree_of exception)
plain_answer Broken = broken

-- a decision
abbrev pub plain_decision : Decision → DeskDecision PlainCall
plain_decision (Close fault) = desk.Close fault
plain_decision Silent = desk.Silent
plain_decision (Reply frame) = desk.Reply frame
plain_decision (Invoke call) = desk.Invoke call
