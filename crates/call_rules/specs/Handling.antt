-- How the handlers answer: services by their kind.
use Rattle.std.specs.Prelude.{◌≡◌, ℕ, List}
use Rattle.host_model.specs.Journal.{ServiceRules}
use Rattle.thrift_value.specs.declared.tag.Tag.TheVariants.{I32, Bytes}
use Rattle.thrift_value.specs.Tree.{Tree, of_struct, no_fields, no_pairs}
use Rattle.call_rules.specs.declared.kind.Kind.{Kind}
use Rattle.call_rules.specs.declared.kind.Kind.TheVariants.{Calculator, Store, Mirror}
use Rattle.call_rules.specs.PlainCalls.{PlainCall, PlainAnswer}
use Rattle.call_rules.specs.Handled.{Handled}
use Rattle.call_rules.specs.Memories.{texts_by, AreTextsBy}
use Rattle.call_rules.specs.CalculatorRule.{calculator_rule}
use Rattle.call_rules.specs.StoreRule.{store_rule, mirror_rule}

-- a service: its kind, and what it keeps from one call to the next
pub record ServiceState : Type 0 where
  pub kind : Kind
  pub memory : Tree

-- the memory at first
abbrev pub memory_at_first : Kind → Tree
memory_at_first Calculator = texts_by I32 no_pairs
memory_at_first Store = texts_by Bytes no_pairs
memory_at_first Mirror = of_struct no_fields

-- a new service
abbrev pub new_service : Kind → ServiceState
new_service kind = record { kind = kind; memory = memory_at_first kind }

-- the memory is one of this kind
abbrev pub IsMemoryOf : Kind → Tree → Type 0
IsMemoryOf Calculator memory = AreTextsBy I32 memory
IsMemoryOf Store memory = AreTextsBy Bytes memory
IsMemoryOf Mirror memory = memory ≡ of_struct no_fields

-- the service has a memory of its kind
abbrev pub HasItsMemory : ServiceState → Type 0
HasItsMemory service = IsMemoryOf service.kind service.memory

-- the answer of a kind, at a memory, to a call of this method with these arguments
abbrev pub kind_rule : Kind → Tree → List ℕ → Tree → Handled
kind_rule Calculator memory method args = calculator_rule memory method args
kind_rule Store memory method args = store_rule memory method args
kind_rule Mirror memory method args = mirror_rule memory method args

-- what a call comes to in a service; its kind stays
abbrev pub handled : ServiceState → List ℕ → Tree → Handled
handled service method args = kind_rule service.kind service.memory method args

-- the service after a call
abbrev pub service_after : ServiceState → List ℕ → Tree → ServiceState
service_after service method args = record { kind = service.kind; memory = (handled service method args).memory }

-- how services answer, as histories see it
abbrev pub handler_rules : ServiceRules PlainCall PlainAnswer ServiceState
handler_rules =
    record {
      slot = λ call. call.slot;
      rule = λ call service. ((handled service call.method call.args).answer, service_after service call.method call.args);
    }
