-- The service that a calculator is.
use Rattle.std.specs.Prelude.{ℕ, ℤ, List, Result, Ok, Err, refl}
use Rattle.std.specs.Borrow.{Bor}
use Rattle.thrift_value.specs.declared.tag.Tag.TheVariants.{I32}
use Rattle.thrift_value.specs.Tree.{Tree, of_i32}
use Rattle.call_rules.specs.declared.kind.Kind.TheVariants as kinds
use Rattle.call_rules.specs.Memories.{texts_tree, texts_tree_is}
use Rattle.call_rules.specs.Handling.{ServiceState, HasItsMemory}
use Rattle.calculator.specs.declared.handler.Calculator.{Calculator}

-- the texts that it keeps, as a memory
abbrev pub calculator_memory : Calculator → Tree
calculator_memory calculator = texts_tree I32 of_i32 (λ text. text) calculator.texts.entries

-- its kind and its memory
abbrev pub calculator_service : Calculator → ServiceState
calculator_service calculator = record { kind = kinds.Calculator; memory = calculator_memory calculator }

-- its memory is of its kind
pub calculator_is_kept : (calculator : Calculator) → HasItsMemory (calculator_service calculator)
calculator_is_kept calculator = texts_tree_is I32 of_i32 (λ text. text) (λ _. refl) (λ _. tt) calculator.texts.entries

-- a value, or the text of why there is none
abbrev pub result_seen : Result ℤ (Bor (List ℕ)) → Result ℤ (List ℕ)
result_seen (Ok value) = Ok value
result_seen (Err why) = Err why.now
