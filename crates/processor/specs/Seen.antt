-- What stands in memory, as plain data.
use Rattle.std.specs.Prelude.{ℕ, List, Result, Ok, Err}
use Rattle.thrift_value.specs.declared.value.Value.{Value}
use Rattle.thrift_value.specs.Tree.{Tree}
use Rattle.thrift_value.specs.TreeOf.{tree_of}
use Rattle.envelope.specs.Exception.{Failure}
use Rattle.schema.specs.PlainSchema.{PlainSchema}
use Rattle.call_model.specs.Failures.{bad_arguments, wire_fault_text, skew_fault_text}
use Rattle.call_model.specs.Names.{Bound}
use Rattle.processor.specs.declared.arguments.ArgumentFault.{ArgumentFault}
use Rattle.processor.specs.declared.arguments.ArgumentFault.TheVariants.{Wire, Skew}
use Rattle.processor.specs.declared.failures.FailureText.{FailureText}
use Rattle.processor.specs.declared.names.BoundService.{BoundService}

-- a service that is bound
abbrev pub bound_of : BoundService → Bound
bound_of b = record { slot = b.slot; service = b.service }

-- the text of a fault of arguments
abbrev pub argument_fault_text : PlainSchema → ArgumentFault → List ℕ
argument_fault_text s (Wire fault) = wire_fault_text fault
argument_fault_text s (Skew fault) = skew_fault_text s fault

-- arguments, or why there are none
abbrev pub arguments_seen : PlainSchema → Result Value ArgumentFault → Result Tree Failure
arguments_seen s (Ok value) = Ok (tree_of value)
arguments_seen s (Err fault) = Err (bad_arguments (argument_fault_text s fault))

-- what a caller reads
abbrev pub failure_of : FailureText → Failure
failure_of failure = record { text = failure.text.items; code = failure.code }
