-- The texts of faults are short.
use Rattle.std.proofs.Common.{◌≡◌, ◌≤◌, length, ap, arith}
use Rattle.envelope.specs.Exception.{Failure}
use Rattle.schema.specs.PlainSchema.{PlainSchema}
use Rattle.schema.specs.Sound.{IsSound}
use Rattle.call_model.specs.Failures.{bad_arguments}
use Rattle.call_model.proofs.Refused.{wire_text_short, skew_text_short}
use Rattle.processor.specs.declared.arguments.ArgumentFault.{ArgumentFault}
use Rattle.processor.specs.declared.arguments.ArgumentFault.TheVariants.{Wire, Skew}
use Rattle.processor.specs.declared.failures.FailureText.{FailureText}
use Rattle.processor.specs.Seen.{argument_fault_text, failure_of}

fault_short : (s : PlainSchema) → IsSound s → (fault : ArgumentFault) → length (argument_fault_text s fault) ≤ 4194404
fault_short s sound (Wire fault) = omega (arith, wire_text_short fault)
fault_short s sound (Skew fault) = skew_text_short s sound fault

-- what a caller reads of arguments at fault
pub failure_short : (s : PlainSchema) → IsSound s → (fault : ArgumentFault) (failure : FailureText) → failure_of failure ≡ bad_arguments (argument_fault_text s fault)
    → length failure.text.items ≤ 268435556
failure_short s sound fault failure is =
    let l : length failure.text.items ≡ length (bad_arguments (argument_fault_text s fault)).text = ap (λ (f : Failure). length f.text) is in
    omega (arith, l, fault_short s sound fault)
