-- How the calculator answers: the service of the Thrift tutorial. It keeps the text of each value that it calculated, by the log's
-- number.
use Rattle.std.specs.Prelude.{ℕ, ℤ, pos, List, codes, Option, None, Some, Result, Ok, Err, if◌then◌else◌}
use Rattle.std.specs.Int.{w32, int_wrapping_add, int_wrapping_sub, int_wrapping_mul, int_wrapping_div}
use Rattle.std.specs.Ordering.{int_eq}
use Rattle.std.specs.Str.{bytes_eq}
use Rattle.text_out.specs.Decimal.{decimal_of}
use Rattle.thrift_value.specs.declared.tag.Tag.TheVariants.{I32}
use Rattle.thrift_value.specs.Tree.{Tree, of_i32, of_bytes, of_struct, FieldTrees, no_fields, field}
use Rattle.call_rules.specs.PlainCalls.{PlainAnswer, success, empty, throws, broken}
use Rattle.call_rules.specs.Handled.{Handled, keeping, or_broken}
use Rattle.call_rules.specs.Memories.{pairs_in, texts_by, value_at_key, pairs_with}
use Rattle.call_rules.specs.Arguments.{value_with_id, argument, number_passed, fields_passed}

-- a quotient, truncated; the least number by -1 is itself
unfoldable pub quotient : ℤ → ℤ → Result ℤ (List ℕ)
quotient a b = if int_eq b (pos 0) then Err (codes "Cannot divide by 0") else Ok (int_wrapping_div w32 a b)

-- what two numbers come to under the third and the fourth operation; there is no other
unfoldable pub product_or_quotient : ℤ → ℤ → ℤ → Result ℤ (List ℕ)
product_or_quotient op a b =
    if int_eq op (pos 3) then Ok (int_wrapping_mul w32 a b) else if int_eq op (pos 4) then quotient a b else Err (codes "Unknown operation")

-- what two numbers come to under an operation, wrapped to 32 bits, or why they come to nothing
unfoldable pub calculation : ℤ → ℤ → ℤ → Result ℤ (List ℕ)
calculation op a b =
    if int_eq op (pos 1) then Ok (int_wrapping_add w32 a b) else if int_eq op (pos 2) then Ok (int_wrapping_sub w32 a b)
    else product_or_quotient op a b

-- the exception of the tutorial: the operation, and why it came to nothing
abbrev pub invalid_operation : ℤ → List ℕ → Tree
invalid_operation op why = of_struct (field (pos 1) (of_i32 op) (field (pos 2) (of_bytes why) no_fields))

-- a value is the answer, and its text is kept; without one the exception is thrown
unfoldable pub calculated : Tree → ℤ → ℤ → Result ℤ (List ℕ) → Handled
calculated memory logid op (Ok value) =
    record {
      answer = success (of_i32 value);
      memory = texts_by I32 (pairs_with (of_i32 logid) (of_bytes (decimal_of value)) (pairs_in memory));
    }
calculated memory logid op (Err why) = keeping memory (throws (pos 1) (invalid_operation op why))

-- calculate, for a log's number and the fields of its work
unfoldable pub work_done : Tree → ℤ → FieldTrees → Handled
work_done memory logid work =
    or_broken memory (number_passed (value_with_id (pos 1) work)) (λ num1.
    or_broken memory (number_passed (value_with_id (pos 2) work)) (λ num2.
    or_broken memory (number_passed (value_with_id (pos 3) work)) (λ op. calculated memory logid op (calculation op num1 num2))))

-- calculate(logid, w)
unfoldable pub calculate_answered : Tree → Tree → Handled
calculate_answered memory args =
    or_broken memory (number_passed (argument (pos 1) args)) (λ logid.
    or_broken memory (fields_passed (argument (pos 2) args)) (λ work. work_done memory logid work))

-- add(num1, num2): the sum, wrapped to 32 bits
unfoldable pub add_answered : Tree → Tree → Handled
add_answered memory args =
    or_broken memory (number_passed (argument (pos 1) args)) (λ num1.
    or_broken memory (number_passed (argument (pos 2) args)) (λ num2. keeping memory (success (of_i32 (int_wrapping_add w32 num1 num2)))))

-- the struct of the tutorial's shared file: a key, and the text that is kept under it
abbrev pub shared_struct : ℤ → Tree → Tree
shared_struct key text = of_struct (field (pos 1) (of_i32 key) (field (pos 2) text no_fields))

-- the struct of a key, where a text is kept under it
abbrev pub kept_struct : ℤ → Option Tree → PlainAnswer
kept_struct key None = empty
kept_struct key (Some text) = success (shared_struct key text)

-- getStruct(key)
unfoldable pub get_struct_answered : Tree → Tree → Handled
get_struct_answered memory args =
    or_broken memory (number_passed (argument (pos 1) args)) (λ key. keeping memory (kept_struct key (value_at_key (of_i32 key) (pairs_in memory))))

-- the calculator's answer to a call of this method
abbrev pub calculator_rule : Tree → List ℕ → Tree → Handled
calculator_rule memory method args =
    if bytes_eq method (codes "ping") then keeping memory empty else if bytes_eq method (codes "zip") then keeping memory empty
    else if bytes_eq method (codes "add") then add_answered memory args
    else if bytes_eq method (codes "calculate") then calculate_answered memory args
    else if bytes_eq method (codes "getStruct") then get_struct_answered memory args else keeping memory broken
