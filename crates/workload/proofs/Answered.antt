-- What the calculator answers to the frames of a workload.
use Rattle.std.proofs.Common.{◌≡◌, ℕ, pos, ◌<◌, ◌^◌, ◌+ℤ◌, ◌-ℤ◌, Bool, true, false, cond, codes, refl, ap, ◌∙◌, arith}
use Rattle.std.proofs.lemmas.Int.{ints, wrapping_sub_is, int_wrap_fits}
use Rattle.std.specs.Int.{w32, int_wrapping_add, int_wrapping_sub}
use Rattle.thrift_value.specs.Tree.{Tree, of_i32}
use Rattle.call_rules.specs.PlainCalls.{success}
use Rattle.call_rules.specs.Examples.{two_numbers_passed, work_passed}
use Rattle.call_rules.specs.CalculatorRule.{calculator_rule, add_answered, calculate_answered, work_done, calculation, calculated}
use Rattle.workload.specs.Numbers.{first_number, second_number}
use Rattle.workload.specs.CallFrames.{adds, arguments_by}
use Rattle.workload.specs.ExpectedRun.{method_at, frame_answer_by}

sum_is : (a b : ℕ) → a < 2 ^ 16 → b < 2 ^ 16 → int_wrapping_add w32 (pos a) (pos b) ≡ pos a +ℤ pos b
sum_is a b small few = omega (arith, ints)

difference_is : (a b : ℕ) → a < 2 ^ 16 → b < 2 ^ 16 → int_wrapping_sub w32 (pos a) (pos b) ≡ pos a -ℤ pos b
difference_is a b small few =
    wrapping_sub_is w32 (pos a) (pos b) (omega (arith, ints)) (omega (arith, ints)) ∙ int_wrap_fits w32 (pos a -ℤ pos b) (omega (arith, ints))

add_answer : (memory : Tree) (a b : ℕ) → (calculator_rule memory (codes "add") (two_numbers_passed (pos a) (pos b))).answer ≡ success (of_i32 (int_wrapping_add w32 (pos a) (pos b)))
unfolding add_answered
add_answer memory a b = refl

subtract_answer : (memory : Tree) (k a b : ℕ) → (calculator_rule memory (codes "calculate") (work_passed (pos k) (pos a) (pos b) (pos 2))).answer
    ≡ success (of_i32 (int_wrapping_sub w32 (pos a) (pos b)))
unfolding calculate_answered work_done calculation calculated
subtract_answer memory k a b = refl

either : (memory : Tree) (k a b : ℕ) → a < 2 ^ 16 → b < 2 ^ 16 → (sum : Bool)
    → (calculator_rule memory (cond sum (codes "add") (codes "calculate")) (cond sum (two_numbers_passed (pos a) (pos b)) (work_passed (pos k) (pos a) (pos b) (pos 2)))).answer
    ≡ success (of_i32 (cond sum (pos a +ℤ pos b) (pos a -ℤ pos b)))
either memory k a b small few true = add_answer memory a b ∙ ap (λ z. success (of_i32 z)) (sum_is a b small few)
either memory k a b small few false = subtract_answer memory k a b ∙ ap (λ z. success (of_i32 z)) (difference_is a b small few)

pub frame_answered : (memory : Tree) (k x : ℕ) → x < 2 ^ 64 → (calculator_rule memory (method_at k) (arguments_by k x)).answer ≡ success (of_i32 (frame_answer_by k x))
frame_answered memory k x small = either memory k (first_number x) (second_number x) (omega arith) (omega arith) (adds k)
