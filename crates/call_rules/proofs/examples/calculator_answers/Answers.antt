use Rattle.std.proofs.Common.{refl}
use Rattle.std.specs.Fmt.{digits}
use Rattle.call_rules.specs.CalculatorRule.{quotient, product_or_quotient, calculation, calculated, work_done, add_answered, calculate_answered, get_struct_answered}
use Rattle.call_rules.proofs.examples.calculator_answers.Goals as goal

pub returns-clause-ping : goal.returns-clause-ping
returns-clause-ping c = λ _. refl

pub returns-clause-zip : goal.returns-clause-zip
returns-clause-zip c = λ _. refl

pub returns-clause-sum : goal.returns-clause-sum
unfolding add_answered
returns-clause-sum c = refl

pub returns-clause-wraps : goal.returns-clause-wraps
unfolding add_answered
returns-clause-wraps c = refl

pub returns-clause-absent_is_zero : goal.returns-clause-absent_is_zero
unfolding add_answered
returns-clause-absent_is_zero c = refl

pub returns-clause-other_shape : goal.returns-clause-other_shape
unfolding add_answered
returns-clause-other_shape c = refl

pub returns-clause-no_work : goal.returns-clause-no_work
unfolding calculate_answered
returns-clause-no_work c = refl

pub returns-clause-unnamed : goal.returns-clause-unnamed
returns-clause-unnamed c = refl

pub returns-clause-by_zero : goal.returns-clause-by_zero
unfolding quotient product_or_quotient calculation calculated work_done calculate_answered
returns-clause-by_zero c = refl

pub returns-clause-unknown : goal.returns-clause-unknown
unfolding quotient product_or_quotient calculation calculated work_done calculate_answered
returns-clause-unknown c = refl

pub returns-clause-truncates : goal.returns-clause-truncates
unfolding quotient product_or_quotient calculation calculated work_done calculate_answered
returns-clause-truncates c = refl

pub returns-clause-least_by_minus_one : goal.returns-clause-least_by_minus_one
unfolding quotient product_or_quotient calculation calculated work_done calculate_answered
returns-clause-least_by_minus_one c = refl

pub returns-clause-no_struct : goal.returns-clause-no_struct
unfolding get_struct_answered
returns-clause-no_struct c = refl

pub returns-clause-kept : goal.returns-clause-kept
unfolding digits quotient product_or_quotient calculation calculated work_done calculate_answered
returns-clause-kept c = refl

pub returns-clause-told : goal.returns-clause-told
unfolding get_struct_answered
returns-clause-told c = refl
