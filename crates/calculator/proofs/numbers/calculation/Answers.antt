use Rattle.std.proofs.Common.{◌≡◌, ℤ, pos, Bool, true, false, cond, Ok, of_z, refl, ap, ◌∙◌, rules}
use Rattle.std.specs.Int.{w32, int_wrapping_add, int_wrapping_sub}
use Rattle.std.specs.Ordering.{int_eq}
use Rattle.std.proofs.lemmas.Bool.Decides.{Decides-int_eq}
use Rattle.call_rules.specs.CalculatorRule.{calculation, product_or_quotient}
use Rattle.calculator.proofs.numbers.calculation.Goals as goal

no_test : (b : Bool) → (b ≡ true → ⊥) → b ≡ false
no_test true never = absurd (never refl)
no_test false never = refl

-- an operation of another number
other_op : (op known : ℤ) → (of_z w32 op ≡ of_z w32 known → ⊥) → int_eq op known ≡ false
other_op op known other = no_test (int_eq op known) (λ same. other (ap (of_z w32) ((Decides-int_eq op known).0 same)))

pub returns : goal.returns
unfolding calculation
returns c =
    let not_1 = other_op c.args.op (pos 1) c.if-op-eq1.false in
    let not_2 = other_op c.args.op (pos 2) c.if-op-eq2.false in
    let step : calculation c.args.op c.args.a c.args.b ≡ product_or_quotient c.args.op c.args.a c.args.b =
    (λ i. cond (not_1 i) (Ok (int_wrapping_add w32 c.args.a c.args.b)) (cond (not_2 i) (Ok (int_wrapping_sub w32 c.args.a c.args.b)) (product_or_quotient c.args.op c.args.a c.args.b))) in
    step ∙ search (rules, c.product_or_quotient.ensures)
