-- Which structs have no finite value.
use Rattle.std.proofs.Common.{◌≡◌, ℕ, Bool, true, false, List, refl, sym, subst, ◌∙◌, true≢false, not}
use Rattle.std.specs.Prelude.{◌↔◌, IsTrue, slice_index_or}
use Rattle.idl_include.specs.Program.{Program}
use Rattle.schema.specs.PlainSchema.{PlainSchema}
use Rattle.check_model.specs.FiniteValues.{HasFiniteValue}
use Rattle.check_model.specs.Passes.{HasNoFiniteValue}
use Rattle.check_model.proofs.OneSchema.{one_partial}
use Rattle.check_passes.specs.Right.{TellFinite}

pub endless_told : (program : Program) (marks : List Bool) (number : ℕ) (b : Bool) → TellFinite program marks → b ≡ slice_index_or marks number false
    → IsTrue (not b) ↔ (Unit {0} × HasNoFiniteValue program number)
endless_told program marks number true right told = (
  λ e. absurd (true≢false (sym e)),
  λ h. absurd (
      let P : PlainSchema → Type 0 = λ schema. HasFiniteValue schema number in
      h.1.2 (subst P (one_partial program right.schema h.1.0 right.made h.1.1) ((right.each number).0 (sym told)))),
)
endless_told program marks number false right told =
    (λ e. (tt, (right.schema, right.made, λ h. true≢false (sym ((right.each number).1 h) ∙ sym told))), λ h. refl)
