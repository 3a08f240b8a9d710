-- Which nodes lie on cycles, by the first that does.
use Rattle.std.proofs.Common.{◌≡◌, ◌<◌, ℕ, true, false, Option, None, Some, sym, subst, true≢false}
use Rattle.std.specs.Prelude.{◌↔◌, IsTrue}
use Rattle.graph_cycles.specs.Walks.{Graph, OnCycle, IsLowest}

pub none_lies : (graph : Graph) (first : Option ℕ) (number : ℕ) → first ≡ None → IsLowest (OnCycle graph) first → IsTrue false ↔ OnCycle graph number
none_lies graph first number e lowest =
    let P : Option ℕ → Type 0 = λ o. IsLowest (OnCycle graph) o in
    (λ t. absurd (true≢false (sym t)), λ h. absurd ((subst P e lowest) number h))

pub below_lies : (graph : Graph) (first : Option ℕ) (node number : ℕ) → first ≡ Some node → number < node → IsLowest (OnCycle graph) first
    → IsTrue false ↔ OnCycle graph number
below_lies graph first node number e below lowest =
    let P : Option ℕ → Type 0 = λ o. IsLowest (OnCycle graph) o in
    (λ t. absurd (true≢false (sym t)), λ h. absurd ((subst P e lowest).1 number below h))
