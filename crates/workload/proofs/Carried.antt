-- Bytes that are counted group by group, and one count more on a tape.
use Rattle.std.proofs.Common.{◌≡◌, ℕ, ◌+◌, ◌<◌, ◌≤◌, ◌==◌, min, List, [], length, sym, ap, ◌∙◌, arith}
use Rattle.std.proofs.Math.Path.{fun_ext}
use Rattle.std.specs.List.{flat_map, filter, sum_by, AllByRecursion}
use Rattle.std.proofs.lemmas.List.Concat.{length-flat_map}
use Rattle.script_model.specs.ScriptLines.{count_up}
use Rattle.workload.proofs.Grouped.{grouped_counts}

pub carried : {X : Type 0} (key : X → ℕ) (f : X → List ℕ) (n : ℕ) (xs : List X) → AllByRecursion (λ x. key x < n) xs
    → sum_by (λ c. length (flat_map f (filter (λ x. key x == c) xs))) (count_up 0 n) ≡ sum_by (λ x. length (f x)) xs
carried key f n xs all =
    ap (λ g. sum_by g (count_up 0 n)) (fun_ext (λ c. length-flat_map f (filter (λ x. key x == c) xs)))
    ∙ grouped_counts key (λ x. length (f x)) n xs all

pub carried_whole : {X : Type 0} (key : X → ℕ) (f : X → List ℕ) (n : ℕ) (xs : List X) → AllByRecursion (λ x. key x < n) xs
    → sum_by (λ c. length (flat_map f (filter (λ x. key x == c) xs))) (count_up 0 n) ≡ length (flat_map f xs)
carried_whole key f n xs all = carried key f n xs all ∙ sym (length-flat_map f xs)

-- nothing is left to be counted
pub all_counted : {X : Type 0} (f : X → List ℕ) (left : List X) (count most whole : ℕ) → left ≡ [] → count ≤ most
    → min (count + length (flat_map f left)) most ≡ whole → count ≡ whole
all_counted f left count most whole none within counted =
    let nothing : length (flat_map f left) ≡ 0 = ap (λ xs. length (flat_map f xs)) none in
    omega (arith, nothing, counted)
