-- Labels that rise along no edge, and what they show.
use Rattle.std.proofs.Common.{◌≡◌, ℕ, ◌<◌, ◌≤◌, Bool, true, nat_le, nat_lt, List, [], ◌∷◌, slice_index, slice_index_or, ap, sym, ◌∙◌, arith}
use Rattle.std.specs.List.{list_all, Contains}
use Rattle.std.proofs.lemmas.List.Sums.{AllPass-from_list_all}
use Rattle.std.proofs.lemmas.Bool.{leb-true, ltb-true}
use Rattle.graph_cycles.specs.Walks.{Graph, IsEdge, Walk, OnCycle}
use Rattle.graph_cycles.specs.Certified.{RisesNowhere, FallsBefore}

-- a test that each element passes is passed by one of them
passes : (p : ℕ → Bool) (xs : List ℕ) (x : ℕ) → list_all p xs ≡ true → Contains xs x → p x ≡ true
passes p xs x all has = ap p (sym has.2) ∙ AllPass-from_list_all p xs all has.0 x has.1

-- the label where an edge leads is no higher
no_higher : (graph : Graph) (labels : List ℕ) → RisesNowhere graph labels → (a b : ℕ) → IsEdge graph a b → slice_index labels b ≤ slice_index labels a
no_higher graph labels rises a b edge =
    leb-true (slice_index labels b) (slice_index labels a)
    (passes (λ node. nat_le (slice_index labels node) (slice_index labels a)) (slice_index_or graph a []) b (rises a) edge)

-- nor is that at the end of a walk
walk_no_higher : (graph : Graph) (labels : List ℕ) → RisesNowhere graph labels → (a : ℕ) (between : List ℕ) (b : ℕ) → Walk graph a between b
    → slice_index labels b ≤ slice_index labels a
walk_no_higher graph labels rises a [] b walk = no_higher graph labels rises a b walk
walk_no_higher graph labels rises a (m ∷ between) b walk =
    let first = no_higher graph labels rises a m walk.0 in
    let rest = walk_no_higher graph labels rises m between b walk.1 in
    omega arith

-- the label where an edge leads from one of the first nodes is lower
lower : (graph : Graph) (labels : List ℕ) (count : ℕ) → FallsBefore graph labels count → (a b : ℕ) → a < count → IsEdge graph a b
    → slice_index labels b < slice_index labels a
lower graph labels count falls a b within edge =
    ltb-true (slice_index labels b) (slice_index labels a)
    (passes (λ node. nat_lt (slice_index labels node) (slice_index labels a)) (slice_index_or graph a []) b (falls a within) edge)

-- so no walk leads back to one of them
pub no_cycle : (graph : Graph) (labels : List ℕ) (count : ℕ) → RisesNowhere graph labels → FallsBefore graph labels count → (a : ℕ) → a < count → OnCycle graph a → ⊥
no_cycle graph labels count rises falls a within (between, walk) = by_walk between walk
  where
    by_walk : (between : List ℕ) → Walk graph a between a → ⊥
    by_walk [] walk = let first = lower graph labels count falls a a within walk in omega arith
    by_walk (m ∷ between) walk =
        let first = lower graph labels count falls a m within walk.0 in
        let rest = walk_no_higher graph labels rises m between a walk.1 in
        omega arith
