-- What shows that nodes lie on no cycle: labels that rise along no edge.
use Rattle.std.specs.Prelude.{◌≡◌, ℕ, ◌<◌, true, nat_le, nat_lt, List, [], slice_index, slice_index_or}
use Rattle.std.specs.List.{list_all}
use Rattle.graph_cycles.specs.Walks.{Graph}

-- each edge of a row leads to a label of at most so much
abbrev pub LeadsNoHigher : List ℕ → ℕ → List ℕ → Type 0
LeadsNoHigher labels bound row = list_all (λ node. nat_le (slice_index labels node) bound) row ≡ true

-- each edge of a row leads to a label below so much
abbrev pub LeadsLower : List ℕ → ℕ → List ℕ → Type 0
LeadsLower labels bound row = list_all (λ node. nat_lt (slice_index labels node) bound) row ≡ true

-- no label rises along an edge
abbrev pub RisesNowhere : Graph → List ℕ → Type 0
RisesNowhere graph labels = (a : ℕ) → LeadsNoHigher labels (slice_index labels a) (slice_index_or graph a [])

-- labels fall along each edge of the first nodes
abbrev pub FallsBefore : Graph → List ℕ → ℕ → Type 0
FallsBefore graph labels count = (a : ℕ) → a < count → LeadsLower labels (slice_index labels a) (slice_index_or graph a [])
