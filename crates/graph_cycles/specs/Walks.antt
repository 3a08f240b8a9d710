-- Walks in a directed graph, and the first node that lies on a cycle.
use Rattle.std.specs.Prelude.{ℕ, ◌<◌, List, [], ◌∷◌, Option, Some, None, slice_index_or}
use Rattle.std.specs.List.{Contains}

-- a graph: for each node, by number, the nodes to which its edges lead
abbrev pub Graph : Type 0
Graph = List (List ℕ)

-- an edge leads from one node to another
abbrev pub IsEdge : Graph → ℕ → ℕ → Type 0
IsEdge graph from to = Contains (slice_index_or graph from []) to

-- edges lead from one node over these in between, in order, to another
abbrev pub Walk : Graph → ℕ → List ℕ → ℕ → Type 0
Walk graph from [] to = IsEdge graph from to
Walk graph from (next ∷ between) to = IsEdge graph from next × Walk graph next between to

-- one edge or more lead from one node to another
abbrev pub LeadsTo : Graph → ℕ → ℕ → Type 0
LeadsTo graph from to = (between : List ℕ) × Walk graph from between to

-- a node leads to itself
abbrev pub OnCycle : Graph → ℕ → Type 0
OnCycle graph node = LeadsTo graph node node

-- the least number of which P holds, or that there is none
abbrev pub IsLowest : (ℕ → Type 0) → Option ℕ → Type 0
IsLowest P None = (k : ℕ) → P k → ⊥
IsLowest P (Some k) = P k × ((j : ℕ) → j < k → P j → ⊥)
