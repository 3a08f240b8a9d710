-- Whether one node leads to another: it does or it doesn't. Nodes in between are let in one after another, by number.
use Rattle.std.proofs.Common.{◌≡◌, ◌≢◌, ◌⊎◌, true, false, eqb, inl, inr, ℕ, zero, suc, ◌<◌, List, [], ◌∷◌, ◌++◌, length, slice_index_or, subst, arith}
use Rattle.std.specs.List.{Contains}
use Rattle.std.proofs.lemmas.Bool.Decides.{eqb_tells}
use Rattle.graph_cycles.specs.Walks.{Graph, IsEdge, Walk, LeadsTo}

-- a way over nodes below a number alone
abbrev Within : Graph → ℕ → ℕ → ℕ → Type 0
Within graph zero a b = IsEdge graph a b
Within graph (suc k) a b = Within graph k a b ⊎ (Within graph k a k × Within graph k k b)

-- a list has a number or not
first_or_later : (y : ℕ) (ys : List ℕ) (x : ℕ) → ((y ≡ x) ⊎ (y ≡ x → ⊥)) → (Contains ys x ⊎ (Contains ys x → ⊥)) → Contains (y ∷ ys) x ⊎ (Contains (y ∷ ys) x → ⊥)
first_or_later y ys x (inl e) later = inl (0, omega arith, e)
first_or_later y ys x (inr n) (inl h) = inl (suc h.0, (let l = h.1 in omega arith), h.2)
first_or_later y ys x (inr n) (inr m) = inr nowhere
  where
    nowhere : Contains (y ∷ ys) x → ⊥
    nowhere (zero, l, e) = n e
    nowhere (suc k, l, e) = m (k, omega arith, e)

told : (a b : ℕ) → ((eqb a b ≡ true) × (a ≡ b)) ⊎ ((eqb a b ≡ false) × (a ≢ b)) → (a ≡ b) ⊎ (a ≡ b → ⊥)
told a b (inl h) = inl h.1
told a b (inr h) = inr h.1

same_or_not : (a b : ℕ) → (a ≡ b) ⊎ (a ≡ b → ⊥)
same_or_not a b = told a b (eqb_tells a b)

has_or_not : (xs : List ℕ) (x : ℕ) → Contains xs x ⊎ (Contains xs x → ⊥)
has_or_not [] x = inr (λ h. let l = h.1 in omega arith)
has_or_not (y ∷ ys) x = first_or_later y ys x (same_or_not y x) (has_or_not ys x)

-- ways below a number are there or not
either_way : {A B C : Type 0} → (A ⊎ (A → ⊥)) → (B ⊎ (B → ⊥)) → (C ⊎ (C → ⊥)) → (A ⊎ (B × C)) ⊎ ((A ⊎ (B × C)) → ⊥)
either_way (inl a) b c = inl (inl a)
either_way (inr a) (inl b) (inl c) = inl (inr (b, c))
either_way {A} {B} {C} (inr a) (inl b) (inr c) = inr no_way
  where
    no_way : A ⊎ (B × C) → ⊥
    no_way (inl x) = a x
    no_way (inr x) = c x.1
either_way {A} {B} {C} (inr a) (inr b) c = inr no_way
  where
    no_way : A ⊎ (B × C) → ⊥
    no_way (inl x) = a x
    no_way (inr x) = b x.0

within_or_not : (graph : Graph) (k a b : ℕ) → Within graph k a b ⊎ (Within graph k a b → ⊥)
within_or_not graph zero a b = has_or_not (slice_index_or graph a []) b
within_or_not graph (suc k) a b = either_way (within_or_not graph k a b) (within_or_not graph k a k) (within_or_not graph k k b)

-- an edge is such a way
edge_within : (graph : Graph) (k a b : ℕ) → IsEdge graph a b → Within graph k a b
edge_within graph zero a b e = e
edge_within graph (suc k) a b e = inl (edge_within graph k a b e)

-- one way behind another
to_top : (graph : Graph) (k a : ℕ) → Within graph (suc k) a k → Within graph k a k
to_top graph k a (inl x) = x
to_top graph k a (inr x) = x.0

from_top : (graph : Graph) (k b : ℕ) → Within graph (suc k) k b → Within graph k k b
from_top graph k b (inl x) = x
from_top graph k b (inr x) = x.1

-- the same where the node in between is the last that was let in
joined_at_top : (graph : Graph) (k a b : ℕ) → Within graph (suc k) a k → Within graph (suc k) k b → Within graph (suc k) a b
joined_at_top graph k a b x y = inr (to_top graph k a x, from_top graph k b y)

-- the same where it is one of the others, which ways are joined by the number before
joined_below : (graph : Graph) (k a m b : ℕ) → ((x y : ℕ) → Within graph k x m → Within graph k m y → Within graph k x y)
    → Within graph (suc k) a m → Within graph (suc k) m b → Within graph (suc k) a b
joined_below graph k a m b join (inl x) (inl y) = inl (join a b x y)
joined_below graph k a m b join (inl x) (inr y) = inr (join a k x y.0, y.1)
joined_below graph k a m b join (inr x) (inl y) = inr (x.0, join k b x.1 y)
joined_below graph k a m b join (inr x) (inr y) = inr (x.0, y.1)

below : (m k : ℕ) → (m ≡ k → ⊥) → m < suc k → m < k
below m k n l = omega arith

joined_by : (graph : Graph) (k a m b : ℕ) → (m ≡ k) ⊎ (m ≡ k → ⊥) → m < suc k
    → (m < k → (x y : ℕ) → Within graph k x m → Within graph k m y → Within graph k x y)
    → Within graph (suc k) a m → Within graph (suc k) m b → Within graph (suc k) a b
joined_by graph k a m b (inl e) l join x y =
    let P : ℕ → Type 0 = λ n. Within graph (suc k) a n in
    let Q : ℕ → Type 0 = λ n. Within graph (suc k) n b in
    joined_at_top graph k a b (subst P e x) (subst Q e y)
joined_by graph k a m b (inr n) l join x y = joined_below graph k a m b (join (below m k n l)) x y

joined : (graph : Graph) (k a m b : ℕ) → m < k → Within graph k a m → Within graph k m b → Within graph k a b
joined graph zero a m b l x y = absurd (let f : ⊥ = omega arith in f)
joined graph (suc k) a m b l x y = joined_by graph k a m b (same_or_not m k) l (λ h u v. joined graph k u m v h) x y

-- only a node of the graph has an edge
has_row : (graph : Graph) (a b : ℕ) → IsEdge graph a b → a < length graph
has_row [] a b e = absurd (let l = e.1 in let f : ⊥ = omega arith in f)
has_row (row ∷ graph) zero b e = omega arith
has_row (row ∷ graph) (suc a) b e = let l = has_row graph a b e in omega arith

-- a walk is a way over nodes of the graph
first_row : (graph : Graph) (a : ℕ) (between : List ℕ) (b : ℕ) → Walk graph a between b → a < length graph
first_row graph a [] b walk = has_row graph a b walk
first_row graph a (m ∷ between) b walk = has_row graph a m walk.0

walk_within : (graph : Graph) (a : ℕ) (between : List ℕ) (b : ℕ) → Walk graph a between b → Within graph (length graph) a b
walk_within graph a [] b walk = edge_within graph (length graph) a b walk
walk_within graph a (m ∷ between) b walk =
    joined graph (length graph) a m b (first_row graph m between b walk.1) (edge_within graph (length graph) a m walk.0) (walk_within graph m between b walk.1)

-- a way is a walk
walk_on : (graph : Graph) (a : ℕ) (front : List ℕ) (m : ℕ) (back : List ℕ) (b : ℕ) → Walk graph a front m → Walk graph m back b → Walk graph a (front ++ m ∷ back) b
walk_on graph a [] m back b x y = (x, y)
walk_on graph a (n ∷ front) m back b x y = (x.0, walk_on graph n front m back b x.1 y)

way_leads : (graph : Graph) (k a b : ℕ) → Within graph k a b → LeadsTo graph a b
way_leads graph zero a b x = ([], x)
way_leads graph (suc k) a b (inl x) = way_leads graph k a b x
way_leads graph (suc k) a b (inr x) =
    let front = way_leads graph k a k x.0 in
    let back = way_leads graph k k b x.1 in
    (front.0 ++ k ∷ back.0, walk_on graph a front.0 k back.0 b front.1 back.1)

pub leads_or_not : (graph : Graph) (a b : ℕ) → LeadsTo graph a b ⊎ (LeadsTo graph a b → ⊥)
leads_or_not graph a b = by (within_or_not graph (length graph) a b)
  where
    by : Within graph (length graph) a b ⊎ (Within graph (length graph) a b → ⊥) → LeadsTo graph a b ⊎ (LeadsTo graph a b → ⊥)
    by (inl x) = inl (way_leads graph (length graph) a b x)
    by (inr n) = inr (λ w. n (walk_within graph a w.0 b w.1))

-- a node that leads to a second leads where the second does
pub leads_on : (graph : Graph) (a m b : ℕ) → LeadsTo graph a m → LeadsTo graph m b → LeadsTo graph a b
leads_on graph a m b x y = (x.0 ++ m ∷ y.0, walk_on graph a x.0 m y.0 b x.1 y.1)
