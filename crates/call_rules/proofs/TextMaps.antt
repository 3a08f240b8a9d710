-- A map of texts, kept as entries by rising keys, does to its memory what the definitions do.
use Rattle.std.proofs.Common.{◌≡◌, ℕ, Bool, true, false, cond, List, [], ◌∷◌, map, Option, Some, Ordering, Less, Equal, Greater, refl, ap, ◌∙◌}
use Rattle.std.specs.Option.{option_map}
use Rattle.std.specs.Ordering.{is_eq, match_ordering}
use Rattle.std.specs.Map.{lookup, remove_entry}
use Rattle.std.specs.BTreeMap.{insert_entry, is_at}
use Rattle.thrift_value.specs.Tree.{Tree, of_bytes, PairTrees, pair}
use Rattle.thrift_value.specs.TreeOf.{pair_trees}
use Rattle.thrift_value.specs.Order.{tree_cmp}
use Rattle.call_rules.specs.Memories.{value_at_key, pairs_with, pairs_without, text_pair}

module _ {K X : Type 0} (key_tree : K → Tree) (text_in : X → List ℕ) where
  -- the pairs of entries
  abbrev pub pairs_for : List (K × X) → PairTrees
  pairs_for entries = pair_trees (map (text_pair key_tree text_in) entries)

  found_by : (b : Bool) (v : X) (rest : Option Tree) (later : Option X) → rest ≡ option_map (λ x. of_bytes (text_in x)) later
      → cond b (Some (of_bytes (text_in v))) rest ≡ option_map (λ x. of_bytes (text_in x)) (cond b (Some v) later)
  found_by true v rest later same = refl
  found_by false v rest later same = same

  -- a look-up
  pub value_at_key-pairs : (q : Tree) (compare : K → Ordering) → ((k : K) → tree_cmp q (key_tree k) ≡ compare k) → (entries : List (K × X))
      → value_at_key q (pairs_for entries) ≡ option_map (λ x. of_bytes (text_in x)) (lookup (is_at compare) entries)
  value_at_key-pairs q compare alike [] = refl
  value_at_key-pairs q compare alike (e ∷ es) =
      ap (λ o. cond (is_eq o) (Some (of_bytes (text_in e.1))) (value_at_key q (pairs_for es))) (alike e.0)
      ∙ found_by (is_eq (compare e.0)) e.1 (value_at_key q (pairs_for es)) (lookup (is_at compare) es) (value_at_key-pairs q compare alike es)

  taken_by : (b : Bool) (e : K × X) (es later : List (K × X)) (rest : PairTrees) → rest ≡ pairs_for later
      → cond b (pairs_for es) (pair (key_tree e.0) (of_bytes (text_in e.1)) rest) ≡ pairs_for (cond b es (e ∷ later))
  taken_by true e es later rest same = refl
  taken_by false e es later rest same = ap (pair (key_tree e.0) (of_bytes (text_in e.1))) same

  -- an entry that is taken out
  pub pairs_without-pairs : (q : Tree) (compare : K → Ordering) → ((k : K) → tree_cmp q (key_tree k) ≡ compare k) → (entries : List (K × X))
      → pairs_without q (pairs_for entries) ≡ pairs_for (remove_entry (is_at compare) entries)
  pairs_without-pairs q compare alike [] = refl
  pairs_without-pairs q compare alike (e ∷ es) =
      ap (λ o. cond (is_eq o) (pairs_for es) (pair (key_tree e.0) (of_bytes (text_in e.1)) (pairs_without q (pairs_for es)))) (alike e.0)
      ∙ taken_by (is_eq (compare e.0)) e es (remove_entry (is_at compare) es) (pairs_without q (pairs_for es)) (pairs_without-pairs q compare alike es)

  put_by : (o : Ordering) (k : K) (v : X) (e : K × X) (es later : List (K × X)) (rest : PairTrees) → rest ≡ pairs_for later
      → match_ordering o (pair (key_tree k) (of_bytes (text_in v)) (pairs_for (e ∷ es))) (pair (key_tree e.0) (of_bytes (text_in v)) (pairs_for es)) (pair (key_tree e.0) (of_bytes (text_in e.1)) rest)
      ≡ pairs_for (match_ordering o ((k, v) ∷ e ∷ es) ((e.0, v) ∷ es) (e ∷ later))
  put_by Less k v e es later rest same = refl
  put_by Equal k v e es later rest same = refl
  put_by Greater k v e es later rest same = ap (pair (key_tree e.0) (of_bytes (text_in e.1))) same

  -- an entry that is put
  pub pairs_with-pairs : (cmp : K → K → Ordering) (k : K) (v : X) → ((j : K) → tree_cmp (key_tree k) (key_tree j) ≡ cmp k j) → (entries : List (K × X))
      → pairs_with (key_tree k) (of_bytes (text_in v)) (pairs_for entries) ≡ pairs_for (insert_entry cmp entries k v)
  pairs_with-pairs cmp k v alike [] = refl
  pairs_with-pairs cmp k v alike (e ∷ es) =
      ap (λ o. match_ordering o (pair (key_tree k) (of_bytes (text_in v)) (pairs_for (e ∷ es))) (pair (key_tree e.0) (of_bytes (text_in v)) (pairs_for es))
      (pair (key_tree e.0) (of_bytes (text_in e.1)) (pairs_with (key_tree k) (of_bytes (text_in v)) (pairs_for es)))) (alike e.0)
      ∙ put_by (cmp k e.0) k v e es (insert_entry cmp es k v) (pairs_with (key_tree k) (of_bytes (text_in v)) (pairs_for es)) (pairs_with-pairs cmp k v alike es)
