-- The keys of a store, as a memory lists them.
use Rattle.std.proofs.Common.{◌≡◌, ℕ, List, [], ◌∷◌, ◌++◌, map, Vec, Global, refl, sym, ap, ◌∙◌}
use Rattle.std.specs.Map.{keys_of}
use Rattle.thrift_value.specs.Tree.{Tree, item}
use Rattle.thrift_value.specs.TreeOf.{item_trees, pair_trees}
use Rattle.call_rules.specs.Memories.{text_pair, map_keys_of}
use Rattle.house_handlers.specs.Kept.{key_tree}

-- the keys of a memory are those of its entries
keys_listed : (entries : List (Vec ℕ Global × List ℕ))
    → item_trees (map key_tree (keys_of entries)) ≡ map_keys_of (pair_trees (map (text_pair key_tree (λ text. text)) entries))
keys_listed [] = refl
keys_listed (e ∷ es) = ap (item (key_tree e.0)) (keys_listed es)

nothing_behind : (xs : List Tree) → xs ++ [] ≡ xs
nothing_behind [] = refl
nothing_behind (x ∷ xs) = ap (λ ys. x ∷ ys) (nothing_behind xs)

-- all of them were listed, and none is left
pub all_keys_listed : (entries : List (Vec ℕ Global × List ℕ)) (made : List Tree) (left : List (Vec ℕ Global)) → left ≡ []
    → made ++ map key_tree left ≡ map key_tree (keys_of entries)
    → item_trees made ≡ map_keys_of (pair_trees (map (text_pair key_tree (λ text. text)) entries))
all_keys_listed entries made left none all =
    ap item_trees (sym (nothing_behind made) ∙ ap (λ (rest : List (Vec ℕ Global)). made ++ map key_tree rest) (sym none) ∙ all) ∙ keys_listed entries
