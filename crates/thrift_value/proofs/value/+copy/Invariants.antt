use Rattle.std.proofs.Common.{◌≡◌, take, map}
use Rattle.thrift_value.specs.TreeOf.{tree_of, field_tree, pair_tree}
use Rattle.thrift_value.proofs.value.+copy.Given as goal

-- the copies so far have the trees of what was copied
abbrev pub invariant-Fields::try_clone-loop-id : goal.invariant-Fields::try_clone-loop-id
invariant-Fields::try_clone-loop-id l =
    map field_tree l.copies.items ≡ map field_tree (take l.id-index l.id-items)

abbrev pub invariant-Items::try_clone-loop-value : goal.invariant-Items::try_clone-loop-value
invariant-Items::try_clone-loop-value l = map tree_of l.copies.items ≡ map tree_of (take l.value-index l.value-items)

abbrev pub invariant-Pairs::try_clone-loop-key : goal.invariant-Pairs::try_clone-loop-key
invariant-Pairs::try_clone-loop-key l =
    map pair_tree l.copies.items ≡ map pair_tree (take l.key-index l.key-items)
