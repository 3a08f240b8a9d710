use Rattle.std.proofs.Common.{◌≡◌, ◌++◌, map}
use Rattle.std.specs.Map.{keys_of}
use Rattle.thrift_value.specs.TreeOf.{tree_of}
use Rattle.house_handlers.specs.Kept.{key_tree}
use Rattle.house_handlers.proofs.store_handler.Store.listed_keys.Given as goal

-- the keys so far, and those that are left, are all keys
abbrev pub invariant-loop-key : goal.invariant-loop-key
invariant-loop-key l = map tree_of l.keys.items ++ map key_tree l.key-iterator ≡ map key_tree (keys_of l.self.texts.entries)
