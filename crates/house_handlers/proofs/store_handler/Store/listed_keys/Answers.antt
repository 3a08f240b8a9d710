use Rattle.std.proofs.Common.{ℕ, Vec, Global, map}
use Rattle.std.specs.Map.Iter.{deref}
use Rattle.std.proofs.lemmas.Map.Iter.{rest_all}
use Rattle.thrift_value.specs.TreeOf.{tree_of}
use Rattle.house_handlers.proofs.KeyLists.{all_keys_listed}
use Rattle.house_handlers.proofs.store_handler.Store.listed_keys.Goals as goal

pub returns : goal.returns
returns c =
    all_keys_listed c.args.self.now.texts.entries (map tree_of c.loop-key.keys.items) c.loop-key.key-iterator
    (rest_all (deref {X = Vec ℕ Global}) c.loop-key.key-iterator _ c.next.result c.in-None.is c.next.ensures.steps) c.loop-key.invariant
