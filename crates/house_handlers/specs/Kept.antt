-- The services that a store and a mirror are.
use Rattle.std.specs.Prelude.{ℕ, Vec, refl}
use Rattle.std.specs.declared.alloc.Global.{Global}
use Rattle.thrift_value.specs.declared.tag.Tag.TheVariants.{Bytes}
use Rattle.thrift_value.specs.Tree.{Tree, of_bytes}
use Rattle.call_rules.specs.declared.kind.Kind.TheVariants as kinds
use Rattle.call_rules.specs.Memories.{texts_tree, texts_tree_is}
use Rattle.call_rules.specs.Handling.{ServiceState, HasItsMemory, new_service}
use Rattle.house_handlers.specs.declared.store_handler.Store.{Store}
use Rattle.house_handlers.specs.declared.mirror_handler.Mirror.{Mirror}

-- a key in memory as a value
abbrev pub key_tree : Vec ℕ Global → Tree
key_tree key = of_bytes key.items

-- the texts that a store keeps, as a memory
abbrev pub store_memory : Store → Tree
store_memory store = texts_tree Bytes key_tree (λ text. text) store.texts.entries

-- its kind and its memory
abbrev pub store_service : Store → ServiceState
store_service store = record { kind = kinds.Store; memory = store_memory store }

-- its memory is of its kind
pub store_is_kept : (store : Store) → HasItsMemory (store_service store)
store_is_kept store = texts_tree_is Bytes key_tree (λ text. text) (λ _. refl) (λ _. tt) store.texts.entries

-- a mirror keeps nothing
abbrev pub mirror_service : Mirror → ServiceState
mirror_service mirror = new_service kinds.Mirror

pub mirror_is_kept : (mirror : Mirror) → HasItsMemory (mirror_service mirror)
mirror_is_kept mirror = refl
