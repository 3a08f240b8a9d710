use Rattle.std.proofs.Common.{List, ℕ, Option, Vec, Global, refl, sym, ap, ◌∙◌}
use Rattle.std.specs.Option.{option_map}
use Rattle.thrift_value.specs.declared.tag.Tag.TheVariants.{Bytes}
use Rattle.thrift_value.specs.Tree.{Tree, of_bytes}
use Rattle.call_rules.specs.Memories.{texts_by, texts_tree}
use Rattle.call_rules.specs.StoreRule.{memory_with}
use Rattle.call_rules.proofs.TextMaps.{value_at_key-pairs, pairs_with-pairs}
use Rattle.house_handlers.specs.Kept.{key_tree}
use Rattle.house_handlers.proofs.store_handler.Store.enter.Goals as goal

-- the memory that keeps these texts
memory_of : List (Vec ℕ Global × List ℕ) → Tree
memory_of entries = texts_tree Bytes key_tree (λ text. text) entries

-- the tree of a text, where there is one
text_found : Option (List ℕ) → Option Tree
text_found found = option_map of_bytes found

pub returns-clause-found : goal.returns-clause-found
unfolding text_found
returns-clause-found c =
    ap text_found c.in_ok-insert.ensures.old
    ∙ sym (value_at_key-pairs key_tree (λ text. text) (of_bytes c.args.key.items) _ (λ _. refl) c.args.self.now.texts.entries)

pub returns-clause-kept : goal.returns-clause-kept
unfolding memory_of memory_with
returns-clause-kept c =
    ap memory_of c.in_ok-insert.ensures.entries
    ∙ ap (texts_by Bytes) (sym (pairs_with-pairs key_tree (λ text. text) _ c.args.key c.args.text (λ _. refl) c.args.self.now.texts.entries))
