use Rattle.std.proofs.Common.{List, ℕ, Option, refl, sym, ap, ◌∙◌}
use Rattle.std.specs.Option.{option_map}
use Rattle.thrift_value.specs.Tree.{Tree, of_bytes}
use Rattle.call_rules.proofs.TextMaps.{value_at_key-pairs}
use Rattle.house_handlers.specs.Kept.{key_tree}
use Rattle.house_handlers.proofs.store_handler.Store.kept.Goals as goal

-- the tree of a text, where there is one
text_found : Option (List ℕ) → Option Tree
text_found found = option_map of_bytes found

pub returns : goal.returns
unfolding text_found
returns c =
    ap text_found c.get.ensures.value
    ∙ sym (value_at_key-pairs key_tree (λ text. text) (of_bytes c.args.key.now) _ (λ _. refl) c.args.self.now.texts.entries)
