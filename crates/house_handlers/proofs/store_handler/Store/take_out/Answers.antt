use Rattle.std.proofs.Common.{refl, sym, ap, ◌∙◌}
use Rattle.thrift_value.specs.declared.tag.Tag.TheVariants.{Bytes}
use Rattle.thrift_value.specs.Tree.{of_bytes}
use Rattle.call_rules.specs.Memories.{texts_by, texts_tree}
use Rattle.call_rules.proofs.TextMaps.{pairs_without-pairs}
use Rattle.house_handlers.specs.Kept.{key_tree}
use Rattle.house_handlers.proofs.store_handler.Store.take_out.Goals as goal

pub returns : goal.returns
returns c =
    ap (texts_tree Bytes key_tree (λ text. text)) c.remove-text.ensures.entries
    ∙ ap (texts_by Bytes) (sym (pairs_without-pairs key_tree (λ text. text) (of_bytes c.args.key.now) _ (λ _. refl) c.args.self.now.texts.entries))
