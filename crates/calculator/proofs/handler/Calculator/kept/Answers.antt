use Rattle.std.proofs.Common.{List, ℕ, ℤ, Option, refl, sym, ap, ◌∙◌}
use Rattle.std.specs.Int.{w32}
use Rattle.std.proofs.lemmas.Int.{to_z-of_z}
use Rattle.std.specs.BTreeMap.{get_by}
use Rattle.std.specs.Option.{option_map}
use Rattle.std.specs.Ordering.{int_cmp}
use Rattle.thrift_value.specs.Tree.{Tree, of_i32, of_bytes}
use Rattle.call_rules.proofs.TextMaps.{value_at_key-pairs}
use Rattle.calculator.proofs.handler.Calculator.kept.Goals as goal

-- the tree of a text, where there is one
text_found : Option (List ℕ) → Option Tree
text_found found = option_map of_bytes found

pub returns : goal.returns
unfolding text_found
returns c =
    ap text_found c.get.ensures.value
    ∙ ap (λ (k : ℤ). text_found (get_by (int_cmp k) c.args.self.now.texts)) (to_z-of_z w32 c.args.key c.ranges.key)
    ∙ sym (value_at_key-pairs of_i32 (λ text. text) (of_i32 c.args.key) (int_cmp c.args.key) (λ _. refl) c.args.self.now.texts.entries)
