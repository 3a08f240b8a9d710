use Rattle.std.proofs.Common.{List, ℕ, ℤ, refl, sym, ap, ◌∙◌}
use Rattle.std.specs.Int.{w32}
use Rattle.std.proofs.lemmas.Int.{to_z-of_z}
use Rattle.std.specs.BTreeMap.{insert_entry}
use Rattle.std.specs.Ordering.{int_cmp}
use Rattle.thrift_value.specs.declared.tag.Tag.TheVariants.{I32}
use Rattle.thrift_value.specs.Tree.{Tree, of_i32}
use Rattle.call_rules.specs.Memories.{texts_by, texts_tree}
use Rattle.call_rules.proofs.TextMaps.{pairs_with-pairs}
use Rattle.calculator.proofs.handler.Calculator.keep.Goals as goal

-- the memory that keeps these texts
memory_of : List (ℤ × List ℕ) → Tree
memory_of entries = texts_tree I32 of_i32 (λ text. text) entries

pub returns-clause-ok : goal.returns-clause-ok
unfolding memory_of
returns-clause-ok c =
    ap memory_of c.in_ok-insert.ensures.entries
    ∙ ap (λ (k : ℤ). memory_of (insert_entry int_cmp c.args.self.now.texts.entries k c.args.text)) (to_z-of_z w32 c.args.logid c.ranges.logid)
    ∙ ap (texts_by I32) (sym (pairs_with-pairs of_i32 (λ text. text) int_cmp c.args.logid c.args.text (λ _. refl) c.args.self.now.texts.entries))
