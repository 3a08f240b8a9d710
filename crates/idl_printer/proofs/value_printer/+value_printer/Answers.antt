use Rattle.std.proofs.Common.{◌≡◌, ◌++◌, codes, OnOk, List, ℕ, sym, subst, ap, ◌∙◌}
use Rattle.std.proofs.lemmas.List.{append_assoc}
use Rattle.idl_printer.specs.Printed.{behind_comma, pair_text, pair_behind_comma, value_text, values_text, both_texts, const_pairs_text}
use Rattle.idl_parser.specs.declared.tree.ConstTree.{ConstTree}
use Rattle.idl_printer.proofs.ValueTexts.{text_of_map, text_of_list}
use Rattle.idl_printer.proofs.Appends.{put_all, put_behind, walked, walked_through}
use Rattle.idl_printer.proofs.value_printer.+value_printer.Goals as goal

pub put_value-returns-in_ok-put_pairs-in-Map : goal.put_value-returns-in_ok-put_pairs-in-Map
put_value-returns-in_ok-put_pairs-in-Map t c =
    let slice : const_pairs_text c.as_slice-in-Map.result.now ≡ const_pairs_text c.in-Map.pairs.items = ap const_pairs_text c.as_slice-in-Map.ensures.value in
    subst (λ (text : List ℕ). OnOk c.extend_from_slice-in-Map-2.result (c.extend_from_slice-in-Map-2.new.self.items ≡ c.args.into.now.items ++ text))
    (sym (text_of_map c.args.value.now c.in-Map.field-0 c.in-Map.pairs c.in-Map.is))
    (put_all c.extend_from_slice-in-Map-2.result c.extend_from_slice-in-Map-2.new.self.items c.args.into.now.items
    c.extend_from_slice-in-Map.new.self.items c.put_pairs.new.into.items (codes "{") (const_pairs_text c.in-Map.pairs.items) (const_pairs_text c.as_slice-in-Map.result.now) (codes "}")
    c.extend_from_slice-in-Map-2.ensures.items c.in_ok-put_pairs-in-Map.ensures slice c.in_ok-extend_from_slice-in-Map.ensures.items)

pub put_value-returns-in_ok-put_values-in-List : goal.put_value-returns-in_ok-put_values-in-List
put_value-returns-in_ok-put_values-in-List t c =
    let slice : values_text c.as_slice-in-List.result.now ≡ values_text c.in-List.items.items = ap values_text c.as_slice-in-List.ensures.value in
    subst (λ (text : List ℕ). OnOk c.extend_from_slice-in-List-2.result (c.extend_from_slice-in-List-2.new.self.items ≡ c.args.into.now.items ++ text))
    (sym (text_of_list c.args.value.now c.in-List.field-0 c.in-List.items c.in-List.is))
    (put_all c.extend_from_slice-in-List-2.result c.extend_from_slice-in-List-2.new.self.items c.args.into.now.items
    c.extend_from_slice-in-List.new.self.items c.put_values.new.into.items (codes "[") (values_text c.in-List.items.items) (values_text c.as_slice-in-List.result.now) (codes "]")
    c.extend_from_slice-in-List-2.ensures.items c.in_ok-put_values-in-List.ensures slice c.in_ok-extend_from_slice-in-List.ensures.items)

pub put_values-loop-value-preserved : goal.put_values-loop-value-preserved
put_values-loop-value-preserved t c =
    walked behind_comma value_text c.in-Some.more.now c.loop-value.value-index c.value-item.result c.loop-value.into.items c.put_value_behind_comma.new.into.items _ c.loop-value-test.true c.value-item.is
    c.in_ok-put_value_behind_comma.ensures c.loop-value.invariant

pub put_pairs-loop-key-preserved : goal.put_pairs-loop-key-preserved
put_pairs-loop-key-preserved t c =
    let p : ConstTree × ConstTree = c.loop-key-item.result in
    walked pair_behind_comma both_texts c.in-Some.more.now c.loop-key.key-index p c.loop-key.into.items c.put_value_behind_colon-in-loop-key.new.into.items _ c.loop-key-test.true c.loop-key-item.is
    (c.in_ok-put_value_behind_colon-2.ensures
    ∙ put_behind c.put_value_behind_comma.new.into.items c.loop-key.into.items (behind_comma (value_text p.0)) (codes ": " ++ value_text p.1) c.in_ok-put_value_behind_comma.ensures
    ∙ ap (λ (t : List ℕ). c.loop-key.into.items ++ t) (append_assoc (codes ", ") (value_text p.0) (codes ": " ++ value_text p.1)))
    c.loop-key.invariant

pub put_values-returns : goal.put_values-returns
put_values-returns t c =
    walked_through behind_comma value_text c.in-Some.more.now c.loop-value.value-index c.loop-value.into.items c.put_value.new.into.items c.args.into.now.items (value_text c.in-Some.first.now)
    c.loop-value-test.false c.loop-value.invariant c.in_ok-put_value.ensures
    ∙ ap (λ (values : List ConstTree). c.args.into.now.items ++ values_text values) (sym c.in-Some.ensures.cases.0)

pub put_pairs-returns : goal.put_pairs-returns
put_pairs-returns t c =
    let first : ConstTree × ConstTree = c.in-Some.first.now in
    walked_through pair_behind_comma both_texts c.in-Some.more.now c.loop-key.key-index c.loop-key.into.items c.put_value_behind_colon.new.into.items c.args.into.now.items
    (pair_text (both_texts first)) c.loop-key-test.false c.loop-key.invariant
    (c.in_ok-put_value_behind_colon.ensures ∙ put_behind c.put_value.new.into.items c.args.into.now.items (value_text first.0) (codes ": " ++ value_text first.1) c.in_ok-put_value.ensures)
    ∙ ap (λ (pairs : List (ConstTree × ConstTree)). c.args.into.now.items ++ const_pairs_text pairs) (sym c.in-Some.ensures.cases.0)
