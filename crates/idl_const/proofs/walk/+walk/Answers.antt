use Rattle.std.proofs.Common.{◌≡◌, Some, None, map, FitsSigned, sym, ap, ◌∙◌, subst, arith, rules}
use Rattle.std.specs.Option.{option_map}
use Rattle.std.specs.Int.{w16, w64}
use Rattle.std.proofs.lemmas.Int.{to_z-of_z}
use Rattle.std.proofs.lemmas.Result.{err_from_is_err_and}
use Rattle.thrift_value.specs.TreeOf.{tree_of, field_tree, field_trees}
use Rattle.thrift_value.specs.Tree.{of_struct}
use Rattle.thrift_value.proofs.Trees.{tree_of-Struct}
use Rattle.thrift_value.specs.declared.value.Value as value
use Rattle.schema.specs.PlainKind.{kind_of}
use Rattle.schema.specs.SchemaOf.{plain_field}
use Rattle.idl_include.specs.ConstExpr.{list_const, map_const}
use Rattle.idl_include.specs.DeclaredIn.{value_in, items_in, entries_in}
use Rattle.check_model.specs.Worths.{seen_at}
use Rattle.check_model.specs.Scalars.{enum_worth}
use Rattle.check_model.specs.Evaluation.{worth_by, struct_numbered}
use Rattle.idl_const.specs.declared.chains.ChainEnd.TheVariants as ends
use Rattle.idl_const.specs.FieldEntries.{entry_in, entry_worth}
use Rattle.idl_const.specs.Flaws.{IsOneWorth, StopsAs, AnswersWorth}
use Rattle.idl_const.specs.Given.{FiledTree, both_in}
use Rattle.idl_const.specs.Marks.{no_place, entered_where, worth_where}
use Rattle.idl_const.proofs.Braces.{list_is, map_is, unfit_worth, struct_where}
use Rattle.idl_const.proofs.ChainLinks.{seen_own}
use Rattle.idl_const.proofs.Entering.{ended_at, worth_absent, worth_entered, refused, left_again}
use Rattle.idl_const.proofs.InFront.{items_step, items_end, pairs_step, pairs_end, given_step, known_step, fields_end, free_step, none_mapped}
use Rattle.idl_const.proofs.OwedSteps.{fields_step, fields_stop}
use Rattle.idl_const.proofs.Stopping.{not_kept, item_stops, first_stops, second_stops, key_stops, field_stops, list_refused, map_refused, struct_refused, list_stops, list_made, map_stops, map_made, struct_stops}
use Rattle.idl_const.proofs.walk.+walk.Goals as goal

pub items-returns-clause-worth : goal.items-returns-clause-worth
items-returns-clause-worth g t c =
    let s = g.G.Ground.setting c.args.ground.now in
    items_end s (worth_where s c.args.work.now.free.items) c.args.file (kind_of c.args.kind.now) c.args.levels c.loop-tree.tree-index c.args.trees.now c.loop-tree.made.items c.loop-tree.work.values
    _ (omega arith) c.loop-tree.invariant.made

pub items-loop-tree-preserved : goal.items-loop-tree-preserved
items-loop-tree-preserved g t c =
    let s = g.G.Ground.setting c.args.ground.now in
    record {
      made = items_step s (worth_where s c.args.work.now.free.items) c.args.file (kind_of c.args.kind.now) c.args.levels c.loop-tree.tree-index c.args.trees.now c.tree-item.result
          c.loop-tree.made.items c.keep.new.list.items c.value-one.result c.loop-tree.work.values c.value-one.new.work.values _ c.loop-tree-test.true c.tree-item.is c.loop-tree.invariant.made
          (subst (λ f. AnswersWorth tree_of c.value-one.result c.value-one.new.work.values (worth_by s (worth_where s f) c.args.file (kind_of c.args.kind.now) c.args.levels c.loop-tree.work.values (value_in c.tree-item.result))) c.loop-tree.invariant.free c.value-one.ensures.worth)
          c.in_ok-keep.ensures;
      free = free_step c.value-one.result c.value-one.new.work.free.items c.loop-tree.work.free.items c.args.work.now.free.items c.keep.new.list.items _ c.value-one.ensures.free c.loop-tree.invariant.free c.in_ok-keep.ensures;
    }

pub pairs-returns-clause-worth : goal.pairs-returns-clause-worth
pairs-returns-clause-worth g t c =
    let s = g.G.Ground.setting c.args.ground.now in
    pairs_end s (worth_where s c.args.work.now.free.items) c.args.file (kind_of c.args.key.now) (kind_of c.args.held.now) c.args.levels c.loop-first.first-index c.args.entries.now c.loop-first.made.items c.loop-first.work.values
    _ (omega arith) c.loop-first.invariant.made

pub pairs-loop-first-preserved : goal.pairs-loop-first-preserved
pairs-loop-first-preserved g t c =
    let s = g.G.Ground.setting c.args.ground.now in
    record {
      made = pairs_step s (worth_where s c.args.work.now.free.items) c.args.file (kind_of c.args.key.now) (kind_of c.args.held.now) c.args.levels c.loop-first.first-index c.args.entries.now c.loop-first-item.result
          c.loop-first.made.items c.keep_beside.new.list.items c.in_ok-first.first c.value-second.result c.loop-first.work.values c.value.new.work.values c.value-second.new.work.values _ c.loop-first-test.true c.loop-first-item.is c.loop-first.invariant.made
          (ap (λ f. worth_by s (worth_where s f) c.args.file (kind_of c.args.key.now) c.args.levels c.loop-first.work.values (value_in c.loop-first-item.result.0)) (sym c.loop-first.invariant.free) ∙ c.in_ok-first.ensures.worth)
          (subst (λ f. AnswersWorth tree_of c.value-second.result c.value-second.new.work.values (worth_by s (worth_where s f) c.args.file (kind_of c.args.held.now) c.args.levels c.value.new.work.values (value_in c.loop-first-item.result.1))) (c.in_ok-first.ensures.free ∙ c.loop-first.invariant.free) c.value-second.ensures.worth)
          c.in_ok-keep_beside.ensures;
      free = free_step c.value-second.result c.value-second.new.work.free.items c.value.new.work.free.items c.args.work.now.free.items c.keep_beside.new.list.items _ c.value-second.ensures.free (c.in_ok-first.ensures.free ∙ c.loop-first.invariant.free) c.in_ok-keep_beside.ensures;
    }

pub given_fields-loop-key-preserved : goal.given_fields-loop-key-preserved
given_fields-loop-key-preserved g t c =
    let s = g.G.Ground.setting c.args.ground.now in
    let fits : FitsSigned w16 c.in_ok-field.field.now.id = search rules in
    let same = to_z-of_z w16 c.in_ok-field.field.now.id fits in
    record {
      made = given_step s (worth_where s c.args.work.now.free.items) c.args.file (struct_numbered s.schema c.args.which).fields c.args.levels c.loop-key.key-index c.args.entries.now c.loop-key-item.result
          (plain_field c.in_ok-field.field.now) _ c.loop-key.given.items c.keep_beside.new.list.items c.value-one.result c.loop-key.work.values c.value-one.new.work.values _ c.loop-key-test.true c.loop-key-item.is c.loop-key.invariant.made
          (c.in_ok-field.ensures.worth c.loop-key.work.values)
          (subst (λ f. AnswersWorth tree_of c.value-one.result c.value-one.new.work.values (worth_by s (worth_where s f) c.args.file (kind_of c.in_ok-field.field.now.kind) c.args.levels c.loop-key.work.values (value_in c.loop-key-item.result.1))) c.loop-key.invariant.free c.value-one.ensures.worth)
          c.in_ok-keep_beside.ensures same;
      known = known_step (struct_numbered s.schema c.args.which).fields c.loop-key.given.items c.keep_beside.new.list.items _ (plain_field c.in_ok-field.field.now) c.value-one.result c.loop-key.invariant.known c.in_ok-field.ensures.known c.in_ok-keep_beside.ensures same;
      free = free_step c.value-one.result c.value-one.new.work.free.items c.loop-key.work.free.items c.args.work.now.free.items c.keep_beside.new.list.items _ c.value-one.ensures.free c.loop-key.invariant.free c.in_ok-keep_beside.ensures;
    }

pub owed_fields-returns-clause-worth : goal.owed_fields-returns-clause-worth
owed_fields-returns-clause-worth g t c =
    let s = g.G.Ground.setting c.args.ground.now in
    fields_end (worth_where s c.args.work.now.free.items) c.args.at c.args.levels c.loop-entry.work.values (map entry_in c.loop-entry.row.items) c.loop-entry.made.items _ (none_mapped entry_in c.loop-entry.row.items (omega (arith, c.in_default.ensures.cases.0, c.loop-entry.row.ok))) c.loop-entry.invariant.made

pub braced-returns-then-not-takes_braces-clause-worth : goal.braced-returns-then-not-takes_braces-clause-worth
braced-returns-then-not-takes_braces-clause-worth g t c =
    let s = g.G.Ground.setting c.args.ground.now in
    unfit_worth s (worth_where s c.args.work.now.free.items) c.args.file c.args.levels c.args.work.now.values c.args.at (entries_in (map both_in c.args.entries.now)) (kind_of c.args.kind.now) c.unfit.result c.unfit.new.work.values
    (sym c.takes_braces.ensures ∙ c.if-not-takes_braces.true) c.unfit.ensures.worth

pub structured-returns-clause-worth : goal.structured-returns-clause-worth
structured-returns-clause-worth g t c =
    let s = g.G.Ground.setting c.args.ground.now in
    struct_where s c.args.work.now.free.items c.opened.new.work.free.items c.args.file c.args.levels c.args.work.now.values c.args.at (entries_in (map both_in c.args.entries.now)) c.args.which c.in_ok-left.left c.opened.new.work.values c.fields.new.work.values
    (field_trees (map field_tree c.in_ok-made.made.items)) (value.Struct c.new.result) (search rules) c.in_ok-left.ensures.worth c.in_ok-made.ensures.worth
    (tree_of-Struct c.new.result ∙ ap (λ fs. of_struct (field_trees (map field_tree fs))) c.new.ensures)

pub unnamed-returns-in-Map-clause-worth : goal.unnamed-returns-in-Map-clause-worth
unnamed-returns-in-Map-clause-worth g t c =
    let s = g.G.Ground.setting c.args.ground.now in
    subst (λ e. AnswersWorth tree_of c.braced.result c.braced.new.work.values (worth_by s (worth_where s c.args.work.now.free.items) c.args.file (kind_of c.args.kind.now) c.args.levels c.args.work.now.values e))
    (ap (λ es. map_const c.in-Map.at (entries_in (map both_in es))) c.as_slice-in-Map.ensures.value ∙ sym (map_is c.args.tree.now c.in-Map.at c.in-Map.entries c.in-Map.is))
    c.braced.ensures.worth

pub given-returns-in-None-clause-worth : goal.given-returns-in-None-clause-worth
given-returns-in-None-clause-worth g t c =
    let s = g.G.Ground.setting c.args.ground.now in
    ap (seen_at c.args.at) (ended_at s c.args.work.now.free.items c.args.which None (kind_of c.args.kind.now) c.args.levels c.args.work.now.values c.in-None.ensures)

pub given-returns-in-Some-Unknown-clause-worth : goal.given-returns-in-Some-Unknown-clause-worth
given-returns-in-Some-Unknown-clause-worth g t c =
    let s = g.G.Ground.setting c.args.ground.now in
    ap (seen_at c.args.at) (ended_at s c.args.work.now.free.items c.args.which (Some ends.Unknown) (kind_of c.args.kind.now) c.args.levels c.args.work.now.values
    (sym (ap (λ e. Some e) c.in-Some-Unknown.field-0-is) ∙ c.in-Some-Unknown.ensures))

pub given-returns-in-Some-Number-clause-worth : goal.given-returns-in-Some-Number-clause-worth
given-returns-in-Some-Number-clause-worth g t c =
    let s = g.G.Ground.setting c.args.ground.now in
    let worth = enum_worth (kind_of c.args.kind.now) c.in-Some-Number.of c.in-Some-Number.number in
    let fits : FitsSigned w64 c.in-Some-Number.number = search rules in
    let told = subst (λ n. IsOneWorth (enum_worth (kind_of c.args.kind.now) c.in-Some-Number.of n) c.enum_value.result) (to_z-of_z w64 c.in-Some-Number.number fits) c.enum_value.ensures in
    subst (AnswersWorth tree_of c.single.result c.single.new.work.values)
    (sym (ap (seen_at c.args.at) (ended_at s c.args.work.now.free.items c.args.which (Some (ends.Number c.in-Some-Number.of c.in-Some-Number.number)) (kind_of c.args.kind.now) c.args.levels c.args.work.now.values
    (sym (ap (λ e. Some e) c.in-Some-Number.field-0-is) ∙ c.in-Some-Number.ensures))
    ∙ seen_own no_place c.args.at c.args.work.now.values worth))
    (c.single.ensures.worth worth told)

pub given-returns-in-Some-Value-clause-worth : goal.given-returns-in-Some-Value-clause-worth
given-returns-in-Some-Value-clause-worth g t c =
    let s = g.G.Ground.setting c.args.ground.now in
    subst (λ w. AnswersWorth tree_of c.entered.result c.entered.new.work.values (seen_at c.args.at w))
    (sym (ended_at s c.args.work.now.free.items c.args.which (Some (ends.Value c.in-Some-Value.last)) (kind_of c.args.kind.now) c.args.levels c.args.work.now.values
    (sym (ap (λ e. Some e) c.in-Some-Value.field-0-is) ∙ c.in-Some-Value.ensures)))
    c.entered.ensures.worth

pub entered-returns-in_default-clause-worth : goal.entered-returns-in_default-clause-worth
entered-returns-in_default-clause-worth g t c =
    let s = g.G.Ground.setting c.args.ground.now in
    worth_absent s c.args.work.now.free.items c.args.which (kind_of c.args.kind.now) c.args.levels c.args.work.now.values c.args.at (search (rules, c.in_default.ensures))

pub entered-returns-in_err-enter-clause-worth : goal.entered-returns-in_err-enter-clause-worth
entered-returns-in_err-enter-clause-worth g t c =
    let s = g.G.Ground.setting c.args.ground.now in
    let p = err_from_is_err_and c.from_residual.result c.from_residual.ensures.1 in
    rw (p.1, p.2)
    (refused s c.args.work.now.free.items c.enter.new.work.free.items c.args.which (kind_of c.args.kind.now) c.args.levels c.args.work.now.values c.args.at
    c.in_err-enter.field-0.0 c.in_err-enter.ensures.entered)

pub entered-returns-clause-worth : goal.entered-returns-clause-worth
entered-returns-clause-worth g t c =
    let s = g.G.Ground.setting c.args.ground.now in
    let t : FiledTree = record { file = c.in-Some.file; item = value_in c.in-Some.tree.now } in
    let kind = kind_of c.args.kind.now in
    let same : entered_where s c.args.work.now.free.items c.args.which kind c.args.levels c.args.work.now.values
    ≡ worth_by s (worth_where s c.enter.new.work.free.items) c.in-Some.file kind c.args.levels c.enter.new.work.values (value_in c.in-Some.tree.now) =
    worth_entered s c.args.work.now.free.items c.args.which t kind c.args.levels c.args.work.now.values c.in_ok-enter.ensures.entered.0 (sym c.in-Some.ensures)
    ∙ (λ i. worth_by s (worth_where s (sym c.in_ok-enter.ensures.entered.1 i)) c.in-Some.file kind c.args.levels (sym c.in_ok-enter.ensures.values i) (value_in c.in-Some.tree.now)) in
    subst (λ w. AnswersWorth tree_of c.put_at-made.result c.unnamed.new.work.values (seen_at c.args.at w)) (sym same)
    (c.put_at-made.ensures.seen _ c.unnamed.new.work.values c.unnamed.ensures.worth)

pub entered-returns-clause-free : goal.entered-returns-clause-free
entered-returns-clause-free g t c =
    left_again c.unnamed.result c.put_at-made.result c.args.work.now.free.items c.enter.new.work.free.items c.unnamed.new.work.free.items c.mark.new.free.items c.args.which
    c.put_at-made.ensures.ok c.in_ok-enter.ensures.entered.0 c.in_ok-enter.ensures.entered.1 c.unnamed.ensures.free c.mark.ensures

-- where a part stops, or isn't kept

pub items-returns-in_err-keep-clause-worth : goal.items-returns-in_err-keep-clause-worth
items-returns-in_err-keep-clause-worth g t c =
    let s = g.G.Ground.setting c.args.ground.now in
    let p = err_from_is_err_and c.from_residual.result c.from_residual.ensures.1 in
    rw (p.1, p.2)
    (not_kept c.value-one.result c.in_err-keep.field-0.0 c.value-one.new.work.values _ _
    (subst (λ f. AnswersWorth tree_of c.value-one.result c.value-one.new.work.values (worth_by s (worth_where s f) c.args.file (kind_of c.args.kind.now) c.args.levels c.loop-tree.work.values (value_in c.tree-item.result))) c.loop-tree.invariant.free c.value-one.ensures.worth)
    c.in_err-keep.ensures
    (item_stops s (worth_where s c.args.work.now.free.items) c.args.file c.args.levels c.loop-tree.tree-index c.loop-tree.work.values c.in_err-keep.field-0.0 (kind_of c.args.kind.now) c.args.trees.now c.tree-item.result c.loop-tree.made.items _ c.loop-tree-test.true c.tree-item.is c.loop-tree.invariant.made))

pub pairs-returns-in_err-first-clause-worth : goal.pairs-returns-in_err-first-clause-worth
pairs-returns-in_err-first-clause-worth g t c =
    let s = g.G.Ground.setting c.args.ground.now in
    let p = err_from_is_err_and c.from_residual.result c.from_residual.ensures.1 in
    rw (p.1, p.2)
    (first_stops s (worth_where s c.args.work.now.free.items) c.args.file c.args.levels c.loop-first.first-index c.loop-first.work.values c.in_err-first.field-0.0 (kind_of c.args.key.now) (kind_of c.args.held.now) c.args.entries.now c.loop-first-item.result c.loop-first.made.items _ c.loop-first-test.true c.loop-first-item.is c.loop-first.invariant.made
    (subst (λ f. StopsAs c.in_err-first.field-0.0 (worth_by s (worth_where s f) c.args.file (kind_of c.args.key.now) c.args.levels c.loop-first.work.values (value_in c.loop-first-item.result.0))) c.loop-first.invariant.free c.in_err-first.ensures.worth))

pub pairs-returns-in_err-keep_beside-clause-worth : goal.pairs-returns-in_err-keep_beside-clause-worth
pairs-returns-in_err-keep_beside-clause-worth g t c =
    let s = g.G.Ground.setting c.args.ground.now in
    let p = err_from_is_err_and c.from_residual-in_err-keep_beside.result c.from_residual-in_err-keep_beside.ensures.1 in
    rw (p.1, p.2)
    (not_kept c.value-second.result c.in_err-keep_beside.field-0.0 c.value-second.new.work.values _ _
    (subst (λ f. AnswersWorth tree_of c.value-second.result c.value-second.new.work.values (worth_by s (worth_where s f) c.args.file (kind_of c.args.held.now) c.args.levels c.value.new.work.values (value_in c.loop-first-item.result.1))) (c.in_ok-first.ensures.free ∙ c.loop-first.invariant.free) c.value-second.ensures.worth)
    c.in_err-keep_beside.ensures
    (second_stops s (worth_where s c.args.work.now.free.items) c.args.file c.args.levels c.loop-first.first-index c.loop-first.work.values c.in_err-keep_beside.field-0.0 (kind_of c.args.key.now) (kind_of c.args.held.now) c.args.entries.now c.loop-first-item.result c.loop-first.made.items _ c.loop-first-test.true c.loop-first-item.is c.loop-first.invariant.made (tree_of c.in_ok-first.first) c.value.new.work.values
    (ap (λ f. worth_by s (worth_where s f) c.args.file (kind_of c.args.key.now) c.args.levels c.loop-first.work.values (value_in c.loop-first-item.result.0)) (sym c.loop-first.invariant.free) ∙ c.in_ok-first.ensures.worth)))

pub given_fields-returns-in_err-field-clause-worth : goal.given_fields-returns-in_err-field-clause-worth
given_fields-returns-in_err-field-clause-worth g t c =
    let s = g.G.Ground.setting c.args.ground.now in
    let p = err_from_is_err_and c.from_residual.result c.from_residual.ensures.1 in
    rw (p.1, p.2) (key_stops s (worth_where s c.args.work.now.free.items) c.args.file c.args.levels c.loop-key.key-index c.loop-key.work.values c.in_err-field.field-0.0 (struct_numbered s.schema c.args.which).fields c.args.entries.now c.loop-key-item.result _ _ c.loop-key-test.true c.loop-key-item.is c.loop-key.invariant.made (c.in_err-field.ensures.worth c.loop-key.work.values))

pub given_fields-returns-in_err-keep_beside-clause-worth : goal.given_fields-returns-in_err-keep_beside-clause-worth
given_fields-returns-in_err-keep_beside-clause-worth g t c =
    let s = g.G.Ground.setting c.args.ground.now in
    let p = err_from_is_err_and c.from_residual-in_err-keep_beside.result c.from_residual-in_err-keep_beside.ensures.1 in
    rw (p.1, p.2)
    (not_kept c.value-one.result c.in_err-keep_beside.field-0.0 c.value-one.new.work.values _ _
    (subst (λ f. AnswersWorth tree_of c.value-one.result c.value-one.new.work.values (worth_by s (worth_where s f) c.args.file (kind_of c.in_ok-field.field.now.kind) c.args.levels c.loop-key.work.values (value_in c.loop-key-item.result.1))) c.loop-key.invariant.free c.value-one.ensures.worth)
    c.in_err-keep_beside.ensures
    (field_stops s (worth_where s c.args.work.now.free.items) c.args.file c.args.levels c.loop-key.key-index c.loop-key.work.values c.in_err-keep_beside.field-0.0 (struct_numbered s.schema c.args.which).fields c.args.entries.now c.loop-key-item.result _ _ c.loop-key-test.true c.loop-key-item.is c.loop-key.invariant.made (plain_field c.in_ok-field.field.now) (c.in_ok-field.ensures.worth c.loop-key.work.values)))

pub bracketed-returns-in_err-made-clause-worth : goal.bracketed-returns-in_err-made-clause-worth
bracketed-returns-in_err-made-clause-worth g t c =
    let s = g.G.Ground.setting c.args.ground.now in
    let p = err_from_is_err_and c.from_residual-in_err-made.result c.from_residual-in_err-made.ensures.1 in
    rw (p.1, p.2) (list_stops s c.args.work.now.free.items c.opened.new.work.free.items c.args.file c.args.levels c.args.work.now.values c.in_ok-left.left c.opened.new.work.values c.args.at (search rules) (items_in (map value_in c.args.trees.now)) (kind_of c.args.kind.now) (kind_of c.element_kind.result.now) c.takes_brackets.result c.takes_brackets.ensures c.element_kind.ensures c.in_ok-left.ensures.worth c.in_err-made.field-0.0 c.in_err-made.ensures.worth)

pub bracketed-returns-clause-worth : goal.bracketed-returns-clause-worth
bracketed-returns-clause-worth g t c =
    let s = g.G.Ground.setting c.args.ground.now in
    list_made s c.args.work.now.free.items c.opened.new.work.free.items c.args.file c.args.levels c.args.work.now.values c.in_ok-left.left c.opened.new.work.values c.args.at (search rules) (items_in (map value_in c.args.trees.now)) (kind_of c.args.kind.now) (kind_of c.element_kind.result.now) c.takes_brackets.result c.takes_brackets.ensures c.element_kind.ensures c.in_ok-left.ensures.worth c.items.new.work.values _ _ c.in_ok-made.ensures.worth c.in_ok-row_value.ensures

pub mapped-returns-in_err-made-clause-worth : goal.mapped-returns-in_err-made-clause-worth
mapped-returns-in_err-made-clause-worth g t c =
    let s = g.G.Ground.setting c.args.ground.now in
    let p = err_from_is_err_and c.from_residual-in_err-made.result c.from_residual-in_err-made.ensures.1 in
    rw (p.1, p.2) (map_stops s c.args.work.now.free.items c.opened.new.work.free.items c.args.file c.args.levels c.args.work.now.values c.in_ok-left.left c.opened.new.work.values c.args.at (search rules) (entries_in (map both_in c.args.entries.now)) c.in_ok-left.ensures.worth (kind_of c.args.key.now) (kind_of c.args.value.now) c.in_err-made.field-0.0 c.in_err-made.ensures.worth)

pub mapped-returns-clause-worth : goal.mapped-returns-clause-worth
mapped-returns-clause-worth g t c =
    let s = g.G.Ground.setting c.args.ground.now in
    map_made s c.args.work.now.free.items c.opened.new.work.free.items c.args.file c.args.levels c.args.work.now.values c.in_ok-left.left c.opened.new.work.values c.args.at (search rules) (entries_in (map both_in c.args.entries.now)) c.in_ok-left.ensures.worth (kind_of c.args.key.now) (kind_of c.args.value.now) c.pairs.new.work.values _ _ c.in_ok-made.ensures.worth c.in_ok-map_value.ensures

pub structured-returns-in_err-made-clause-worth : goal.structured-returns-in_err-made-clause-worth
structured-returns-in_err-made-clause-worth g t c =
    let s = g.G.Ground.setting c.args.ground.now in
    let p = err_from_is_err_and c.from_residual-in_err-made.result c.from_residual-in_err-made.ensures.1 in
    rw (p.1, p.2) (struct_stops s c.args.work.now.free.items c.opened.new.work.free.items c.args.file c.args.levels c.args.work.now.values c.in_ok-left.left c.opened.new.work.values c.args.at (search rules) (entries_in (map both_in c.args.entries.now)) c.in_ok-left.ensures.worth c.args.which c.in_err-made.field-0.0 c.in_err-made.ensures.worth)

pub bracketed-returns-in_err-left-clause-worth : goal.bracketed-returns-in_err-left-clause-worth
bracketed-returns-in_err-left-clause-worth g t c =
    let s = g.G.Ground.setting c.args.ground.now in
    let p = err_from_is_err_and c.from_residual.result c.from_residual.ensures.1 in
    rw (p.1, p.2) (list_refused s (worth_where s c.args.work.now.free.items) c.args.file c.args.levels c.args.work.now.values c.args.at c.in_err-left.field-0.0 (items_in (map value_in c.args.trees.now)) (kind_of c.args.kind.now) c.takes_brackets.result c.takes_brackets.ensures c.in_err-left.ensures.worth)

pub mapped-returns-in_err-left-clause-worth : goal.mapped-returns-in_err-left-clause-worth
mapped-returns-in_err-left-clause-worth g t c =
    let s = g.G.Ground.setting c.args.ground.now in
    let p = err_from_is_err_and c.from_residual.result c.from_residual.ensures.1 in
    rw (p.1, p.2) (map_refused s (worth_where s c.args.work.now.free.items) c.args.file c.args.levels c.args.work.now.values c.args.at c.in_err-left.field-0.0 (entries_in (map both_in c.args.entries.now)) c.in_err-left.ensures.worth (kind_of c.args.key.now) (kind_of c.args.value.now))

pub structured-returns-in_err-left-clause-worth : goal.structured-returns-in_err-left-clause-worth
structured-returns-in_err-left-clause-worth g t c =
    let s = g.G.Ground.setting c.args.ground.now in
    let p = err_from_is_err_and c.from_residual.result c.from_residual.ensures.1 in
    rw (p.1, p.2) (struct_refused s (worth_where s c.args.work.now.free.items) c.args.file c.args.levels c.args.work.now.values c.args.at c.in_err-left.field-0.0 (entries_in (map both_in c.args.entries.now)) c.in_err-left.ensures.worth c.args.which)

pub unnamed-returns-in-List-clause-worth : goal.unnamed-returns-in-List-clause-worth
unnamed-returns-in-List-clause-worth g t c =
    let s = g.G.Ground.setting c.args.ground.now in
    subst (λ e. AnswersWorth tree_of c.bracketed.result c.bracketed.new.work.values (worth_by s (worth_where s c.args.work.now.free.items) c.args.file (kind_of c.args.kind.now) c.args.levels c.args.work.now.values e))
    (ap (λ es. list_const c.in-List.at (items_in (map value_in es))) c.as_slice.ensures.value ∙ sym (list_is c.args.tree.now c.in-List.at c.in-List.items c.in-List.is))
    c.bracketed.ensures.worth

pub owed_fields-loop-entry-preserved : goal.owed_fields-loop-entry-preserved
owed_fields-loop-entry-preserved g t c =
    let s = g.G.Ground.setting c.args.ground.now in
    let fits : FitsSigned w16 c.entry_id-id.result = search rules in
    let both =
    fields_step (worth_where s c.args.work.now.free.items) c.args.at c.args.levels c.loop-entry.work.values (entry_in c.in-Some.entry) (map entry_in c.loop-entry.row.items) (map entry_in c.pop_front.new.self.items)
    c.loop-entry.made.items _ (ap (map entry_in) c.in-Some.ensures.items) c.loop-entry.invariant.made
    c.keep_field.new.list.items c.entry_value-one.result _ c.entry_value-one.new.work.values c.entry_value-one.new.work.free.items c.loop-entry.work.free.items c.args.work.now.free.items
    (subst (λ f. AnswersWorth (option_map tree_of) c.entry_value-one.result c.entry_value-one.new.work.values (entry_worth (worth_where s f) c.args.at c.args.levels c.loop-entry.work.values (entry_in c.in-Some.entry))) c.loop-entry.invariant.free c.entry_value-one.ensures.worth)
    c.in_ok-keep_field.ensures (to_z-of_z w16 c.entry_id-id.result fits ∙ c.entry_id-id.ensures) c.entry_value-one.ensures.free c.loop-entry.invariant.free in
    record { made = both.0; free = both.1 }

pub owed_fields-returns-in_err-keep_field-clause-worth : goal.owed_fields-returns-in_err-keep_field-clause-worth
owed_fields-returns-in_err-keep_field-clause-worth g t c =
    let s = g.G.Ground.setting c.args.ground.now in
    let p = err_from_is_err_and c.from_residual.result c.from_residual.ensures.1 in
    rw (p.1, p.2)
    (fields_stop (worth_where s c.args.work.now.free.items) c.args.at c.args.levels c.loop-entry.work.values (entry_in c.in-Some.entry) (map entry_in c.loop-entry.row.items) (map entry_in c.pop_front.new.self.items)
    c.loop-entry.made.items _ (ap (map entry_in) c.in-Some.ensures.items) c.loop-entry.invariant.made c.entry_value-one.result c.in_err-keep_field.field-0.0 c.entry_value-one.new.work.values
    (subst (λ f. AnswersWorth (option_map tree_of) c.entry_value-one.result c.entry_value-one.new.work.values (entry_worth (worth_where s f) c.args.at c.args.levels c.loop-entry.work.values (entry_in c.in-Some.entry))) c.loop-entry.invariant.free c.entry_value-one.ensures.worth)
    c.in_err-keep_field.ensures)
