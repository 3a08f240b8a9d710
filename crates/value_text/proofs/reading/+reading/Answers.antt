use Rattle.std.proofs.Common.{◌≡◌, ◌-◌, ◌+◌, ◌∙◌, ℕ, List, codes, map, Result, Ok, Err, Some, None, FitsSigned, to_z, of_z, true, false, suc, ap, sym, subst, rules, arith}
use Rattle.std.proofs.lemmas.Int.{to_z-of_z}
use Rattle.std.proofs.lemmas.Result.{err_from_is_err_and}
use Rattle.std.specs.Int.{w16}
use Rattle.thrift_value.specs.Tree.{Tree, of_struct, of_map, of_set, of_list}
use Rattle.thrift_value.specs.TreeOf.{tree_of, field_tree, pair_tree, field_trees, item_trees, pair_trees}
use Rattle.thrift_value.proofs.Trees.{tree_of-Struct, tree_of-Map, tree_of-Set, tree_of-List}
use Rattle.value_text.specs.declared.stop.TextStop.{TextStop}
use Rattle.value_text.specs.declared.stop.TextStop.TheVariants as stop
use Rattle.value_text.specs.Answering.{Gives, LeavesAs}
use Rattle.value_text.specs.Fronts.{◌>>=◌, behind_word}
use Rattle.value_text.specs.InOrder.{in_order}
use Rattle.value_text.specs.Rows.{last_of, list_at}
use Rattle.value_text.specs.Reading.{assigned_at, deeper_at, field_text_at, has_level, head_text_at, id_at, item_at, last_key, list_value_at, map_at, map_head_at, most_rounds, pair_text_at, set_at, struct_text_at, value_text_at}
use Rattle.value_text.proofs.JoinedRows.{row_joined, pair_stops, pair_joined}
use Rattle.value_text.proofs.RowSteps.{row_stop, row_put, last_row_put}
use Rattle.value_text.proofs.reading.+reading.Goals as goal

pub deeper_at-returns-then-levels-eq0 : goal.deeper_at-returns-then-levels-eq0
unfolding deeper_at
deeper_at-returns-then-levels-eq0 t c = ap (λ k. deeper_at most_rounds k c.args.container c.args.text.now) c.if-levels-eq0.true

pub deeper_at-returns : goal.deeper_at-returns
unfolding deeper_at value_text_at
deeper_at-returns t c =
    let e : c.args.levels ≡ suc (c.args.levels - 1) = omega arith in
    subst (λ k. Gives (λ r. (tree_of r.0, r.1.now)) c.container_at.result (deeper_at most_rounds k c.args.container c.args.text.now)) (sym e) c.container_at.ensures

pub field_rows-returns-in_err-entry : goal.field_rows-returns-in_err-entry
field_rows-returns-in_err-entry t c =
    let p = err_from_is_err_and c.from_residual.result c.from_residual.ensures.1 in
    rw (p.1, p.2)
    (row_stop (field_text_at (value_text_at most_rounds c.args.levels)) 125 most_rounds c.args.text.now field_tree c.in_err-entry.field-0.0 (most_rounds - c.loop-step.step) (most_rounds - (c.loop-step.step + 1)) c.as_slice.result.now c.loop-step.made.items c.loop-step.rest.now c.as_slice.ensures.value
    (let more : most_rounds - c.loop-step.step ≡ suc (most_rounds - (c.loop-step.step + 1)) = omega arith in more) c.loop-step.invariant c.in_err-entry.ensures)

pub field_rows-returns-then-not-more : goal.field_rows-returns-then-not-more
field_rows-returns-then-not-more t c =
    last_row_put (field_text_at (value_text_at most_rounds c.args.levels)) 125 most_rounds c.args.text.now field_tree (most_rounds - c.loop-step.step) (most_rounds - (c.loop-step.step + 1)) c.as_slice.result.now c.loop-step.made.items c.keep.new.list.items c.loop-step.rest.now c.in_ok-entry.entry c.in_ok-entry.more c.in_ok-entry.behind.now c.as_slice.ensures.value
    (let more : most_rounds - c.loop-step.step ≡ suc (most_rounds - (c.loop-step.step + 1)) = omega arith in more) c.loop-step.invariant c.in_ok-entry.ensures c.if-not-more.true c.in_ok-keep.ensures

pub field_rows-loop-step-preserved : goal.field_rows-loop-step-preserved
field_rows-loop-step-preserved t c =
    row_put (field_text_at (value_text_at most_rounds c.args.levels)) 125 most_rounds c.args.text.now field_tree (most_rounds - c.loop-step.step) (most_rounds - (c.loop-step.step + 1)) c.as_slice.result.now c.loop-step.made.items c.keep.new.list.items c.loop-step.rest.now c.in_ok-entry.entry c.in_ok-entry.more c.in_ok-entry.behind.now c.as_slice.ensures.value
    (let more : most_rounds - c.loop-step.step ≡ suc (most_rounds - (c.loop-step.step + 1)) = omega arith in more) c.loop-step.invariant c.in_ok-entry.ensures c.if-not-more.false c.in_ok-keep.ensures

pub item_rows-returns-in_err-entry : goal.item_rows-returns-in_err-entry
item_rows-returns-in_err-entry t c =
    let p = err_from_is_err_and c.from_residual.result c.from_residual.ensures.1 in
    rw (p.1, p.2)
    (row_stop (item_at c.args.rising c.args.tag (value_text_at most_rounds c.args.levels)) 93 most_rounds c.args.text.now tree_of c.in_err-entry.field-0.0 (most_rounds - c.loop-step.step) (most_rounds - (c.loop-step.step + 1)) c.as_slice.result.now c.loop-step.made.items c.loop-step.rest.now c.as_slice.ensures.value
    (let more : most_rounds - c.loop-step.step ≡ suc (most_rounds - (c.loop-step.step + 1)) = omega arith in more) c.loop-step.invariant c.in_err-entry.ensures)

pub item_rows-returns-then-not-more : goal.item_rows-returns-then-not-more
item_rows-returns-then-not-more t c =
    last_row_put (item_at c.args.rising c.args.tag (value_text_at most_rounds c.args.levels)) 93 most_rounds c.args.text.now tree_of (most_rounds - c.loop-step.step) (most_rounds - (c.loop-step.step + 1)) c.as_slice.result.now c.loop-step.made.items c.keep.new.list.items c.loop-step.rest.now c.in_ok-entry.entry c.in_ok-entry.more c.in_ok-entry.behind.now c.as_slice.ensures.value
    (let more : most_rounds - c.loop-step.step ≡ suc (most_rounds - (c.loop-step.step + 1)) = omega arith in more) c.loop-step.invariant c.in_ok-entry.ensures c.if-not-more.true c.in_ok-keep.ensures

pub item_rows-loop-step-preserved : goal.item_rows-loop-step-preserved
item_rows-loop-step-preserved t c =
    row_put (item_at c.args.rising c.args.tag (value_text_at most_rounds c.args.levels)) 93 most_rounds c.args.text.now tree_of (most_rounds - c.loop-step.step) (most_rounds - (c.loop-step.step + 1)) c.as_slice.result.now c.loop-step.made.items c.keep.new.list.items c.loop-step.rest.now c.in_ok-entry.entry c.in_ok-entry.more c.in_ok-entry.behind.now c.as_slice.ensures.value
    (let more : most_rounds - c.loop-step.step ≡ suc (most_rounds - (c.loop-step.step + 1)) = omega arith in more) c.loop-step.invariant c.in_ok-entry.ensures c.if-not-more.false c.in_ok-keep.ensures

pub pair_rows-returns-in_err-entry : goal.pair_rows-returns-in_err-entry
pair_rows-returns-in_err-entry t c =
    let p = err_from_is_err_and c.from_residual.result c.from_residual.ensures.1 in
    rw (p.1, p.2)
    (row_stop (pair_text_at c.args.levels c.args.key c.args.tag (value_text_at most_rounds c.args.levels)) 125 most_rounds c.args.text.now pair_tree c.in_err-entry.field-0.0 (most_rounds - c.loop-step.step) (most_rounds - (c.loop-step.step + 1)) c.as_slice.result.now c.loop-step.made.items c.loop-step.rest.now c.as_slice.ensures.value
    (let more : most_rounds - c.loop-step.step ≡ suc (most_rounds - (c.loop-step.step + 1)) = omega arith in more) c.loop-step.invariant c.in_err-entry.ensures)

pub pair_rows-returns-then-not-more : goal.pair_rows-returns-then-not-more
pair_rows-returns-then-not-more t c =
    last_row_put (pair_text_at c.args.levels c.args.key c.args.tag (value_text_at most_rounds c.args.levels)) 125 most_rounds c.args.text.now pair_tree (most_rounds - c.loop-step.step) (most_rounds - (c.loop-step.step + 1)) c.as_slice.result.now c.loop-step.made.items c.keep.new.list.items c.loop-step.rest.now c.in_ok-entry.entry c.in_ok-entry.more c.in_ok-entry.behind.now c.as_slice.ensures.value
    (let more : most_rounds - c.loop-step.step ≡ suc (most_rounds - (c.loop-step.step + 1)) = omega arith in more) c.loop-step.invariant c.in_ok-entry.ensures c.if-not-more.true c.in_ok-keep.ensures

pub pair_rows-loop-step-preserved : goal.pair_rows-loop-step-preserved
pair_rows-loop-step-preserved t c =
    row_put (pair_text_at c.args.levels c.args.key c.args.tag (value_text_at most_rounds c.args.levels)) 125 most_rounds c.args.text.now pair_tree (most_rounds - c.loop-step.step) (most_rounds - (c.loop-step.step + 1)) c.as_slice.result.now c.loop-step.made.items c.keep.new.list.items c.loop-step.rest.now c.in_ok-entry.entry c.in_ok-entry.more c.in_ok-entry.behind.now c.as_slice.ensures.value
    (let more : most_rounds - c.loop-step.step ≡ suc (most_rounds - (c.loop-step.step + 1)) = omega arith in more) c.loop-step.invariant c.in_ok-entry.ensures c.if-not-more.false c.in_ok-keep.ensures

-- what holds others

abbrev answer : List ℕ → Tree → Result (Tree × List ℕ) ℕ
answer rest x = Ok (x, rest)

-- a reading that stops stops what follows
stops : {A B : Type 0} (why : TextStop) (r : Result A ℕ) (f : A → Result B ℕ) → LeavesAs why r → LeavesAs why (r >>= f)
stops stop.NoMemory r f h = tt
stops (stop.Left left) r f h = ap (λ z. z >>= f) h

-- a reading that goes on stops where what follows does
stops_later : {A B : Type 0} (why : TextStop) (r : Result A ℕ) (f : A → Result B ℕ) (x : A) → r ≡ Ok x → LeavesAs why (f x) → LeavesAs why (r >>= f)
stops_later stop.NoMemory r f x is h = tt
stops_later (stop.Left left) r f x is h = ap (λ z. z >>= f) is ∙ h

pub struct_at-returns-in_err-inside : goal.struct_at-returns-in_err-inside
unfolding struct_text_at
struct_at-returns-in_err-inside t c =
    let p = err_from_is_err_and c.from_residual.result c.from_residual.ensures.1 in
    rw (p.1, p.2) (stops c.in_err-inside.field-0.0 (behind_word (codes "{") c.args.text.now) _ c.in_err-inside.ensures)

pub struct_at-returns-in_err-fields : goal.struct_at-returns-in_err-fields
unfolding struct_text_at
struct_at-returns-in_err-fields t c =
    let p = err_from_is_err_and c.from_residual-in_err-fields.result c.from_residual-in_err-fields.ensures.1 in
    rw (p.1, p.2)
    (stops_later c.in_err-fields.field-0.0 (behind_word (codes "{") c.args.text.now) _ c.in_ok-inside.inside.now c.in_ok-inside.ensures (stops c.in_err-fields.field-0.0 (list_at (field_text_at (value_text_at most_rounds c.args.levels)) 125 most_rounds c.in_ok-inside.inside.now) _ c.in_err-fields.ensures))

pub struct_at-returns : goal.struct_at-returns
unfolding struct_text_at
struct_at-returns t c =
    ap (λ r. r >>= λ h. list_at (field_text_at (value_text_at most_rounds c.args.levels)) 125 most_rounds h >>= λ x. Ok (of_struct (field_trees x.0), x.1)) c.in_ok-inside.ensures
    ∙ ap (λ r. r >>= λ x. Ok (of_struct (field_trees x.0), x.1)) c.in_ok-fields.ensures
    ∙ ap (answer c.in_ok-fields.rest.now) (ap (λ xs. of_struct (field_trees (map field_tree xs))) (sym c.new.ensures) ∙ sym (tree_of-Struct c.new.result))

pub map_at-returns-in_err-key : goal.map_at-returns-in_err-key
unfolding map_at
map_at-returns-in_err-key t c =
    let p = err_from_is_err_and c.from_residual.result c.from_residual.ensures.1 in
    rw (p.1, p.2) (stops c.in_err-key.field-0.0 (map_head_at c.args.text.now) _ c.in_err-key.ensures)

pub map_at-returns-in_err-pairs : goal.map_at-returns-in_err-pairs
unfolding map_at
map_at-returns-in_err-pairs t c =
    let p = err_from_is_err_and c.from_residual-in_err-pairs.result c.from_residual-in_err-pairs.ensures.1 in
    rw (p.1, p.2)
    (stops_later c.in_err-pairs.field-0.0 (map_head_at c.args.text.now) _ (c.in_ok-key.key, c.in_ok-key.tag, c.in_ok-key.inside.now) c.in_ok-key.ensures (stops c.in_err-pairs.field-0.0 (list_at (pair_text_at c.args.levels c.in_ok-key.key c.in_ok-key.tag (value_text_at most_rounds c.args.levels)) 125 most_rounds c.in_ok-key.inside.now) _ c.in_err-pairs.ensures))

pub map_at-returns : goal.map_at-returns
unfolding map_at
map_at-returns t c =
    ap (λ r. r >>= λ h. list_at (pair_text_at c.args.levels h.0 h.1 (value_text_at most_rounds c.args.levels)) 125 most_rounds h.2 >>= λ x. Ok (of_map h.0 h.1 (pair_trees x.0), x.1)) c.in_ok-key.ensures
    ∙ ap (λ r. r >>= λ x. Ok (of_map c.in_ok-key.key c.in_ok-key.tag (pair_trees x.0), x.1)) c.in_ok-pairs.ensures
    ∙ ap (answer c.in_ok-pairs.rest.now) (ap (λ xs. of_map c.in_ok-key.key c.in_ok-key.tag (pair_trees (map pair_tree xs))) (sym c.new.ensures) ∙ sym (tree_of-Map c.in_ok-key.key c.in_ok-key.tag c.new.result))

pub set_at-returns-in_err-tag : goal.set_at-returns-in_err-tag
unfolding set_at
set_at-returns-in_err-tag t c =
    let p = err_from_is_err_and c.from_residual.result c.from_residual.ensures.1 in
    rw (p.1, p.2) (stops c.in_err-tag.field-0.0 (head_text_at (codes "set<") c.args.text.now) _ c.in_err-tag.ensures)

pub set_at-returns-in_err-items : goal.set_at-returns-in_err-items
unfolding set_at
set_at-returns-in_err-items t c =
    let p = err_from_is_err_and c.from_residual-in_err-items.result c.from_residual-in_err-items.ensures.1 in
    rw (p.1, p.2)
    (stops_later c.in_err-items.field-0.0 (head_text_at (codes "set<") c.args.text.now) _ (c.in_ok-tag.tag, c.in_ok-tag.inside.now) c.in_ok-tag.ensures (stops c.in_err-items.field-0.0 (list_at (item_at true c.in_ok-tag.tag (value_text_at most_rounds c.args.levels)) 93 most_rounds c.in_ok-tag.inside.now) _ c.in_err-items.ensures))

pub set_at-returns : goal.set_at-returns
unfolding set_at
set_at-returns t c =
    ap (λ r. r >>= λ h. list_at (item_at true h.0 (value_text_at most_rounds c.args.levels)) 93 most_rounds h.1 >>= λ x. Ok (of_set h.0 (item_trees x.0), x.1)) c.in_ok-tag.ensures
    ∙ ap (λ r. r >>= λ x. Ok (of_set c.in_ok-tag.tag (item_trees x.0), x.1)) c.in_ok-items.ensures
    ∙ ap (answer c.in_ok-items.rest.now) (ap (λ xs. of_set c.in_ok-tag.tag (item_trees (map tree_of xs))) (sym c.new.ensures) ∙ sym (tree_of-Set c.in_ok-tag.tag c.new.result))

pub list_value_at-returns-in_err-tag : goal.list_value_at-returns-in_err-tag
unfolding list_value_at
list_value_at-returns-in_err-tag t c =
    let p = err_from_is_err_and c.from_residual.result c.from_residual.ensures.1 in
    rw (p.1, p.2) (stops c.in_err-tag.field-0.0 (head_text_at (codes "list<") c.args.text.now) _ c.in_err-tag.ensures)

pub list_value_at-returns-in_err-items : goal.list_value_at-returns-in_err-items
unfolding list_value_at
list_value_at-returns-in_err-items t c =
    let p = err_from_is_err_and c.from_residual-in_err-items.result c.from_residual-in_err-items.ensures.1 in
    rw (p.1, p.2)
    (stops_later c.in_err-items.field-0.0 (head_text_at (codes "list<") c.args.text.now) _ (c.in_ok-tag.tag, c.in_ok-tag.inside.now) c.in_ok-tag.ensures (stops c.in_err-items.field-0.0 (list_at (item_at false c.in_ok-tag.tag (value_text_at most_rounds c.args.levels)) 93 most_rounds c.in_ok-tag.inside.now) _ c.in_err-items.ensures))

pub list_value_at-returns : goal.list_value_at-returns
unfolding list_value_at
list_value_at-returns t c =
    ap (λ r. r >>= λ h. list_at (item_at false h.0 (value_text_at most_rounds c.args.levels)) 93 most_rounds h.1 >>= λ x. Ok (of_list h.0 (item_trees x.0), x.1)) c.in_ok-tag.ensures
    ∙ ap (λ r. r >>= λ x. Ok (of_list c.in_ok-tag.tag (item_trees x.0), x.1)) c.in_ok-items.ensures
    ∙ ap (answer c.in_ok-items.rest.now) (ap (λ xs. of_list c.in_ok-tag.tag (item_trees (map tree_of xs))) (sym c.new.ensures) ∙ sym (tree_of-List c.in_ok-tag.tag c.new.result))

-- an element or a key that was read

pub item_row-returns-in_err-entry : goal.item_row-returns-in_err-entry
unfolding item_at
item_row-returns-in_err-entry t c =
    let p = err_from_is_err_and c.from_residual.result c.from_residual.ensures.1 in
    rw (p.1, p.2)
    (stops c.in_err-entry.field-0.0 (item_at c.args.rising c.args.tag (value_text_at most_rounds c.args.levels) (last_of (map tree_of c.args.before.now)) c.args.text.now) _
    (subst (λ l. LeavesAs c.in_err-entry.field-0.0 (in_order c.args.rising l (value_text_at most_rounds c.args.levels (Some c.args.tag) c.args.text.now))) c.last_item.ensures
    (c.in_err-entry.ensures {u = tt} (value_text_at most_rounds c.args.levels (Some c.args.tag) c.args.text.now) c.value_at-read.ensures)))

pub item_row-returns : goal.item_row-returns
unfolding item_at
item_row-returns t c =
    row_joined tree_of c.in_ok-entry.entry c.in_ok-entry.rest.now (item_at c.args.rising c.args.tag (value_text_at most_rounds c.args.levels) (last_of (map tree_of c.args.before.now)) c.args.text.now) 93
    c.next_at.result c.joined.result
    (subst (λ l. in_order c.args.rising l (value_text_at most_rounds c.args.levels (Some c.args.tag) c.args.text.now) ≡ Ok (tree_of c.in_ok-entry.entry, c.in_ok-entry.rest.now)) c.last_item.ensures
    (c.in_ok-entry.ensures {u = tt} (value_text_at most_rounds c.args.levels (Some c.args.tag) c.args.text.now) c.value_at-read.ensures))
    c.next_at.ensures c.joined.ensures

pub pair_row-returns-in_err-one : goal.pair_row-returns-in_err-one
unfolding pair_text_at item_at
pair_row-returns-in_err-one t c =
    let p = err_from_is_err_and c.from_residual.result c.from_residual.ensures.1 in
    let has : has_level c.args.levels c.args.tag ≡ true = search rules in
    rw (p.1, p.2)
    (stops c.in_err-one.field-0.0 (pair_text_at c.args.levels c.args.key c.args.tag (value_text_at most_rounds c.args.levels) (last_of (map pair_tree c.args.before.now)) c.args.text.now) _
    (pair_stops (has_level c.args.levels c.args.tag) (item_at true c.args.key (value_text_at most_rounds c.args.levels) (last_key (last_of (map pair_tree c.args.before.now))) c.args.text.now) c.args.text.now
    (assigned_at (value_text_at most_rounds c.args.levels) (Some c.args.tag)) c.in_err-one.field-0.0 has
    (subst (λ l. LeavesAs c.in_err-one.field-0.0 (in_order true l (value_text_at most_rounds c.args.levels (Some c.args.key) c.args.text.now))) c.last_key.ensures
    (c.in_err-one.ensures {u = tt} (value_text_at most_rounds c.args.levels (Some c.args.key) c.args.text.now) c.value_at-read.ensures))))

pub pair_row-returns-in_err-entry : goal.pair_row-returns-in_err-entry
unfolding pair_text_at item_at
pair_row-returns-in_err-entry t c =
    let p = err_from_is_err_and c.from_residual-in_err-entry.result c.from_residual-in_err-entry.ensures.1 in
    let has : has_level c.args.levels c.args.tag ≡ true = search rules in
    rw (p.1, p.2)
    (stops c.in_err-entry.field-0.0 (pair_text_at c.args.levels c.args.key c.args.tag (value_text_at most_rounds c.args.levels) (last_of (map pair_tree c.args.before.now)) c.args.text.now) _
    (pair_joined (has_level c.args.levels c.args.tag) (item_at true c.args.key (value_text_at most_rounds c.args.levels) (last_key (last_of (map pair_tree c.args.before.now))) c.args.text.now) c.args.text.now
    (assigned_at (value_text_at most_rounds c.args.levels) (Some c.args.tag)) c.in_ok-one.one c.in_ok-one.rest.now c.assigned_at-value.result (Err c.in_err-entry.field-0.0) has
    (subst (λ l. in_order true l (value_text_at most_rounds c.args.levels (Some c.args.key) c.args.text.now) ≡ Ok (tree_of c.in_ok-one.one, c.in_ok-one.rest.now)) c.last_key.ensures
    (c.in_ok-one.ensures {u = tt} (value_text_at most_rounds c.args.levels (Some c.args.key) c.args.text.now) c.value_at-read.ensures))
    c.assigned_at-value.ensures (c.in_err-entry.ensures {u = tt})))

pub pair_row-returns : goal.pair_row-returns
unfolding pair_text_at item_at
pair_row-returns t c =
    let has : has_level c.args.levels c.args.tag ≡ true = search rules in
    row_joined pair_tree c.in_ok-entry.entry c.in_ok-entry.rest.now (pair_text_at c.args.levels c.args.key c.args.tag (value_text_at most_rounds c.args.levels) (last_of (map pair_tree c.args.before.now)) c.args.text.now) 125 c.next_at.result c.joined.result
    (pair_joined (has_level c.args.levels c.args.tag) (item_at true c.args.key (value_text_at most_rounds c.args.levels) (last_key (last_of (map pair_tree c.args.before.now))) c.args.text.now) c.args.text.now
    (assigned_at (value_text_at most_rounds c.args.levels) (Some c.args.tag)) c.in_ok-one.one c.in_ok-one.rest.now c.assigned_at-value.result (Ok (c.in_ok-entry.entry, c.in_ok-entry.rest)) has
    (subst (λ l. in_order true l (value_text_at most_rounds c.args.levels (Some c.args.key) c.args.text.now) ≡ Ok (tree_of c.in_ok-one.one, c.in_ok-one.rest.now)) c.last_key.ensures
    (c.in_ok-one.ensures {u = tt} (value_text_at most_rounds c.args.levels (Some c.args.key) c.args.text.now) c.value_at-read.ensures))
    c.assigned_at-value.ensures (c.in_ok-entry.ensures {u = tt}))
    c.next_at.ensures c.joined.ensures

-- a field that was read

pub field_row-returns-in_err-id : goal.field_row-returns-in_err-id
unfolding field_text_at
field_row-returns-in_err-id t c =
    let p = err_from_is_err_and c.from_residual.result c.from_residual.ensures.1 in
    rw (p.1, p.2) (stops c.in_err-id.field-0.0 (field_text_at (value_text_at most_rounds c.args.levels) (last_of (map field_tree c.args.before.now)) c.args.text.now) _ (stops c.in_err-id.field-0.0 (id_at (last_of (map field_tree c.args.before.now)) c.args.text.now) _ c.in_err-id.ensures))

pub field_row-returns-in_err-value : goal.field_row-returns-in_err-value
unfolding field_text_at
field_row-returns-in_err-value t c =
    let p = err_from_is_err_and c.from_residual-in_err-value.result c.from_residual-in_err-value.ensures.1 in
    rw (p.1, p.2)
    (stops c.in_err-value.field-0.0 (field_text_at (value_text_at most_rounds c.args.levels) (last_of (map field_tree c.args.before.now)) c.args.text.now) _
    (stops_later c.in_err-value.field-0.0 (id_at (last_of (map field_tree c.args.before.now)) c.args.text.now) _ (c.in_ok-id.id, c.in_ok-id.rest.now) c.in_ok-id.ensures
    (stops c.in_err-value.field-0.0 (assigned_at (value_text_at most_rounds c.args.levels) None c.in_ok-id.rest.now) _ c.in_err-value.ensures)))

pub field_row-returns : goal.field_row-returns
unfolding field_text_at
field_row-returns t c =
    let fits : FitsSigned w16 c.in_ok-id.id = search rules in
    row_joined field_tree (to_z w16 (of_z w16 c.in_ok-id.id), c.in_ok-value.value) c.in_ok-value.rest.now (field_text_at (value_text_at most_rounds c.args.levels) (last_of (map field_tree c.args.before.now)) c.args.text.now) 125 c.next_at.result c.joined.result
    (ap (λ r. r >>= λ id. assigned_at (value_text_at most_rounds c.args.levels) None id.1 >>= λ x. Ok ((id.0, x.0), x.1)) c.in_ok-id.ensures
    ∙ ap (λ r. r >>= λ x. Ok ((c.in_ok-id.id, x.0), x.1)) c.in_ok-value.ensures
    ∙ (λ i. Ok ((sym (to_z-of_z w16 c.in_ok-id.id fits) i, tree_of c.in_ok-value.value), c.in_ok-value.rest.now)))
    c.next_at.ensures c.joined.ensures
