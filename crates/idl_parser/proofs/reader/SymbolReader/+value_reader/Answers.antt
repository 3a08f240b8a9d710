use Rattle.std.proofs.Common.{◌≡◌, ◌∙◌, ap, sym, subst, ◌-◌, suc, arith}
use Rattle.idl_parser.proofs.Rows.{finished, ended, handed_on, below, all_read, put_on_read, not_put, row_of_entries}
use Rattle.idl_parser.specs.Reading.{read, done}
use Rattle.idl_parser.specs.Constants.{list_item, map_entry, inner_value, value_of}
use Rattle.idl_parser.specs.ReaderCalls.{Parses, StopsAt, most}
use Rattle.idl_parser.specs.Trees.{value_node, entry_node, values_node, pairs_node}
use Rattle.idl_parser.proofs.Firsts.{first_of_item, first_of_pair}
use Rattle.idl_parser.proofs.reader.SymbolReader.+value_reader.Goals as goal

pub inner_value-returns-then-levels-eq0 : goal.inner_value-returns-then-levels-eq0
unfolding inner_value
inner_value-returns-then-levels-eq0 t c =
    subst (λ k. StopsAt c.no_value_level.result (read most (inner_value k) c.args.self.now) c.args.self.now) (sym c.if-levels-eq0.true) c.no_value_level.ensures

pub inner_value-returns : goal.inner_value-returns
unfolding inner_value value_of
inner_value-returns t c =
    let e : c.args.levels ≡ suc (c.args.levels - 1) = omega arith in
    subst (λ k. Parses (inner_value k) value_node c.args.self.now c.collection.new.self c.collection.result) (sym e) c.collection.ensures

pub list_items-returns-then-not-begins_value : goal.list_items-returns-then-not-begins_value
list_items-returns-then-not-begins_value t c =
    finished (first_of_item c.args.levels) c.row.invariant (sym c.begins_value.ensures ∙ c.if-not-begins_value.true)

pub list_items-returns-in_err-put_read : goal.list_items-returns-in_err-put_read
list_items-returns-in_err-put_read t c =
    handed_on (λ values. values_node values.items) c.in_err-put_read.field-0.0 c.list_item-item.new.self c.from_residual.result c.from_residual.ensures.1 (first_of_item c.args.levels) c.row.invariant (below c.row._round c.row-test.true)
    (sym c.begins_value.ensures ∙ c.if-not-begins_value.false) (not_put value_node most (list_item (value_of c.args.levels)) c.row.self c.in_err-put_read.field-0.0 c.list_item-item.result c.list_item-item.new.self c.list_item-item.ensures c.in_err-put_read.ensures.stopped)

pub list_items-row-preserved : goal.list_items-row-preserved
list_items-row-preserved t c =
    put_on_read value_node c.row.all.items c.put_read.new.all.items c.list_item-item.result c.list_item-item.new.self c.row.invariant (below c.row._round c.row-test.true)
    (sym c.begins_value.ensures ∙ c.if-not-begins_value.false) c.list_item-item.ensures c.in_ok-put_read.ensures.put

pub list_items-returns : goal.list_items-returns
list_items-returns t c = ended (first_of_item c.args.levels) c.row.invariant (all_read c.row._round c.row-test.false)

pub map_entries-returns-then-not-begins_value : goal.map_entries-returns-then-not-begins_value
map_entries-returns-then-not-begins_value t c =
    finished (first_of_pair c.args.levels) c.row.invariant (sym c.begins_value.ensures ∙ c.if-not-begins_value.true)
    ∙ ap (λ x. done x c.row.self) (row_of_entries c.row.all.items)

pub map_entries-returns-in_err-put_read : goal.map_entries-returns-in_err-put_read
map_entries-returns-in_err-put_read t c =
    handed_on (λ pairs. pairs_node pairs.items) c.in_err-put_read.field-0.0 c.map_entry-item.new.self c.from_residual.result c.from_residual.ensures.1 (first_of_pair c.args.levels) c.row.invariant (below c.row._round c.row-test.true)
    (sym c.begins_value.ensures ∙ c.if-not-begins_value.false) (not_put entry_node most (map_entry (value_of c.args.levels)) c.row.self c.in_err-put_read.field-0.0 c.map_entry-item.result c.map_entry-item.new.self c.map_entry-item.ensures c.in_err-put_read.ensures.stopped)

pub map_entries-row-preserved : goal.map_entries-row-preserved
map_entries-row-preserved t c =
    put_on_read entry_node c.row.all.items c.put_read.new.all.items c.map_entry-item.result c.map_entry-item.new.self c.row.invariant (below c.row._round c.row-test.true)
    (sym c.begins_value.ensures ∙ c.if-not-begins_value.false) c.map_entry-item.ensures c.in_ok-put_read.ensures.put

pub map_entries-returns : goal.map_entries-returns
map_entries-returns t c = ended (first_of_pair c.args.levels) c.row.invariant (all_read c.row._round c.row-test.false)
    ∙ ap (λ x. done x c.row.self) (row_of_entries c.row.all.items)
