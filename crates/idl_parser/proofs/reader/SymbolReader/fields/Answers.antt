use Rattle.std.proofs.Common.{◌∙◌, sym}
use Rattle.idl_parser.proofs.Rows.{finished, ended, handed_on, below, all_read, put_on_read, not_put}
use Rattle.idl_parser.specs.Fields.{field, fields}
use Rattle.idl_parser.specs.ReaderCalls.{most}
use Rattle.idl_parser.specs.Documents.{deepest}
use Rattle.idl_parser.specs.Trees.{field_node, fields_node}
use Rattle.idl_parser.proofs.Firsts.{first_of_field}
use Rattle.idl_parser.proofs.reader.SymbolReader.fields.Goals as goal

pub returns-then-not-begins_field : goal.returns-then-not-begins_field
unfolding fields
returns-then-not-begins_field c =
    finished (first_of_field deepest) c.row.invariant (sym c.begins_field.ensures ∙ c.if-not-begins_field.true)

pub returns-in_err-put_read : goal.returns-in_err-put_read
unfolding fields
returns-in_err-put_read c =
    handed_on (λ fields. fields_node fields.items) c.in_err-put_read.field-0.0 c.field-item.new.self c.from_residual.result c.from_residual.ensures.1 (first_of_field deepest) c.row.invariant (below c.row._round c.row-test.true)
    (sym c.begins_field.ensures ∙ c.if-not-begins_field.false) (not_put field_node most (field deepest) c.row.self c.in_err-put_read.field-0.0 c.field-item.result c.field-item.new.self c.field-item.ensures c.in_err-put_read.ensures.stopped)

pub row-preserved : goal.row-preserved
row-preserved c =
    put_on_read field_node c.row.all.items c.put_read.new.all.items c.field-item.result c.field-item.new.self c.row.invariant (below c.row._round c.row-test.true)
    (sym c.begins_field.ensures ∙ c.if-not-begins_field.false) c.field-item.ensures c.in_ok-put_read.ensures.put

pub returns : goal.returns
unfolding fields
returns c = ended (first_of_field deepest) c.row.invariant (all_read c.row._round c.row-test.false)
