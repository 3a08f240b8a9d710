use Rattle.std.proofs.Common.{◌∙◌, sym}
use Rattle.idl_parser.proofs.Rows.{finished, ended, handed_on, below, all_read, put_on_read, not_put}
use Rattle.idl_parser.specs.Definitions.{enum_value}
use Rattle.idl_parser.specs.ReaderCalls.{most}
use Rattle.idl_parser.specs.Trees.{enum_value_node, enum_values_node}
use Rattle.idl_parser.proofs.Firsts.{first_of_enum_value}
use Rattle.idl_parser.proofs.reader.SymbolReader.enum_values.Goals as goal

pub returns-then-not-begins_name : goal.returns-then-not-begins_name
returns-then-not-begins_name c =
    finished first_of_enum_value c.row.invariant (sym c.begins_name.ensures ∙ c.if-not-begins_name.true)

pub returns-in_err-put_read : goal.returns-in_err-put_read
returns-in_err-put_read c =
    handed_on (λ values. enum_values_node values.items) c.in_err-put_read.field-0.0 c.enum_value-item.new.self c.from_residual.result c.from_residual.ensures.1
    first_of_enum_value c.row.invariant (below c.row._round c.row-test.true)
    (sym c.begins_name.ensures ∙ c.if-not-begins_name.false) (not_put enum_value_node most enum_value c.row.self c.in_err-put_read.field-0.0 c.enum_value-item.result c.enum_value-item.new.self c.enum_value-item.ensures c.in_err-put_read.ensures.stopped)

pub row-preserved : goal.row-preserved
row-preserved c =
    put_on_read enum_value_node c.row.all.items c.put_read.new.all.items c.enum_value-item.result c.enum_value-item.new.self c.row.invariant (below c.row._round c.row-test.true)
    (sym c.begins_name.ensures ∙ c.if-not-begins_name.false) c.enum_value-item.ensures c.in_ok-put_read.ensures.put

pub returns : goal.returns
returns c = ended first_of_enum_value c.row.invariant (all_read c.row._round c.row-test.false)
