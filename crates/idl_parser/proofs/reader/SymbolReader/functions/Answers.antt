use Rattle.std.proofs.Common.{◌∙◌, sym}
use Rattle.idl_parser.proofs.Rows.{finished, ended, handed_on, below, all_read, put_on_read, not_put}
use Rattle.idl_parser.specs.Documents.{deepest}
use Rattle.idl_parser.specs.Definitions.{function}
use Rattle.idl_parser.specs.ReaderCalls.{most}
use Rattle.idl_parser.specs.Trees.{function_node, functions_node}
use Rattle.idl_parser.proofs.Firsts.{first_of_function}
use Rattle.idl_parser.proofs.reader.SymbolReader.functions.Goals as goal

pub returns-then-not-begins_function : goal.returns-then-not-begins_function
returns-then-not-begins_function c =
    finished (first_of_function deepest) c.row.invariant (sym c.begins_function.ensures ∙ c.if-not-begins_function.true)

pub returns-in_err-put_read : goal.returns-in_err-put_read
returns-in_err-put_read c =
    handed_on (λ functions. functions_node functions.items) c.in_err-put_read.field-0.0 c.function-item.new.self c.from_residual.result c.from_residual.ensures.1 (first_of_function deepest) c.row.invariant (below c.row._round c.row-test.true)
    (sym c.begins_function.ensures ∙ c.if-not-begins_function.false) (not_put function_node most (function deepest) c.row.self c.in_err-put_read.field-0.0 c.function-item.result c.function-item.new.self c.function-item.ensures c.in_err-put_read.ensures.stopped)

pub row-preserved : goal.row-preserved
row-preserved c =
    put_on_read function_node c.row.all.items c.put_read.new.all.items c.function-item.result c.function-item.new.self c.row.invariant (below c.row._round c.row-test.true)
    (sym c.begins_function.ensures ∙ c.if-not-begins_function.false) c.function-item.ensures c.in_ok-put_read.ensures.put

pub returns : goal.returns
returns c = ended (first_of_function deepest) c.row.invariant (all_read c.row._round c.row-test.false)
