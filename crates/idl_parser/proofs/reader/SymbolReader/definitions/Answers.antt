use Rattle.std.proofs.Common.{◌∙◌, sym}
use Rattle.idl_parser.proofs.Rows.{finished, ended, handed_on, below, all_read, put_on_read, not_put}
use Rattle.idl_parser.specs.Documents.{deepest}
use Rattle.idl_parser.specs.Definitions.{definition}
use Rattle.idl_parser.specs.ReaderCalls.{most}
use Rattle.idl_parser.specs.Trees.{definition_node, definitions_node}
use Rattle.idl_parser.proofs.Firsts.{first_of_definition}
use Rattle.idl_parser.proofs.reader.SymbolReader.definitions.Goals as goal

pub returns-then-not-begins_definition : goal.returns-then-not-begins_definition
returns-then-not-begins_definition c =
    finished (first_of_definition deepest) c.row.invariant (sym c.begins_definition.ensures ∙ c.if-not-begins_definition.true)

pub returns-in_err-put_read : goal.returns-in_err-put_read
returns-in_err-put_read c =
    handed_on (λ definitions. definitions_node definitions.items) c.in_err-put_read.field-0.0 c.definition-item.new.self c.from_residual.result c.from_residual.ensures.1 (first_of_definition deepest) c.row.invariant (below c.row._round c.row-test.true)
    (sym c.begins_definition.ensures ∙ c.if-not-begins_definition.false) (not_put definition_node most (definition deepest) c.row.self c.in_err-put_read.field-0.0 c.definition-item.result c.definition-item.new.self c.definition-item.ensures c.in_err-put_read.ensures.stopped)

pub row-preserved : goal.row-preserved
row-preserved c =
    put_on_read definition_node c.row.all.items c.put_read.new.all.items c.definition-item.result c.definition-item.new.self c.row.invariant (below c.row._round c.row-test.true)
    (sym c.begins_definition.ensures ∙ c.if-not-begins_definition.false) c.definition-item.ensures c.in_ok-put_read.ensures.put

pub returns : goal.returns
returns c = ended (first_of_definition deepest) c.row.invariant (all_read c.row._round c.row-test.false)
