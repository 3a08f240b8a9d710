use Rattle.std.proofs.Common.{◌∙◌, ◌++◌, ◌∷◌, [], ap, sym}
use Rattle.idl_parser.specs.Phrases.{none}
use Rattle.idl_parser.specs.Reading.{done}
use Rattle.idl_parser.specs.Trees.{header_node, includes_node}
use Rattle.idl_parser.proofs.Rows.{finished, ended, handed_on, below, all_read, onward, kept_on}
use Rattle.idl_parser.proofs.Firsts.{first_of_header}
use Rattle.idl_parser.proofs.reader.SymbolReader.headers.Goals as goal

pub returns-then-not-begins_header : goal.returns-then-not-begins_header
returns-then-not-begins_header c =
    finished first_of_header c.row.invariant.1 (sym c.begins_header.ensures ∙ c.if-not-begins_header.true)
    ∙ ap (λ x. done x c.row.self) (c.row.invariant.2 none)

pub returns-in_err-item : goal.returns-in_err-item
returns-in_err-item c =
    handed_on (λ includes. includes_node includes.items) c.in_err-item.field-0.0 c.header.new.self c.from_residual.result c.from_residual.ensures.1 first_of_header c.row.invariant.1 (below c.row._round c.row-test.true)
    (sym c.begins_header.ensures ∙ c.if-not-begins_header.false) c.in_err-item.ensures

pub row-preserved : goal.row-preserved
row-preserved c = (
  c.row.invariant.0 ++ header_node c.in_ok-item.item ∷ [],
  onward c.row.invariant.1 (below c.row._round c.row-test.true) (sym c.begins_header.ensures ∙ c.if-not-begins_header.false)
      (header_node c.in_ok-item.item) c.header.new.self c.in_ok-item.ensures,
  kept_on c.row.invariant.0 c.row.all.items c.put_some.new.all.items c.in_ok-item.item c.row.invariant.2 c.in_ok-put_some.ensures,
)

pub returns : goal.returns
returns c =
    ended first_of_header c.row.invariant.1 (all_read c.row._round c.row-test.false)
    ∙ ap (λ x. done x c.row.self) (c.row.invariant.2 none)
