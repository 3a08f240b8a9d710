use Rattle.std.proofs.Common.{◌++◌, ◌∙◌, List, map, ap, sym}
use Rattle.idl_parser.specs.declared.tree.Field.{Field}
use Rattle.idl_printer.specs.Printed.{behind_comma, field_text, separated}
use Rattle.idl_printer.proofs.Appends.{walked, walked_through}
use Rattle.idl_printer.proofs.field_printer.put_separated.Goals as goal

pub loop-field-preserved : goal.loop-field-preserved
loop-field-preserved c =
    walked behind_comma field_text c.in-Some.more.now c.loop-field.field-index c.field-item.result c.loop-field.into.items c.put_behind_comma.new.into.items _ c.loop-field-test.true c.field-item.is
    c.in_ok-put_behind_comma.ensures c.loop-field.invariant

pub returns : goal.returns
returns c =
    walked_through behind_comma field_text c.in-Some.more.now c.loop-field.field-index c.loop-field.into.items c.put_field.new.into.items c.args.into.now.items (field_text c.in-Some.first.now)
    c.loop-field-test.false c.loop-field.invariant c.in_ok-put_field.ensures
    ∙ ap (λ (fields : List Field). c.args.into.now.items ++ separated (map field_text fields)) (sym c.in-Some.ensures.cases.0)
