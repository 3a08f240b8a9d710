use Rattle.std.proofs.Common.{refl, map}
use Rattle.std.specs.List.{flat_map}
use Rattle.schema.specs.SchemaOf.{schema_of, plain_field}
use Rattle.schema.specs.SchemaText.{field_line_of}
use Rattle.schema.proofs.Pieces.{one_more, all_written}
use Rattle.schema.proofs.fields_text.put_field_lines.Goals as goal

pub loop-field-preserved : goal.loop-field-preserved
loop-field-preserved c =
    one_more (λ f. field_line_of (schema_of c.args.schema.now) (plain_field f)) (λ fs. flat_map (field_line_of (schema_of c.args.schema.now)) (map plain_field fs)) (λ x xs. refl) c.args.fields.now c.loop-field.field-index _ c.field-item.result c.loop-field.into.items _
    c.loop-field-test.true c.field-item.is c.loop-field.invariant c.in_ok-put_field_line.ensures

pub returns : goal.returns
returns c =
    all_written (λ f. field_line_of (schema_of c.args.schema.now) (plain_field f)) (λ fs. flat_map (field_line_of (schema_of c.args.schema.now)) (map plain_field fs)) (λ x xs. refl) c.args.fields.now c.loop-field.field-index _ c.loop-field.into.items refl
    c.loop-field-test.false c.loop-field.invariant
