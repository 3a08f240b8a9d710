use Rattle.std.proofs.Common.{map, codes, refl}
use Rattle.schema.specs.SchemaOf.{schema_of, plain_field}
use Rattle.schema.specs.SchemaText.{field_in_text}
use Rattle.schema.proofs.Pieces.{one_more_behind, all_joined}
use Rattle.schema.proofs.fields_text.put_separated.Goals as goal

pub loop-field-preserved : goal.loop-field-preserved
loop-field-preserved c =
    one_more_behind (codes ", ") (λ fs. map (field_in_text (schema_of c.args.schema.now)) (map plain_field fs)) (λ f. field_in_text (schema_of c.args.schema.now) (plain_field f)) (λ x xs. refl)
    c.in-Some.more.now c.loop-field.field-index c.field-item.result c.loop-field.into.items _ _ c.loop-field-test.true c.field-item.is c.loop-field.invariant
    c.in_ok-put_behind_comma.ensures

pub returns : goal.returns
returns c =
    all_joined (codes ", ") (λ fs. map (field_in_text (schema_of c.args.schema.now)) (map plain_field fs)) (λ f. field_in_text (schema_of c.args.schema.now) (plain_field f)) (λ x xs. refl)
    c.args.fields.now c.in-Some.more.now c.in-Some.first.now c.loop-field.field-index c.args.into.now.items c.put_field.new.into.items c.loop-field.into.items refl
    c.in-Some.ensures.cases.0 c.in_ok-put_field.ensures c.loop-field-test.false c.loop-field.invariant
