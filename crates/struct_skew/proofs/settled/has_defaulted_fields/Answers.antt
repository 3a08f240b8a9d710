use Rattle.std.proofs.Common.{ap, map, ◌∙◌}
use Rattle.thrift_value.specs.TreeOf.{field_tree, field_trees}
use Rattle.schema.specs.SchemaOf.{plain_field, plain_struct}
use Rattle.struct_skew.specs.Needs.{PlainNeeds, is_defaulted_field}
use Rattle.struct_skew.specs.WrittenTests.{has_fields_at}
use Rattle.struct_skew.proofs.RequiredPlaces.{there_at_places}
use Rattle.struct_skew.proofs.settled.has_defaulted_fields.Goals as goal

pub returns : goal.returns
returns c =
    let d = plain_struct c.args.desc.now in
    let fields = field_trees (map field_tree c.args.fields.now) in
    c.has_fields_at.ensures ∙ (λ i. has_fields_at (map plain_field (c.as_slice.ensures i)) (c.as_slice-2.ensures.value i) fields)
    ∙ ap (λ (n : PlainNeeds). has_fields_at d.fields n.defaulted fields) c.requires ∙ there_at_places (is_defaulted_field d.kind) fields d.fields
