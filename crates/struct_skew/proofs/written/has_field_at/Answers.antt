use Rattle.std.proofs.Common.{None, Some, map, ◌∙◌}
use Rattle.thrift_value.specs.TreeOf.{field_tree, field_trees}
use Rattle.struct_skew.proofs.RequiredPlaces.{at_place}
use Rattle.struct_skew.proofs.written.has_field_at.Goals as goal

pub returns-in-Some : goal.returns-in-Some
returns-in-Some c =
    c.has_field_near.ensures ∙ at_place c.args.declared.now c.args.place (Some c.in-Some.field.now) (field_trees (map field_tree c.args.fields.now)) c.in-Some.ensures

pub returns-in-None : goal.returns-in-None
returns-in-None c = at_place c.args.declared.now c.args.place None (field_trees (map field_tree c.args.fields.now)) c.in-None.ensures
