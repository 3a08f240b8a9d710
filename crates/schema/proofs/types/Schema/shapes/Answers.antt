use Rattle.std.proofs.Common.{◌∙◌, ap, map}
use Rattle.schema.specs.SchemaOf.{schema_of}
use Rattle.schema.specs.Shapes.{shape_line, shown_function}
use Rattle.schema.proofs.ShapeLines.{shapes_of}
use Rattle.schema.proofs.types.Schema.shapes.Goals as goal

pub returns : goal.returns
returns c =
    shapes_of (schema_of c.args.self.now) c.args.service c.in_ok-functions.functions.items c.sort_by_name.new.all.items _
    c.in_ok-functions.ensures c.sort_by_name.ensures.permutation c.in_ok-sort_by_name.ensures.sorted
    (c.new.ensures ∙ c.in_ok-lines_of.ensures ∙ ap (λ fs. map (shape_line (schema_of c.args.self.now)) (map shown_function fs)) c.as_slice.ensures.value)
