use Rattle.std.proofs.Common.{sym, ap, ◌∙◌}
use Rattle.std.specs.Int.{w16}
use Rattle.std.specs.Ordering.{int_eq}
use Rattle.std.proofs.lemmas.Int.{to_z-of_z}
use Rattle.struct_skew.proofs.FoundFields.{declared_there}
use Rattle.struct_skew.proofs.declared.field_near.Goals as goal

pub returns-then-has_id : goal.returns-then-has_id
returns-then-has_id c =
    declared_there c.args.id c.args.declared.now c.args.place c.in-Some.field.now c.requires c.in-Some.ensures
    (ap (int_eq c.in-Some.field.now.id) (sym (to_z-of_z w16 c.args.id c.ranges.id)) ∙ sym c.if-has_id.ensures)
