use Rattle.std.specs.Prelude.{IsTrue}
use Rattle.std.proofs.Common.{map, sym, ◌∙◌}
use Rattle.std.proofs.lemmas.Bool.{OnTrue_from}
use Rattle.thrift_value.specs.TreeOf.{field_tree, field_trees}
use Rattle.struct_skew.specs.WrittenTests.{has_field_tree}
use Rattle.struct_skew.proofs.FoundFields.{field_there}
use Rattle.struct_skew.proofs.written.is_at.Goals as goal

pub returns-in-Some : goal.returns-in-Some
returns-in-Some c =
    OnTrue_from c.is_id_of.result (IsTrue (has_field_tree c.args.id.now (field_trees (map field_tree c.args.fields.now))))
    (λ e. field_there c.args.id.now c.args.fields.now c.args.place c.in-Some.field.now (sym c.in-Some.ensures) (sym c.is_id_of.ensures ∙ e))
