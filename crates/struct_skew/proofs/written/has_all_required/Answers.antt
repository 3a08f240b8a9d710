use Rattle.std.proofs.Common.{Bool, List, map, refl, ap, ◌∙◌}
use Rattle.std.specs.Prelude.{not, ◌||◌}
use Rattle.thrift_value.specs.Tree.{FieldTrees}
use Rattle.thrift_value.specs.TreeOf.{field_tree, field_trees}
use Rattle.schema.specs.declared.types.FieldDesc.{FieldDesc}
use Rattle.schema.specs.SchemaOf.{plain_field}
use Rattle.struct_skew.specs.Needs.{is_required_field}
use Rattle.struct_skew.specs.WrittenTests.{has_field_tree, has_required_fields}
use Rattle.struct_skew.proofs.Tried.{one_fails, one_passes, all_pass}
use Rattle.struct_skew.proofs.written.has_all_required.Goals as goal
use Rattle.struct_skew.proofs.written.has_all_required.Goals.{then-is_required+else-not-has_field, else-is_required}

-- what is tried of each declared field
abbrev all_there : FieldTrees → List FieldDesc → Bool
all_there fields declared = has_required_fields (map plain_field declared) fields

abbrev one_there : FieldTrees → FieldDesc → Bool
one_there fields d = not (is_required_field (plain_field d)) || has_field_tree d.id fields

pub returns-then-not-has_field : goal.returns-then-not-has_field
returns-then-not-has_field c =
    let fields = field_trees (map field_tree c.args.fields.now) in
    one_fails (all_there fields) (one_there fields) (λ d ds. refl) c.args.declared.now c.loop-field.field-index c.field-item.result c.loop-field-test.true c.field-item.is c.loop-field.invariant
    (c.if-not-has_field.ensures ∙ ap (λ b. not b || has_field_tree c.field-item.result.id fields) c.if-is_required.ensures)

pub loop-field-preserved : goal.loop-field-preserved
loop-field-preserved c =
    let fields = field_trees (map field_tree c.args.fields.now) in
    let needed : Bool → Bool = λ b. not b || has_field_tree c.field-item.result.id fields in
    one_passes (all_there fields) (one_there fields) (λ d ds. refl) c.args.declared.now c.loop-field.field-index c.field-item.result c.loop-field-test.true c.field-item.is c.loop-field.invariant
    (elim c.if-is_required.branch [
      | then-is_required+else-not-has_field w ↦ w.if-not-has_field.ensures ∙ ap needed w.if-is_required.ensures
      | else-is_required w ↦ ap needed w.if-is_required.ensures
    ])

pub returns : goal.returns
returns c = all_pass (all_there (field_trees (map field_tree c.args.fields.now))) c.args.declared.now c.loop-field.field-index refl c.loop-field-test.false c.loop-field.invariant
