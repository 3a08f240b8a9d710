use Rattle.std.proofs.Common.{map, sym, ap, ◌∙◌}
use Rattle.thrift_value.specs.TreeOf.{field_tree, field_trees, fields_tree}
use Rattle.schema.specs.SchemaOf.{plain_struct}
use Rattle.schema.specs.WrittenAs.{HasItsFields}
use Rattle.struct_skew.specs.Filled.{HasItsDefaults}
use Rattle.struct_skew.specs.FilledTests.{has_defaulted_fields}
use Rattle.struct_skew.specs.WrittenTests.{has_its_fields}
use Rattle.struct_skew.proofs.Deciding.{its_fields}
use Rattle.struct_skew.proofs.Settling.{has_defaults}
use Rattle.struct_skew.proofs.SettledSteps.{on_true}
use Rattle.struct_skew.proofs.settled_reading.has_all.Goals as goal

pub returns : goal.returns
returns c =
    let d = plain_struct c.args.desc.now in
    let fields = fields_tree c.args.fields.now in
    let its : HasItsFields d fields =
    (its_fields d fields).0 (sym (c.if-not-has_its_fields.ensures ∙ ap (λ fs. has_its_fields d (field_trees (map field_tree fs))) c.as_slice-2.ensures)) in
    on_true c.has_defaulted_fields.result (HasItsFields d fields × HasItsDefaults d fields) (λ e. (
      its,
      has_defaults d fields its (sym (sym e ∙ c.has_defaulted_fields.ensures ∙ ap (λ fs. has_defaulted_fields d (field_trees (map field_tree fs))) c.as_slice-3.ensures)),
    ))
