use Rattle.std.proofs.Common.{List, map, refl, ap, ◌∙◌}
use Rattle.schema.specs.declared.types.StructDesc.{StructDesc}
use Rattle.schema.specs.SchemaOf.{plain_struct}
use Rattle.struct_skew.specs.Needs.{PlainNeeds, needs_of, plain_needs}
use Rattle.struct_skew.proofs.Tried.{one_appended, all_appended}
use Rattle.struct_skew.proofs.needs.needed_fields.Goals as goal

-- what structs need
abbrev all_need : List StructDesc → List PlainNeeds
all_need descs = map needs_of (map plain_struct descs)

abbrev one_needs : StructDesc → PlainNeeds
one_needs desc = needs_of (plain_struct desc)

pub loop-desc-preserved : goal.loop-desc-preserved
loop-desc-preserved c =
    one_appended all_need one_needs (λ d ds. refl) c.as_slice-desc-items.result.now (map plain_needs c.loop-desc.rows.items) _ c.loop-desc.desc-index c.loop-desc.invariant
    c.desc-item.result (map plain_needs c.put_needs.new.rows.items) c.loop-desc-test.true c.desc-item.is c.in_ok-put_needs.ensures

pub returns : goal.returns
returns c =
    all_appended all_need one_needs (λ d ds. refl) c.as_slice-desc-items.result.now (map plain_needs c.loop-desc.rows.items) _ c.loop-desc.desc-index c.loop-desc.invariant
    refl c.loop-desc-test.false
    ∙ ap all_need c.as_slice-desc-items.ensures
