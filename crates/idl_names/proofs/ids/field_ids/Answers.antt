use Rattle.std.proofs.Common.{rules, map, ◌++◌, refl, ap}
use Rattle.idl_include.specs.DeclaredIn.{field_in}
use Rattle.idl_include.specs.FieldIds.{field_ids, ids_behind, one_more_unnumbered}
use Rattle.idl_names.proofs.Walked.{ids_next, walk_end}
use Rattle.idl_names.proofs.ids.field_ids.Goals as goal

pub loop-field-init : goal.loop-field-init
unfolding field_ids
loop-field-init c = (0, refl, ap (λ xs. xs ++ ids_behind 0 (map field_in c.args.fields.now)) c.new-ids.ensures.items)

pub loop-field-preserved : goal.loop-field-preserved
loop-field-preserved c =
    let u = c.loop-field.invariant.0 in
    let e = c.loop-field.invariant.1 in (
      one_more_unnumbered u (field_in c.field-item.result).id,
      search (rules, c.in_ok-behind.ensures u e),
      ids_next c.args.fields.now c.loop-field.field-index c.field-item.result u c.id_or-id.result c.loop-field.ids.items c.put.new.all.items
          (field_ids (map field_in c.args.fields.now)) c.loop-field-test.true c.field-item.is (c.id_or-id.ensures u e) (search (rules, c.in_ok-put.ensures)) c.loop-field.invariant.2,
    )

pub returns : goal.returns
returns c =
    walk_end (λ left. ids_behind c.loop-field.invariant.0 (map field_in left)) c.args.fields.now c.loop-field.field-index c.loop-field.ids.items _ c.loop-field-test.false refl
    c.loop-field.invariant.2
