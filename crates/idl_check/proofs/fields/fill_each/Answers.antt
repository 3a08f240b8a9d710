use Rattle.std.proofs.Common.{rules, ◌∙◌, arith}
use Rattle.std.proofs.lemmas.List.{length-set}
use Rattle.schema.specs.SchemaOf.{plain_field}
use Rattle.schema_bare.specs.ById.{numbered_in}
use Rattle.idl_check.specs.Filling.{IsFieldFilled}
use Rattle.idl_check.proofs.Zips.{filled_next, all_filled}
use Rattle.idl_check.proofs.fields.fill_each.Goals as goal

pub loop-place-preserved : goal.loop-place-preserved
loop-place-preserved c = (
  length-set c.loop-place.fields.items c.loop-place.place c.fill_field.new.field ∙ c.loop-place.invariant.0,
  λ program right.
      let h = c.loop-place.invariant.1 program right in
      let one = c.in_ok-fill_field.ensures program h.1 in (
        filled_next (IsFieldFilled program c.args.file) numbered_in plain_field c.args.sorted.now c.loop-place.place c.index-sorted-place.result c.index_mut.result.now
            c.fill_field.new.field c.args.fields.now.items c.loop-place.fields.items c.loop-place-test.true (omega (arith, c.loop-place.invariant.0)) c.index-sorted-place.is
            c.index_mut.ensures.value one.0 h.0,
        one.1,
      ),
)

pub returns : goal.returns
returns c = λ program right.
    let h = c.loop-place.invariant.1 program right in (
      all_filled (IsFieldFilled program c.args.file) numbered_in plain_field c.args.sorted.now c.loop-place.place c.args.fields.now.items c.loop-place.fields.items (search rules) (search rules) (search rules) h.0,
      h.1,
    )
