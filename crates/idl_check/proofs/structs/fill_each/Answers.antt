use Rattle.std.proofs.Common.{rules, ◌∙◌, arith}
use Rattle.std.proofs.lemmas.List.{length-set}
use Rattle.schema.specs.SchemaOf.{plain_struct}
use Rattle.idl_check.specs.Sites.{sited_in}
use Rattle.idl_check.specs.Filling.{IsStructFilled}
use Rattle.idl_check.proofs.Zips.{filled_next, all_filled}
use Rattle.idl_check.proofs.structs.fill_each.Goals as goal

pub loop-place-preserved : goal.loop-place-preserved
loop-place-preserved c = (
  length-set c.loop-place.structs.items c.loop-place.place c.fill_struct.new.one ∙ c.loop-place.invariant.0,
  λ program right.
      let h = c.loop-place.invariant.1 program right in
      let one = c.in_ok-fill_struct.ensures program h.1 in (
        filled_next (IsStructFilled program) sited_in plain_struct c.args.sites.now c.loop-place.place c.index-sites-place.result c.index_mut.result.now
            c.fill_struct.new.one c.args.structs.now.items c.loop-place.structs.items c.loop-place-test.true (omega (arith, c.loop-place.invariant.0)) c.index-sites-place.is
            c.index_mut.ensures.value one.0 h.0,
        one.1,
      ),
)

pub returns : goal.returns
returns c = λ program right.
    let h = c.loop-place.invariant.1 program right in (
      all_filled (IsStructFilled program) sited_in plain_struct c.args.sites.now c.loop-place.place c.args.structs.now.items c.loop-place.structs.items (search rules) (search rules) (search rules) h.0,
      h.1,
    )
