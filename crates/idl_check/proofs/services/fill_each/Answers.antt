use Rattle.std.proofs.Common.{rules, ◌∙◌, arith}
use Rattle.std.proofs.lemmas.List.{length-set}
use Rattle.schema.specs.SchemaOf.{plain_service}
use Rattle.idl_names.specs.FiledIn.{filed_by, service_declared}
use Rattle.idl_check.specs.Filling.{IsServiceFilled}
use Rattle.idl_check.proofs.Zips.{filled_next, all_filled}
use Rattle.idl_check.proofs.services.fill_each.Goals as goal

pub loop-place-preserved : goal.loop-place-preserved
loop-place-preserved c = (
  length-set c.loop-place.services.items c.loop-place.place c.fill_service.new.service ∙ c.loop-place.invariant.0,
  λ program right.
      let h = c.loop-place.invariant.1 program right in
      let one = c.in_ok-fill_service.ensures program h.1 in (
        filled_next (IsServiceFilled program) (filed_by service_declared) plain_service c.args.given.now c.loop-place.place c.index-given-place.result c.index_mut.result.now
            c.fill_service.new.service c.args.services.now.items c.loop-place.services.items c.loop-place-test.true (omega (arith, c.loop-place.invariant.0)) c.index-given-place.is
            c.index_mut.ensures.value one.0 h.0,
        one.1,
      ),
)

pub returns : goal.returns
returns c = λ program right.
    let h = c.loop-place.invariant.1 program right in (
      all_filled (IsServiceFilled program) (filed_by service_declared) plain_service c.args.given.now c.loop-place.place c.args.services.now.items c.loop-place.services.items (search rules) (search rules) (search rules) h.0,
      h.1,
    )
