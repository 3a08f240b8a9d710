use Rattle.std.proofs.Common.{rules, ◌∙◌, arith}
use Rattle.std.proofs.lemmas.List.{length-set}
use Rattle.schema.specs.SchemaOf.{plain_function}
use Rattle.idl_include.specs.DeclaredIn.{function_in}
use Rattle.idl_check.specs.Filling.{IsFunctionFilled}
use Rattle.idl_check.proofs.Zips.{filled_next, all_filled}
use Rattle.idl_check.proofs.services.fill_functions.Goals as goal

pub loop-place-preserved : goal.loop-place-preserved
loop-place-preserved c = (
  length-set c.loop-place.functions.items c.loop-place.place c.fill_function.new.function ∙ c.loop-place.invariant.0,
  λ program right.
      let h = c.loop-place.invariant.1 program right in
      let one = c.in_ok-fill_function.ensures program h.1 in (
        filled_next (IsFunctionFilled program c.args.file) function_in plain_function c.args.given.now c.loop-place.place c.index-given-place.result c.index_mut.result.now
            c.fill_function.new.function c.args.functions.now.items c.loop-place.functions.items c.loop-place-test.true (omega (arith, c.loop-place.invariant.0)) c.index-given-place.is
            c.index_mut.ensures.value one.0 h.0,
        one.1,
      ),
)

pub returns : goal.returns
returns c = λ program right.
    let h = c.loop-place.invariant.1 program right in (
      all_filled (IsFunctionFilled program c.args.file) function_in plain_function c.args.given.now c.loop-place.place c.args.functions.now.items c.loop-place.functions.items (search rules) (search rules) (search rules) h.0,
      h.1,
    )
