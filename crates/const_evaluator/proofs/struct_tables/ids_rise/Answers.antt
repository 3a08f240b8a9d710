use Rattle.const_evaluator.proofs.RisingIds.{all_rise}
use Rattle.const_evaluator.proofs.struct_tables.ids_rise.Goals as goal

pub returns : goal.returns
returns c = λ told. all_rise c.args.fields.now c.loop-place.place c.loop-place-test.false c.loop-place.invariant
