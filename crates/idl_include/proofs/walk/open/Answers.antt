use Rattle.std.proofs.Common.{refl}
use Rattle.idl_include.specs.declared.faults.LoadStop.TheVariants as stops
use Rattle.idl_include.proofs.Stages.{ends_for_want}
use Rattle.idl_include.proofs.Followed.{steps_err, goes_inside}
use Rattle.idl_include.proofs.walk.open.Goals as goal

pub returns-in_err-wanted-clause-steps : goal.returns-in_err-wanted-clause-steps
returns-in_err-wanted-clause-steps g c = λ levels.
    steps_err c.from_residual.result c.in_err-wanted.field-0.0 _ _ _ _ c.from_residual.ensures.1 (c.in_err-wanted.ensures.steps levels c.args.above.now.items)

pub returns-in_err-put_above-clause-steps : goal.returns-in_err-put_above-clause-steps
returns-in_err-put_above-clause-steps g c = λ levels.
    let h = c.in_ok-wanted.ensures.steps levels c.args.above.now.items in
    steps_err c.from_residual-in_err-put_above.result stops.NoMemory _ _ _ _ c.from_residual-in_err-put_above.ensures.1 (ends_for_want _ _ _ stops.NoMemory refl h.moves h.quiet)

pub returns-clause-steps : goal.returns-clause-steps
returns-clause-steps g c = λ levels.
    goes_inside levels c.put_above.new.above.items _ c.args.name.now _ c.in_ok-wanted.wanted.items _ _ _ c.in_ok-put_above.ensures (c.in_ok-wanted.ensures.steps levels c.args.above.now.items)
