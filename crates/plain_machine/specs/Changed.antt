-- A value that was changed, where that could be.
use Rattle.std.specs.Prelude.{Bool, Option, Some, Result, Ok, Err}
use Rattle.machine_model.specs.Plain.{when}

abbrev pub where_it_can : {X E : Type 0} → X → Result Bool E → Result (Option X) E
where_it_can x (Ok can) = Ok (when can (Some x))
where_it_can x (Err e) = Err e
