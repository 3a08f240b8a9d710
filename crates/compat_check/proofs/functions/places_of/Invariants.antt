use Rattle.std.proofs.Common.{map, take, true}
use Rattle.schema.specs.PlainSchema.{PlainFunction}
use Rattle.schema.specs.Shapes.{shown_function}
use Rattle.compat_check.proofs.Tables.{FindsFirst}
use Rattle.compat_check.proofs.functions.places_of.Given as goal

-- the functions so far
abbrev pub invariant-loop-place : goal.invariant-loop-place
invariant-loop-place l = FindsFirst (λ f. true) (λ (f : PlainFunction). f.name) l.places (map shown_function (take l.place l.functions))
