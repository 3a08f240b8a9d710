use Rattle.std.proofs.Common.{◌≡◌, ◌++◌, take}
use Rattle.std.specs.Prelude.{map}
use Rattle.std.specs.List.{flat_map}
use Rattle.const_evaluator.specs.GivenFields.{fields_given, service_fields}
use Rattle.const_evaluator.proofs.given_fields.put_services.Given as goal

-- the services so far
abbrev pub invariant-loop-service : goal.invariant-loop-service
invariant-loop-service l = map fields_given l.lists.items ≡ map fields_given l.fn.lists.items ++ flat_map service_fields (take l.service-index l.services)
