use Rattle.std.proofs.Common.{◌≡◌, map, drop}
use Rattle.std.specs.List.{position_from}
use Rattle.service_binding.specs.Handlers.{is_of_kind}
use Rattle.service_binding.proofs.handlers.place_of_kind.Given as goal

-- what is found in what is left is what is found in all
abbrev pub invariant-loop-place : goal.invariant-loop-place
invariant-loop-place g l =
    position_from (is_of_kind l.kind) l.place (map g.H.Handler.service (drop l.place l.handlers)) ≡ position_from (is_of_kind l.kind) 0 (map g.H.Handler.service l.handlers)
