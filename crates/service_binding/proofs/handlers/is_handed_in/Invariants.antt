use Rattle.std.proofs.Common.{◌≡◌, map, drop}
use Rattle.service_binding.specs.Handlers.{is_handed_in}
use Rattle.service_binding.proofs.handlers.is_handed_in.Given as goal

-- what is left has one where all have one
abbrev pub invariant-loop-handler : goal.invariant-loop-handler
invariant-loop-handler g l =
    is_handed_in l.kind (map g.H.Handler.service (drop l.handler-index l.handlers)) ≡ is_handed_in l.kind (map g.H.Handler.service l.handlers)
