use Rattle.std.proofs.Common.{map, refl}
use Rattle.plain_machine.proofs.Splitting.{walked_all}
use Rattle.plain_machine.proofs.frames.split.Goals as goal

pub returns : goal.returns
returns c = walked_all c.args.max c.args.bytes.now c.walk.rest.now (map (λ p. p.items) c.walk.payloads.items) _ c.walk.invariant (c.in_default.ensures {u = tt}) refl
