use Rattle.seat_booth.specs.Steps.{call_in_reach}
use Rattle.seat_booth.proofs.table.finish.Given as goal

abbrev pub ghosts-enter : goal.ghosts-enter
ghosts-enter g a = record { made = call_in_reach g.O.Object.meaning a.token.now.me a._op.now.value a._reply.now }
