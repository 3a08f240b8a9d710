use Rattle.std.proofs.Common.{◌≡◌, take}
use Rattle.std.specs.Vec.{vec_capacity}
use Rattle.cell_loop.proofs.Telling.{ends_of}
use Rattle.cell_loop.proofs.loop_part.LoopPart.tell_ends.Given as goal

-- the causes of the connections before number c are told, and nothing else has changed
abbrev pub invariant-loop-c : goal.invariant-loop-c
invariant-loop-c l =
    (l.self.ends.items ≡ ends_of (take l.c l.fn.self.stages.items)) × (vec_capacity l.self.ends ≡ vec_capacity l.fn.self.ends) × (l.self.tape ≡ l.fn.self.tape)
    × (l.self.stages ≡ l.fn.self.stages)
