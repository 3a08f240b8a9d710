-- What the hall's rule leaves open: the answers that are free, and the journal's count of faults.
use Rattle.std.specs.Prelude.{◌≡◌}
use Rattle.machine_model.specs.HallState.{HallState}
use Rattle.machine_model.specs.HallRule.{HallOperation, apply, HallAnswer, no_memory, journal_fault}

-- an answer that is free: memory may run out, and the journal may fail where its count rises
abbrev pub IsFree : {A : Type 0} → HallAnswer A → Type 0
IsFree no_memory = Unit {0}
IsFree journal_fault = Unit {0}
IsFree _ = ⊥

-- an operation calls a service
abbrev pub IsApply : {C : Type 0} → HallOperation C → Type 0
IsApply (apply key call) = Unit {0}
IsApply _ = ⊥

-- two halls that differ in the journal's count of faults at most
abbrev pub IsSameButFaults : {C A M : Type 0} → HallState C A M → HallState C A M → Type 0
IsSameButFaults one other = other ≡ record one { faults = other.faults }
