-- What is told of the frames that are held.
use Rattle.std.specs.Prelude.{ℕ, IsTrue, Bool, Option, None, Some}
use Rattle.loop_conns.specs.declared.connections.LoopConnections.{LoopConnections}
use Rattle.loop_conns.specs.Going.{HasNoRoom}
use Rattle.host_loop.specs.declared.holding.Found.{Found}
use Rattle.host_loop.specs.declared.holding.Found.TheVariants.{Admitted, NoRoom, Gone}
use Rattle.host_loop.specs.declared.holding.HeldLook.{HeldLook}
use Rattle.host_loop.specs.declared.holding.HeldLook.TheVariants.{Admitted as OneAdmitted, Changed, StillHeld}

-- what is known of a frame that was to be admitted
abbrev pub FoundTells : ℕ → LoopConnections → Found → Type 0
FoundTells c kept NoRoom = HasNoRoom kept.table c
FoundTells c kept Admitted = Unit {0}
FoundTells c kept Gone = Unit {0}

-- some frame is held
abbrev pub SomeIsHeld : LoopConnections → Type 0
SomeIsHeld kept = (c : ℕ) × HasNoRoom kept.table c

-- what is known after a look at those that are held
abbrev pub HeldLookTells : LoopConnections → HeldLook → Type 0
HeldLookTells kept (StillHeld one) = IsTrue one → SomeIsHeld kept
HeldLookTells kept (OneAdmitted c) = Unit {0}
HeldLookTells kept Changed = Unit {0}

-- where it is told whether one is held, it is so
abbrev pub IsToldHeld : LoopConnections → Option Bool → Type 0
IsToldHeld kept None = Unit {0}
IsToldHeld kept (Some one) = IsTrue one → SomeIsHeld kept
