-- What a call of the code may answer, where a definition says what is read.
use Rattle.std.specs.Prelude.{◌≡◌, ⊤, Result, Ok, Err}
use Rattle.thrift_value.specs.declared.wire_fault.WireFault.{WireFault}
use Rattle.thrift_value.specs.declared.wire_fault.WireFault.TheVariants.{NoMemory}

-- the fault is what reading gives; want of memory is free
abbrev pub FaultsOrNoMemory : {Y : Type 0} → WireFault → Result Y WireFault → Type 0
FaultsOrNoMemory NoMemory read = ⊤
FaultsOrNoMemory fault read = read ≡ Err fault

-- what was answered, seen by view, is what reading gives
abbrev pub AnswersOrNoMemory : {X Y : Type 0} → (X → Y) → Result X WireFault → Result Y WireFault → Type 0
AnswersOrNoMemory view (Ok x) read = read ≡ Ok (view x)
AnswersOrNoMemory view (Err fault) read = FaultsOrNoMemory fault read

-- the fault is what reading gives, and never want of memory
abbrev pub FaultsExactly : {Y : Type 0} → WireFault → Result Y WireFault → Type 0
FaultsExactly NoMemory read = ⊥
FaultsExactly fault read = read ≡ Err fault

-- what was answered, seen by view, is what reading gives; want of memory is never answered
abbrev pub AnswersExactly : {X Y : Type 0} → (X → Y) → Result X WireFault → Result Y WireFault → Type 0
AnswersExactly view (Ok x) read = read ≡ Ok (view x)
AnswersExactly view (Err fault) read = FaultsExactly fault read
