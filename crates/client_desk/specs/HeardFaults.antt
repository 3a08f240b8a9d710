-- What reading a reply may answer, where a definition says what it tells.
use Rattle.std.specs.Prelude.{◌≡◌, ⊤, Result, Ok, Err}
use Rattle.struct_skew.specs.declared.fault.SkewFault.{SkewFault}
use Rattle.struct_skew.specs.declared.fault.SkewFault.TheVariants as skew
use Rattle.thrift_value.specs.declared.wire_fault.WireFault.{WireFault}
use Rattle.thrift_value.specs.declared.wire_fault.WireFault.TheVariants as wire
use Rattle.client_desk.specs.declared.heard_fault.HeardFault.{HeardFault}
use Rattle.client_desk.specs.declared.heard_fault.HeardFault.TheVariants.{Wire, Skew, NoMemory}

-- the fault of a reply whose bytes, or of which a value has this one; want of memory is none of theirs
abbrev pub fault_of_wire : WireFault → HeardFault
fault_of_wire wire.NoMemory = NoMemory
fault_of_wire fault = Wire fault

abbrev pub fault_of_skew : SkewFault → HeardFault
fault_of_skew skew.NoMemory = NoMemory
fault_of_skew fault = Skew fault

-- the fault is the one that comes first; want of memory is free, and stands in no other fault
abbrev pub HeardFaultsOrNoMemory : {Y : Type 0} → HeardFault → Result Y HeardFault → Type 0
HeardFaultsOrNoMemory NoMemory meant = ⊤
HeardFaultsOrNoMemory (Wire wire.NoMemory) meant = ⊥
HeardFaultsOrNoMemory (Skew skew.NoMemory) meant = ⊥
HeardFaultsOrNoMemory fault meant = meant ≡ Err fault

-- what was answered, seen by view, is what is meant
abbrev pub HearsOrNoMemory : {X Y : Type 0} → (X → Y) → Result X HeardFault → Result Y HeardFault → Type 0
HearsOrNoMemory view (Ok x) meant = meant ≡ Ok (view x)
HearsOrNoMemory view (Err fault) meant = HeardFaultsOrNoMemory fault meant
