-- The struct at a place, read to its end, and then its projection.
use Rattle.std.specs.Prelude.{◌≡◌, ⊤, ℕ, List, Result, Ok, Err}
use Rattle.thrift_value.specs.declared.wire_fault.WireFault.{WireFault}
use Rattle.thrift_value.specs.declared.wire_fault.WireFault.TheVariants as wire_fault
use Rattle.thrift_value.specs.Tree.{Tree}
use Rattle.schema.specs.PlainSchema.{PlainSchema}
use Rattle.wire_model.specs.Place.{struct_at}
use Rattle.wire_model.specs.Wire.{Wire as WireParts}
use Rattle.struct_skew.specs.declared.fault.SkewFault.{SkewFault}
use Rattle.struct_skew.specs.declared.fault.SkewFault.TheVariants as skew_fault
use Rattle.struct_skew.specs.declared.arg_fault.ArgFault.{ArgFault}
use Rattle.struct_skew.specs.declared.arg_fault.ArgFault.TheVariants.{Wire, Skew, NoMemory}
use Rattle.struct_skew.specs.Projection.{projection}

-- a projection, with the place behind the struct that was read
abbrev pub placed_projection : ℕ → Result Tree SkewFault → Result (Tree × ℕ) ArgFault
placed_projection behind (Ok value) = Ok (value, behind)
placed_projection behind (Err fault) = Err (Skew fault)

-- the projection of what was read, with the place behind it
abbrev pub projected_read : PlainSchema → ℕ → Result (Tree × ℕ) WireFault → Result (Tree × ℕ) ArgFault
projected_read s which (Ok found) = placed_projection found.1 (projection s which found.0)
projected_read s which (Err fault) = Err (Wire fault)

-- the projection of the struct at a place, and the place behind that struct: a fault of the bytes comes first, wherever something is
-- missing
abbrev pub read_then_projected : WireParts → PlainSchema → ℕ → List ℕ → ℕ → Result (Tree × ℕ) ArgFault
read_then_projected wire s which bytes at = projected_read s which (struct_at wire bytes at)

-- a fault of the bytes, and one of a projection; want of memory is the same of both
abbrev pub arg_of_wire : WireFault → ArgFault
arg_of_wire wire_fault.NoMemory = NoMemory
arg_of_wire fault = Wire fault

abbrev pub arg_of_skew : SkewFault → ArgFault
arg_of_skew skew_fault.NoMemory = NoMemory
arg_of_skew fault = Skew fault

-- the fault is the one that comes first; want of memory is free, and stands in no other fault
abbrev pub ArgFaultsOrNoMemory : {Y : Type 0} → ArgFault → Result Y ArgFault → Type 0
ArgFaultsOrNoMemory NoMemory meant = ⊤
ArgFaultsOrNoMemory (Wire wire_fault.NoMemory) meant = ⊥
ArgFaultsOrNoMemory (Skew skew_fault.NoMemory) meant = ⊥
ArgFaultsOrNoMemory fault meant = meant ≡ Err fault

-- what was answered, seen by view, is what is meant
abbrev pub ArgsOrNoMemory : {X Y : Type 0} → (X → Y) → Result X ArgFault → Result Y ArgFault → Type 0
ArgsOrNoMemory view (Ok x) meant = meant ≡ Ok (view x)
ArgsOrNoMemory view (Err fault) meant = ArgFaultsOrNoMemory fault meant
