-- A fault of a number as the fault of a value.
use Rattle.wire_num.specs.declared.fault.NumFault.{NumFault}
use Rattle.wire_num.specs.declared.fault.NumFault.TheVariants as number
use Rattle.thrift_value.specs.declared.wire_fault.WireFault.{WireFault}
use Rattle.thrift_value.specs.declared.wire_fault.WireFault.TheVariants.{Short, LongVarint}

-- the fault of a value whose number has this fault
abbrev pub wire_fault_of : NumFault → WireFault
wire_fault_of number.Short = Short
wire_fault_of number.LongVarint = LongVarint
