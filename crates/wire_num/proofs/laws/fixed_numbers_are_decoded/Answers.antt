use Rattle.std.specs.Int.{w8, w16, w32, w64, w128}
use Rattle.wire_num.proofs.Numbers.{byte_decodes, unsigned_decodes, signed_decodes, low_first_decodes_64}
use Rattle.wire_num.proofs.Widths.{wide_8, wide_16, wide_32, wide_64}
use Rattle.wire_num.proofs.Halves.{wide_128}
use Rattle.wire_num.proofs.laws.fixed_numbers_are_decoded.Goals as goal

pub returns-clause-byte : goal.returns-clause-byte
returns-clause-byte c = byte_decodes

pub returns-clause-i8 : goal.returns-clause-i8
returns-clause-i8 c = signed_decodes w8 wide_8

pub returns-clause-i16 : goal.returns-clause-i16
returns-clause-i16 c = signed_decodes w16 wide_16

pub returns-clause-i32 : goal.returns-clause-i32
returns-clause-i32 c = signed_decodes w32 wide_32

pub returns-clause-i64 : goal.returns-clause-i64
returns-clause-i64 c = signed_decodes w64 wide_64

pub returns-clause-be64 : goal.returns-clause-be64
returns-clause-be64 c = unsigned_decodes w64 wide_64

pub returns-clause-be128 : goal.returns-clause-be128
returns-clause-be128 c = unsigned_decodes w128 wide_128

pub returns-clause-le64 : goal.returns-clause-le64
returns-clause-le64 c = low_first_decodes_64
