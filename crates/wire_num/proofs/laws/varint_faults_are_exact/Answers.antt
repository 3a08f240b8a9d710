use Rattle.std.specs.Int.{w32, w64}
use Rattle.std.proofs.Common.{ap}
use Rattle.wire_num.specs.declared.fault.NumFault.TheVariants.{Short, LongVarint}
use Rattle.wire_num.specs.Decoding.{decoded_as}
use Rattle.wire_num.specs.Varint.{varint_of, decode_groups}
use Rattle.wire_num.proofs.Fronts.{meant_fault}
use Rattle.wire_num.proofs.Groups.{short_found, short_only, long_found, long_only}
use Rattle.wire_num.proofs.laws.varint_faults_are_exact.Goals as goal

pub returns-clause-short32 : goal.returns-clause-short32
returns-clause-short32 c bytes = (
  λ e. short_found 5 bytes (meant_fault (varint_of w32) (decode_groups 5 bytes) Short e),
  λ is. ap (decoded_as (varint_of w32)) (short_only 5 bytes is.0 is.1),
)

pub returns-clause-short64 : goal.returns-clause-short64
returns-clause-short64 c bytes = (
  λ e. short_found 10 bytes (meant_fault (varint_of w64) (decode_groups 10 bytes) Short e),
  λ is. ap (decoded_as (varint_of w64)) (short_only 10 bytes is.0 is.1),
)

pub returns-clause-long32 : goal.returns-clause-long32
returns-clause-long32 c bytes = (
  λ e. long_found 5 bytes (meant_fault (varint_of w32) (decode_groups 5 bytes) LongVarint e),
  λ is. ap (decoded_as (varint_of w32)) (long_only 5 bytes is.0 is.1),
)

pub returns-clause-long64 : goal.returns-clause-long64
returns-clause-long64 c bytes = (
  λ e. long_found 10 bytes (meant_fault (varint_of w64) (decode_groups 10 bytes) LongVarint e),
  λ is. ap (decoded_as (varint_of w64)) (long_only 10 bytes is.0 is.1),
)
