use Rattle.std.specs.Int.{w32, w64}
use Rattle.wire_num.proofs.Varints.{varint_decodes}
use Rattle.wire_num.proofs.laws.varints_are_decoded.Goals as goal

pub returns-clause-varint32 : goal.returns-clause-varint32
returns-clause-varint32 c = varint_decodes w32

pub returns-clause-varint64 : goal.returns-clause-varint64
returns-clause-varint64 c = varint_decodes w64
