use Rattle.wire_num.proofs.Varints.{put_32, put_64, shortest_32, shortest_64}
use Rattle.wire_num.proofs.laws.written_varints_are_shortest.Goals as goal

pub returns-clause-shortest32 : goal.returns-clause-shortest32
returns-clause-shortest32 c number bytes is = shortest_32 number bytes is

pub returns-clause-shortest64 : goal.returns-clause-shortest64
returns-clause-shortest64 c number bytes is = shortest_64 number bytes is

pub returns-clause-encoding32 : goal.returns-clause-encoding32
returns-clause-encoding32 c number small = put_32 number small

pub returns-clause-encoding64 : goal.returns-clause-encoding64
returns-clause-encoding64 c number small = put_64 number small
