use Rattle.std.proofs.Common.{◌≡◌, ◌≤◌, ◌-◌, ◌<◌, length, vec_len}
use Rattle.port_calls.proofs.HeardBytes.{HasHeardSoFar}
use Rattle.port_calls.proofs.hearing.hear.Given as goal

-- what was read so far, and no end
abbrev pub invariant-reads : goal.invariant-reads
invariant-reads g l = record {
  heard : HasHeardSoFar l.bytes.items (g.P.Pipe.state l.fn.pipe) (g.P.Pipe.state l.pipe);
  within : length l.bytes.items ≤ l.want;
  room : 0 < length l.room;
  same : length l.room ≡ length l.fn.room;
}

abbrev pub decreases-reads : goal.decreases-reads
decreases-reads g l = l.want - vec_len l.bytes
