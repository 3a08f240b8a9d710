use Rattle.std.proofs.Common.{length}
use Rattle.idl_token.proofs.uuids.+uuid_behind.Given as goal

abbrev pub decreases-uuid_behind : goal.decreases-uuid_behind
decreases-uuid_behind l = length l.text.now
