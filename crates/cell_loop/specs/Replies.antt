-- What is settled of a job, where it is a reply.
use Rattle.std.specs.Prelude.{◌≢◌, []}
use Rattle.streams.specs.declared.outcomes.Settled.{Settled}
use Rattle.streams.specs.declared.outcomes.Settled.TheVariants.{Reply}

-- a reply has a byte at least
abbrev pub IsReplySome : Settled → Type 0
IsReplySome (Reply reply) = reply ≢ []
IsReplySome _ = Unit {0}
