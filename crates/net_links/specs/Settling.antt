-- What the account says once the answer of a read or a write is settled.
use Rattle.std.specs.Prelude.{◌≡◌, ℕ, ◌≤◌, length}
use Rattle.outside.specs.declared.answers.Taken.{Taken}
use Rattle.outside.specs.declared.answers.Taken.TheVariants.{Failed, NotYet}
use Rattle.net_links.specs.Account.{LinksAccount, after_failing}

-- A fault is counted of its connection. Only where as many were counted since the last opening as connections were open then, there is no room for one more, and it
-- isn't told: so the first fault of each connection is. Any other answer stands, and leaves the account.
abbrev pub SettlesFailure : ℕ → LinksAccount → LinksAccount → Taken → Taken → Type 0
SettlesFailure c old new Failed Failed = new ≡ after_failing c old
SettlesFailure c old new Failed NotYet = (new ≡ old) × (old.most_failed ≤ length old.failed)
SettlesFailure c old new Failed _ = ⊥
SettlesFailure c old new taken answer = (answer ≡ taken) × (new ≡ old)
