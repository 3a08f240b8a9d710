-- What sockets that are watched may tell, and what a read or a write of one may come to.
use Rattle.std.specs.Prelude.{◌≡◌, ℕ, ◌<◌, ◌≤◌, ◌^◌, Option, None, Some, Result, Ok, Err, MatchResult}
use Rattle.outside.specs.declared.answers.Hint.{Hint}
use Rattle.outside.specs.declared.answers.Hint.TheVariants.{Opened, Readable, Writable, Woken, Over}
use Rattle.net_links.specs.Account.{LinksAccount, after_opening, after_net_fault}

-- a connection is opened under the number that is free for it alone, and that all is over isn't theirs to say
abbrev pub TellsWithin : {E : Type 0} → Option ℕ → Result Hint E → Type 0
TellsWithin number (Ok (Opened c)) = number ≡ Some c
TellsWithin number (Ok (Readable c)) = Unit {0}
TellsWithin number (Ok (Writable c)) = Unit {0}
TellsWithin number (Ok Woken) = Unit {0}
TellsWithin number (Ok Over) = ⊥
TellsWithin number (Err e) = Unit {0}

-- the same of what they tell at once, if anything
abbrev pub TellsAtOnce : {E : Type 0} → Option ℕ → Result (Option Hint) E → Type 0
TellsAtOnce number (Ok (Some hint)) = TellsWithin {E = Unit {0}} number (Ok hint)
TellsAtOnce number (Ok None) = Unit {0}
TellsAtOnce number (Err e) = Unit {0}

-- A connection that was accepted is taken in, or for want of memory it isn't, and a fault of the net is counted.
abbrev pub AcceptsOne : {E : Type 0} → ℕ → LinksAccount → LinksAccount → Result Hint E → Type 0
AcceptsOne c old new result =
    MatchResult result (λ hint. (hint ≡ Opened c) × (new ≡ after_opening old) × (new.opened < 2 ^ 32))
    (λ _. (new ≡ after_net_fault old) × (old.net_faults ≤ new.net_faults))
