-- What links are to those who use them: connections, each a link, that are opened, read, written and closed.
use Rattle.std.specs.Prelude.{◌≡◌, ◌≢◌, ℕ, Bool, false, Option, List, []}
use Rattle.streams.specs.declared.marks.Mark.{Mark}
use Rattle.streams.specs.declared.rest_place.RestPlace.{RestPlace}

-- what has arrived on a connection: the bytes that aren't read, and whether its end has arrived after them
pub record Arrived : Type 0 where
  pub bytes : List ℕ
  pub ended : Bool

-- nothing that isn't read
abbrev pub nothing_arrived : Arrived
nothing_arrived = record { bytes = []; ended = false }

-- where links listen: the port, and how many connections they open at most
pub record Listening : Type 0 where
  pub port : ℕ
  pub accept : ℕ

-- Links: where they listen, if they do; how many connections were opened; which are open; whether it was said that all is over; the tape, which has a mark for each thing that happened;
-- of each connection the bytes that aren't read, those to come included, and what of them has arrived; the places of rest; for each mark of bytes the
-- length of what was lent for them; and how many faults were counted, on each connection and besides. Tape, bytes, arrivals, places and lengths may be
-- untold.
pub record LinksState : Type 0 where
  pub listens : Option Listening
  pub opened : ℕ
  pub is_open : ℕ → Bool
  pub over : Bool
  pub tape : Option (List Mark)
  pub left : ℕ → Option (List ℕ)
  pub arrived : ℕ → Option Arrived
  pub rests : Option (List RestPlace)
  pub lengths : Option (List ℕ)
  pub faults : ℕ → ℕ
  pub net_faults : ℕ

-- Nothing has changed but on connection c, on the tape and among the lengths.
pub record ChangesOnly (c : ℕ) (old new : LinksState) : Type 0 where
  pub listens : new.listens ≡ old.listens
  pub opened : new.opened ≡ old.opened
  pub over : new.over ≡ old.over
  pub rests : new.rests ≡ old.rests
  pub net_faults : new.net_faults ≡ old.net_faults
  pub is_open : (x : ℕ) → x ≢ c → new.is_open x ≡ old.is_open x
  pub left : (x : ℕ) → x ≢ c → new.left x ≡ old.left x
  pub arrived : (x : ℕ) → x ≢ c → new.arrived x ≡ old.arrived x
  pub faults : (x : ℕ) → x ≢ c → new.faults x ≡ old.faults x
