-- What links over sockets tell: where they listen, which connections were opened, which of them are open, and their faults. Of bytes they tell nothing.
use Rattle.std.specs.Prelude.{◌≡◌, ℕ, ◌+◌, nat_eq, nat_lt, Bool, true, false, not, ◌&&◌, List, [], ◌∷◌, ◌++◌, length, filter, count_by, Option, Some, None}
use Rattle.streams.specs.Cause.{next_count}
use Rattle.streams.specs.Memory.{is_listed}
use Rattle.outside.specs.LinksState.{Listening, LinksState}
pub use Rattle.limits.specs.Limits.{most_connections}

-- Where the links listen; how many connections were opened; the numbers of those that are open, and whether it was said that all is over; the number of the
-- connection of each read or write that failed, and how many of these there is room for; and how often nothing could be told of what is next.
pub record LinksAccount : Type 0 where
  pub listening : Listening
  pub opened : ℕ
  pub numbers : List ℕ
  pub over : Bool
  pub failed : List ℕ
  pub most_failed : ℕ
  pub net_faults : ℕ

-- how often a read or a write of connection c failed
abbrev pub failures_of : List ℕ → ℕ → ℕ
failures_of failed c = count_by (λ number. nat_eq number c) failed

-- the same as what links are to those who use them
abbrev pub state_of : LinksAccount → LinksState
state_of a = record {
  listens = Some a.listening;
  opened = a.opened;
  is_open = is_listed a.numbers;
  over = a.over;
  tape = None;
  left = λ _. None;
  arrived = λ _. None;
  rests = None;
  lengths = None;
  faults = failures_of a.failed;
  net_faults = a.net_faults;
}

-- nothing has happened
abbrev pub fresh_account : Listening → LinksAccount
fresh_account listening = record { listening = listening; opened = 0; numbers = []; over = false; failed = []; most_failed = 0; net_faults = 0 }

-- one more connection may be opened: there is room for it, fewer were opened than are accepted, and it wasn't said that all is over
abbrev pub may_open : LinksAccount → Bool
may_open a = not a.over && nat_lt a.opened a.listening.accept && nat_lt (length a.numbers) most_connections

-- no connection is open, and none will be opened
abbrev pub is_spent : LinksAccount → Bool
is_spent a = nat_eq a.opened a.listening.accept && nat_eq (length a.numbers) 0

-- The next connection was opened; there is room then for one fault of each connection that is open, besides those that were counted.
abbrev pub after_opening : LinksAccount → LinksAccount
after_opening a =
    record a { opened = a.opened + 1; numbers = a.numbers ++ a.opened ∷ []; most_failed = length a.failed + (length a.numbers + 1) }

-- connection c was closed
abbrev pub after_closing : ℕ → LinksAccount → LinksAccount
after_closing c a = record a { numbers = filter (λ number. not (nat_eq number c)) a.numbers }

-- a read or a write of connection c failed
abbrev pub after_failing : ℕ → LinksAccount → LinksAccount
after_failing c a = record a { failed = a.failed ++ c ∷ [] }

-- nothing could be told of what is next
abbrev pub after_net_fault : LinksAccount → LinksAccount
after_net_fault a = record a { net_faults = next_count a.net_faults }

-- it was said that all is over
abbrev pub after_over : LinksAccount → LinksAccount
after_over a = record a { over = true }

-- the number of the next connection, where there is room for one and it may be opened
abbrev pub NumbersNext : Bool → LinksAccount → Option ℕ → Type 0
NumbersNext room a (Some c) = (c ≡ a.opened) × ((room && may_open a) ≡ true)
NumbersNext room a None = (room && may_open a) ≡ false
