-- What it leaves that a connection is closed.
use Rattle.std.specs.Prelude.{◌≡◌, ℕ, false, [], ◌∷◌}
use Rattle.streams.specs.declared.marks.Mark.TheVariants.{Closed}
use Rattle.streams.specs.Told.{told_with}
use Rattle.outside.specs.LinksState.{LinksState, ChangesOnly}

-- Connection c was closed: it isn't open any more, and all else of it stays.
pub record Closes (c : ℕ) (old new : LinksState) : Type 0 where
  pub others : ChangesOnly c old new
  pub closed : new.is_open c ≡ false
  pub tape : new.tape ≡ told_with old.tape (Closed c ∷ [])
  pub lengths : new.lengths ≡ old.lengths
  pub left : new.left c ≡ old.left c
  pub arrived : new.arrived c ≡ old.arrived c
  pub faults : new.faults c ≡ old.faults c
