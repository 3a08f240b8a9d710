-- Links at which nothing has happened yet.
use Rattle.std.specs.Prelude.{◌≡◌, ℕ, false, [], IfSome}
use Rattle.outside.specs.LinksState.{LinksState}

-- No connection was opened, nothing marked, and it wasn't said that all is over.
pub record AreFreshLinks (links : LinksState) : Type 0 where
  pub opened : links.opened ≡ 0
  pub none_open : (c : ℕ) → links.is_open c ≡ false
  pub over : links.over ≡ false
  pub tape : IfSome links.tape (λ marks. marks ≡ [])
  pub rests : IfSome links.rests (λ places. places ≡ [])
  pub lengths : IfSome links.lengths (λ counts. counts ≡ [])
