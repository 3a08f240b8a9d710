-- Names and literals as they stand in a document.
use Rattle.std.specs.Prelude.{ℕ, List}
use Rattle.idl_token.specs.declared.Place.{Place}

-- a name, or what a literal stands for, with the place of its first byte
pub record Written : Type 0 where
  pub text : List ℕ
  pub at : Place
