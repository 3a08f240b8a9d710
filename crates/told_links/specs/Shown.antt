-- What stands in place of a type that tells: the one that it is over, and what was told so far.
use Rattle.std.specs.Prelude.{ℕ, Bool, List}
use Rattle.streams.specs.declared.marks.Mark.{Mark}
use Rattle.outside.specs.Binding.{PastLinks}
use Rattle.outside.specs.Calling.{PastPipe}

-- links, and their tape
pub record ToldTape (L : Type 0) : Type 0 where
  pub inner : L
  pub tape : List Mark

-- a pipe, what was written to it and what was read of it, and whether a read has answered the end
pub record ToldTalk (P : Type 0) : Type 0 where
  pub inner : P
  pub written : List ℕ
  pub given : List ℕ
  pub ended : Bool

-- a sink, and what it took
pub record ToldText (K : Type 0) : Type 0 where
  pub inner : K
  pub taken : List ℕ

-- a binder, the links that came back, and the pipes that were hung up
pub record ToldReturns (B : Type 0) : Type 0 where
  pub inner : B
  pub past : List PastLinks
  pub called : List PastPipe
