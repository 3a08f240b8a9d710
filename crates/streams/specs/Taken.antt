-- What a sink took of a text that is handed to it in pieces.
use Rattle.std.specs.Prelude.{◌≡◌, ℕ, List, ◌++◌, Option, Result, MatchResult}
use Rattle.streams.specs.Content.{told_more}

-- of this text a sink that had taken `before` took all but what is left
pub record IsTakenBut (before now : Option (List ℕ)) (text left : List ℕ) : Type 0 where
  pub front : List ℕ
  pub taken : now ≡ told_more before front
  pub whole : text ≡ front ++ left

-- the sink took a beginning of this text
pub record IsTakenInPart (before now : Option (List ℕ)) (text : List ℕ) : Type 0 where
  pub lost : List ℕ
  pub taken : IsTakenBut before now text lost

-- a call hands this text to a sink and keeps what is left of it; where it fails, the sink took a beginning
abbrev pub TakesText : {A E : Type 0} → (before now : Option (List ℕ)) (text left : List ℕ) → Result A E → Type 0
TakesText before now text left result = MatchResult result (λ _. IsTakenBut before now text left) (λ _. IsTakenInPart before now text)
