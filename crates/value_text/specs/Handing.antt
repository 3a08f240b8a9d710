-- How a text goes to a sink, part by part.
use Rattle.std.specs.Prelude.{◌≡◌, ℕ, ◌≤◌, List, [], ◌++◌, Option, Result, MatchResult}
use Rattle.streams.specs.Cause.{Rose}
use Rattle.streams.specs.Content.{told_more}
use Rattle.streams.specs.Taken.{IsTakenBut}

-- of this text a sink took all but what is left, and its count of faults, which was `faults`, is as it was
pub record HandsOver (before now : Option (List ℕ)) (faults count : ℕ) (text left : List ℕ) : Type 0 where
  pub front : List ℕ
  pub taken : now ≡ told_more before front
  pub whole : text ≡ front ++ left
  pub kept : count ≡ faults

-- the sink took a beginning of this text, and its count of faults rose
pub record BreaksOff (before now : Option (List ℕ)) (faults count : ℕ) (text : List ℕ) : Type 0 where
  pub lost : List ℕ
  pub part : IsTakenBut before now text lost
  pub later : faults ≤ count
  pub rose : Rose faults count

-- a call hands this text to a sink; where it fails, the sink took a beginning of it, and its count of faults rose
abbrev pub HandsText : {A E : Type 0} → (before now : Option (List ℕ)) (faults count : ℕ) (text : List ℕ) → Result A E → Type 0
HandsText before now faults count text result =
    MatchResult result (λ _. HandsOver before now faults count text []) (λ _. BreaksOff before now faults count text)
