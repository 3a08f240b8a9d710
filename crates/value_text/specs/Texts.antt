-- Which values have a text, and where one stands.
use Rattle.std.specs.Prelude.{◌≡◌, ◌≤◌, ℕ, ◌+◌, List, ◌++◌, length, drop}
use Rattle.thrift_value.specs.Tree.{Tree}
use Rattle.thrift_value.specs.Tidy.{IsTidy}
use Rattle.thrift_value.specs.Measures.{depth_of}
use Rattle.thrift_value.specs.Ranges.{IsInRange}
use Rattle.value_text.specs.ValueText.{tree_text}
use Rattle.value_text.specs.Reading.{text_levels}

-- a tidy value of at most 64 levels
pub record HasText (x : Tree) : Type 0 where
  pub tidy : IsTidy x
  pub depth : depth_of x ≤ text_levels
  pub in_range : IsInRange x

-- this is the text of the value
pub record IsTextOf (text : List ℕ) (x : Tree) : Type 0 where
  pub has_text : HasText x
  pub whole : text ≡ tree_text x

-- the text of the value stands at a place, up to the place behind it
pub record IsTextAt (text : List ℕ) (at : ℕ) (x : Tree) (behind : ℕ) : Type 0 where
  pub has_text : HasText x
  pub stands : drop at text ≡ tree_text x ++ drop behind text
  pub end : behind ≡ at + length (tree_text x)
