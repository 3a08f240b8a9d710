-- Lines of text.
use Rattle.std.specs.Prelude.{ℕ, List, [], ◌∷◌, ◌++◌}
use Rattle.text_out.specs.Bytes.{line_feed}

-- the text and a newline
abbrev pub line_of : List ℕ → List ℕ
line_of text = text ++ line_feed ∷ []
