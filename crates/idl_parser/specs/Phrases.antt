-- What a grammar is: phrases, the symbols that they stand for, and the trees that they make of them.
use Rattle.std.specs.Prelude.{◌≡◌, ◌⊎◌, ℕ, zero, suc, ℤ, true, List, [], ◌∷◌}
use Rattle.idl_token.specs.declared.Place.{Place}
use Rattle.idl_token.specs.declared.terminal.Terminal.{Terminal}
use Rattle.idl_token.specs.Terminals.{same}

-- a symbol of a text: what it is, its bytes, and the place of the first one
pub record Lexeme : Type 0 where
  pub what : Terminal
  pub bytes : List ℕ
  pub place : Place

-- a tree: what is kept of the symbols of a phrase, in order
pub data Node : Type 0 where
  none : Node
  word : Terminal → Place → Node
  flag : Terminal → Node
  text : Terminal → List ℕ → Place → Node
  number : ℤ → Place → Node
  given : Node → Node
  pair : Node → Node → Node
  placed : Place → Node → Node

-- a phrase of the grammar, with what is made of the trees of its parts
pub data Phrase : Type 0 where
  -- one symbol
  one : Terminal → (Lexeme → Node) → Phrase
  -- a symbol that would open a level too many: no phrase
  deep : Terminal → Phrase
  -- one phrase and then another
  chain : (Node → Node → Node) → Phrase → Phrase → Phrase
  -- one phrase or another
  either : Phrase → Phrase → Phrase
  -- a phrase or nothing
  maybe : (Node → Node) → Phrase → Phrase
  -- a phrase any number of times
  many : (Node → Node → Node) → Phrase → Phrase
  -- a phrase, with the place of its first symbol
  marked : Phrase → Phrase

-- the place of the first symbol
abbrev pub place_at : List Lexeme → Place
place_at [] = record { line = 0; column = 0 }
place_at (t ∷ ts) = t.place

-- so many phrases in a row, from the front of some symbols to the rest
abbrev pub Times : (Node → Node → Node) → (List Lexeme → Node → List Lexeme → Type 0) → ℕ → List Lexeme → Node → List Lexeme → Type 0
Times join P zero ts x rest = (ts ≡ rest) × (x ≡ none)
Times join P (suc count) ts x rest =
    (mid : List Lexeme) × (a : Node) × (b : Node) × P ts a mid × Times join P count mid b rest × (x ≡ join a b)

-- a phrase stands at the front of some symbols, with its tree, and leaves the rest
abbrev pub Derives : Phrase → List Lexeme → Node → List Lexeme → Type 0
Derives (one k f) ts x rest = (t : Lexeme) × (same t.what k ≡ true) × (ts ≡ t ∷ rest) × (x ≡ f t)
Derives (deep k) ts x rest = ⊥
Derives (chain join p q) ts x rest =
    (mid : List Lexeme) × (a : Node) × (b : Node) × Derives p ts a mid × Derives q mid b rest × (x ≡ join a b)
Derives (either p q) ts x rest = Derives p ts x rest ⊎ Derives q ts x rest
Derives (maybe f p) ts x rest = ((ts ≡ rest) × (x ≡ none)) ⊎ ((a : Node) × Derives p ts a rest × (x ≡ f a))
Derives (many join p) ts x rest = (count : ℕ) × Times join (Derives p) count ts x rest
Derives (marked p) ts x rest = (a : Node) × Derives p ts a rest × (x ≡ placed (place_at ts) a)
