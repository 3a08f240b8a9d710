-- The first fault of some symbols, over the grammar alone.
use Rattle.std.specs.Prelude.{◌≡◌, ◌↔◌, ℕ, suc, Bool, true, List, [], ◌∷◌, ◌++◌}
use Rattle.idl_parser.specs.Phrases.{Lexeme, Node}
use Rattle.idl_parser.specs.Documents.{DocumentIn}

-- some document begins with these symbols
abbrev pub BeginsDocument : ℕ → List Lexeme → Type 0
BeginsDocument levels front = (more : List Lexeme) × (d : Node) × DocumentIn levels (front ++ more) d

-- behind these symbols no document goes on with the next one; or where there is none, they are no document
abbrev pub IsStuck : ℕ → List Lexeme → List Lexeme → Type 0
IsStuck levels front [] = (d : Node) → DocumentIn levels front d → ⊥
IsStuck levels front (t ∷ rest) = BeginsDocument levels (front ++ t ∷ []) → ⊥

-- the same with one level more: a document goes on with the next symbol
abbrev pub IsDeep : ℕ → List Lexeme → List Lexeme → Type 0
IsDeep levels front [] = ⊥
IsDeep levels front (t ∷ rest) = BeginsDocument (suc levels) (front ++ t ∷ [])

-- the first symbol with which no document goes on has the rest behind it, or the rest is empty
pub record IsFirstSyntaxFault (levels : ℕ) (ts rest : List Lexeme) (too_deep : Bool) : Type 0 where
  pub front : List Lexeme
  pub is : ts ≡ front ++ rest
  pub before : BeginsDocument levels front
  pub here : IsStuck levels front rest
  pub deep : (too_deep ≡ true) ↔ IsDeep levels front rest

-- the symbols are some document
abbrev pub AreDocument : ℕ → List Lexeme → Type 0
AreDocument levels ts = (d : Node) × DocumentIn levels ts d

-- the symbols have a first fault
abbrev pub HasFirstSyntaxFault : ℕ → List Lexeme → Type 0
HasFirstSyntaxFault levels ts = (rest : List Lexeme) × (too_deep : Bool) × IsFirstSyntaxFault levels ts rest too_deep
