-- What one symbol of look-ahead tells of a phrase.
use Rattle.std.specs.Prelude.{◌≡◌, Bool, true, false, not, ◌&&◌, ◌||◌, List, [], ◌∷◌, ◌++◌}
use Rattle.idl_token.specs.declared.terminal.Terminal.{Terminal}
use Rattle.idl_token.specs.Terminals.{same}
use Rattle.idl_parser.specs.Phrases.{Lexeme, Phrase, one, deep, chain, either, maybe, many, marked}

-- a symbol is one of these
abbrev pub contains_terminal : List Terminal → Terminal → Bool
contains_terminal [] k = false
contains_terminal (x ∷ xs) k = same k x || contains_terminal xs k

-- the first symbol is one of these
abbrev pub starts_in : List Terminal → List Lexeme → Bool
starts_in set [] = false
starts_in set (t ∷ ts) = contains_terminal set t.what

-- no symbol is in both
abbrev pub apart : List Terminal → List Terminal → Bool
apart [] ys = true
apart (x ∷ xs) ys = not (contains_terminal ys x) && apart xs ys

-- the phrase may be no symbol at all
abbrev pub may_be_empty : Phrase → Bool
may_be_empty (one k f) = false
may_be_empty (deep k) = false
may_be_empty (chain f p q) = elim (may_be_empty q) [ true ↦ may_be_empty p | false ↦ false ]
may_be_empty (either p q) = false
may_be_empty (maybe f p) = true
may_be_empty (many f p) = true
may_be_empty (marked p) = false

-- the symbols that it may begin with
abbrev pub first : Phrase → List Terminal
first (one k f) = k ∷ []
first (deep k) = k ∷ []
first (chain f p q) = elim (may_be_empty p) [ true ↦ first p ++ first q | false ↦ first p ]
first (either p q) = first p ++ first q
first (maybe f p) = first p
first (many f p) = first p
first (marked p) = first p

-- the symbols with which it may go on where it could end
abbrev pub more : Phrase → List Terminal
more (one k f) = []
more (deep k) = []
more (chain f p q) = elim (may_be_empty q) [ true ↦ more p ++ more q | false ↦ more q ]
more (either p q) = more p ++ more q
more (maybe f p) = first p ++ more p
more (many f p) = first p ++ more p
more (marked p) = more p

-- some symbols are such a phrase
abbrev pub can_be : Phrase → Bool
can_be (one k f) = true
can_be (deep k) = false
can_be (chain f p q) = can_be p && can_be q
can_be (either p q) = can_be p
can_be (maybe f p) = true
can_be (many f p) = true
can_be (marked p) = can_be p

-- one symbol decides at each choice, and what is begun can be ended
abbrev pub IsClear : Phrase → Type 0
IsClear (one k f) = Unit {0}
IsClear (deep k) = Unit {0}
IsClear (chain f p q) = IsClear p × IsClear q × (apart (more p) (first q) ≡ true) × (can_be q ≡ true)
IsClear (either p q) =
    IsClear p × IsClear q × (apart (first p) (first q) ≡ true) × (may_be_empty p ≡ false) × (may_be_empty q ≡ false)
IsClear (maybe f p) = IsClear p × (may_be_empty p ≡ false)
IsClear (many f p) = IsClear p × (may_be_empty p ≡ false) × (apart (more p) (first p) ≡ true)
IsClear (marked p) = IsClear p × (may_be_empty p ≡ false)
