-- Reading a phrase from the front, with one symbol of look-ahead.
use Rattle.std.specs.Prelude.{ℕ, zero, suc, Bool, true, false, List, [], ◌∷◌}
use Rattle.idl_token.specs.declared.terminal.Terminal.{Terminal}
use Rattle.idl_token.specs.Terminals.{same}
use Rattle.idl_parser.specs.Phrases.{Lexeme, Node, none, placed, place_at, Phrase, one, deep, chain, either, maybe, many, marked}
use Rattle.idl_parser.specs.Shapes.{starts_in, first}

-- a tree and what stands behind it; or what is left where the reading failed, and whether at a level too many
pub data ParseResult : Type 0 where
  done : Node → List Lexeme → ParseResult
  failed : Bool → List Lexeme → ParseResult

-- what is left
abbrev pub rest_of : ParseResult → List Lexeme
rest_of (done x rest) = rest
rest_of (failed d rest) = rest

-- the result with another tree
abbrev pub map_tree : (Node → Node) → ParseResult → ParseResult
map_tree f (done x rest) = done (f x) rest
map_tree f (failed d rest) = failed d rest

-- one reading and then another, with the trees joined
abbrev pub parse_then : (Node → Node → Node) → ParseResult → (List Lexeme → ParseResult) → ParseResult
parse_then join (done x rest) go = map_tree (join x) (go rest)
parse_then join (failed d rest) go = failed d rest

-- one result or the other
abbrev pub choose : Bool → ParseResult → ParseResult → ParseResult
choose true x y = x
choose false x y = y

-- one symbol
abbrev pub read_one : Terminal → (Lexeme → Node) → List Lexeme → ParseResult
read_one k f [] = failed false []
read_one k f (t ∷ ts) = choose (same t.what k) (done (f t) ts) (failed false (t ∷ ts))

-- readings in a row, as long as one begins and so many times at most
abbrev pub repeat : ℕ → (Node → Node → Node) → (List Lexeme → Bool) → (List Lexeme → ParseResult) → List Lexeme → ParseResult
repeat zero join begins go ts = done none ts
repeat (suc n) join begins go ts = choose (begins ts) (parse_then join (go ts) (repeat n join begins go)) (done none ts)

-- a row is read to its end, or so many times at most
abbrev pub read : ℕ → Phrase → List Lexeme → ParseResult
read n (one k f) ts = read_one k f ts
read n (deep k) ts = failed (starts_in (k ∷ []) ts) ts
read n (chain join p q) ts = parse_then join (read n p ts) (read n q)
read n (either p q) ts = choose (starts_in (first p) ts) (read n p ts) (read n q ts)
read n (maybe f p) ts = choose (starts_in (first p) ts) (map_tree f (read n p ts)) (done none ts)
read n (many join p) ts = repeat n join (starts_in (first p)) (read n p) ts
read n (marked p) ts = map_tree (placed (place_at ts)) (read n p ts)

-- a whole text: nothing stands behind the phrase
abbrev pub whole : ParseResult → ParseResult
whole (done x []) = done x []
whole (done x (t ∷ rest)) = failed false (t ∷ rest)
whole (failed d rest) = failed d rest
