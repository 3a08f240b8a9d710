-- A loop over a row: what was read so far, and what is left of it.
use Rattle.std.proofs.Common.{◌≡◌, Bool, true, false, ℕ, zero, suc, ◌+◌, ◌-◌, ◌≤◌, ◌<◌, List, [], ◌∷◌, ◌++◌, map, Option, Some, None, Result, Ok, Err, refl, sym, ap, ◌∙◌, subst, inl, inr, arith}
use Rattle.idl_token.specs.Limits.{longest_idl_text}
use Rattle.idl_token.specs.declared.terminal.Terminal.{Terminal}
use Rattle.idl_parser.specs.declared.reader.Stop.{Stop}
use Rattle.idl_parser.specs.declared.reader.Stop.TheVariants.{NoMemory, Stuck, Deep}
use Rattle.idl_parser.specs.Phrases.{Lexeme, Node, none, pair, Phrase, many}
use Rattle.idl_parser.specs.Shapes.{starts_in, first}
use Rattle.idl_parser.specs.Leaves.{neither}
use Rattle.idl_parser.specs.Reading.{ParseResult, done, failed, map_tree, parse_then, repeat, read}
use Rattle.idl_parser.specs.ReaderCalls.{StopsAt, most}
use Rattle.std.specs.Prelude.{MatchResult, ◌⊎◌}
use Rattle.std.specs.Result.{IsErrAnd, IsOkAnd}
use Rattle.std.proofs.lemmas.List.{map-append}
use Rattle.idl_parser.specs.declared.tree.ConstTree.{ConstTree}
use Rattle.idl_parser.specs.declared.tree.Include.{Include}
use Rattle.idl_parser.specs.Documents.{with_header}
use Rattle.idl_parser.specs.Trees.{ahead, pair_row, entry_node, both_nodes, header_node, include_node, some_of}
use Rattle.idl_parser.proofs.Outcomes.{chosen, passed}

-- the row of a text is what was read of it so far, in front of the row of what is left
pub record SoFar (limit i : ℕ) (join : Node → Node → Node) (p : Phrase) (set : List Terminal) (start left : List Lexeme) (xs : List Node) : Type 0 where
  pub within : i ≤ limit
  pub is : repeat limit join (starts_in set) (read limit p) start ≡ map_tree (ahead join xs) (repeat (limit - i) join (starts_in set) (read limit p) left)

ahead_more : (join : Node → Node → Node) (xs : List Node) (x y : Node) → ahead join xs (join x y) ≡ ahead join (xs ++ x ∷ []) y
ahead_more join [] x y = refl
ahead_more join (z ∷ xs) x y = ap (join z) (ahead_more join xs x y)

made_more : (join : Node → Node → Node) (xs : List Node) (x : Node) (o : ParseResult) → map_tree (ahead join xs) (map_tree (join x) o) ≡ map_tree (ahead join (xs ++ x ∷ [])) o
made_more join xs x (done y rest) = ap (λ z. done z rest) (ahead_more join xs x y)
made_more join xs x (failed d rest) = refl

-- one round of the row
round_is : (limit i : ℕ) (join : Node → Node → Node) (p : Phrase) (set : List Terminal) (left : List Lexeme) → i < limit → starts_in set left ≡ true
    → repeat (limit - i) join (starts_in set) (read limit p) left ≡ parse_then join (read limit p left) (repeat (limit - (i + 1)) join (starts_in set) (read limit p))
round_is limit i join p set left less here =
    let e : limit - i ≡ suc (limit - (i + 1)) = omega arith in
    ap (λ k. repeat k join (starts_in set) (read limit p) left) e
    ∙ chosen (starts_in set left) (parse_then join (read limit p left) (repeat (limit - (i + 1)) join (starts_in set) (read limit p))) (done none left) here

pub onward : {limit i : ℕ} {join : Node → Node → Node} {p : Phrase} {set : List Terminal} {start left : List Lexeme} {xs : List Node}
    → SoFar limit i join p set start left xs → i < limit → starts_in set left ≡ true → (x : Node) (mid : List Lexeme) → read limit p left ≡ done x mid
    → SoFar limit (i + 1) join p set start mid (xs ++ x ∷ [])
onward {limit} {i} {join} {p} {set} {start} {left} {xs} s less here x mid e = record {
  within = omega arith;
  is =
      s.is ∙ ap (map_tree (ahead join xs)) (round_is limit i join p set left less here
      ∙ ap (λ o. parse_then join o (repeat (limit - (i + 1)) join (starts_in set) (read limit p))) e)
      ∙ made_more join xs x (repeat (limit - (i + 1)) join (starts_in set) (read limit p) mid);
}

last_is : (k : ℕ) (limit : ℕ) (join : Node → Node → Node) (p : Phrase) (set : List Terminal) (left : List Lexeme) → starts_in set left ≡ false
    → repeat k join (starts_in set) (read limit p) left ≡ done none left
last_is zero limit join p set left none_here = refl
last_is (suc k) limit join p set left none_here = passed (starts_in set left) _ (done none left) none_here

pub row_of : (limit : ℕ) (join : Node → Node → Node) (p : Phrase) (set : List Terminal) (start : List Lexeme) (o : ParseResult) → first p ≡ set
    → repeat limit join (starts_in set) (read limit p) start ≡ o → read limit (many join p) start ≡ o
row_of limit join p set start o is e = ap (λ set. repeat limit join (starts_in set) (read limit p) start) is ∙ e

pub finished : {limit i : ℕ} {join : Node → Node → Node} {p : Phrase} {set : List Terminal} {start left : List Lexeme} {xs : List Node}
    → first p ≡ set → SoFar limit i join p set start left xs → starts_in set left ≡ false → read limit (many join p) start ≡ done (ahead join xs none) left
finished {limit} {i} {join} {p} {set} {start} {left} {xs} is s none_here =
    row_of limit join p set start (done (ahead join xs none) left) is (s.is ∙ ap (map_tree (ahead join xs)) (last_is (limit - i) limit join p set left none_here))

pub ended : {limit i : ℕ} {join : Node → Node → Node} {p : Phrase} {set : List Terminal} {start left : List Lexeme} {xs : List Node}
    → first p ≡ set → SoFar limit i join p set start left xs → limit ≤ i → read limit (many join p) start ≡ done (ahead join xs none) left
ended {limit} {i} {join} {p} {set} {start} {left} {xs} is s all =
    let e : limit - i ≡ 0 = omega arith in
    row_of limit join p set start (done (ahead join xs none) left) is (s.is ∙ ap (λ k. map_tree (ahead join xs) (repeat k join (starts_in set) (read limit p) left)) e)

stuck_row : (limit i : ℕ) (join : Node → Node → Node) (p : Phrase) (set : List Terminal) (start left : List Lexeme) (xs : List Node) (d : Bool) (rest : List Lexeme)
    → first p ≡ set → SoFar limit i join p set start left xs → i < limit → starts_in set left ≡ true → read limit p left ≡ failed d rest
    → read limit (many join p) start ≡ failed d rest
stuck_row limit i join p set start left xs d rest is s less here e =
    row_of limit join p set start (failed d rest) is
    (s.is ∙ ap (map_tree (ahead join xs)) (round_is limit i join p set left less here
    ∙ ap (λ o. parse_then join o (repeat (limit - (i + 1)) join (starts_in set) (read limit p))) e))

pub stops_row : {limit i : ℕ} {join : Node → Node → Node} {p : Phrase} {set : List Terminal} {start left : List Lexeme} {xs : List Node} (e : Stop) (rest : List Lexeme)
    → first p ≡ set → SoFar limit i join p set start left xs → i < limit → starts_in set left ≡ true → StopsAt e (read limit p left) rest
    → StopsAt e (read limit (many join p) start) rest
stops_row NoMemory rest is s less here h = tt
stops_row {limit} {i} {join} {p} {set} {start} {left} {xs} Stuck rest is s less here h = stuck_row limit i join p set start left xs false rest is s less here h
stops_row {limit} {i} {join} {p} {set} {start} {left} {xs} Deep rest is s less here h = stuck_row limit i join p set start left xs true rest is s less here h

-- what a `?` hands on where an item wasn't read
pub handed_on : {A : Type 0} (tree : A → Node) {limit i : ℕ} {join : Node → Node → Node} {p : Phrase} {set : List Terminal} {start left : List Lexeme} {xs : List Node} (stop : Stop) (rest : List Lexeme)
    (answer : Result A Stop) → IsErrAnd answer (λ e. e ≡ stop) → first p ≡ set → SoFar limit i join p set start left xs → i < limit → starts_in set left ≡ true → StopsAt stop (read limit p left) rest
    → MatchResult answer (λ x. read limit (many join p) start ≡ done (tree x) rest) (λ e. StopsAt e (read limit (many join p) start) rest)
handed_on tree stop rest (Ok x) given is s less here h = absurd given
handed_on tree {limit} {i} {join} {p} {set} {start} {left} {xs} stop rest (Err e) given is s less here h =
    subst (λ each. StopsAt each (read limit (many join p) start) rest) (sym given) (stops_row stop rest is s less here h)

-- of a row of which nothing is kept, nothing is kept
pub neither_ahead : (xs : List Node) → ahead neither xs none ≡ none
neither_ahead [] = refl
neither_ahead (x ∷ xs) = refl

-- the loops' bound
pub below : (i : ℕ) → i < longest_idl_text → i < most
unfolding most
below i h = h

pub all_read : (i : ℕ) → longest_idl_text ≤ i → most ≤ i
unfolding most
all_read i h = h

-- one item more
put_on : {A : Type 0} (tree : A → Node) {limit i : ℕ} {join : Node → Node → Node} {p : Phrase} {set : List Terminal} {start left : List Lexeme} (all more : List A) (x : A) (mid : List Lexeme)
    → SoFar limit i join p set start left (map tree all) → i < limit → starts_in set left ≡ true → read limit p left ≡ done (tree x) mid → more ≡ all ++ x ∷ []
    → SoFar limit (i + 1) join p set start mid (map tree more)
put_on tree {limit} {i} {join} {p} {set} {start} {left} all more x mid s less here e is =
    subst (λ xs. SoFar limit (i + 1) join p set start mid xs) (sym (ap (map tree) is ∙ map-append tree all (x ∷ [])))
    (onward s less here (tree x) mid e)

-- one item more, where it was read
pub put_on_read : {A : Type 0} (tree : A → Node) {limit i : ℕ} {join : Node → Node → Node} {p : Phrase} {set : List Terminal} {start left : List Lexeme} (all more : List A) (item : Result A Stop) (mid : List Lexeme)
    → SoFar limit i join p set start left (map tree all) → i < limit → starts_in set left ≡ true
    → MatchResult item (λ x. read limit p left ≡ done (tree x) mid) (λ e. StopsAt e (read limit p left) mid) → IsOkAnd item (λ x. more ≡ all ++ x ∷ [])
    → SoFar limit (i + 1) join p set start mid (map tree more)
put_on_read tree all more (Ok x) mid s less here e is = put_on tree all more x mid s less here e is
put_on_read tree all more (Err e) mid s less here stops is = absurd is

-- an item that wasn't read, or found no room
pub not_put : {A : Type 0} (tree : A → Node) (limit : ℕ) (p : Phrase) (left : List Lexeme) (stop : Stop) (item : Result A Stop) (mid : List Lexeme)
    → MatchResult item (λ x. read limit p left ≡ done (tree x) mid) (λ e. StopsAt e (read limit p left) mid) → (stop ≡ NoMemory) ⊎ (item ≡ Err stop)
    → StopsAt stop (read limit p left) mid
not_put tree limit p left stop item mid outcome (inl e) = subst (λ s. StopsAt s (read limit p left) mid) (sym e) tt
not_put tree limit p left stop item mid outcome (inr e) =
    subst (λ r. MatchResult r (λ x. read limit p left ≡ done (tree x) mid) (λ e. StopsAt e (read limit p left) mid)) e outcome

-- a row of pairs
pub row_of_entries : (ps : List (ConstTree × ConstTree)) → ahead pair (map entry_node ps) none ≡ pair_row (map both_nodes ps)
row_of_entries [] = refl
row_of_entries (p ∷ ps) = ap (pair (entry_node p)) (row_of_entries ps)

-- of a row of headers the includes are kept
abbrev pub Kept : List Node → List Include → Type 0
Kept xs all = (tail : Node) → ahead with_header xs tail ≡ ahead pair (map include_node all) tail

ahead_append : (join : Node → Node → Node) (xs ys : List Node) (tail : Node) → ahead join (xs ++ ys) tail ≡ ahead join xs (ahead join ys tail)
ahead_append join [] ys tail = refl
ahead_append join (x ∷ xs) ys tail = ap (join x) (ahead_append join xs ys tail)

one_header : (h : Option Include) (tail : Node) → with_header (header_node h) tail ≡ ahead pair (map include_node (some_of h)) tail
unfolding include_node
one_header None tail = refl
one_header (Some i) tail = refl

pub kept_on : (xs : List Node) (all more : List Include) (h : Option Include) → Kept xs all → more ≡ all ++ some_of h → Kept (xs ++ header_node h ∷ []) more
kept_on xs all more h kept is tail =
    ahead_append with_header xs (header_node h ∷ []) tail ∙ ap (ahead with_header xs) (one_header h tail)
    ∙ kept (ahead pair (map include_node (some_of h)) tail)
    ∙ sym (ap (λ ys. ahead pair (map include_node ys) tail) is ∙ ap (λ ys. ahead pair ys tail) (map-append include_node all (some_of h))
    ∙ ahead_append pair (map include_node all) (map include_node (some_of h)) tail)
