-- With one more level what was read is read, and where a level was missing the reading goes on.
use Rattle.std.proofs.Common.{◌≡◌, Bool, true, false, ◌||◌, ◌&&◌, ℕ, zero, suc, ◌<◌, List, [], ◌∷◌, ◌++◌, length, refl, sym, ap, subst, arith}
use Rattle.idl_token.specs.declared.terminal.Terminal.{Terminal}
use Rattle.idl_token.specs.Terminals.{same}
use Rattle.idl_parser.specs.Phrases.{Lexeme, Node, none, placed, place_at, Phrase, one, deep, chain, either, maybe, many, marked}
use Rattle.idl_parser.specs.Shapes.{starts_in, first, may_be_empty}
use Rattle.idl_parser.specs.Reading.{ParseResult, done, failed, rest_of, map_tree, parse_then, choose, read_one, repeat, read}
use Rattle.idl_parser.proofs.Outcomes.{made_rest}
use Rattle.idl_parser.proofs.Local.{Behind, all_left, behind_less, then_behind, repeat_behind, remains}

-- the same phrase, but for symbols that open a level
pub data Deeper : Phrase → Phrase → Type 0 where
  at_one : (k : Terminal) (f : Lexeme → Node) → Deeper (one k f) (one k f)
  opened : (k : Terminal) (join : Node → Node → Node) (f : Lexeme → Node) (q : Phrase) → Deeper (deep k) (chain join (one k f) q)
  at_chain : (join : Node → Node → Node) (p p' q q' : Phrase) → Deeper p p' → Deeper q q' → Deeper (chain join p q) (chain join p' q')
  at_either : (p p' q q' : Phrase) → Deeper p p' → Deeper q q' → Deeper (either p q) (either p' q')
  at_maybe : (f : Node → Node) (p p' : Phrase) → Deeper p p' → Deeper (maybe f p) (maybe f p')
  at_many : (join : Node → Node → Node) (p p' : Phrase) → Deeper p p' → Deeper (many join p) (many join p')
  at_marked : (p p' : Phrase) → Deeper p p' → Deeper (marked p) (marked p')

never_empty : (b : Bool) → elim b [ true ↦ false | false ↦ false ] ≡ false
never_empty true = refl
never_empty false = refl

deeper_empty : (p p' : Phrase) → Deeper p p' → may_be_empty p ≡ may_be_empty p'
deeper_empty p p' (at_one k f) = refl
deeper_empty p p' (opened k join f q) = sym (never_empty (may_be_empty q))
deeper_empty p p' (at_chain join a a' b b' l r) =
    λ i. elim (deeper_empty b b' r i) [ true ↦ deeper_empty a a' l i | false ↦ false ]
deeper_empty p p' (at_either a a' b b' l r) = refl
deeper_empty p p' (at_maybe f a a' l) = refl
deeper_empty p p' (at_many join a a' l) = refl
deeper_empty p p' (at_marked a a' l) = refl

deeper_first : (p p' : Phrase) → Deeper p p' → first p ≡ first p'
deeper_first p p' (at_one k f) = refl
deeper_first p p' (opened k join f q) = refl
deeper_first p p' (at_chain join a a' b b' l r) =
    λ i. elim (deeper_empty a a' l i) [ true ↦ deeper_first a a' l i ++ deeper_first b b' r i | false ↦ deeper_first a a' l i ]
deeper_first p p' (at_either a a' b b' l r) = λ i. deeper_first a a' l i ++ deeper_first b b' r i
deeper_first p p' (at_maybe f a a' l) = deeper_first a a' l
deeper_first p p' (at_many join a a' l) = deeper_first a a' l
deeper_first p p' (at_marked a a' l) = deeper_first a a' l

-- the same outcome, but one that failed at a level too many goes on
abbrev pub GoesOn : ParseResult → ParseResult → Type 0
GoesOn (done x rest) o = o ≡ done x rest
GoesOn (failed true rest) o = length (rest_of o) < length rest
GoesOn (failed false rest) o = o ≡ failed false rest

made_on : (f : Node → Node) (o o' : ParseResult) → GoesOn o o' → GoesOn (map_tree f o) (map_tree f o')
made_on f (done x rest) o' h = ap (map_tree f) h
made_on f (failed true rest) o' h = subst (λ r. length r < length rest) (sym (made_rest f o')) h
made_on f (failed false rest) o' h = ap (map_tree f) h

then_on : (join : Node → Node → Node) (o o' : ParseResult) (go go' : List Lexeme → ParseResult) → GoesOn o o'
    → ((mid : List Lexeme) → GoesOn (go mid) (go' mid)) → ((mid : List Lexeme) → Behind mid (rest_of (go' mid)))
    → GoesOn (parse_then join o go) (parse_then join o' go')
then_on join (done a mid) o' go go' h next rests =
    subst (λ o. GoesOn (map_tree (join a) (go mid)) (parse_then join o go')) (sym h) (made_on (join a) (go mid) (go' mid) (next mid))
then_on join (failed true rest) o' go go' h next rests =
    let less = behind_less (rest_of o') (rest_of (parse_then join o' go')) (then_behind (rest_of o') join o' go' (all_left (rest_of o')) rests) in
    omega arith
then_on join (failed false rest) o' go go' h next rests = ap (λ o. parse_then join o go') h

choose_on : (b c : Bool) (x x' y y' : ParseResult) → b ≡ c → GoesOn x x' → GoesOn y y' → GoesOn (choose b x y) (choose c x' y')
choose_on true true x x' y y' e l r = l
choose_on true false x x' y y' e l r = cc
choose_on false true x x' y y' e l r = cc
choose_on false false x x' y y' e l r = r

repeat_on : (n : ℕ) (join : Node → Node → Node) (s s' : List Lexeme → Bool) (go go' : List Lexeme → ParseResult)
    → ((ts : List Lexeme) → s ts ≡ s' ts)
    → ((ts : List Lexeme) → GoesOn (go ts) (go' ts)) → ((mid : List Lexeme) → Behind mid (rest_of (go' mid)))
    → (ts : List Lexeme) → GoesOn (repeat n join s go ts) (repeat n join s' go' ts)
repeat_on zero join s s' go go' e each rests ts = refl
repeat_on (suc n) join s s' go go' e each rests ts =
    choose_on (s ts) (s' ts) _ _ (done none ts) (done none ts) (e ts)
    (then_on join (go ts) (go' ts) (repeat n join s go) (repeat n join s' go') (each ts)
    (repeat_on n join s s' go go' e each rests) (repeat_behind n join s' go' rests))
    refl

one_on : (k : Terminal) (f : Lexeme → Node) (ts : List Lexeme) → GoesOn (read_one k f ts) (read_one k f ts)
one_on k f [] = refl
one_on k f (t ∷ ts) = choose_on (same t.what k) (same t.what k) (done (f t) ts) (done (f t) ts) (failed false (t ∷ ts)) (failed false (t ∷ ts)) refl refl refl

opened_on : (k : Terminal) (join : Node → Node → Node) (f : Lexeme → Node) (n : ℕ) (q : Phrase) (ts : List Lexeme)
    → GoesOn (failed (starts_in (k ∷ []) ts) ts) (parse_then join (read_one k f ts) (read n q))
opened_on k join f n q [] = refl
opened_on k join f n q (t ∷ ts) = go (same t.what k)
  where
    go : (b : Bool) → GoesOn (failed (b || false) (t ∷ ts)) (parse_then join (choose b (done (f t) ts) (failed false (t ∷ ts))) (read n q))
    go true =
        let less = behind_less ts (rest_of (read n q ts)) (remains n q ts) in
        subst (λ r. length r < length (t ∷ ts)) (sym (made_rest (join (f t)) (read n q ts))) (omega arith)
    go false = refl

pub goes_on : (n : ℕ) (p p' : Phrase) → Deeper p p' → (ts : List Lexeme) → GoesOn (read n p ts) (read n p' ts)
goes_on n p p' (at_one k f) ts = one_on k f ts
goes_on n p p' (opened k join f q) ts = opened_on k join f n q ts
goes_on n p p' (at_chain join a a' b b' l r) ts =
    then_on join (read n a ts) (read n a' ts) (read n b) (read n b') (goes_on n a a' l ts) (goes_on n b b' r) (remains n b')
goes_on n p p' (at_either a a' b b' l r) ts =
    choose_on (starts_in (first a) ts) (starts_in (first a') ts) _ _ _ _ (ap (λ set. starts_in set ts) (deeper_first a a' l))
    (goes_on n a a' l ts) (goes_on n b b' r ts)
goes_on n p p' (at_maybe f a a' l) ts =
    choose_on (starts_in (first a) ts) (starts_in (first a') ts) _ _ (done none ts) (done none ts) (ap (λ set. starts_in set ts) (deeper_first a a' l))
    (made_on f (read n a ts) (read n a' ts) (goes_on n a a' l ts)) refl
goes_on n p p' (at_many join a a' l) ts =
    repeat_on n join (starts_in (first a)) (starts_in (first a')) (read n a) (read n a')
    (λ ts. ap (λ set. starts_in set ts) (deeper_first a a' l)) (goes_on n a a' l) (remains n a') ts
goes_on n p p' (at_marked a a' l) ts = made_on (placed (place_at ts)) (read n a ts) (read n a' ts) (goes_on n a a' l ts)

-- a phrase with no symbol that would open a level too many
abbrev pub is_plain : Phrase → Bool
is_plain (one k f) = true
is_plain (deep k) = false
is_plain (chain join p q) = is_plain p && is_plain q
is_plain (either p q) = is_plain p && is_plain q
is_plain (maybe f p) = is_plain p
is_plain (many join p) = is_plain p
is_plain (marked p) = is_plain p

and_left : (a b : Bool) → (a && b) ≡ true → a ≡ true
and_left true b e = refl
and_left false b e = e

and_right : (a b : Bool) → (a && b) ≡ true → b ≡ true
and_right true b e = e
and_right false b e = cc

pub plain : (p : Phrase) → is_plain p ≡ true → Deeper p p
plain (one k f) e = at_one k f
plain (deep k) e = cc
plain (chain join p q) e = at_chain join p p q q (plain p (and_left (is_plain p) (is_plain q) e)) (plain q (and_right (is_plain p) (is_plain q) e))
plain (either p q) e = at_either p p q q (plain p (and_left (is_plain p) (is_plain q) e)) (plain q (and_right (is_plain p) (is_plain q) e))
plain (maybe f p) e = at_maybe f p p (plain p e)
plain (many join p) e = at_many join p p (plain p e)
plain (marked p) e = at_marked p p (plain p e)
