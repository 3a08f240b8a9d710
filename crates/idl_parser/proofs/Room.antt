-- With room for each symbol, more room changes no reading.
use Rattle.std.proofs.Common.{◌≡◌, Bool, false, ℕ, zero, suc, ◌≤◌, List, [], ◌∷◌, length, refl, ap, ◌∙◌, arith}
use Rattle.idl_parser.specs.Phrases.{Lexeme, Node, none, placed, place_at, Phrase, one, deep, chain, either, maybe, many, marked}
use Rattle.idl_parser.specs.Shapes.{starts_in, first, may_be_empty, IsClear}
use Rattle.idl_parser.specs.Reading.{ParseResult, done, failed, map_tree, parse_then, choose, repeat, read}
use Rattle.idl_parser.proofs.Sound.{sound, shrinks}
use Rattle.idl_parser.proofs.Sets.{proper}

then_same : (join : Node → Node → Node) (o o' : ParseResult) (go go' : List Lexeme → ParseResult) → o ≡ o'
    → ((a : Node) (mid : List Lexeme) → o ≡ done a mid → go mid ≡ go' mid) → parse_then join o go ≡ parse_then join o' go'
then_same join (done a mid) o' go go' e next = ap (map_tree (join a)) (next a mid refl) ∙ ap (λ o. parse_then join o go') e
then_same join (failed d rest) o' go go' e next = ap (λ o. parse_then join o go') e

choose_same : (b : Bool) (x x' y y' : ParseResult) → x ≡ x' → y ≡ y' → choose b x y ≡ choose b x' y'
choose_same b x x' y y' e f = λ i. choose b (e i) (f i)

row_same : (n m : ℕ) (join : Node → Node → Node) (p : Phrase) → IsClear p → may_be_empty p ≡ false
    → ((ts : List Lexeme) → length ts ≤ n → length ts ≤ m → read n p ts ≡ read m p ts)
    → (a b : ℕ) (ts : List Lexeme) → length ts ≤ a → length ts ≤ b → length ts ≤ n → length ts ≤ m
    → repeat a join (starts_in (first p)) (read n p) ts ≡ repeat b join (starts_in (first p)) (read m p) ts
row_same n m join p clear some each zero zero ts ha hb hn hm = refl
row_same n m join p clear some each zero (suc b) [] ha hb hn hm = refl
row_same n m join p clear some each zero (suc b) (t ∷ ts) ha hb hn hm = absurd (let no_room : ⊥ = omega arith in no_room)
row_same n m join p clear some each (suc a) zero [] ha hb hn hm = refl
row_same n m join p clear some each (suc a) zero (t ∷ ts) ha hb hn hm = absurd (let no_room : ⊥ = omega arith in no_room)
row_same n m join p clear some each (suc a) (suc b) ts ha hb hn hm =
    choose_same (starts_in (first p) ts) _ _ (done none ts) (done none ts)
    (then_same join (read n p ts) (read m p ts) (repeat a join (starts_in (first p)) (read n p)) (repeat b join (starts_in (first p)) (read m p))
    (each ts hn hm)
    (λ x mid e.
    let less = proper p ts x mid clear some (sound n p ts x mid e) in
    row_same n m join p clear some each a b mid (omega arith) (omega arith) (omega arith) (omega arith)))
    refl

pub room : (n m : ℕ) (p : Phrase) → IsClear p → (ts : List Lexeme) → length ts ≤ n → length ts ≤ m → read n p ts ≡ read m p ts
room n m (one k f) clear ts hn hm = refl
room n m (deep k) clear ts hn hm = refl
room n m (chain join p q) clear ts hn hm =
    then_same join (read n p ts) (read m p ts) (read n q) (read m q) (room n m p clear.0 ts hn hm)
    (λ x mid e.
    let less = shrinks p ts x mid (sound n p ts x mid e) in
    room n m q clear.1 mid (omega arith) (omega arith))
room n m (either p q) clear ts hn hm =
    choose_same (starts_in (first p) ts) (read n p ts) (read m p ts) (read n q ts) (read m q ts) (room n m p clear.0 ts hn hm) (room n m q clear.1 ts hn hm)
room n m (maybe f p) clear ts hn hm =
    choose_same (starts_in (first p) ts) (map_tree f (read n p ts)) (map_tree f (read m p ts)) (done none ts) (done none ts)
    (ap (map_tree f) (room n m p clear.0 ts hn hm)) refl
room n m (many join p) clear ts hn hm = row_same n m join p clear.0 clear.1 (room n m p clear.0) n m ts hn hm hn hm
room n m (marked p) clear ts hn hm = ap (map_tree (placed (place_at ts))) (room n m p clear.0 ts hn hm)
