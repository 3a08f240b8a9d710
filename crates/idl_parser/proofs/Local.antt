-- Where a reading fails, only the symbols up to there decide.
use Rattle.std.proofs.Common.{◌≡◌, Bool, true, false, ℕ, zero, suc, ◌+◌, ◌≤◌, List, [], ◌∷◌, ◌++◌, length, ◌⊎◌, refl, sym, ap, ◌∙◌, subst, inl, inr, arith}
use Rattle.std.proofs.lemmas.List.{append_assoc, length-append}
use Rattle.idl_token.specs.declared.terminal.Terminal.{Terminal}
use Rattle.idl_token.specs.Terminals.{same}
use Rattle.idl_parser.specs.Phrases.{Lexeme, Node, none, placed, place_at, Phrase, one, deep, chain, either, maybe, many, marked}
use Rattle.idl_parser.specs.Shapes.{starts_in, first}
use Rattle.idl_parser.specs.Reading.{ParseResult, done, failed, rest_of, map_tree, parse_then, choose, repeat, read}
use Rattle.idl_parser.proofs.Outcomes.{made_rest}

-- the rest stands behind a front
pub record Behind (ts rest : List Lexeme) : Type 0 where
  pub front : List Lexeme
  pub is : ts ≡ front ++ rest

pub all_left : (ts : List Lexeme) → Behind ts ts
all_left ts = record { front = []; is = refl }

further : (ts mid rest : List Lexeme) → Behind ts mid → Behind mid rest → Behind ts rest
further ts mid rest a b = record {
  front = a.front ++ b.front;
  is = a.is ∙ ap (λ m. a.front ++ m) b.is ∙ sym (append_assoc a.front b.front rest);
}

pub behind_less : (ts rest : List Lexeme) → Behind ts rest → length rest ≤ length ts
behind_less ts rest b = let e : length ts ≡ length b.front + length rest = ap length b.is ∙ length-append b.front rest in omega arith

pub made_behind : (ts : List Lexeme) (f : Node → Node) (o : ParseResult) → Behind ts (rest_of o) → Behind ts (rest_of (map_tree f o))
made_behind ts f (done a r) b = b
made_behind ts f (failed d r) b = b

pub then_behind : (ts : List Lexeme) (join : Node → Node → Node) (o : ParseResult) (go : List Lexeme → ParseResult)
    → Behind ts (rest_of o) → ((mid : List Lexeme) → Behind mid (rest_of (go mid))) → Behind ts (rest_of (parse_then join o go))
then_behind ts join (done a mid) go b next = made_behind ts (join a) (go mid) (further ts mid (rest_of (go mid)) b (next mid))
then_behind ts join (failed d r) go b next = b

choose_behind : (ts : List Lexeme) (b : Bool) (x y : ParseResult) → Behind ts (rest_of x) → Behind ts (rest_of y) → Behind ts (rest_of (choose b x y))
choose_behind ts true x y l r = l
choose_behind ts false x y l r = r

pub repeat_behind : (n : ℕ) (join : Node → Node → Node) (s : List Lexeme → Bool) (go : List Lexeme → ParseResult)
    → ((ts : List Lexeme) → Behind ts (rest_of (go ts))) → (ts : List Lexeme) → Behind ts (rest_of (repeat n join s go ts))
repeat_behind zero join s go each ts = all_left ts
repeat_behind (suc n) join s go each ts =
    choose_behind ts (s ts) (parse_then join (go ts) (repeat n join s go)) (done none ts)
    (then_behind ts join (go ts) (repeat n join s go) (each ts) (repeat_behind n join s go each)) (all_left ts)

pub remains : (n : ℕ) (p : Phrase) (ts : List Lexeme) → Behind ts (rest_of (read n p ts))
remains n (one k f) [] = all_left []
remains n (one k f) (t ∷ ts) =
    choose_behind (t ∷ ts) (same t.what k) (done (f t) ts) (failed false (t ∷ ts)) (record { front = t ∷ []; is = refl }) (all_left (t ∷ ts))
remains n (deep k) ts = all_left ts
remains n (chain join p q) ts = then_behind ts join (read n p ts) (read n q) (remains n p ts) (remains n q)
remains n (either p q) ts = choose_behind ts (starts_in (first p) ts) (read n p ts) (read n q ts) (remains n p ts) (remains n q ts)
remains n (maybe f p) ts =
    choose_behind ts (starts_in (first p) ts) (map_tree f (read n p ts)) (done none ts) (made_behind ts f (read n p ts) (remains n p ts)) (all_left ts)
remains n (many join p) ts = repeat_behind n join (starts_in (first p)) (read n p) (remains n p) ts
remains n (marked p) ts = made_behind ts (placed (place_at ts)) (read n p ts) (remains n p ts)

-- the same outcome with another rest
abbrev pub moved : ParseResult → List Lexeme → ParseResult
moved (done x r) rest = done x rest
moved (failed d r) rest = failed d rest

-- an outcome and one of another text that agrees up to a symbol t: they are alike, unless t was taken
pub record Alike (t : Lexeme) (r w : List Lexeme) (o o' : ParseResult) : Type 0 where
  pub back : List Lexeme
  pub left : rest_of o ≡ back ++ t ∷ r
  pub right : o' ≡ moved o (back ++ t ∷ w)

abbrev pub Follows : Lexeme → List Lexeme → List Lexeme → ParseResult → ParseResult → Type 0
Follows t r w o o' = (length (rest_of o) ≤ length r) ⊎ Alike t r w o o'

made_follows : (t : Lexeme) (r w : List Lexeme) (f : Node → Node) (o o' : ParseResult) → Follows t r w o o' → Follows t r w (map_tree f o) (map_tree f o')
made_follows t r w f (done a m) o' (inl h) = inl h
made_follows t r w f (failed d m) o' (inl h) = inl h
made_follows t r w f (done a m) o' (inr h) = inr (record { back = h.back; left = h.left; right = ap (map_tree f) h.right })
made_follows t r w f (failed d m) o' (inr h) = inr (record { back = h.back; left = h.left; right = ap (map_tree f) h.right })

then_follows : (t : Lexeme) (r w : List Lexeme) (join : Node → Node → Node) (o o' : ParseResult) (go : List Lexeme → ParseResult)
    → Follows t r w o o'
    → ((back : List Lexeme) → Follows t r w (go (back ++ t ∷ r)) (go (back ++ t ∷ w)))
    → ((mid : List Lexeme) → Behind mid (rest_of (go mid)))
    → Follows t r w (parse_then join o go) (parse_then join o' go)
then_follows t r w join (failed d m) o' go (inl h) next rests = inl h
then_follows t r w join (failed d m) o' go (inr h) next rests =
    inr (record { back = h.back; left = h.left; right = ap (λ o. parse_then join o go) h.right })
then_follows t r w join (done a m) o' go (inl h) next rests =
    let less = behind_less m (rest_of (go m)) (rests m) in
    inl (subst (λ k. length k ≤ length r) (sym (made_rest (join a) (go m))) (omega arith))
then_follows t r w join (done a m) o' go (inr h) next rests =
    let there = made_follows t r w (join a) (go (h.back ++ t ∷ r)) (go (h.back ++ t ∷ w)) (next h.back) in
    subst (λ o. Follows t r w (map_tree (join a) (go m)) (parse_then join o go)) (sym h.right)
    (subst (λ k. Follows t r w (map_tree (join a) (go k)) (map_tree (join a) (go (h.back ++ t ∷ w)))) (sym h.left) there)

choose_follows : (t : Lexeme) (r w : List Lexeme) (b c : Bool) (x x' y y' : ParseResult) → b ≡ c
    → Follows t r w x x' → Follows t r w y y' → Follows t r w (choose b x y) (choose c x' y')
choose_follows t r w true true x x' y y' e l h = l
choose_follows t r w true false x x' y y' e l h = cc
choose_follows t r w false true x x' y y' e l h = cc
choose_follows t r w false false x x' y y' e l h = h

starts_alike : (set : List Terminal) (t : Lexeme) (r w front : List Lexeme) → starts_in set (front ++ t ∷ r) ≡ starts_in set (front ++ t ∷ w)
starts_alike set t r w [] = refl
starts_alike set t r w (s ∷ front) = refl

placed_alike : (t : Lexeme) (r w front : List Lexeme) → place_at (front ++ t ∷ r) ≡ place_at (front ++ t ∷ w)
placed_alike t r w [] = refl
placed_alike t r w (s ∷ front) = refl

stays : (t : Lexeme) (r w front : List Lexeme) (x : Node) → Follows t r w (done x (front ++ t ∷ r)) (done x (front ++ t ∷ w))
stays t r w front x = inr (record { back = front; left = refl; right = refl })

repeat_follows : (t : Lexeme) (r w : List Lexeme) (n : ℕ) (join : Node → Node → Node) (set : List Terminal) (go : List Lexeme → ParseResult)
    → ((back : List Lexeme) → Follows t r w (go (back ++ t ∷ r)) (go (back ++ t ∷ w)))
    → ((mid : List Lexeme) → Behind mid (rest_of (go mid)))
    → (front : List Lexeme) → Follows t r w (repeat n join (starts_in set) go (front ++ t ∷ r)) (repeat n join (starts_in set) go (front ++ t ∷ w))
repeat_follows t r w zero join set go each rests front = stays t r w front none
repeat_follows t r w (suc n) join set go each rests front =
    choose_follows t r w (starts_in set (front ++ t ∷ r)) (starts_in set (front ++ t ∷ w)) _ _ _ _ (starts_alike set t r w front)
    (then_follows t r w join (go (front ++ t ∷ r)) (go (front ++ t ∷ w)) (repeat n join (starts_in set) go) (each front)
    (repeat_follows t r w n join set go each rests) (repeat_behind n join (starts_in set) go rests))
    (stays t r w front none)

pub local : (n : ℕ) (p : Phrase) (t : Lexeme) (r w front : List Lexeme) → Follows t r w (read n p (front ++ t ∷ r)) (read n p (front ++ t ∷ w))
local n (one k f) t r w [] =
    choose_follows t r w (same t.what k) (same t.what k) (done (f t) r) (done (f t) w) (failed false (t ∷ r)) (failed false (t ∷ w)) refl
    (inl (omega arith)) (inr (record { back = []; left = refl; right = refl }))
local n (one k f) t r w (s ∷ front) =
    choose_follows t r w (same s.what k) (same s.what k) _ _ _ _ refl
    (stays t r w front (f s)) (inr (record { back = s ∷ front; left = refl; right = refl }))
local n (deep k) t r w front =
    inr (record { back = front; left = refl; right = ap (λ b. failed b (front ++ t ∷ w)) (sym (starts_alike (k ∷ []) t r w front)) })
local n (chain join p q) t r w front =
    then_follows t r w join (read n p (front ++ t ∷ r)) (read n p (front ++ t ∷ w)) (read n q) (local n p t r w front) (local n q t r w) (remains n q)
local n (either p q) t r w front =
    choose_follows t r w (starts_in (first p) (front ++ t ∷ r)) (starts_in (first p) (front ++ t ∷ w)) _ _ _ _ (starts_alike (first p) t r w front)
    (local n p t r w front) (local n q t r w front)
local n (maybe f p) t r w front =
    choose_follows t r w (starts_in (first p) (front ++ t ∷ r)) (starts_in (first p) (front ++ t ∷ w)) _ _ _ _ (starts_alike (first p) t r w front)
    (made_follows t r w f (read n p (front ++ t ∷ r)) (read n p (front ++ t ∷ w)) (local n p t r w front)) (stays t r w front none)
local n (many join p) t r w front = repeat_follows t r w n join (first p) (read n p) (local n p t r w) (remains n p) front
local n (marked p) t r w front =
    subst (λ at. Follows t r w (map_tree (placed (place_at (front ++ t ∷ r))) (read n p (front ++ t ∷ r))) (map_tree (placed at) (read n p (front ++ t ∷ w))))
    (placed_alike t r w front)
    (made_follows t r w (placed (place_at (front ++ t ∷ r))) (read n p (front ++ t ∷ r)) (read n p (front ++ t ∷ w)) (local n p t r w front))
