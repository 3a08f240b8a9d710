-- How what a sink takes of a text in one call goes on in the next.
use Rattle.std.proofs.Common.{◌≡◌, ℕ, ◌+◌, ◌<◌, ◌≤◌, List, [], ◌∷◌, ◌++◌, length, take, drop, get_or, map, Option, Some, None, Result, Ok, Err, refl, sym, ap, ◌∙◌, subst, arith, append_assoc, append-nil, take_at, add-one, drop-cons}
use Rattle.std.specs.List.{flat_map}
use Rattle.std.specs.Result.{IsErr}
use Rattle.streams.specs.Content.{told_more}
use Rattle.streams.specs.Taken.{IsTakenBut, IsTakenInPart, TakesText}

told_twice : (x : Option (List ℕ)) (a b : List ℕ) → told_more (told_more x a) b ≡ told_more x (a ++ b)
told_twice None a b = refl
told_twice (Some c) a b = ap Some (append_assoc c a b)

told_none : (x : Option (List ℕ)) → x ≡ told_more x []
told_none None = refl
told_none (Some c) = ap Some (sym (append-nil c))

-- nothing was taken yet
pub none_taken : (x : Option (List ℕ)) (text : List ℕ) → IsTakenBut x x text text
none_taken x text = record { front = []; taken = told_none x; whole = refl }

pub none_in_part : (x : Option (List ℕ)) (text : List ℕ) → IsTakenInPart x x text
none_in_part x text = record { lost = text; taken = none_taken x text }

-- all was taken
pub all_taken : (x y : Option (List ℕ)) (text : List ℕ) → y ≡ told_more x text → IsTakenBut x y text []
all_taken x y text e = record { front = text; taken = e; whole = sym (append-nil text) }

pub all_told : (x y : Option (List ℕ)) (text : List ℕ) → IsTakenBut x y text [] → y ≡ told_more x text
all_told x y text f = f.taken ∙ ap (told_more x) (sym (append-nil f.front) ∙ sym f.whole)

-- what was left is taken on
pub taken_on : (x y z : Option (List ℕ)) (text left rest : List ℕ) → IsTakenBut x y text left → IsTakenBut y z left rest → IsTakenBut x z text rest
taken_on x y z text left rest f g =
    record {
      front = f.front ++ g.front;
      taken = g.taken ∙ ap (λ t. told_more t g.front) f.taken ∙ told_twice x f.front g.front;
      whole = f.whole ∙ ap (λ t. f.front ++ t) g.whole ∙ sym (append_assoc f.front g.front rest);
    }

-- of a longer text more is left
pub taken_of_more : (x y : Option (List ℕ)) (text left more : List ℕ) → IsTakenBut x y text left → IsTakenBut x y (text ++ more) (left ++ more)
taken_of_more x y text left more f =
    record { front = f.front; taken = f.taken; whole = ap (λ t. t ++ more) f.whole ∙ append_assoc f.front left more }

-- of what is pending and to come, the next part is handed on
pub next_taken : (x y z : Option (List ℕ)) (text left part more rest : List ℕ)
    → IsTakenBut x y text (left ++ (part ++ more)) → IsTakenBut y z (left ++ part) rest → IsTakenBut x z text (rest ++ more)
next_taken x y z text left part more rest f g =
    taken_on x y z text (left ++ (part ++ more)) (rest ++ more) f
    (subst (λ t. IsTakenBut y z t (rest ++ more)) (append_assoc left part more) (taken_of_more y z (left ++ part) rest more g))

-- the same where it was taken in part
pub next_in_part : (x y z : Option (List ℕ)) (text left part more : List ℕ)
    → IsTakenBut x y text (left ++ (part ++ more)) → IsTakenInPart y z (left ++ part) → IsTakenInPart x z text
next_in_part x y z text left part more f g =
    record { lost = g.lost ++ more; taken = next_taken x y z text left part more g.lost f g.taken }

pub last_in_part : (x y z : Option (List ℕ)) (text left : List ℕ) → IsTakenBut x y text left → IsTakenInPart y z left → IsTakenInPart x z text
last_in_part x y z text left f g = record { lost = g.lost; taken = taken_on x y z text left g.lost f g.taken }

-- a beginning is so many bytes
pub part_told : (x y : Option (List ℕ)) (text : List ℕ) → IsTakenInPart x y text → (n : ℕ) × (y ≡ told_more x (take n text))
part_told x y text f =
    let g : IsTakenBut x y text f.lost = f.taken in
    let e : take (length g.front) text ≡ g.front = ap (take (length g.front)) g.whole ∙ take_at g.front f.lost (length g.front) refl in
    (length g.front, g.taken ∙ ap (told_more x) (sym e))

pub but_in_part : (x y : Option (List ℕ)) (text left more : List ℕ) → IsTakenBut x y text left → IsTakenInPart x y (text ++ more)
but_in_part x y text left more f = record { lost = left ++ more; taken = taken_of_more x y text left more f }

pub more_in_part : (x y : Option (List ℕ)) (text more : List ℕ) → IsTakenInPart x y text → IsTakenInPart x y (text ++ more)
more_in_part x y text more f = but_in_part x y text f.lost more f.taken

-- an error that is handed on
pub err_takes : {A E : Type 0} (x y : Option (List ℕ)) (text left : List ℕ) (result : Result A E) → IsErr result → IsTakenInPart x y text
    → TakesText x y text left result
err_takes x y text left (Ok a) e f = absurd (let g : ⊥ = cc in g)
err_takes x y text left (Err e) h f = f

-- the last of a text
pub last_takes : {A E : Type 0} (x y z : Option (List ℕ)) (text left rest : List ℕ) (result : Result A E) → IsTakenBut x y text left
    → TakesText y z left rest result → TakesText x z text rest result
last_takes x y z text left rest (Ok a) f g = taken_on x y z text left rest f g
last_takes x y z text left rest (Err e) f g = last_in_part x y z text left f g

-- the lines of what is left of a list begin with its first line
lines_left : {X : Type 0} (f : X → List ℕ) (xs : List X) (i : ℕ) (d item : X) → i < length xs → item ≡ get_or xs i d
    → flat_map f (drop i xs) ≡ f item ++ flat_map f (drop (i + 1) xs)
lines_left f xs i d item h is =
    ap (flat_map f) (drop-cons xs i d h) ∙ (λ k. f (sym is k) ++ flat_map f (drop (sym (add-one i) k) xs))

-- a line is taken
pub line_taken : {X : Type 0} (f : X → List ℕ) (xs : List X) (i : ℕ) (d item : X) (x y z : Option (List ℕ)) (text left rest : List ℕ)
    → i < length xs → item ≡ get_or xs i d → IsTakenBut x y text (left ++ flat_map f (drop i xs)) → IsTakenBut y z (left ++ f item) rest
    → IsTakenBut x z text (rest ++ flat_map f (drop (i + 1) xs))
line_taken f xs i d item x y z text left rest h is a b =
    next_taken x y z text left (f item) (flat_map f (drop (i + 1) xs)) rest
    (subst (λ t. IsTakenBut x y text (left ++ t)) (lines_left f xs i d item h is) a) b

pub line_in_part : {X : Type 0} (f : X → List ℕ) (xs : List X) (i : ℕ) (d item : X) (x y z : Option (List ℕ)) (text left : List ℕ)
    → i < length xs → item ≡ get_or xs i d → IsTakenBut x y text (left ++ flat_map f (drop i xs)) → IsTakenInPart y z (left ++ f item)
    → IsTakenInPart x z text
line_in_part f xs i d item x y z text left h is a b =
    next_in_part x y z text left (f item) (flat_map f (drop (i + 1) xs))
    (subst (λ t. IsTakenBut x y text (left ++ t)) (lines_left f xs i d item h is) a) b

pub ruleset taking = (none_taken, none_in_part, all_taken, all_told, taken_on, next_taken, next_in_part, last_in_part, part_told, append-nil, append_assoc)
