-- Texts that are put one behind the other.
use Rattle.std.proofs.Common.{◌≡◌, ℕ, ◌+◌, ◌<◌, ◌≤◌, List, ◌∷◌, ◌++◌, map, drop, length, get_or, Result, Ok, Err, ap, sym, ◌∙◌}
use Rattle.std.specs.List.{flat_map}
use Rattle.std.specs.Prelude.{OnOk, if◌then◌else◌}
use Rattle.std.specs.Result.{is_ok}
use Rattle.std.proofs.lemmas.List.{append_assoc, append-nil, drop_all, drop_more}

-- what a text was put behind, with more behind it
pub put_behind : (new old text more : List ℕ) → new ≡ old ++ text → new ++ more ≡ old ++ (text ++ more)
put_behind new old text more is = ap (λ m. m ++ more) is ∙ append_assoc old text more

-- three texts, one put behind the other
pub put_all : {A E : Type 0} (r : Result A E) (new old first second a t u b : List ℕ) → new ≡ (if is_ok r then second ++ b else second) → second ≡ first ++ u → u ≡ t → first ≡ old ++ a
    → OnOk r (new ≡ old ++ (a ++ (t ++ b)))
put_all (Ok x) new old first second a t u b last middle same front =
    last ∙ ap (λ m. m ++ b) (middle ∙ (λ i. front i ++ same i)) ∙ append_assoc (old ++ a) t b ∙ append_assoc old a (t ++ b)
put_all (Err e) new old first second a t u b last middle same front = tt

-- four texts, one put behind the other
pub put_four : {A E : Type 0} (r : Result A E) (new third second first old a b c d : List ℕ) → new ≡ (if is_ok r then third ++ d else third)
    → third ≡ second ++ c → second ≡ first ++ b → first ≡ old ++ a → OnOk r (new ≡ old ++ (a ++ (b ++ (c ++ d))))
put_four (Ok x) new third second first old a b c d last e3 e2 e1 =
    last ∙ put_behind third second c d e3 ∙ put_behind second first b (c ++ d) e2 ∙ put_behind first old a (b ++ (c ++ d)) e1
put_four (Err e) new third second first old a b c d last e3 e2 e1 = tt

-- six texts, one put behind the other
pub put_six : {A E : Type 0} (r : Result A E) (new fifth fourth third second first old a b c d e f : List ℕ) → new ≡ (if is_ok r then fifth ++ f else fifth)
    → fifth ≡ fourth ++ e → fourth ≡ third ++ d → third ≡ second ++ c → second ≡ first ++ b → first ≡ old ++ a
    → OnOk r (new ≡ old ++ (a ++ (b ++ (c ++ (d ++ (e ++ f))))))
put_six (Ok x) new fifth fourth third second first old a b c d e f last e5 e4 e3 e2 e1 =
    last ∙ put_behind fifth fourth e f e5 ∙ put_behind fourth third d (e ++ f) e4 ∙ put_behind third second c (d ++ (e ++ f)) e3
    ∙ put_behind second first b (c ++ (d ++ (e ++ f))) e2 ∙ put_behind first old a (b ++ (c ++ (d ++ (e ++ f)))) e1
put_six (Err x) new fifth fourth third second first old a b c d e f last e5 e4 e3 e2 e1 = tt

-- one item further in a walk that puts each item's text
pub walked : {A B : Type 0} (text : B → List ℕ) (view : A → B) (xs : List A) (i : ℕ) (x : A) (old new whole : List ℕ) → i < length xs → x ≡ get_or xs i x
    → new ≡ old ++ text (view x) → old ++ flat_map text (map view (drop i xs)) ≡ whole → new ++ flat_map text (map view (drop (i + 1) xs)) ≡ whole
walked text view xs i x old new whole low here put kept =
    let front : drop i xs ≡ x ∷ drop (i + 1) xs = drop_more xs i x low ∙ ap (λ y. y ∷ drop (i + 1) xs) (sym here) in
    put_behind new old (text (view x)) (flat_map text (map view (drop (i + 1) xs))) put ∙ ap (λ ys. old ++ flat_map text (map view ys)) (sym front) ∙ kept

-- what a text was put behind, once a walk has put each item's text
pub walked_through : {A B : Type 0} (text : B → List ℕ) (view : A → B) (xs : List A) (i : ℕ) (new start old first : List ℕ) → length xs ≤ i
    → new ++ flat_map text (map view (drop i xs)) ≡ start ++ flat_map text (map view xs) → start ≡ old ++ first → new ≡ old ++ (first ++ flat_map text (map view xs))
walked_through text view xs i new start old first end kept front =
    sym (append-nil new) ∙ ap (λ ys. new ++ flat_map text (map view ys)) (sym (drop_all i xs end)) ∙ kept ∙ put_behind start old first (flat_map text (map view xs)) front

-- the same of a walk that puts a line for each item
pub lined : {A : Type 0} (line : A → List ℕ) (xs : List A) (i : ℕ) (x : A) (old new whole : List ℕ) → i < length xs → x ≡ get_or xs i x
    → new ≡ old ++ line x → old ++ flat_map line (drop i xs) ≡ whole → new ++ flat_map line (drop (i + 1) xs) ≡ whole
lined line xs i x old new whole low here put kept =
    let front : drop i xs ≡ x ∷ drop (i + 1) xs = drop_more xs i x low ∙ ap (λ y. y ∷ drop (i + 1) xs) (sym here) in
    put_behind new old (line x) (flat_map line (drop (i + 1) xs)) put ∙ ap (λ ys. old ++ flat_map line ys) (sym front) ∙ kept

-- what was put once that walk has gone through all items
pub lined_through : {A : Type 0} (line : A → List ℕ) (xs : List A) (i : ℕ) (new whole : List ℕ) → length xs ≤ i → new ++ flat_map line (drop i xs) ≡ whole → new ≡ whole
lined_through line xs i new whole end kept = sym (append-nil new) ∙ ap (λ ys. new ++ flat_map line ys) (sym (drop_all i xs end)) ∙ kept
