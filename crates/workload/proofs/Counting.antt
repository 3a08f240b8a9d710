-- Numbers that are counted up, and one more.
use Rattle.std.proofs.Common.{◌≡◌, ℕ, zero, suc, ◌+◌, ◌%◌, ◌==◌, Bool, true, false, cond, List, [], ◌∷◌, ◌++◌, map, refl, sym, ap, ◌∙◌, arith, append-nil, append_assoc, add-one}
use Rattle.std.specs.List.{flat_map, filter}
use Rattle.std.proofs.lemmas.List.{map-append}
use Rattle.std.proofs.lemmas.List.Elements.{filter-append}
use Rattle.std.proofs.lemmas.Grind.{flat_map-append}
use Rattle.script_model.specs.ScriptLines.{count_up}
use Rattle.workload.specs.Numbers.{number_after, number_at}
use Rattle.workload.specs.CallFrames.{frame_by, frame_at}
use Rattle.workload.specs.LoadPlan.{bytes_on}

counted : (from n : ℕ) → count_up from (suc n) ≡ count_up from n ++ (from + n) ∷ []
counted from zero = ap (λ m. m ∷ []) (omega arith)
counted from (suc n) = ap (λ ms. from ∷ ms) (counted (suc from) n ∙ ap (λ m. count_up (suc from) n ++ m ∷ []) (omega arith))

pub count_next : (n : ℕ) → count_up 0 (n + 1) ≡ count_up 0 n ++ n ∷ []
count_next n = rw add-one (counted 0 n ∙ ap (λ m. count_up 0 n ++ m ∷ []) (omega arith))

pub map_next : {X : Type 0} (f : ℕ → X) (n : ℕ) → map f (count_up 0 (n + 1)) ≡ map f (count_up 0 n) ++ f n ∷ []
map_next f n = ap (map f) (count_next n) ∙ map-append f (count_up 0 n) (n ∷ [])

pub flat_next : {X : Type 0} (f : ℕ → List X) (n : ℕ) → flat_map f (count_up 0 (n + 1)) ≡ flat_map f (count_up 0 n) ++ f n
flat_next f n =
    ap (flat_map f) (count_next n) ∙ flat_map-append f (count_up 0 n) (n ∷ []) ∙ ap (λ xs. flat_map f (count_up 0 n) ++ xs) (append-nil (f n))

one_more : {X : Type 0} (f : ℕ → List X) (k : ℕ) (here : Bool) → flat_map f (cond here (k ∷ []) []) ≡ cond here (f k) []
one_more f k true = append-nil (f k)
one_more f k false = refl

-- the bytes of a connection, and the next frame where it stands there
pub bytes_next : (seed k n c : ℕ) → bytes_on seed (k + 1) n c ≡ bytes_on seed k n c ++ cond (k % n == c) (frame_at seed k) []
bytes_next seed k n c =
    ap (λ ks. flat_map (frame_at seed) (filter (λ k. k % n == c) ks)) (count_next k)
    ∙ ap (flat_map (frame_at seed)) (filter-append (λ k. k % n == c) (count_up 0 k) (k ∷ []))
    ∙ flat_map-append (frame_at seed) (filter (λ k. k % n == c) (count_up 0 k)) (filter (λ k. k % n == c) (k ∷ []))
    ∙ ap (λ xs. bytes_on seed k n c ++ xs) (one_more (frame_at seed) k (k % n == c))

-- what was appended for each number so far, and what is for the next one
pub flat_more : {X : Type 0} (f : ℕ → List X) (n : ℕ) (first : List X) {old new : List X} → old ≡ first ++ flat_map f (count_up 0 n) → new ≡ old ++ f n
    → new ≡ first ++ flat_map f (count_up 0 (n + 1))
flat_more f n first {old} {new} so more =
    more ∙ ap (λ xs. xs ++ f n) so ∙ append_assoc first (flat_map f (count_up 0 n)) (f n) ∙ ap (λ xs. first ++ xs) (sym (flat_next f n))

pub map_more : {X : Type 0} (f : ℕ → X) (n : ℕ) (first : List X) (x : X) {old new : List X} → old ≡ first ++ map f (count_up 0 n) → new ≡ old ++ x ∷ [] → x ≡ f n
    → new ≡ first ++ map f (count_up 0 (n + 1))
map_more f n first x {old} {new} so more is =
    more ∙ ap (λ y. old ++ y ∷ []) is ∙ ap (λ xs. xs ++ f n ∷ []) so ∙ append_assoc first (map f (count_up 0 n)) (f n ∷ []) ∙ ap (λ xs. first ++ xs) (sym (map_next f n))

pub map_pushed : {X : Type 0} (f : ℕ → X) (n : ℕ) (x : X) {old new : List X} → old ≡ map f (count_up 0 n) → new ≡ old ++ x ∷ [] → x ≡ f n
    → new ≡ map f (count_up 0 (n + 1))
map_pushed f n x {old} {new} so more is = more ∙ ap (λ y. old ++ y ∷ []) is ∙ ap (λ xs. xs ++ f n ∷ []) so ∙ sym (map_next f n)

pub number_next : (seed k : ℕ) {x y : ℕ} → x ≡ number_at seed k → y ≡ number_after x → y ≡ number_at seed (k + 1)
number_next seed k so next = next ∙ ap number_after so ∙ sym (ap (number_at seed) (add-one k))

pub bytes_after : (seed k n c : ℕ) {y : ℕ} {old new : List ℕ} → y ≡ number_at seed (k + 1) → old ≡ bytes_on seed k n c
    → new ≡ old ++ cond (k % n == c) (frame_by k y) [] → new ≡ bytes_on seed (k + 1) n c
bytes_after seed k n c {y} {old} {new} is so more =
    more ∙ ap (λ x. old ++ cond (k % n == c) (frame_by k x) []) is ∙ ap (λ xs. xs ++ cond (k % n == c) (frame_at seed k) []) so ∙ sym (bytes_next seed k n c)
