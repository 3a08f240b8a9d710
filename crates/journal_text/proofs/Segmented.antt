-- How entries lie in segments.
use Rattle.std.proofs.Common.{◌≡◌, ℕ, suc, zero, ◌+◌, ◌*◌, ◌/◌, ◌%◌, ◌<◌, ◌≤◌, List, [], ◌∷◌, ◌++◌, length, take, drop, refl, sym, ap, ◌∙◌, arith, append_assoc, append-nil, length-append, take_at, drop_at}
use Rattle.std.specs.Borrow.{Bor}
use Rattle.std.specs.Prelude.{Option, Some, None, slice_get, get_or}
use Rattle.std.specs.Option.{option_copied}
use Rattle.std.specs.Slice.{IsItemAt}
use Rattle.std.proofs.lemmas.Option.{slice_get_read, slice_get_past}
use Rattle.std.specs.List.{AllByRecursion}
use Rattle.std.proofs.lemmas.List.{take_all, drop_all}
use Rattle.journal_text.specs.Segments.{chained}

-- what stands behind a list
pub behind : {X : Type 0} (xs ys : List X) (i place : ℕ) → i ≡ length xs + place → slice_get (xs ++ ys) i ≡ slice_get ys place
behind [] ys i place at = ap (slice_get ys) (omega (arith, at))
behind (x ∷ xs) ys zero place at = absurd (omega (arith, at))
behind (x ∷ xs) ys (suc i) place at = behind xs ys i place (omega (arith, at))

-- what stands in it
pub within : {X : Type 0} (xs ys : List X) (i : ℕ) → i < length xs → slice_get (xs ++ ys) i ≡ slice_get xs i
within [] ys i h = absurd (omega (arith, h))
within (x ∷ xs) ys zero h = refl
within (x ∷ xs) ys (suc i) h = within xs ys i (omega (arith, h))

-- all segments are full
abbrev pub AllFull : {X : Type 0} → List (List X) → Type 0
AllFull {X} full = AllByRecursion (λ (s : List X). length s ≡ 1024) full

-- a place in a segment
pub placed : {X : Type 0} (full : List (List X)) (last : List X) (number place i : ℕ) (d : List X) → AllFull full → number < length full → place < 1024
    → i ≡ number * 1024 + place → slice_get (chained full ++ last) i ≡ slice_get (get_or full number d) place
placed [] last number place i d all h small at = absurd (omega (arith, h))
placed (s ∷ full) last zero place i d all h small at =
    let length_is : length s ≡ 1024 = all.0 in
    ap (λ t. slice_get t i) (append_assoc s (chained full) last)
    ∙ within s (chained full ++ last) i (omega (arith, length_is, small, at))
    ∙ ap (slice_get s) (omega (arith, at))
placed (s ∷ full) last (suc number) place i d all h small at =
    let length_is : length s ≡ 1024 = all.0 in
    let next : i ≡ length s + (number * 1024 + place) = omega (arith, length_is, at) in
    ap (λ t. slice_get t i) (append_assoc s (chained full) last)
    ∙ behind s (chained full ++ last) i (number * 1024 + place) next
    ∙ placed full last number place (number * 1024 + place) d all.1 (omega (arith, h)) small refl

-- a place behind the segments
pub placed_last : {X : Type 0} (full : List (List X)) (last : List X) (place i : ℕ) → AllFull full → i ≡ length full * 1024 + place
    → slice_get (chained full ++ last) i ≡ slice_get last place
placed_last [] last place i all at = ap (slice_get last) (omega (arith, at))
placed_last (s ∷ full) last place i all at =
    let length_is : length s ≡ 1024 = all.0 in
    let next : i ≡ length s + (length full * 1024 + place) = omega (arith, length_is, at) in
    ap (λ t. slice_get t i) (append_assoc s (chained full) last)
    ∙ behind s (chained full ++ last) i (length full * 1024 + place) next
    ∙ placed_last full last place (length full * 1024 + place) all.1 refl

-- how many there are in all
pub chained_length : {X : Type 0} (full : List (List X)) (last : List X) → AllFull full → length (chained full ++ last) ≡ length full * 1024 + length last
chained_length [] last all = omega arith
chained_length (s ∷ full) last all =
    let length_is : length s ≡ 1024 = all.0 in
    let rest : length (chained full ++ last) ≡ length full * 1024 + length last = chained_length full last all.1 in
    let both : length ((s ++ chained full) ++ last) ≡ length s + length (chained full ++ last) =
    ap length (append_assoc s (chained full) last) ∙ length-append s (chained full ++ last) in
    both ∙ omega (arith, length_is, rest)

-- the entries of one segment more at the end
pub chained_with : {X : Type 0} (full : List (List X)) (s : List X) → chained (full ++ s ∷ []) ≡ chained full ++ s
chained_with [] s = append-nil s
chained_with (t ∷ full) s = ap (λ r. t ++ r) (chained_with full s) ∙ sym (append_assoc t (chained full) s)

-- the first segment
pub first_taken : {X : Type 0} (full : List (List X)) (last first d : List X) → AllFull full → 0 < length full → first ≡ get_or full 0 d
    → take 1024 (chained full ++ last) ≡ first
first_taken [] last first d all some is = absurd (omega (arith, some))
first_taken (s ∷ full) last first d all some is = ap (take 1024) (append_assoc s (chained full) last) ∙ take_at s (chained full ++ last) 1024 all.0 ∙ sym is

-- and what stands behind it
pub first_dropped : {X : Type 0} (full : List (List X)) (last : List X) → AllFull full → 0 < length full → drop 1024 (chained full ++ last) ≡ chained (drop 1 full) ++ last
first_dropped [] last all some = absurd (omega (arith, some))
first_dropped (s ∷ full) last all some = ap (drop 1024) (append_assoc s (chained full) last) ∙ drop_at s (chained full ++ last) 1024 all.0

-- where none is full
pub last_taken : {X : Type 0} (full : List (List X)) (last : List X) → full ≡ [] → length last ≤ 1024 → take 1024 (chained full ++ last) ≡ last
last_taken full last none few = ap (λ f. take 1024 (chained f ++ last)) none ∙ take_all 1024 last few

pub last_dropped : {X : Type 0} (full : List (List X)) (last : List X) → full ≡ [] → length last ≤ 1024 → drop 1024 (chained full ++ last) ≡ []
last_dropped full last none few = ap (λ f. drop 1024 (chained f ++ last)) none ∙ drop_all 1024 last few

-- what a look-up answers
pub got : {X : Type 0} (xs : List X) (i : ℕ) (r : Option (Bor X)) → IsItemAt xs i r → option_copied r ≡ slice_get xs i
got xs i None h = sym (slice_get_past xs i h.3)
got xs i (Some x) h = sym (slice_get_read xs (length xs) i x.now refl h.3.0 h.1)

-- the last segment has room for no more
pub few : (n free : ℕ) → (0 < n + free → n + free ≡ 1024) → n ≤ 1024
few zero free held = omega arith
few (suc n) free held =
    let e : suc n + free ≡ 1024 = held (omega arith) in
    omega (arith, e)

-- where it has room for no more, the entries are those of whole segments
pub whole_segments : {X : Type 0} (full : List (List X)) (last : List X) (free : ℕ) → AllFull full → (0 < length last + free → length last + free ≡ 1024) → free ≡ 0
    → length (chained full ++ last) % 1024 ≡ 0
whole_segments full [] free all held none =
    let all_are : length (chained full ++ []) ≡ length full * 1024 + 0 = chained_length full [] all in
    omega (arith, all_are)
whole_segments full (x ∷ last) free all held none =
    let all_are : length (chained full ++ x ∷ last) ≡ length full * 1024 + length (x ∷ last) = chained_length full (x ∷ last) all in
    let one : length (x ∷ last) + free ≡ 1024 = held (omega arith) in
    omega (arith, all_are, one, none)

-- no segment
pub none_left : {X : Type 0} (xs : List X) → length xs ≤ 0 → xs ≡ []
none_left [] h = refl
none_left (x ∷ xs) h = absurd (omega (arith, h))

-- a number behind all entries
pub none_past : {X : Type 0} (full : List (List X)) (last : List X) (i : ℕ) → AllFull full → length last ≤ 1024 → length full < i / 1024
    → slice_get (chained full ++ last) i ≡ None
none_past full last i all small past =
    let all_are : length (chained full ++ last) ≡ length full * 1024 + length last = chained_length full last all in
    slice_get_past (chained full ++ last) i (omega (arith, all_are, small, past))
