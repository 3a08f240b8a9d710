-- Bytes that are appended in several steps, each of which may find no memory.
use Rattle.std.proofs.Common.{◌≡◌, ℕ, ◌+◌, List, ◌++◌, length, take, cond, is_ok, Result, Ok, Err, OnOk, OnErr, ap, sym, ◌∙◌, append_assoc, arith, length-append}
use Rattle.std.proofs.lemmas.List.{take-take}
use Rattle.std.proofs.Math.Seq.{take-append_seam}

-- a piece was appended, and then another one
pub appended : {A : Type 0} (old front mid rest new : List A) → mid ≡ old ++ front → new ≡ mid ++ rest → new ≡ old ++ (front ++ rest)
appended old front mid rest new first second = second ∙ ap (λ (xs : List _). xs ++ rest) first ∙ append_assoc old front rest

-- what was there is still in front of a piece that was appended
pub still_there : {A : Type 0} (n : ℕ) (old front mid : List A) → length old ≡ n → mid ≡ old ++ front → take n mid ≡ old
still_there n old front mid size first = ap (λ (k : ℕ). take k mid) (sym size) ∙ ap (λ (xs : List _). take (length old) xs) first ∙ take-append_seam old front

-- and in front of what begins with both
pub still_first : {A : Type 0} (n m : ℕ) (old front mid new : List A) → length old ≡ n → length mid ≡ m → mid ≡ old ++ front → take m new ≡ mid → take n new ≡ old
still_first n m old front mid new size longer first kept =
    let all : length mid ≡ length old + length front = ap length first ∙ length-append old front in
    sym (take-take n m new (omega arith)) ∙ ap (λ (xs : List _). take n xs) kept ∙ still_there n old front mid size first

-- what a slice that is appended last leaves, where there is memory for it and where there is none
pub slice_appended : {A X E : Type 0} (r : Result X E) (old slice new : List A) → new ≡ cond (is_ok r) (old ++ slice) old → OnOk r (new ≡ old ++ slice)
slice_appended (Ok x) old slice new is = is
slice_appended (Err e) old slice new is = tt

pub slice_left : {A X E : Type 0} (r : Result X E) (old slice new : List A) → new ≡ cond (is_ok r) (old ++ slice) old → OnErr r (new ≡ old)
slice_left (Ok x) old slice new is = tt
slice_left (Err e) old slice new is = is
