-- What a read of a piece does to the bytes given and the bytes left.
use Rattle.std.proofs.Common.{◌≡◌, ℕ, ◌+◌, ◌<◌, ◌≤◌, List, ◌++◌, length, take, drop, min, Some, ap, sym, ◌∙◌, arith, length-append, length-drop}
use Rattle.std.proofs.Math.Seq.{take-add}
use Rattle.std.proofs.lemmas.List.{drop-drop, take_at, length-take-le, take-append-drop, nil_from_length}
use Rattle.streams.specs.Content.{HasRead}

-- n bytes of what is left from a place on, put at the front of `into`
pub piece_is_read : (content into : List ℕ) (at n most : ℕ) → 0 < most → n ≡ min (min (length (drop at content)) (length into)) most
    → HasRead (Some (take at content)) (Some (take (at + n) content)) (Some (drop at content)) (Some (drop (at + n) content)) (take n (drop at content) ++ drop n into) n
piece_is_read content into at n most some count =
    let in_left : n ≤ length (drop at content) = omega arith in
    let in_room : n ≤ length into = omega arith in
    let front_len : length (take n (drop at content)) ≡ n = length-take-le n (drop at content) in_left in
    let room : length (take n (drop at content) ++ drop n into) ≡ length into = omega (arith, length-append (take n (drop at content)) (drop n into), length-drop n into, front_len) in
    let front : take n (take n (drop at content) ++ drop n into) ≡ take n (drop at content) = take_at (take n (drop at content)) (drop n into) n front_len in
    let left : drop (at + n) content ≡ drop n (drop at content) = sym (drop-drop n at content) in
    record {
      bound = omega arith;
      given_more = ap Some (take-add at n content ∙ ap (λ (xs : List ℕ). take at content ++ xs) (sym front));
      taken_off = ap Some (sym (take-append-drop n (drop at content)) ∙ (ap (λ (xs : List ℕ). xs ++ drop n (drop at content)) (sym front) ∙ ap (λ (xs : List ℕ). take n (take n (drop at content) ++ drop n into) ++ xs) (sym left)));
      ended = λ none has_room. nil_from_length (drop (at + n) content) (omega (arith, length-drop (at + n) content, length-drop at content));
    }
