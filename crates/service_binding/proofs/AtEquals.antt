-- A word that is cut at its first `=`.
use Rattle.std.proofs.Common.{◌≡◌, ℕ, ◌+◌, ◌<◌, ◌≤◌, Bool, List, length, take, drop, cond, Option, Some, None, Bor, refl, sym, ap, ◌∙◌, arith, lt-ltb, le-ltb}
use Rattle.std.specs.Prelude.{MatchOption, option_map}
use Rattle.std.specs.List.{position_or_len, before_first, after_first}
use Rattle.service_binding.specs.Equals.{at_equals, is_equals}

-- its parts, by whether there is one
abbrev cut_if : List ℕ → Bool → Option (List ℕ × List ℕ)
cut_if word b = option_map (λ (at : ℕ). (take at word, drop (at + 1) word)) (cond b (Some (position_or_len is_equals word)) None)

cut_none : (word : List ℕ) → position_or_len is_equals word ≡ length word → at_equals word ≡ None
cut_none word at = ap (cut_if word) (le-ltb (position_or_len is_equals word) (length word) (omega (arith, at)))

cut_some : (word : List ℕ) → position_or_len is_equals word < length word → at_equals word ≡ Some (before_first is_equals word, after_first is_equals word)
cut_some word within = ap (cut_if word) (lt-ltb (position_or_len is_equals word) (length word) within)

-- what a split at the first `=` gives
pub cut_is : (word : List ℕ) (r : Option (Bor (List ℕ) × Bor (List ℕ)))
    → MatchOption r (position_or_len is_equals word ≡ length word)
    (λ x. (position_or_len is_equals word < length word) × (x.0.now ≡ before_first is_equals word) × (x.1.now ≡ after_first is_equals word))
    → option_map (λ (x : Bor (List ℕ) × Bor (List ℕ)). (x.0.now, x.1.now)) r ≡ at_equals word
cut_is word None none = sym (cut_none word none)
cut_is word (Some x) h =
    let front = h.1 in
    let back = h.2 in
    let same : Some (x.0.now, x.1.now) ≡ Some (before_first is_equals word, after_first is_equals word) = λ i. Some (front i, back i) in
    same ∙ sym (cut_some word h.0)
