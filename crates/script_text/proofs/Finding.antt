-- The first byte that passes a test, as a position.
use Rattle.std.proofs.Common.{◌≡◌, ℕ, ◌<◌, ◌≤◌, nat_lt, Bool, true, false, cond, Option, None, Some, List, length, refl, sym, ap, ◌∙◌, arith}
use Rattle.std.specs.Prelude.{position, slice_index}
use Rattle.std.proofs.lemmas.Bool.{lt-ltb, le-ltb}
use Rattle.std.proofs.lemmas.List.Sums.{position_or_len_is}
use Rattle.std.specs.List.{position_or_len}
use Rattle.memchr.specs.Find.{IsFirstByte}

not_true : (b : Bool) → (b ≡ true → ⊥) → b ≡ false
not_true true never = absurd (never refl)
not_true false never = refl

pub first_is_position : (test : ℕ → Bool) (text : List ℕ) (r : Option ℕ) → IsFirstByte test text r → r ≡ position test text
first_is_position test text None none =
    let all : length text ≤ length text = omega arith in
    let at : position_or_len test text ≡ length text =
    position_or_len_is test text (length text) 0 all (λ k below. not_true (test (slice_index text k)) (none k (omega arith) below)) (λ past. let gone : ⊥ = omega arith in absurd gone) in
    sym (ap (λ n. cond (nat_lt n (length text)) (Some n) None) at ∙ ap (λ b. cond b (Some (length text)) None) (le-ltb (length text) (length text) all))
first_is_position test text (Some k) found =
    let at : position_or_len test text ≡ k =
    position_or_len_is test text k 0 (let l : k < length text = found.0.high in omega arith) (λ j below. not_true (test (slice_index text j)) (found.0.before j (omega arith) below)) (λ past. found.1) in
    sym (ap (λ n. cond (nat_lt n (length text)) (Some n) None) at ∙ ap (λ b. cond b (Some k) None) (lt-ltb k (length text) found.0.high))
