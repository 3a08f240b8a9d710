-- Each length is that of the longest front with its shape.
use Rattle.std.proofs.Common.{◌≡◌, ℕ, zero, suc, ◌+◌, ◌-◌, ◌<◌, ◌≤◌, min, ◌==◌, ◌&&◌, ◌||◌, not, nat_lt, Bool, true, false, cond, List, [], ◌∷◌, length, take, drop, refl, sym, ap, ◌∙◌, subst, ⊎_elim, arith, length-take-le}
use Rattle.std.specs.Prelude.{slice_index}
use Rattle.std.specs.List.{list_any}
use Rattle.std.specs.Char.{is_ascii_digit, is_ascii_hexdigit}
use Rattle.std.proofs.lemmas.Bool.{lt-ltb, ltb-true, eq-eqb, eqb-true}
use Rattle.std.proofs.lemmas.List.{get_or-take, length-drop}
use Rattle.std.proofs.lemmas.List.Sums.{prefix_len-le-length}
use Rattle.std.proofs.str.Laws.{order}
use Rattle.idl_token.specs.Classes.{is_run, is_word_start, is_word_byte, is_plus_or_minus, is_exponent_mark, is_quote}
use Rattle.idl_token.specs.Words.{is_word}
use Rattle.idl_token.specs.Numbers.{sign_in, behind_sign, digits_in, behind_digits, is_decimal, is_hexadecimal, is_int, is_exponent, is_fraction, is_unsigned_double, is_double}
use Rattle.idl_token.specs.Literals.{is_closed, is_literal}
use Rattle.idl_token.specs.Wholes.{signs, is_sign}
use Rattle.idl_token.specs.Lengths.{word_len, decimal_len, hexadecimal_len, int_len, exponent_len, fraction_len, unsigned_double_len, double_len, closed_from, literal_len, sign_len}
use Rattle.idl_token.proofs.Fronts.{Reach, run_reach, when, guarded, behind, one_of_two, same_reach, both, and_left, and_right, either, or_right, not_false, positive, drop-take_less, prefix_len-take}

-- what passes has a first byte, where nothing is refused
some : (is : List ℕ → Bool) (text : List ℕ) (m : ℕ) → is [] ≡ false → is (take m text) ≡ true → 0 < m
some is text m empty passes = positive m (λ none. not_false (subst (λ j. is (take j text) ≡ true) none passes) empty)

-- and the first byte is the text's
first_alike : (text : List ℕ) (m : ℕ) → 0 < m → slice_index (take m text) 0 ≡ slice_index text 0
first_alike text m above = get_or-take m text 0 0 above

pub word_reach : (text : List ℕ) → Reach is_word text (word_len text)
unfolding word_len
word_reach text =
    guarded (λ x. is_word_start (slice_index x 0)) (is_run is_word_byte) text _
    (λ m passes. ap is_word_start (first_alike text m (some (is_run is_word_byte) text m refl passes)))
    (run_reach is_word_byte text)

sign_alike : (m : ℕ) (text : List ℕ) → behind_sign (take m text) ≡ take (m - sign_in text) (drop (sign_in text) text)
sign_alike zero text = let is : 0 ≡ 0 - sign_in text = omega arith in ap (λ n. take n (drop (sign_in text) text)) is
sign_alike (suc m) text =
    ap (λ b. drop (cond (is_plus_or_minus b) 1 0) (take (suc m) text)) (first_alike text (suc m) (omega arith))
    ∙ drop-take_less (sign_in text) (suc m) text

pub decimal_reach : (text : List ℕ) → Reach is_decimal text (decimal_len text)
decimal_reach text = behind behind_sign (is_run is_ascii_digit) text (sign_in text) _ (λ m. sign_alike m text) refl (run_reach is_ascii_digit (behind_sign text))

pub hexadecimal_reach : (text : List ℕ) → Reach is_hexadecimal text (hexadecimal_len text)
hexadecimal_reach text =
    guarded (λ x. slice_index x 0 == 48 && slice_index x 1 == 120) (λ x. is_run is_ascii_hexdigit (drop 2 x)) text _
    (λ m passes.
    let long = some (is_run is_ascii_hexdigit) (drop 2 text) (m - 2) refl (ap (is_run is_ascii_hexdigit) (sym (drop-take_less 2 m text)) ∙ passes) in
    let zeroth : slice_index (take m text) 0 ≡ slice_index text 0 = get_or-take m text 0 0 (omega arith) in
    let next : slice_index (take m text) 1 ≡ slice_index text 1 = get_or-take m text 1 0 (omega arith) in
    ap (λ b. b == 48 && slice_index (take m text) 1 == 120) zeroth ∙ ap (λ b. slice_index text 0 == 48 && b == 120) next)
    (behind (drop 2) (is_run is_ascii_hexdigit) text 2 _ (λ m. drop-take_less 2 m text) refl (run_reach is_ascii_hexdigit (drop 2 text)))

pub int_reach : (text : List ℕ) → Reach is_int text (int_len text)
unfolding int_len
int_reach text = one_of_two is_decimal is_hexadecimal text _ _ (decimal_reach text) (hexadecimal_reach text)

pub exponent_reach : (text : List ℕ) → Reach is_exponent text (exponent_len text)
exponent_reach text =
    guarded (λ x. is_exponent_mark (slice_index x 0)) (λ x. is_decimal (drop 1 x)) text _
    (λ m passes.
    let long = some is_decimal (drop 1 text) (m - 1) refl (ap is_decimal (sym (drop-take_less 1 m text)) ∙ passes) in
    ap is_exponent_mark (first_alike text m (omega arith)))
    (behind (drop 1) is_decimal text 1 _ (λ m. drop-take_less 1 m text) refl (decimal_reach (drop 1 text)))

shorter : (m k : ℕ) (text : List ℕ) → m < k → take (m - m) (drop m text) ≡ take (m - k) (drop k text)
shorter m k text less =
    let left : m - m ≡ 0 = omega arith in
    let right : 0 ≡ m - k = omega arith in
    ap (λ n. take n (drop m text)) left ∙ ap (λ n. take n (drop k text)) right

ends : (m k : ℕ) (text : List ℕ) → take (m - min m k) (drop (min m k) text) ≡ take (m - k) (drop k text)
ends m k text = ⊎_elim
    (λ less. let is : min m k ≡ m = omega (arith, less) in ap (λ n. take (m - n) (drop n text)) is ∙ shorter m k text less)
    (λ more. let is : min m k ≡ k = omega (arith, more) in ap (λ n. take (m - n) (drop n text)) is)
    (order m k)

digits_alike : (m : ℕ) (text : List ℕ) → behind_digits (take m text) ≡ take (m - digits_in text) (drop (digits_in text) text)
digits_alike m text =
    ap (λ n. drop n (take m text)) (prefix_len-take is_ascii_digit m text)
    ∙ drop-take_less (min m (digits_in text)) m text
    ∙ ends m (digits_in text) text

end_reach : (rest : List ℕ) (m : ℕ) → m ≤ length rest → (length (take m rest) == 0 || is_exponent (take m rest)) ≡ true → m ≤ exponent_len rest
end_reach rest m inside passes = ⊎_elim
    (λ none. let no_bytes = eqb-true (length (take m rest)) 0 none in omega (arith, no_bytes, length-take-le m rest inside))
    (λ exponent. (exponent_reach rest).longest m inside exponent)
    (either (length (take m rest) == 0) (is_exponent (take m rest)) passes)

found_by : (rest : List ℕ) (n : ℕ) → exponent_len rest ≡ n → (length (take n rest) == 0 || is_exponent (take n rest)) ≡ true
found_by rest zero is = refl
found_by rest (suc n) is =
    or_right _ _ (subst (λ k. is_exponent (take k rest) ≡ true) is ((exponent_reach rest).found (omega (arith, is))))

within_when : (g : Bool) (n k : ℕ) → (g ≡ true → n ≤ k) → cond g n 0 ≤ k
within_when true n k h = h refl
within_when false n k h = omega arith

-- a fraction's digits in front, and what is behind them
fraction_digits : (m : ℕ) (text : List ℕ) → digits_in (drop 1 (take m text)) ≡ min (m - 1) (digits_in (drop 1 text))
fraction_digits m text = ap digits_in (drop-take_less 1 m text) ∙ prefix_len-take is_ascii_digit (m - 1) (drop 1 text)

fraction_end : (m : ℕ) (text : List ℕ) → behind_digits (drop 1 (take m text)) ≡ take (m - 1 - digits_in (drop 1 text)) (behind_digits (drop 1 text))
fraction_end m text = ap behind_digits (drop-take_less 1 m text) ∙ digits_alike (m - 1) (drop 1 text)

fraction_longest : (text : List ℕ) (m : ℕ) → m ≤ length text → is_fraction (take m text) ≡ true → m ≤ fraction_len text
fraction_longest text m inside passes =
    let u = drop 1 text in
    let x = take m text in
    let ends_so = length (behind_digits (drop 1 x)) == 0 || is_exponent (behind_digits (drop 1 x)) in
    let front = and_left (slice_index x 0 == 46 && nat_lt 0 (digits_in (drop 1 x))) ends_so passes in
    let behind_front = and_right (slice_index x 0 == 46 && nat_lt 0 (digits_in (drop 1 x))) ends_so passes in
    let digits = ltb-true 0 (digits_in (drop 1 x)) (and_right (slice_index x 0 == 46) _ front) in
    let count = fraction_digits m text in
    let some_digits : 0 < digits_in u = omega (arith, digits, count) in
    let long : 1 < m = omega (arith, digits, count) in
    let point : (slice_index text 0 == 46) ≡ true = ap (λ b. b == 46) (sym (first_alike text m (omega arith))) ∙ and_left (slice_index x 0 == 46) _ front in
    let begins : (slice_index text 0 == 46 && nat_lt 0 (digits_in u)) ≡ true = both _ _ point (lt-ltb 0 (digits_in u) some_digits) in
    let room = length-drop (digits_in u) u in
    let rest = length-drop 1 text in
    let end = end_reach (behind_digits u) (m - 1 - digits_in u) (omega (arith, room, rest, inside)) (subst (λ y. (length y == 0 || is_exponent y) ≡ true) (fraction_end m text) behind_front) in
    subst (λ b. m ≤ cond b (1 + digits_in u + exponent_len (behind_digits u)) 0) (sym begins) (omega (arith, end))

fraction_found : (text : List ℕ) → 0 < fraction_len text → is_fraction (take (fraction_len text) text) ≡ true
fraction_found text above =
    let u = drop 1 text in
    let n = 1 + digits_in u + exponent_len (behind_digits u) in
    let here = when (slice_index text 0 == 46 && nat_lt 0 (digits_in u)) n above in
    let some_digits = ltb-true 0 (digits_in u) (and_right (slice_index text 0 == 46) _ here.0) in
    let point : (slice_index (take n text) 0 == 46) ≡ true = ap (λ b. b == 46) (first_alike text n (omega arith)) ∙ and_left (slice_index text 0 == 46) _ here.0 in
    let count = fraction_digits n text in
    let digits = lt-ltb 0 (digits_in (drop 1 (take n text))) (omega (arith, count, some_digits)) in
    let left : n - 1 - digits_in u ≡ exponent_len (behind_digits u) = omega arith in
    let end = subst (λ y. (length y == 0 || is_exponent y) ≡ true) (sym (fraction_end n text ∙ ap (λ k. take k (behind_digits u)) left)) (found_by (behind_digits u) _ refl) in
    subst (λ k. is_fraction (take k text) ≡ true) (sym here.1) (both _ _ (both _ _ point digits) end)

pub fraction_reach : (text : List ℕ) → Reach is_fraction text (fraction_len text)
fraction_reach text =
    let u = drop 1 text in
    record {
      within = within_when (slice_index text 0 == 46 && nat_lt 0 (digits_in u)) (1 + digits_in u + exponent_len (behind_digits u)) (length text) (λ begins.
          let some_digits = ltb-true 0 (digits_in u) (and_right (slice_index text 0 == 46) _ begins) in
          let end = (exponent_reach (behind_digits u)).within in
          omega (arith, some_digits, end, length-drop (digits_in u) u, length-drop 1 text, prefix_len-le-length is_ascii_digit u));
      found = fraction_found text;
      longest = fraction_longest text;
    }

and_false : (b : Bool) → (b && false) ≡ false
and_false true = refl
and_false false = refl

above_min : (m k : ℕ) → nat_lt 0 (min (suc m) k) ≡ nat_lt 0 k
above_min m zero = let is : min (suc m) 0 ≡ 0 = omega arith in ap (nat_lt 0) is
above_min m (suc k) = lt-ltb 0 (min (suc m) (suc k)) (omega arith) ∙ sym (lt-ltb 0 (suc k) (omega arith))

-- digits stand in front of an exponent's place in a front as they do in the text
digits_stand : (m : ℕ) (text : List ℕ) → is_unsigned_double (take m text)
    ≡ ((nat_lt 0 (digits_in text) && is_exponent (behind_digits (take m text))) || is_fraction (behind_digits (take m text)))
digits_stand zero text = ap (λ b. b || false) (sym (and_false (nat_lt 0 (digits_in text))))
digits_stand (suc m) text =
    ap (λ b. (b && is_exponent (behind_digits (take (suc m) text))) || is_fraction (behind_digits (take (suc m) text)))
    (ap (nat_lt 0) (prefix_len-take is_ascii_digit (suc m) text) ∙ above_min m (digits_in text))

unsigned_reach : (text : List ℕ) → Reach is_unsigned_double text (unsigned_double_len text)
unfolding unsigned_double_len
unsigned_reach text =
    let digits = nat_lt 0 (digits_in text) in
    let rest = behind_digits text in
    same_reach (λ x. (digits && is_exponent (behind_digits x)) || is_fraction (behind_digits x)) is_unsigned_double text _
    (λ m. digits_stand m text)
    (behind behind_digits (λ y. (digits && is_exponent y) || is_fraction y) text (digits_in text) _ (λ m. digits_alike m text)
    (ap (λ b. b || false) (and_false digits))
    (one_of_two (λ y. digits && is_exponent y) is_fraction rest _ _
    (guarded (λ _. digits) is_exponent rest _ (λ m passes. refl) (exponent_reach rest))
    (fraction_reach rest)))

pub double_reach : (text : List ℕ) → Reach is_double text (double_len text)
unfolding double_len
double_reach text = behind behind_sign is_unsigned_double text (sign_in text) _ (λ m. sign_alike m text) refl (unsigned_reach (behind_sign text))

closed_step : (at quote : ℕ) (taken : Bool) (b : ℕ) (text : List ℕ) (m : ℕ) (closes : Bool) → suc m ≤ length (b ∷ text)
    → (is_closed quote taken (take m text) ≡ true → closed_from (at + 1) quote taken text ≡ at + 1 + m)
    → cond closes (length (take m text) == 0) (is_closed quote taken (take m text)) ≡ true
    → cond closes (at + 1) (closed_from (at + 1) quote taken text) ≡ at + suc m
closed_step at quote taken b text m true inside later closed =
    let none = eqb-true (length (take m text)) 0 closed in omega (arith, none, length-take-le m text (omega arith))
closed_step at quote taken b text m false inside later closed = let there = later closed in omega (arith, there)

-- a closed literal is the whole front up to the place that is found
closed_longest : (at quote : ℕ) (taken : Bool) (text : List ℕ) (m : ℕ) → m ≤ length text → is_closed quote taken (take m text) ≡ true → closed_from at quote taken text ≡ at + m
closed_longest at quote taken text zero inside closed = absurd (not_false closed refl)
closed_longest at quote taken [] (suc m) inside closed = absurd (not_false closed refl)
closed_longest at quote taken (b ∷ text) (suc m) inside closed =
    closed_step at quote (not taken && b == 92) b text m (not taken && b == quote) inside
    (closed_longest (at + 1) quote (not taken && b == 92) text m (omega arith)) closed

-- the place behind a literal that ends within the text
record ClosesAt (at quote : ℕ) (taken : Bool) (text : List ℕ) (place : ℕ) : Type 0 where
  size : ℕ
  within : size ≤ length text
  is : place ≡ at + size
  closed : is_closed quote taken (take size text) ≡ true

found_step : (at quote : ℕ) (taken next : Bool) (b : ℕ) (text : List ℕ) (closes : Bool) → next ≡ (not taken && b == 92) → closes ≡ (not taken && b == quote)
    → (0 < closed_from (at + 1) quote next text → ClosesAt (at + 1) quote next text (closed_from (at + 1) quote next text))
    → 0 < cond closes (at + 1) (closed_from (at + 1) quote next text)
    → ClosesAt at quote taken (b ∷ text) (cond closes (at + 1) (closed_from (at + 1) quote next text))
found_step at quote taken next b text true next_is closes_is later above = record {
  size = 1;
  within = omega arith;
  is = refl;
  closed = subst (λ f. cond f true (is_closed quote (not taken && b == 92) []) ≡ true) closes_is refl;
}
found_step at quote taken next b text false next_is closes_is later above =
    let there = later above in record {
      size = suc there.size;
      within = let w = there.within in omega arith;
      is = there.is ∙ (let moved : at + 1 + there.size ≡ at + suc there.size = omega arith in moved);
      closed = subst (λ f. cond f (length (take there.size text) == 0) (is_closed quote (not taken && b == 92) (take there.size text)) ≡ true) closes_is
          (subst (λ g. is_closed quote g (take there.size text) ≡ true) next_is there.closed);
    }

-- what is found is the place behind a closed literal
closed_found : (at quote : ℕ) (taken : Bool) (text : List ℕ) → 0 < closed_from at quote taken text → ClosesAt at quote taken text (closed_from at quote taken text)
closed_found at quote taken [] above = absurd (omega arith)
closed_found at quote taken (b ∷ text) above =
    found_step at quote taken (not taken && b == 92) b text (not taken && b == quote) refl refl (closed_found (at + 1) quote (not taken && b == 92) text) above

some_quote : (text : List ℕ) → is_quote (slice_index text 0) ≡ true → 0 < length text
some_quote [] quote = absurd (not_false quote refl)
some_quote (b ∷ text) quote = omega arith

literal_found : (text : List ℕ) (n : ℕ) → (is_quote (slice_index text 0)) ≡ true → n ≡ closed_from 1 (slice_index text 0) false (drop 1 text) → 0 < n → (n ≤ length text) × (is_literal (take n text) ≡ true)
literal_found text n quote is above =
    let there = closed_found 1 (slice_index text 0) false (drop 1 text) (omega (arith, is)) in
    let size_is : n ≡ 1 + there.size = is ∙ there.is in
    let inside : n - 1 ≡ there.size = omega arith in
    let same = first_alike text n above in
    let w = there.within in (
      omega (arith, w, length-drop 1 text, some_quote text quote),
      both _ _ (ap is_quote same ∙ quote)
          (ap (λ q. is_closed q false (drop 1 (take n text))) same
          ∙ ap (is_closed (slice_index text 0) false) (drop-take_less 1 n text ∙ ap (λ k. take k (drop 1 text)) inside) ∙ there.closed),
    )

literal_within : (text : List ℕ) (n : ℕ) → n ≡ closed_from 1 (slice_index text 0) false (drop 1 text) → is_quote (slice_index text 0) ≡ true → n ≤ length text
literal_within text zero is quote = omega arith
literal_within text (suc n) is quote = (literal_found text (suc n) quote is (omega arith)).0

pub literal_reach : (text : List ℕ) → Reach is_literal text (literal_len text)
unfolding literal_len
literal_reach text =
    let place = closed_from 1 (slice_index text 0) false (drop 1 text) in
    record {
      within = within_when (is_quote (slice_index text 0)) place (length text) (literal_within text place refl);
      found = λ above.
          let here = when (is_quote (slice_index text 0)) place above in
          subst (λ k. is_literal (take k text) ≡ true) (sym here.1) (literal_found text place here.0 refl (omega (arith, above, here.1))).1;
      longest = λ m inside passes.
          let above = some is_literal text m refl passes in
          let same = first_alike text m above in
          let quote = ap is_quote (sym same) ∙ and_left (is_quote (slice_index (take m text) 0)) _ passes in
          let closed = and_right (is_quote (slice_index (take m text) 0)) _ passes in
          let there = closed_longest 1 (slice_index text 0) false (drop 1 text) (m - 1) (omega (arith, length-drop 1 text))
          (ap (is_closed (slice_index text 0) false) (sym (drop-take_less 1 m text)) ∙ ap (λ q. is_closed q false (drop 1 (take m text))) (sym same) ∙ closed) in
          subst (λ b. m ≤ cond b place 0) (sym quote) (omega (arith, there));
    }

some_sign : (text : List ℕ) → list_any (λ sign. sign == slice_index text 0) signs ≡ true → 0 < length text
unfolding signs
some_sign [] is = absurd (not_false is refl)
some_sign (b ∷ text) is = omega arith

pub sign_reach : (text : List ℕ) → Reach is_sign text (sign_len text)
unfolding sign_len
sign_reach text = record {
  within = within_when (list_any (λ sign. sign == slice_index text 0) signs) 1 (length text) (λ is. some_sign text is);
  found = λ above.
      let here = when (list_any (λ sign. sign == slice_index text 0) signs) 1 above in
      subst (λ k. is_sign (take k text) ≡ true) (sym here.1)
      (both _ _ (ap (λ b. list_any (λ sign. sign == b) signs) (first_alike text 1 (omega arith)) ∙ here.0)
      (eq-eqb _ _ (length-take-le 1 text (some_sign text here.0))));
  longest = λ m inside passes.
      let one = eqb-true (length (take m text)) 1 (and_right (list_any (λ sign. sign == slice_index (take m text) 0) signs) _ passes) in
      let long = length-take-le m text inside in
      let is = ap (λ b. list_any (λ sign. sign == b) signs) (sym (first_alike text m (omega (arith, one, long)))) ∙ and_left (list_any (λ sign. sign == slice_index (take m text) 0) signs) _ passes in
      subst (λ b. m ≤ cond b 1 0) (sym is) (omega (arith, one, long));
}
