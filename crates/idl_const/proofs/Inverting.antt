-- What was evaluated before something came to a value.
use Rattle.std.proofs.Common.{◌≡◌, ℕ, zero, suc, ◌≤◌, nat_le, Bool, true, false, Ok, Err, refl, ap, arith}
use Rattle.std.proofs.lemmas.Bool.Decides.{nat_tests}
use Rattle.idl_token.specs.declared.Place.{Place}
use Rattle.thrift_value.specs.Tree.{Tree}
use Rattle.check_model.specs.Worths.{ConstFlaw, Worth, valued, flawed, and_next, seen_at, only_if, wrong_kind, too_large, one_more, one_level, most_const_values}
use Rattle.check_model.specs.Scalars.{OneWorth}
use Rattle.check_model.specs.Evaluation.{judged, single, opened}

in_room : (count : ℕ) → nat_le (suc count) 4000000 ≡ true → suc count ≤ 4000000
in_room count e = grind (arith, nat_tests)

module _ {A : Type 0} where
  -- a value and a count that are the same
  pub same_valued : (x y : A) (m n : ℕ) → valued x m ≡ valued y n → (x ≡ y) × (m ≡ n)
  same_valued x y m n e = (cc, cc)

  pub no_flaw : (at : Place) (flaw : ConstFlaw) (y : A) (n : ℕ) → flawed at flaw ≡ valued y n → ⊥
  no_flaw at flaw y n e = cc

  -- what is seen from a place
  pub seen_valued : (at : Place) (w : Worth A) (y : A) (n : ℕ) → seen_at at w ≡ valued y n → w ≡ valued y n
  seen_valued at (valued x m) y n e = e
  seen_valued at (flawed inside flaw) y n e = absurd (no_flaw at flaw y n e)

  pub only_valued : (b : Bool) (at : Place) (flaw : ConstFlaw) (w : Worth A) (y : A) (n : ℕ) → only_if b at flaw w ≡ valued y n → (b ≡ true) × (w ≡ valued y n)
  only_valued true at flaw w y n e = (refl, e)
  only_valued false at flaw w y n e = absurd (no_flaw at flaw y n e)

  level_valued : (at : Place) (levels : ℕ) (next : ℕ → Worth A) (y : A) (n : ℕ) → one_level at levels next ≡ valued y n → (left : ℕ) × (levels ≡ suc left) × (next left ≡ valued y n)
  level_valued at zero next y n e = absurd (no_flaw at too_large y n e)
  level_valued at (suc left) next y n e = (left, refl, e)

  -- one value more
  pub more_valued : (at : Place) (count : ℕ) (next : ℕ → Worth A) (y : A) (n : ℕ) → one_more at count next ≡ valued y n → (suc count ≤ 4000000) × (next (suc count) ≡ valued y n)
  unfolding most_const_values
  more_valued at count next y n e =
      let both = only_valued (nat_le (suc count) 4000000) at too_large (next (suc count)) y n e in
      (in_room count both.0, both.1)

-- what came before a part
pub record Came {A B : Type 0} (w : Worth A) (next : A → ℕ → Worth B) (y : B) (n : ℕ) : Type 0 where
  pub first : A
  pub between : ℕ
  pub before : w ≡ valued first between
  pub behind : next first between ≡ valued y n

pub next_valued : {A B : Type 0} (w : Worth A) (next : A → ℕ → Worth B) (y : B) (n : ℕ) → and_next w next ≡ valued y n → Came w next y n
next_valued (valued x m) next y n e = record { first = x; between = m; before = refl; behind = e }
next_valued (flawed at flaw) next y n e = absurd (no_flaw at flaw y n e)

judged_valued : (at : Place) (count : ℕ) (worth : OneWorth) (y : Tree) (n : ℕ) → judged at count worth ≡ valued y n → (worth ≡ Ok y) × (count ≡ n)
judged_valued at count (Ok x) y n e = (ap Ok (same_valued x y count n e).0, (same_valued x y count n e).1)
judged_valued at count (Err flaw) y n e = absurd (no_flaw at flaw y n e)

-- one value alone
pub single_valued : (at : Place) (count : ℕ) (worth : OneWorth) (y : Tree) (n : ℕ) → single at count worth ≡ valued y n → (worth ≡ Ok y) × (suc count ≡ n) × (n ≤ 4000000)
single_valued at count worth y n e =
    let more = more_valued at count (λ m. judged at m worth) y n e in
    let one = judged_valued at (suc count) worth y n more.1 in
    (one.0, one.1, omega (arith, more.0, one.1))

-- a container that is opened
pub record Opened (levels count : ℕ) (fits : Bool) (inside : ℕ → ℕ → Worth Tree) (y : Tree) (n : ℕ) : Type 0 where
  pub left : ℕ
  pub less : levels ≡ suc left
  pub fitting : fits ≡ true
  pub room : suc count ≤ 4000000
  pub made : inside left (suc count) ≡ valued y n

pub opened_valued : (at : Place) (fits : Bool) (levels count : ℕ) (inside : ℕ → ℕ → Worth Tree) (y : Tree) (n : ℕ) → opened at fits levels count inside ≡ valued y n → Opened levels count fits inside y n
opened_valued at fits levels count inside y n e =
    let more = more_valued at count (λ m. only_if fits at wrong_kind (one_level at levels (λ left. inside left m))) y n e in
    let form = only_valued fits at wrong_kind (one_level at levels (λ left. inside left (suc count))) y n more.1 in
    let level = level_valued at levels (λ left. inside left (suc count)) y n form.1 in
    record { left = level.0; less = level.1; fitting = form.0; room = more.0; made = level.2 }
