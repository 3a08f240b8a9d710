-- The loops over the groups of a varint.
use Rattle.std.proofs.Common.{◌≡◌, ℕ, suc, ◌+◌, ◌-◌, ◌*◌, ◌/◌, ◌%◌, ◌^◌, ◌<◌, ◌≤◌, Bool, cond, ltb, List, [], ◌∷◌, ◌++◌, length, get_or, take, drop, set, Result, Ok, Err, refl, sym, ap, ◌∙◌, arith, append_assoc}
use Rattle.std.proofs.lemmas.Bool.{lt-ltb, le-ltb}
use Rattle.std.proofs.lemmas.List.{drop_more, drop_all, take_more_set, length-set}
use Rattle.wire_num.specs.declared.fault.NumFault.{NumFault}
use Rattle.wire_num.specs.declared.fault.NumFault.TheVariants.{Short}
use Rattle.wire_num.specs.Decoding.{decoded_as}
use Rattle.wire_num.specs.Varint.{group_sum, groups_of, decode_groups}
use Rattle.wire_num.proofs.Fronts.{decoded}
use Rattle.wire_num.proofs.Groups.{after_first}
use Rattle.wire_num.proofs.Varints.{one_group_more}

same_meaning : {A B : Type 0} (f g : A → B) → ((x : A) → f x ≡ g x) → (r : Result (A × List ℕ) NumFault) → decoded_as f r ≡ decoded_as g r
same_meaning f g same (Ok x) = ap (λ y. decoded (y, x.1)) (same x.0)
same_meaning f g same (Err fault) = refl

meant_twice : {A B C : Type 0} (h : A → B) (f : B → C) (r : Result (A × List ℕ) NumFault) → decoded_as f (decoded_as h r) ≡ decoded_as (λ x. f (h x)) r
meant_twice h f (Ok x) = refl
meant_twice h f (Err fault) = refl

-- the lowest 64 bits of the number that groups make, behind a number and with this weight
abbrev pub low_64 : ℕ → ℕ → List ℕ → ℕ
low_64 number weight groups = (number + weight * group_sum groups) % 2 ^ 64

abbrev pub plain_64 : List ℕ → ℕ
plain_64 groups = group_sum groups % 2 ^ 64

-- what was counted of the first groups, and what those behind them add, is the number of all
pub record Counted (bytes : List ℕ) (most number weight i : ℕ) : Type 0 where
  pub within : i ≤ length bytes
  pub same : decoded_as plain_64 (decode_groups most bytes) ≡ decoded_as (low_64 number weight) (decode_groups (most - i) (drop i bytes))

-- the groups from a byte on
at_byte : (bytes : List ℕ) (most i b : ℕ) → i < most → i < length bytes → get_or bytes i 0 ≡ b
    → decode_groups (most - i) (drop i bytes) ≡ after_first (ltb b 128) (most - i - 1) b (drop (i + 1) bytes)
at_byte bytes most i b more inside is =
    ap (λ (t : List ℕ). decode_groups (most - i) t) (drop_more bytes i 0 inside)
    ∙ ap (λ (x : ℕ). decode_groups (most - i) (x ∷ drop (i + 1) bytes)) is
    ∙ ap (λ (n : ℕ). decode_groups n (b ∷ drop (i + 1) bytes)) (let e : most - i ≡ suc (most - i - 1) = omega arith in e)

pub counted_short : (bytes : List ℕ) (most number weight i : ℕ) → Counted bytes most number weight i → i < most → i ≡ length bytes → decoded_as plain_64 (decode_groups most bytes) ≡ Err Short
counted_short bytes most number weight i counted more end =
    counted.same
    ∙ ap (λ (t : List ℕ). decoded_as (low_64 number weight) (decode_groups (most - i) t)) (drop_all i bytes (omega arith))
    ∙ ap (λ (n : ℕ). decoded_as (low_64 number weight) (decode_groups n [])) (let e : most - i ≡ suc (most - i - 1) = omega arith in e)

-- a number to which the group of a byte was added
abbrev pub with_group : ℕ → ℕ → ℕ → ℕ
with_group number weight b = (number + weight * (b % 128) % 2 ^ 64) % 2 ^ 64

last_group : (number weight b : ℕ) → low_64 number weight (b ∷ []) ≡ with_group number weight b
last_group number weight b =
    sym (one_group_more (2 ^ 64) number weight (b % 128) 0)
    ∙ ap (λ (n : ℕ). n % 2 ^ 64) (let e : with_group number weight b + weight * 128 % 2 ^ 64 * 0 ≡ with_group number weight b = omega arith in e)
    ∙ (let small : with_group number weight b < 2 ^ 64 = omega arith in omega arith)

pub counted_last : (bytes : List ℕ) (most number weight i b : ℕ) → Counted bytes most number weight i → i < most → i < length bytes → get_or bytes i 0 ≡ b → b < 128
    → decoded_as plain_64 (decode_groups most bytes) ≡ Ok (with_group number weight b, drop (i + 1) bytes)
counted_last bytes most number weight i b counted more inside is last =
    counted.same
    ∙ ap (decoded_as (low_64 number weight)) (at_byte bytes most i b more inside is)
    ∙ ap (λ (t : Bool). decoded_as (low_64 number weight) (after_first t (most - i - 1) b (drop (i + 1) bytes))) (lt-ltb b 128 last)
    ∙ ap (λ (n : ℕ). decoded (n, drop (i + 1) bytes)) (last_group number weight b)

pub counted_more : (bytes : List ℕ) (most number weight i b : ℕ) → Counted bytes most number weight i → i < most → i < length bytes → get_or bytes i 0 ≡ b → 128 ≤ b
    → Counted bytes most (with_group number weight b) (weight * 128 % 2 ^ 64) (i + 1)
counted_more bytes most number weight i b counted more inside is large =
    let rest : Result (List ℕ × List ℕ) NumFault = decode_groups (most - i - 1) (drop (i + 1) bytes) in
    record {
      within = omega arith;
      same =
          counted.same
          ∙ ap (decoded_as (low_64 number weight)) (at_byte bytes most i b more inside is)
          ∙ ap (λ (t : Bool). decoded_as (low_64 number weight) (after_first t (most - i - 1) b (drop (i + 1) bytes))) (le-ltb b 128 large)
          ∙ meant_twice (λ groups. b ∷ groups) (low_64 number weight) rest
          ∙ same_meaning (λ groups. low_64 number weight (b ∷ groups)) (low_64 (with_group number weight b) (weight * 128 % 2 ^ 64))
          (λ groups. sym (one_group_more (2 ^ 64) number weight (b % 128) (group_sum groups))) rest
          ∙ ap (λ (n : ℕ). decoded_as (low_64 (with_group number weight b) (weight * 128 % 2 ^ 64)) (decode_groups n (drop (i + 1) bytes)))
          (let e : most - i - 1 ≡ most - (i + 1) = omega arith in e);
    }

-- ---- what is put

-- the first groups are there, and the rest has the others
pub record Put (number most : ℕ) (bytes : List ℕ) (rest i : ℕ) : Type 0 where
  pub same : groups_of most number ≡ take i bytes ++ groups_of (most - i) rest
  pub room : length bytes ≡ 10

groups_at : (most i rest : ℕ) → i < most → groups_of (most - i) rest ≡ cond (ltb rest 128) (rest ∷ []) ((128 + rest % 128) ∷ groups_of (most - i - 1) (rest / 128))
groups_at most i rest more = ap (λ (n : ℕ). groups_of n rest) (let e : most - i ≡ suc (most - i - 1) = omega arith in e)

pub put_last : (number most : ℕ) (bytes : List ℕ) (rest i : ℕ) → Put number most bytes rest i → i < most → most ≤ 10 → rest < 128 → take (i + 1) (set bytes i rest) ≡ groups_of most number
put_last number most bytes rest i put more few last =
    let inside : i < length bytes = omega (arith, put.room) in
    take_more_set bytes i rest inside
    ∙ sym (put.same ∙ ap (λ (t : List ℕ). take i bytes ++ t) (groups_at most i rest more ∙ ap (λ (t : Bool). cond t (rest ∷ []) ((128 + rest % 128) ∷ groups_of (most - i - 1) (rest / 128))) (lt-ltb rest 128 last)))

pub put_more : (number most : ℕ) (bytes : List ℕ) (rest i : ℕ) → Put number most bytes rest i → i < most → most ≤ 10 → 128 ≤ rest
    → Put number most (set bytes i (128 + rest % 128)) (rest / 128) (i + 1)
put_more number most bytes rest i put more few large =
    let inside : i < length bytes = omega (arith, put.room) in
    record {
      same =
          put.same
          ∙ ap (λ (t : List ℕ). take i bytes ++ t) (groups_at most i rest more ∙ ap (λ (t : Bool). cond t (rest ∷ []) ((128 + rest % 128) ∷ groups_of (most - i - 1) (rest / 128))) (le-ltb rest 128 large))
          ∙ sym (append_assoc (take i bytes) ((128 + rest % 128) ∷ []) (groups_of (most - i - 1) (rest / 128)))
          ∙ ap (λ (t : List ℕ). t ++ groups_of (most - i - 1) (rest / 128)) (sym (take_more_set bytes i (128 + rest % 128) inside))
          ∙ ap (λ (n : ℕ). take (i + 1) (set bytes i (128 + rest % 128)) ++ groups_of n (rest / 128)) (let e : most - i - 1 ≡ most - (i + 1) = omega arith in e);
      room = length-set bytes i (128 + rest % 128) ∙ put.room;
    }
