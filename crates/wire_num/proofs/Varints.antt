-- Varints: the numbers that their groups make.
use Rattle.std.specs.Int.{Width, w32, w64}
use Rattle.std.proofs.Common.{◌≡◌, ℕ, zero, suc, ◌+◌, ◌*◌, ◌/◌, ◌%◌, ◌^◌, ◌<◌, ◌≤◌, Bool, true, false, cond, ltb, List, [], ◌∷◌, length, refl, sym, ap, subst, ◌∙◌, arith}
use Rattle.std.proofs.Math.Nat.{add-mod-mod, mod-add-mod}
use Rattle.std.proofs.lemmas.Bool.{ltb-true, ltb-false, lt-ltb}
use Rattle.std.proofs.lemmas.Nat.{div_below, mul-mod_first}
use Rattle.wire_num.specs.Encoded.{Decodes}
use Rattle.wire_num.specs.Varint.{group_sum, varint_of, longest_varint, AreGroups, IsVarint, groups_of, decode_groups, decode_varint}
use Rattle.wire_num.proofs.Mapped.{mapped_decodes}
use Rattle.wire_num.proofs.Groups.{more_groups, AreTheGroups, groups_decode}

pub varint_decodes : (w : Width) → Decodes (decode_varint w) (IsVarint w)
varint_decodes w =
    mapped_decodes (decode_groups (longest_varint w)) (varint_of w) (AreTheGroups (longest_varint w)) (IsVarint w) (groups_decode (longest_varint w))
    (λ groups text is. record {
      groups = subst AreGroups (sym is.0) is.1;
      len = subst (λ (t : List ℕ). length t ≤ longest_varint w) (sym is.0) is.2;
      spelled = ap (varint_of w) (sym is.0);
    })
    (λ number text is. (text, (refl, is.groups, is.len), sym is.spelled))

-- ---- what is put

-- the groups of a number that has so many
pub record AreGroupsOf (most number : ℕ) (groups : List ℕ) : Type 0 where
  pub are : AreGroups groups
  pub len : length groups ≤ most
  pub sum : group_sum groups ≡ number

groups_if : (test : Bool) (most n : ℕ) → ltb n 128 ≡ test → (n / 128 < 128 ^ most → AreGroupsOf most (n / 128) (groups_of most (n / 128))) → n < 128 ^ suc most
    → AreGroupsOf (suc most) n (cond test (n ∷ []) ((128 + n % 128) ∷ groups_of most (n / 128)))
groups_if true most n test rest small =
    let less : n < 128 = ltb-true n 128 test in
    record { are = less; len = omega arith; sum = omega arith }
groups_if false most n test rest small =
    let r = rest (div_below n 128 (128 ^ most) (omega arith) (omega (arith, small))) in
    record {
      are = more_groups (128 + n % 128) (groups_of most (n / 128)) (omega arith) (omega arith) r.are;
      len = omega (arith, r.len);
      sum = omega (arith, r.sum);
    }

pub groups_are_of : (most n : ℕ) → n < 128 ^ most → 1 ≤ most → AreGroupsOf most n (groups_of most n)
groups_are_of zero n small some = absurd (let f : ⊥ = omega arith in f)
groups_are_of (suc zero) n small some =
    let less : n < 128 = omega (arith, small) in
    subst (λ (t : Bool). AreGroupsOf 1 n (cond t (n ∷ []) ((128 + n % 128) ∷ []))) (sym (lt-ltb n 128 less))
    (record { are = less; len = omega arith; sum = omega arith })
groups_are_of (suc (suc most)) n small some = groups_if (ltb n 128) (suc most) n refl (λ s. groups_are_of (suc most) (n / 128) s (omega arith)) small

pub put_32 : (number : ℕ) → number < 2 ^ 32 → IsVarint w32 number (groups_of 5 number)
put_32 number small =
    let g = groups_are_of 5 number (omega (arith, small)) (omega arith) in
    record { groups = g.are; len = g.len; spelled = omega (arith, g.sum, small) }

pub put_64 : (number : ℕ) → number < 2 ^ 64 → IsVarint w64 number (groups_of 10 number)
put_64 number small =
    let g = groups_are_of 10 number (omega (arith, small)) (omega arith) in
    record { groups = g.are; len = g.len; spelled = omega (arith, g.sum, small) }

-- ---- none is shorter

short_if : (test : Bool) (most n : ℕ) (bytes : List ℕ) → ltb n 128 ≡ test → ((more : List ℕ) → AreGroups more → n / 128 ≤ group_sum more → length (groups_of most (n / 128)) ≤ length more)
    → AreGroups bytes → n ≤ group_sum bytes → length (cond test (n ∷ []) ((128 + n % 128) ∷ groups_of most (n / 128))) ≤ length bytes
short_if test most n [] is rest are large = absurd are
short_if true most n (b ∷ more) is rest are large = omega arith
short_if false most n (b ∷ []) is rest are large = absurd (let f : ⊥ = omega (arith, ltb-false n 128 is) in f)
short_if false most n (b ∷ c ∷ more) is rest are large =
    let r = rest (c ∷ more) are.2 (omega (arith, large)) in omega (arith, r)

pub groups_are_shortest : (most n : ℕ) (bytes : List ℕ) → AreGroups bytes → n ≤ group_sum bytes → length (groups_of most n) ≤ length bytes
groups_are_shortest zero n bytes are large = omega arith
groups_are_shortest (suc most) n bytes are large = short_if (ltb n 128) most n bytes refl (λ more. groups_are_shortest most (n / 128) more) are large

pub shortest_32 : (number : ℕ) (bytes : List ℕ) → IsVarint w32 number bytes → length (groups_of 5 number) ≤ length bytes
shortest_32 number bytes is =
    let s : number ≡ group_sum bytes % 2 ^ 32 = is.spelled in
    groups_are_shortest 5 number bytes is.groups (omega (arith, s))

pub shortest_64 : (number : ℕ) (bytes : List ℕ) → IsVarint w64 number bytes → length (groups_of 10 number) ≤ length bytes
shortest_64 number bytes is =
    let s : number ≡ group_sum bytes % 2 ^ 64 = is.spelled in
    groups_are_shortest 10 number bytes is.groups (omega (arith, s))

-- ---- one group more

-- a number to which a group was added, with the groups behind it, below a modulus
pub one_group_more : (m number weight g s : ℕ) → ((number + weight * g % m) % m + weight * 128 % m * s) % m ≡ (number + weight * (g + 128 * s)) % m
one_group_more m number weight g s =
    let k : ℕ = number + weight * g % m in
    mod-add-mod k m (weight * 128 % m * s)
    ∙ sym (add-mod-mod k (weight * 128 % m * s) m)
    ∙ ap (λ (x : ℕ). (k + x) % m) (mul-mod_first (weight * 128) s m)
    ∙ add-mod-mod k (weight * 128 * s) m
    ∙ ap (λ (x : ℕ). x % m) (let e : k + weight * 128 * s ≡ (number + weight * 128 * s) + weight * g % m = omega arith in e)
    ∙ add-mod-mod (number + weight * 128 * s) (weight * g) m
    ∙ ap (λ (x : ℕ). x % m) (let e : (number + weight * 128 * s) + weight * g ≡ number + weight * (g + 128 * s) = omega arith in e)
