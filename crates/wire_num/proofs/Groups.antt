-- The groups of a varint in front of bytes.
use Rattle.std.proofs.Common.{◌≡◌, ℕ, zero, suc, ◌<◌, ◌≤◌, Bool, true, false, cond, ltb, List, [], ◌∷◌, ◌++◌, length, take, Result, Ok, Err, refl, sym, ap, subst, ◌∙◌, arith}
use Rattle.std.proofs.lemmas.Bool.{ltb-true, ltb-false, lt-ltb, le-ltb}
use Rattle.std.proofs.lemmas.List.{length-append}
use Rattle.std.proofs.lemmas.List.Elements.{All-nil, All-cons, All-head, All-tail}
use Rattle.wire_num.specs.declared.fault.NumFault.{NumFault}
use Rattle.wire_num.specs.declared.fault.NumFault.TheVariants.{Short, LongVarint}
use Rattle.wire_num.specs.Decoding.{decoded_as}
use Rattle.wire_num.specs.Encoded.{AreByteSized, Decodes}
use Rattle.wire_num.specs.Varint.{AreGroups, decode_groups, HaveNoLast}
use Rattle.wire_num.proofs.Fronts.{decoded, decoded_is, meant, meant_fault}

-- groups stand in front, at most so many
pub record AreInFront (most : ℕ) (bytes groups behind : List ℕ) : Type 0 where
  pub whole : bytes ≡ groups ++ behind
  pub are : AreGroups groups
  pub len : length groups ≤ most

-- what stands in front of bytes, where this is the test of the first of them
abbrev pub after_first : Bool → ℕ → ℕ → List ℕ → Result (List ℕ × List ℕ) NumFault
after_first last most b bytes = cond last (decoded (b ∷ [], bytes)) (decoded_as (λ groups. b ∷ groups) (decode_groups most bytes))

pub more_groups : (b : ℕ) (groups : List ℕ) → 128 ≤ b → b < 256 → AreGroups groups → AreGroups (b ∷ groups)
more_groups b [] large small are = absurd are
more_groups b (c ∷ more) large small are = (large, small, are)

first_of : (b : ℕ) (more : List ℕ) → 1 ≤ length more → AreGroups (b ∷ more) → (128 ≤ b) × AreGroups more
first_of b [] some are = absurd (let f : ⊥ = omega arith in f)
first_of b (c ∷ more) some are = (are.0, are.2)

found_if : (test : Bool) (most b : ℕ) (bytes groups behind : List ℕ) → AreByteSized (b ∷ bytes) → ltb b 128 ≡ test
    → ((g h : List ℕ) → AreByteSized bytes → decode_groups most bytes ≡ Ok (g, h) → AreInFront most bytes g h)
    → after_first test most b bytes ≡ Ok (groups, behind) → AreInFront (suc most) (b ∷ bytes) groups behind
found_if true most b bytes groups behind fits test rest e =
    subst (λ (y : List ℕ × List ℕ). AreInFront (suc most) (b ∷ bytes) y.0 y.1) (decoded_is (b ∷ [], bytes) (groups, behind) e)
    (record { whole = refl; are = ltb-true b 128 test; len = omega arith })
found_if false most b bytes groups behind fits test rest e =
    let m = meant (λ g. b ∷ g) (decode_groups most bytes) groups behind e in
    let f = rest m.0 behind (All-tail (λ b. b < 256) b bytes fits) m.1 in
    subst (λ (y : List ℕ). AreInFront (suc most) (b ∷ bytes) y behind) m.2
    (record {
      whole = ap (λ (t : List ℕ). b ∷ t) f.whole;
      are = more_groups b m.0 (ltb-false b 128 test) (All-head (λ b. b < 256) b bytes fits) f.are;
      len = omega (arith, f.len);
    })

pub groups_found : (most : ℕ) (bytes groups behind : List ℕ) → AreByteSized bytes → decode_groups most bytes ≡ Ok (groups, behind) → AreInFront most bytes groups behind
groups_found zero bytes groups behind fits e = absurd cc
groups_found (suc most) [] groups behind fits e = absurd cc
groups_found (suc most) (b ∷ bytes) groups behind fits e = found_if (ltb b 128) most b bytes groups behind fits refl (λ g h. groups_found most bytes g h) e

pub groups_only : (most : ℕ) (groups behind : List ℕ) → AreGroups groups → length groups ≤ most → decode_groups most (groups ++ behind) ≡ Ok (groups, behind)
groups_only most [] behind are len = absurd are
groups_only zero (b ∷ more) behind are len = absurd (let f : ⊥ = omega arith in f)
groups_only (suc most) (b ∷ []) behind are len = ap (λ (t : Bool). after_first t most b behind) (lt-ltb b 128 are)
groups_only (suc most) (b ∷ c ∷ more) behind are len =
    ap (λ (t : Bool). after_first t most b (c ∷ more ++ behind)) (le-ltb b 128 are.0)
    ∙ ap (decoded_as (λ (g : List ℕ). b ∷ g)) (groups_only most (c ∷ more) behind are.2 (omega arith))

pub groups_cut : (most : ℕ) (front back : List ℕ) → AreGroups (front ++ back) → length (front ++ back) ≤ most → 1 ≤ length back → decode_groups most front ≡ Err Short
groups_cut zero [] back are len some = absurd (let f : ⊥ = omega arith in f)
groups_cut (suc most) [] back are len some = refl
groups_cut zero (b ∷ front) back are len some = absurd (let f : ⊥ = omega arith in f)
groups_cut (suc most) (b ∷ front) back are len some =
    let f = first_of b (front ++ back) (omega (arith, length-append front back)) are in
    ap (λ (t : Bool). after_first t most b front) (le-ltb b 128 f.0)
    ∙ ap (decoded_as (λ (g : List ℕ). b ∷ g)) (groups_cut most front back f.1 (omega arith) some)

stays_if : (test : Bool) (most b : ℕ) (bytes behind : List ℕ) (fault : NumFault) → (decode_groups most bytes ≡ Err fault → decode_groups most (bytes ++ behind) ≡ Err fault)
    → after_first test most b bytes ≡ Err fault → after_first test most b (bytes ++ behind) ≡ Err fault
stays_if true most b bytes behind fault rest e = absurd cc
stays_if false most b bytes behind fault rest e = ap (decoded_as (λ (g : List ℕ). b ∷ g)) (rest (meant_fault (λ g. b ∷ g) (decode_groups most bytes) fault e))

pub groups_stay : (most : ℕ) (bytes behind : List ℕ) (fault : NumFault) → decode_groups most bytes ≡ Err fault → (fault ≡ Short → ⊥) → decode_groups most (bytes ++ behind) ≡ Err fault
groups_stay zero bytes behind fault e other = e
groups_stay (suc most) [] behind fault e other = absurd (other cc)
groups_stay (suc most) (b ∷ bytes) behind fault e other = stays_if (ltb b 128) most b bytes behind fault (λ r. groups_stay most bytes behind fault r other) e

on_if : (test : Bool) (most b : ℕ) (bytes groups behind more : List ℕ) → ((g h : List ℕ) → decode_groups most bytes ≡ Ok (g, h) → decode_groups most (bytes ++ more) ≡ Ok (g, h ++ more))
    → after_first test most b bytes ≡ Ok (groups, behind) → after_first test most b (bytes ++ more) ≡ Ok (groups, behind ++ more)
on_if true most b bytes groups behind more rest e =
    ap (λ (y : List ℕ × List ℕ). decoded (y.0, y.1 ++ more)) (decoded_is (b ∷ [], bytes) (groups, behind) e)
on_if false most b bytes groups behind more rest e =
    let m = meant (λ g. b ∷ g) (decode_groups most bytes) groups behind e in
    ap (decoded_as (λ (g : List ℕ). b ∷ g)) (rest m.0 behind m.1) ∙ ap (λ (g : List ℕ). decoded (g, behind ++ more)) m.2

pub groups_go_on : (most : ℕ) (bytes groups behind more : List ℕ) → decode_groups most bytes ≡ Ok (groups, behind) → decode_groups most (bytes ++ more) ≡ Ok (groups, behind ++ more)
groups_go_on zero bytes groups behind more e = absurd cc
groups_go_on (suc most) [] groups behind more e = absurd cc
groups_go_on (suc most) (b ∷ bytes) groups behind more e = on_if (ltb b 128) most b bytes groups behind more (λ g h. groups_go_on most bytes g h more) e

-- the bytes are these groups, at most so many
abbrev pub AreTheGroups : ℕ → List ℕ → List ℕ → Type 0
AreTheGroups most groups text = (text ≡ groups) × AreGroups groups × (length groups ≤ most)

pub groups_decode : (most : ℕ) → Decodes (decode_groups most) (AreTheGroups most)
groups_decode most = record {
  found = λ bytes behind groups fits e.
      let f = groups_found most bytes groups behind fits e in
      record { encoding = groups; whole = f.whole; is = (refl, f.are, f.len) };
  only = λ groups text behind is. ap (λ (t : List ℕ). decode_groups most (t ++ behind)) is.0 ∙ groups_only most groups behind is.1 is.2;
  cut_off = λ groups front back is some.
      groups_cut most front back (subst AreGroups (sym is.0) is.1) (subst (λ (t : List ℕ). length t ≤ most) (sym is.0) is.2) some;
  stays = λ bytes behind fault e other. groups_stay most bytes behind fault e other;
  goes_on = λ bytes behind more groups e. groups_go_on most bytes groups behind more e;
}

-- ---- the faults

short_if : (test : Bool) (most b : ℕ) (bytes : List ℕ) → ltb b 128 ≡ test → (decode_groups most bytes ≡ Err Short → (length bytes < most) × HaveNoLast bytes)
    → after_first test most b bytes ≡ Err Short → (length (b ∷ bytes) < suc most) × HaveNoLast (b ∷ bytes)
short_if true most b bytes test rest e = absurd cc
short_if false most b bytes test rest e =
    let r = rest (meant_fault (λ g. b ∷ g) (decode_groups most bytes) Short e) in
    (omega (arith, r.0), All-cons (λ b. 128 ≤ b) b bytes (ltb-false b 128 test) r.1)

pub short_found : (most : ℕ) (bytes : List ℕ) → decode_groups most bytes ≡ Err Short → (length bytes < most) × HaveNoLast bytes
short_found zero bytes e = absurd cc
short_found (suc most) [] e = (omega arith, All-nil (λ b. 128 ≤ b))
short_found (suc most) (b ∷ bytes) e = short_if (ltb b 128) most b bytes refl (short_found most bytes) e

pub short_only : (most : ℕ) (bytes : List ℕ) → length bytes < most → HaveNoLast bytes → decode_groups most bytes ≡ Err Short
short_only zero bytes less none = absurd (let f : ⊥ = omega arith in f)
short_only (suc most) [] less none = refl
short_only (suc most) (b ∷ bytes) less none =
    ap (λ (t : Bool). after_first t most b bytes) (le-ltb b 128 (All-head (λ b. 128 ≤ b) b bytes none))
    ∙ ap (decoded_as (λ (g : List ℕ). b ∷ g)) (short_only most bytes (omega arith) (All-tail (λ b. 128 ≤ b) b bytes none))

long_if : (test : Bool) (most b : ℕ) (bytes : List ℕ) → ltb b 128 ≡ test → (decode_groups most bytes ≡ Err LongVarint → (most ≤ length bytes) × HaveNoLast (take most bytes))
    → after_first test most b bytes ≡ Err LongVarint → (suc most ≤ length (b ∷ bytes)) × HaveNoLast (take (suc most) (b ∷ bytes))
long_if true most b bytes test rest e = absurd cc
long_if false most b bytes test rest e =
    let r = rest (meant_fault (λ g. b ∷ g) (decode_groups most bytes) LongVarint e) in
    (omega (arith, r.0), All-cons (λ b. 128 ≤ b) b (take most bytes) (ltb-false b 128 test) r.1)

pub long_found : (most : ℕ) (bytes : List ℕ) → decode_groups most bytes ≡ Err LongVarint → (most ≤ length bytes) × HaveNoLast (take most bytes)
long_found zero bytes e = (omega arith, All-nil (λ b. 128 ≤ b))
long_found (suc most) [] e = absurd cc
long_found (suc most) (b ∷ bytes) e = long_if (ltb b 128) most b bytes refl (long_found most bytes) e

pub long_only : (most : ℕ) (bytes : List ℕ) → most ≤ length bytes → HaveNoLast (take most bytes) → decode_groups most bytes ≡ Err LongVarint
long_only zero bytes enough none = refl
long_only (suc most) [] enough none = absurd (let f : ⊥ = omega arith in f)
long_only (suc most) (b ∷ bytes) enough none =
    ap (λ (t : Bool). after_first t most b bytes) (le-ltb b 128 (All-head (λ b. 128 ≤ b) b (take most bytes) none))
    ∙ ap (decoded_as (λ (g : List ℕ). b ∷ g)) (long_only most bytes (omega arith) (All-tail (λ b. 128 ≤ b) b (take most bytes) none))
