-- Numbers in front of what is left: zigzag varints, and a step that gives what they make.
use Rattle.std.specs.Prelude.{ℤ, pos, negsuc, FitsSigned}
use Rattle.std.specs.Int.{Width, w16, w32, w64, cast_signed}
use Rattle.std.proofs.Common.{◌≡◌, ℕ, suc, ◌+◌, ◌-◌, ◌*◌, ◌/◌, ◌%◌, ◌^◌, ◌<◌, ◌≤◌, Bool, true, false, cond, eqb, List, [], ◌∷◌, ◌++◌, length, Result, Ok, Err, refl, sym, ap, subst, ◌∙◌, arith}
use Rattle.std.proofs.Math.Facts.{sfits_to_z}
use Rattle.std.proofs.lemmas.Bool.{eqb-true, eqb-false, eq-eqb, ne_eqb}
use Rattle.std.proofs.lemmas.Int.{ints, to_z-of_z}
use Rattle.wire_num.specs.declared.fault.NumFault.{NumFault}
use Rattle.wire_num.specs.declared.fault.NumFault.TheVariants as number
use Rattle.wire_num.specs.Decoding.{decoded_as}
use Rattle.wire_num.specs.Encoded.{AreByteSized, Decodes}
use Rattle.wire_num.specs.Varint.{decode_groups, decode_varint, longest_varint, varint_of, IsVarint}
use Rattle.wire_num.specs.Zigzag.{zigzag, unzigzag}
use Rattle.wire_num.proofs.Fronts.{meant_fault}
use Rattle.wire_num.proofs.Groups.{short_found, short_only, long_found, long_only}
use Rattle.wire_num.proofs.Mapped.{mapped_decodes}
use Rattle.wire_num.proofs.Varints.{varint_decodes}
use Rattle.thrift_value.specs.Faults.{wire_fault_of}
use Rattle.thrift_value.specs.declared.wire_fault.WireFault.{WireFault}
use Rattle.thrift_value.specs.declared.wire_fault.WireFault.TheVariants.{Short, LongVarint}
use Rattle.wire_model.specs.Decoder.{Unread, ◌>>=◌, give, uncounted, uncounted_result}
use Rattle.wire_model.specs.Protocol.{IsInFront, StaysAs}
use Rattle.wire_model.proofs.Pieces.{given_no_fault}
use Rattle.wire_model.proofs.Staying.{then_stays, give_stays}
use Rattle.wire_model.proofs.Steps.{went_on, goes_on, failed, fails, ok_is}
use Rattle.wire_model.proofs.Uncounted.{uncounted_found, uncounted_only, uncounted_stays, uncounted_fault}
use Rattle.compact_codec.specs.Faults.{HasVarintFault}
use Rattle.compact_codec.specs.Numbers.{decode_zigzag, IsZigzag, low_16, decode_short, IsShort}

-- ---- zigzag both ways

pub zigzag_back : (z : ℤ) → unzigzag (zigzag z) ≡ z
zigzag_back (pos n) =
    ap (λ (b : Bool). cond b (pos (2 * n / 2)) (negsuc (2 * n / 2))) (eq-eqb (2 * n % 2) 0 (omega arith)) ∙ ap pos (let e : 2 * n / 2 ≡ n = omega arith in e)
zigzag_back (negsuc n) =
    ap (λ (b : Bool). cond b (pos ((2 * n + 1) / 2)) (negsuc ((2 * n + 1) / 2))) (ne_eqb ((2 * n + 1) % 2) 0 (omega arith)) ∙ ap negsuc (let e : (2 * n + 1) / 2 ≡ n = omega arith in e)

forth_if : (b : Bool) (n : ℕ) → eqb (n % 2) 0 ≡ b → zigzag (cond b (pos (n / 2)) (negsuc (n / 2))) ≡ n
forth_if true n test = let e : n % 2 ≡ 0 = eqb-true (n % 2) 0 test in omega arith
forth_if false n test = let e : n % 2 ≡ 0 → ⊥ = eqb-false (n % 2) 0 test in omega arith

pub zigzag_forth : (n : ℕ) → zigzag (unzigzag n) ≡ n
zigzag_forth n = forth_if (eqb (n % 2) 0) n refl

pub zigzag_decodes : (w : Width) → Decodes (decode_zigzag w) (IsZigzag w)
zigzag_decodes w =
    mapped_decodes (decode_varint w) unzigzag (IsVarint w) (IsZigzag w) (varint_decodes w)
    (λ n text is. subst (λ (k : ℕ). IsVarint w k text) (sym (zigzag_forth n)) is)
    (λ z text is. (zigzag z, is, zigzag_back z))

pub short_decodes : Decodes decode_short IsShort
short_decodes =
    mapped_decodes (decode_zigzag w32) low_16 (IsZigzag w32) IsShort (zigzag_decodes w32) (λ z text is. (z, is, refl)) (λ y text is. (is.0, is.1, sym is.2))

-- ---- ranges

pub low_fits : (z : ℤ) → FitsSigned w16 (low_16 z)
low_fits (pos n) = sfits_to_z {w = w16} {n = n % 2 ^ 16} (record { fits = omega arith })
low_fits (negsuc n) = sfits_to_z {w = w16} {n = 2 ^ 16 - 1 - n % 2 ^ 16} (record { fits = omega arith })

pub low_is : (z : ℤ) → FitsSigned w16 z → low_16 z ≡ z
low_is (pos n) f = let s = f.sfits in omega (arith, ints)
low_is (negsuc n) f =
    let s = f.sfits in
    ap (cast_signed w16) (let e : 2 ^ 16 - 1 - n % 2 ^ 16 ≡ 2 ^ 16 - suc n = omega arith in e) ∙ to_z-of_z w16 (negsuc n) f

pub zigzag_small : (z : ℤ) → FitsSigned w32 z → zigzag z < 2 ^ 32
zigzag_small (pos n) f = omega (arith, f.sfits)
zigzag_small (negsuc n) f = omega (arith, f.sfits)

pub zigzag_small_64 : (z : ℤ) → FitsSigned w64 z → zigzag z < 2 ^ 64
zigzag_small_64 (pos n) f = omega (arith, f.sfits)
zigzag_small_64 (negsuc n) f = omega (arith, f.sfits)

pub short_small : (z : ℤ) → FitsSigned w16 z → zigzag z < 2 ^ 32
short_small (pos n) f = omega (arith, f.sfits)
short_small (negsuc n) f = omega (arith, f.sfits)

pub zigzag_fits : (z : ℤ) → zigzag z < 2 ^ 32 → FitsSigned w32 z
zigzag_fits (pos n) small = record { sfits = omega (arith, small) }
zigzag_fits (negsuc n) small = record { sfits = omega (arith, small) }

pub zigzag_fits_64 : (z : ℤ) → zigzag z < 2 ^ 64 → FitsSigned w64 z
zigzag_fits_64 (pos n) small = record { sfits = omega (arith, small) }
zigzag_fits_64 (negsuc n) small = record { sfits = omega (arith, small) }

pub varint_small : (n : ℕ) (text : List ℕ) → IsVarint w32 n text → n < 2 ^ 32
varint_small n text is = omega (arith, is.spelled)

pub varint_small_64 : (n : ℕ) (text : List ℕ) → IsVarint w64 n text → n < 2 ^ 64
varint_small_64 n text is = omega (arith, is.spelled)

-- a varint is a byte at least
pub groups_some : (w : Width) (n : ℕ) (text : List ℕ) → IsVarint w n text → 1 ≤ length text
groups_some w n [] is = absurd is.groups
groups_some w n (b ∷ more) is = omega arith

-- ---- the faults of a varint, also where it stands for something

pub record FaultsAsVarint {A : Type 0} (decoder : List ℕ → Result (A × List ℕ) NumFault) (most : ℕ) : Type 0 where
  pub found : (bytes : List ℕ) (fault : NumFault) → decoder bytes ≡ Err fault → HasVarintFault most (wire_fault_of fault) bytes
  pub only : (bytes : List ℕ) (fault : NumFault) → HasVarintFault most (wire_fault_of fault) bytes → decoder bytes ≡ Err fault

groups_fault : (most : ℕ) (bytes : List ℕ) (fault : NumFault) → decode_groups most bytes ≡ Err fault → HasVarintFault most (wire_fault_of fault) bytes
groups_fault most bytes number.Short e = short_found most bytes e
groups_fault most bytes number.LongVarint e = long_found most bytes e

groups_fault_only : (most : ℕ) (bytes : List ℕ) (fault : NumFault) → HasVarintFault most (wire_fault_of fault) bytes → decode_groups most bytes ≡ Err fault
groups_fault_only most bytes number.Short h = short_only most bytes h.0 h.1
groups_fault_only most bytes number.LongVarint h = long_only most bytes h.0 h.1

pub faults_mapped : {A B : Type 0} (decoder : List ℕ → Result (A × List ℕ) NumFault) (most : ℕ) (meaning : A → B) → FaultsAsVarint decoder most
    → FaultsAsVarint (λ bytes. decoded_as meaning (decoder bytes)) most
faults_mapped decoder most meaning f = record {
  found = λ bytes fault e. f.found bytes fault (meant_fault meaning (decoder bytes) fault e);
  only = λ bytes fault h. ap (decoded_as meaning) (f.only bytes fault h);
}

pub varint_faults : (w : Width) → FaultsAsVarint (decode_varint w) (longest_varint w)
varint_faults w =
    faults_mapped (decode_groups (longest_varint w)) (longest_varint w) (varint_of w)
    (record { found = groups_fault (longest_varint w); only = groups_fault_only (longest_varint w) })

pub zigzag_faults : (w : Width) → FaultsAsVarint (decode_zigzag w) (longest_varint w)
zigzag_faults w = faults_mapped (decode_varint w) (longest_varint w) unzigzag (varint_faults w)

pub short_faults : FaultsAsVarint decode_short 5
short_faults = faults_mapped (decode_zigzag w32) 5 low_16 (zigzag_faults w32)

pub varint_fault_found : {A : Type 0} (decoder : List ℕ → Result (A × List ℕ) NumFault) (most : ℕ) → FaultsAsVarint decoder most
    → (unread : Unread) (fault : WireFault) → uncounted decoder unread ≡ Err fault → HasVarintFault most fault unread.bytes
varint_fault_found decoder most f unread fault e =
    let u = uncounted_fault decoder unread fault e in
    subst (λ (d : WireFault). HasVarintFault most d unread.bytes) u.2 (f.found unread.bytes u.0 u.1)

pub varint_fault_only : {A : Type 0} (decoder : List ℕ → Result (A × List ℕ) NumFault) (most : ℕ) → FaultsAsVarint decoder most
    → (unread : Unread) (fault : WireFault) → HasVarintFault most fault unread.bytes → uncounted decoder unread ≡ Err fault
varint_fault_only decoder most f unread Short h = ap (uncounted_result unread.budget) (f.only unread.bytes number.Short h)
varint_fault_only decoder most f unread LongVarint h = ap (uncounted_result unread.budget) (f.only unread.bytes number.LongVarint h)
varint_fault_only decoder most f unread fault h = absurd h

-- ---- a step that gives what was decoded as something

abbrev pub making : {A B : Type 0} → (List ℕ → Result (A × List ℕ) NumFault) → (A → B) → Unread → Result (B × Unread) WireFault
making decoder make = uncounted decoder >>= λ n. give (make n)

pub making_found : {A B : Type 0} (decoder : List ℕ → Result (A × List ℕ) NumFault) (IsEncoding : A → List ℕ → Type 0) (make : A → B) (IsText : B → List ℕ → Type 0)
    → Decodes decoder IsEncoding → ((x : A) (text : List ℕ) → IsEncoding x text → IsText (make x) text)
    → (before after : Unread) (y : B) → AreByteSized before.bytes → making decoder make before ≡ Ok (y, after) → IsInFront IsText y before after
making_found decoder IsEncoding make IsText d means before after y fits e =
    let one = went_on (uncounted decoder before) (λ n. give (make n)) (y, after) e in
    let f = uncounted_found decoder IsEncoding d before one.0.1 one.0.0 fits one.1 in
    subst (λ (z : _ × Unread). IsInFront IsText z.0 before z.1) (ok_is (make one.0.0, one.0.1) (y, after) one.2)
    (record { text = f.text; whole = f.whole; spells = means one.0.0 f.text f.spells; budget = f.budget })

pub making_only : {A B : Type 0} (decoder : List ℕ → Result (A × List ℕ) NumFault) (IsEncoding : A → List ℕ → Type 0) (make : A → B)
    → Decodes decoder IsEncoding → (x : A) (text more : List ℕ) (left : ℕ) → IsEncoding x text
    → making decoder make (record { bytes = text ++ more; budget = left }) ≡ Ok (make x, record { bytes = more; budget = left })
making_only decoder IsEncoding make d x text more left is =
    goes_on (uncounted decoder (record { bytes = text ++ more; budget = left })) (λ n. give (make n)) x (record { bytes = more; budget = left }) _
    (uncounted_only decoder IsEncoding d x text more left is) refl

pub making_stays : {A B : Type 0} (decoder : List ℕ → Result (A × List ℕ) NumFault) (IsEncoding : A → List ℕ → Type 0) (make : A → B) → Decodes decoder IsEncoding
    → StaysAs (making decoder make) (making decoder make)
making_stays decoder IsEncoding make d =
    then_stays (uncounted decoder) (uncounted decoder) (λ n. give (make n)) (λ n. give (make n)) (uncounted_stays decoder IsEncoding d) (λ n. give_stays (make n))

pub making_fault : {A B : Type 0} (decoder : List ℕ → Result (A × List ℕ) NumFault) (make : A → B) (unread : Unread) (fault : WireFault)
    → making decoder make unread ≡ Err fault → uncounted decoder unread ≡ Err fault
making_fault decoder make unread fault e = given_no_fault (uncounted decoder unread) make fault (failed (uncounted decoder unread) (λ n. give (make n)) fault e)

pub making_fails : {A B : Type 0} (decoder : List ℕ → Result (A × List ℕ) NumFault) (make : A → B) (unread : Unread) (fault : WireFault)
    → uncounted decoder unread ≡ Err fault → making decoder make unread ≡ Err fault
making_fails decoder make unread fault e = fails (uncounted decoder unread) (λ n. give (make n)) fault e
