-- A piece that is taken leaves less than a frame, just one frame, or just one size that no frame has.
use Rattle.std.proofs.Common.{◌≡◌, ℕ, ℤ, pos, negsuc, ◌+◌, ◌<◌, ◌≤◌, ◌^◌, Bool, true, false, nat_le, nat_lt, ◌&&◌, if◌then◌else◌, List, [], ◌++◌, length, refl, sym, ap, ◌∙◌, subst, inl, inr, arith, FitsSigned}
use Rattle.std.proofs.lemmas.Bool.{ltb-true, ltb-false, leb-true, leb-false, and_parts, and_cases}
use Rattle.std.proofs.lemmas.Int.{of_z-to_z, ints}
use Rattle.std.proofs.Math.Facts.{sfits_to_z}
use Rattle.std.proofs.lemmas.Nat.{be_bytes_4}
use Rattle.std.specs.Int.{w32, from_be_bytes, to_be_bytes, cast_signed, cast_unsigned}
use Rattle.host_model.specs.declared.cause.EndCause.TheVariants.{SizeFault}
use Rattle.host_model.specs.Frames.{IsOutside}
use Rattle.conn_state.specs.Phase.{ConnView, sizing, held, framing, ready, ended}
use Rattle.conn_state.specs.Step.{after_size, after_size_bytes, after_payload_bytes}
use Rattle.conn_state.specs.Run.{EachIsByte}
use Rattle.conn_state.specs.Split.{StaysWithin}
use Rattle.conn_state.proofs.Partials.{size_is_partial, payload_is_partial}

-- four bytes spell a number of 32 bits
from_be_bytes-fits : (bytes : List ℕ) → EachIsByte bytes → from_be_bytes w32 bytes < 2 ^ 32
from_be_bytes-fits bytes are = omega (arith, are 0, are 1, are 2, are 3)

-- a size of 0 or above max is one that no frame has
outside_by_test : (max n : ℕ) → FitsSigned w32 (pos n) → (nat_le 1 n && nat_le n max) ≡ false → IsOutside max (pos n)
outside_by_test max n fits none =
    elim (and_cases (nat_le 1 n) (nat_le n max) none) [
      | inl below ↦ (fits, inl (omega (arith, ints, leb-false 1 n below)))
      | inr above ↦ (fits, inr (omega (arith, ints, leb-false n max above)))
    ]

-- a size by its test: one that max allows, or one that no frame has
piece_of_test : (max n frames : ℕ) (b : Bool) → max < 2 ^ 31 → FitsSigned w32 (pos n) → (nat_le 1 n && nat_le n max) ≡ b
    → StaysWithin max frames (to_be_bytes w32 n) frames (if b then held n else ended (SizeFault (pos n)))
piece_of_test max n frames true small fits test =
    let parts = and_parts (nat_le 1 n) (nat_le n max) test in
    let some : 1 ≤ n = leb-true 1 n parts.0 in
    let within : n ≤ max = leb-true n max parts.1 in
    record {
      partial = payload_is_partial max n [] small some within some;
      same = refl;
      holds = record { some = some; within = within; fewer = some };
      counted = refl;
    }
piece_of_test max n frames false small fits test =
    record { outside = outside_by_test max n fits test; same = refl; counted = refl }

-- a whole size, as two's complement
piece_of_size : (max n frames : ℕ) (z : ℤ) → max < 2 ^ 31 → n < 2 ^ 32 → cast_signed w32 n ≡ z
    → StaysWithin max frames (to_be_bytes w32 n) frames (after_size max z)
piece_of_size max n frames (pos k) small fits is =
    let same : n ≡ k = sym (of_z-to_z w32 n fits) ∙ ap (cast_unsigned w32) is in
    let signed : FitsSigned w32 (pos k) = subst (λ (z : ℤ). FitsSigned w32 z) is (sfits_to_z {w = w32} {n = n} (record { fits = fits })) in
    subst (λ (m : ℕ). StaysWithin max frames (to_be_bytes w32 m) frames (after_size max (pos k))) (sym same)
    (piece_of_test max k frames (nat_le 1 k && nat_le k max) small signed refl)
piece_of_size max n frames (negsuc k) small fits is =
    let same : n ≡ cast_unsigned w32 (negsuc k) = sym (of_z-to_z w32 n fits) ∙ ap (cast_unsigned w32) is in
    let signed : FitsSigned w32 (negsuc k) = subst (λ (z : ℤ). FitsSigned w32 z) is (sfits_to_z {w = w32} {n = n} (record { fits = fits })) in
    record { outside = (signed, inl (omega (arith, ints))); same = ap (to_be_bytes w32) same; counted = refl }

-- the bytes of a size, by whether all of them are there
piece_by_test : (max frames : ℕ) (bytes : List ℕ) (b : Bool) → max < 2 ^ 31 → EachIsByte bytes → length bytes ≤ 4 → nat_lt (length bytes) 4 ≡ b
    → StaysWithin max frames bytes frames (if b then sizing bytes else after_size max (cast_signed w32 (from_be_bytes w32 bytes)))
piece_by_test max frames bytes true small are most test =
    let few : length bytes < 4 = ltb-true (length bytes) 4 test in
    record { partial = size_is_partial max bytes few; same = refl; holds = (few, are); counted = refl }
piece_by_test max frames bytes false small are most test =
    let four : length bytes ≡ 4 = omega (arith, ltb-false (length bytes) 4 test) in
    let n = from_be_bytes w32 bytes in
    let spelled : to_be_bytes w32 n ≡ bytes = be_bytes_4 bytes n four are refl in
    subst (λ (xs : List ℕ). StaysWithin max frames xs frames (after_size max (cast_signed w32 n))) spelled
    (piece_of_size max n frames (cast_signed w32 n) small (from_be_bytes-fits bytes are) refl)

-- the bytes of a size
pub piece_of_size_bytes : (max frames : ℕ) (bytes : List ℕ) → max < 2 ^ 31 → EachIsByte bytes → length bytes ≤ 4
    → StaysWithin max frames bytes frames (after_size_bytes max bytes)
piece_of_size_bytes max frames bytes small are most =
    piece_by_test max frames bytes (nat_lt (length bytes) 4) small are most refl

-- the bytes of a payload, by whether all of them are there
payload_by_test : (max frames size : ℕ) (bytes : List ℕ) (b : Bool) → max < 2 ^ 31 → 1 ≤ size → size ≤ max → length bytes ≤ size
    → nat_lt (length bytes) size ≡ b
    → (let view : ConnView = if b then record { frames = frames; phase = framing size bytes } else record { frames = frames + 1; phase = ready frames bytes } in
    StaysWithin max frames (to_be_bytes w32 size ++ bytes) view.frames view.phase)
payload_by_test max frames size bytes true small some within most test =
    let few : length bytes < size = ltb-true (length bytes) size test in
    record {
      partial = payload_is_partial max size bytes small some within few;
      same = refl;
      holds = record { some = some; within = within; fewer = few };
      counted = refl;
    }
payload_by_test max frames size bytes false small some within most test =
    let whole : length bytes ≡ size = omega (arith, ltb-false (length bytes) size test) in
    record {
      allowed = record { some = omega arith; within = omega arith };
      same = ap (λ (n : ℕ). to_be_bytes w32 n ++ bytes) (sym whole);
      numbered = refl;
      counted = refl;
    }

-- the bytes of a payload
pub piece_of_payload_bytes : (max frames size : ℕ) (bytes : List ℕ) → max < 2 ^ 31 → 1 ≤ size → size ≤ max → length bytes ≤ size
    → StaysWithin max frames (to_be_bytes w32 size ++ bytes) (after_payload_bytes frames size bytes).frames (after_payload_bytes frames size bytes).phase
piece_of_payload_bytes max frames size bytes small some within most =
    payload_by_test max frames size bytes (nat_lt (length bytes) size) small some within most refl
