-- What is less than a frame.
use Rattle.std.proofs.Common.{◌≡◌, ℕ, ℤ, pos, negsuc, ◌<◌, ◌≤◌, ◌^◌, List, ◌++◌, length, take, drop, sym, ap, ◌∙◌, inl, inr, arith, length-append}
use Rattle.std.proofs.lemmas.Int.{ints}
use Rattle.std.proofs.lemmas.Nat.{from_be_bytes-to_be_bytes_4}
use Rattle.std.specs.Int.{w32, from_be_bytes, to_be_bytes, cast_unsigned}
use Rattle.host_model.specs.Frames.{size_bytes, IsOutside, IsPartial}

-- fewer bytes than a size has
pub size_is_partial : (max : ℕ) (bytes : List ℕ) → length bytes < 4 → IsPartial max bytes
size_is_partial max bytes few = record {
  rest = λ payload more is_payload e. omega (arith, ap length e);
  size = λ z more outside e. omega (arith, ap length e);
}

-- two sizes with the same bytes are one
same_size : (m n : ℕ) → m < 2 ^ 32 → n < 2 ^ 32 → to_be_bytes w32 m ≡ to_be_bytes w32 n → m ≡ n
same_size m n fits fits' e = sym (from_be_bytes-to_be_bytes_4 m fits) ∙ ap (from_be_bytes w32) e ∙ from_be_bytes-to_be_bytes_4 n fits'

-- a size that max allows isn't one that no frame has
allowed_is_inside : (max size : ℕ) (z : ℤ) → max < 2 ^ 31 → 1 ≤ size → size ≤ max → IsOutside max z → to_be_bytes w32 size ≡ size_bytes z → ⊥
allowed_is_inside max size (pos k) small some within outside e =
    let fits = outside.0.sfits in
    let same : size ≡ k = same_size size k (omega arith) (omega arith) e in
    elim outside.1 [ inl below ↦ omega (arith, ints, below) | inr above ↦ omega (arith, ints, above) ]
allowed_is_inside max size (negsuc k) small some within outside e =
    let fits = outside.0.sfits in
    let same : size ≡ cast_unsigned w32 (negsuc k) = same_size size (cast_unsigned w32 (negsuc k)) (omega arith) (omega arith) e in
    omega arith

-- a size that max allows, and fewer bytes than it says
pub payload_is_partial : (max size : ℕ) (bytes : List ℕ) → max < 2 ^ 31 → 1 ≤ size → size ≤ max → length bytes < size
    → IsPartial max (to_be_bytes w32 size ++ bytes)
payload_is_partial max size bytes small some within few = record {
  rest = λ payload more is_payload e.
      let within_max : length payload ≤ max = is_payload.within in
      let sizes : to_be_bytes w32 size ≡ to_be_bytes w32 (length payload) = ap (take 4) e in
      let same : size ≡ length payload = same_size size (length payload) (omega arith) (omega arith) sizes in
      let behind : bytes ≡ payload ++ more = ap (drop 4) e in
      omega (arith, ap length behind, length-append payload more);
  size = λ z more outside e. allowed_is_inside max size z small some within outside (ap (take 4) e);
}
