-- More bytes mend what is Short, where only few bytes can be Short.
use Rattle.std.proofs.Common.{◌≡◌, ℕ, zero, suc, ◌<◌, List, [], ◌∷◌, ◌++◌, length, get_or, Result, Err, refl, ap, arith}
use Rattle.std.proofs.lemmas.List.{length-append}
use Rattle.std.proofs.lemmas.List.Elements.{All-append}
use Rattle.wire_num.specs.Encoded.{AreByteSized}
use Rattle.thrift_value.specs.declared.wire_fault.WireFault.{WireFault}
use Rattle.thrift_value.specs.declared.wire_fault.WireFault.TheVariants.{Short}
use Rattle.wire_model.specs.Decoder.{Unread}
use Rattle.wire_model.specs.Protocol.{and_more}

-- so many bytes 0; it may be 2^31 of them, so it isn't opened
unfoldable zeros : ℕ → List ℕ
zeros zero = []
zeros (suc n) = 0 ∷ zeros n

zeros_len : (n : ℕ) → length (zeros n) ≡ n
unfolding zeros
zeros_len zero = refl
zeros_len (suc n) = ap suc (zeros_len n)

zeros_fit : (n k d : ℕ) → k < length (zeros n) → get_or (zeros n) k d < 256
unfolding zeros
zeros_fit zero k d lt = absurd (let f : ⊥ = omega arith in f)
zeros_fit (suc n) zero d lt = omega arith
zeros_fit (suc n) (suc k) d lt = zeros_fit n k d (omega arith)

pub mended : {A : Type 0} (decoder : Unread → Result (A × Unread) WireFault) (limit : ℕ)
    → ((unread : Unread) → AreByteSized unread.bytes → decoder unread ≡ Err Short → length unread.bytes < limit)
    → (unread : Unread) → AreByteSized unread.bytes → decoder unread ≡ Err Short → (more : List ℕ) × AreByteSized more × (decoder (and_more more unread) ≡ Err Short → ⊥)
mended decoder limit bound unread fits e = (
  zeros limit,
  zeros_fit limit,
  λ again.
      let less : length (unread.bytes ++ zeros limit) < limit = bound (and_more (zeros limit) unread) (All-append (λ b. b < 256) unread.bytes (zeros limit) fits (zeros_fit limit)) again in
      let f : ⊥ = omega (arith, length-append unread.bytes (zeros limit), zeros_len limit) in
      f,
)
