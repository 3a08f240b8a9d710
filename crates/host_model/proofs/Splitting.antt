-- The frame whose size stands in front of bytes.
use Rattle.std.proofs.Common.{◌≡◌, ℕ, zero, suc, ◌<◌, ◌≤◌, List, [], ◌∷◌, ◌++◌, length, take, drop, get_or, sym, ◌∙◌, arith, append_assoc, take-append-drop, length-take}
use Rattle.std.specs.Int.{w32, to_be_bytes, from_be_bytes}
use Rattle.std.proofs.lemmas.Nat.{be_bytes_4}
use Rattle.host_model.specs.Frames.{frame}

front_fits : (bytes : List ℕ) (n i : ℕ) → ((i : ℕ) → get_or bytes i 0 < 256) → get_or (take n bytes) i 0 < 256
front_fits bytes zero i fits = omega arith
front_fits [] (suc n) i fits = omega arith
front_fits (b ∷ bytes) (suc n) zero fits = fits 0
front_fits (b ∷ bytes) (suc n) (suc i) fits = front_fits bytes n i (λ k. fits (suc k))

-- the frame whose size stands in front
pub one_in_front : (bytes payload behind : List ℕ) (n : ℕ) → 4 ≤ length bytes → ((i : ℕ) → get_or bytes i 0 < 256)
    → n ≡ from_be_bytes w32 (take 4 bytes) → length payload ≡ n → payload ≡ take n (drop 4 bytes) → behind ≡ drop n (drop 4 bytes)
    → bytes ≡ frame payload ++ behind
one_in_front bytes payload behind n l fits is len p b =
    let size : List ℕ = to_be_bytes w32 (length payload) in
    let four : length (take 4 bytes) ≡ 4 = omega (arith, length-take 4 bytes) in
    let s : size ≡ take 4 bytes = be_bytes_4 (take 4 bytes) (length payload) four (λ i. front_fits bytes 4 i fits) (len ∙ is) in
    let r : drop 4 bytes ≡ payload ++ behind = sym (take-append-drop n (drop 4 bytes)) ∙ (λ i. sym p i ++ sym b i) in
    sym (take-append-drop 4 bytes) ∙ (λ i. sym s i ++ r i) ∙ sym (append_assoc size payload behind)
