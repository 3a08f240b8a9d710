-- How many bytes complete the size or the payload that bytes in memory begin.
use Rattle.std.proofs.Common.{◌≡◌, ℕ, ℤ, pos, negsuc, ◌+◌, ◌-◌, ◌<◌, ◌≤◌, ◌^◌, ◌⊎◌, Bool, true, false, nat_lt, if◌then◌else◌, FitsSigned, List, ◌++◌, length, take, drop, refl, sym, ap, ◌∙◌, subst, inl, inr, arith, append_assoc, take-append-drop, length-take, length-drop}
use Rattle.std.specs.Int.{w32, to_be_bytes, from_be_bytes, cast_signed, cast_unsigned}
use Rattle.std.proofs.lemmas.Bool.{cases_lt, ltb-true, ltb-false}
use Rattle.std.proofs.lemmas.Int.{of_z-to_z, ints}
use Rattle.std.proofs.lemmas.Nat.{be_bytes_4, from_be_bytes-to_be_bytes_4}
use Rattle.std.proofs.Math.Facts.{sfits_to_z}
use Rattle.host_model.specs.Frames.{IsRest, IsOutside, HasNoBadSize, size_bytes}
use Rattle.host_model.proofs.Lists.{append_parts}
use Rattle.host_model.proofs.Splitting.{one_in_front}
use Rattle.script_model.specs.Feeding.{Completes}
use Rattle.script_model.proofs.Causes.{unsigned_small}
use Rattle.script_model.proofs.Holding.{AreBytes, bytes_taken}
use Rattle.loop_conns.specs.Woven.{missing_of}

-- no payload has a size that no frame has
not_outside : (max : ℕ) (z : ℤ) (size : ℕ) → max < 2 ^ 31 → 1 ≤ size → size ≤ max → IsOutside max z → cast_unsigned w32 z ≡ size → ⊥
not_outside max (pos k) size small some within outside e =
    let fits = outside.0.sfits in
    elim outside.1 [ inl below ↦ omega (arith, ints, below, e) | inr above ↦ omega (arith, ints, above, e) ]
not_outside max (negsuc k) size small some within outside e = let fits = outside.0.sfits in omega (arith, e)

-- no frame stands in front where such a size does
pub bad_rest : (max : ℕ) (z : ℤ) (more : List ℕ) → max < 2 ^ 31 → IsOutside max z → IsRest max (size_bytes z ++ more)
bad_rest max z more small outside payload others is e =
    let within : length payload ≤ max = is.within in
    let p = append_parts (size_bytes z) (to_be_bytes w32 (length payload)) more (payload ++ others) refl (e ∙ append_assoc (to_be_bytes w32 (length payload)) payload others) in
    let size : cast_unsigned w32 z ≡ length payload =
    sym (from_be_bytes-to_be_bytes_4 (cast_unsigned w32 z) (unsigned_small z outside.0)) ∙ ap (from_be_bytes w32) p.0
    ∙ from_be_bytes-to_be_bytes_4 (length payload) (omega (arith, within, small)) in
    not_outside max z (length payload) small is.some within outside size

-- a number of four bytes is a payload's size, where it is none that no frame has
is_size : (max n : ℕ) (z : ℤ) → n < 2 ^ 32 → cast_signed w32 n ≡ z → ((bad : ℤ) → IsOutside max bad → to_be_bytes w32 n ≡ size_bytes bad → ⊥) → (1 ≤ n) × (n ≤ max)
is_size max n (pos k) fits is none = go (cases_lt 0 n) (cases_lt max n)
  where
    same : n ≡ k
    same = sym (of_z-to_z w32 n fits) ∙ ap (cast_unsigned w32) is

    signed : FitsSigned w32 (pos k)
    signed = subst (FitsSigned w32) is (sfits_to_z {w = w32} {n = n} (record { fits = fits }))

    go : (0 < n) ⊎ (n ≤ 0) → (max < n) ⊎ (n ≤ max) → (1 ≤ n) × (n ≤ max)
    go (inl some) (inr within) = (some, within)
    go (inl some) (inl above) = absurd (none (pos k) (signed, inr (omega (arith, ints, same, above))) (ap (to_be_bytes w32) same))
    go (inr zeroth) other = absurd (none (pos k) (signed, inl (omega (arith, ints, same, zeroth))) (ap (to_be_bytes w32) same))
is_size max n (negsuc k) fits is none =
    let same : n ≡ cast_unsigned w32 (negsuc k) = sym (of_z-to_z w32 n fits) ∙ ap (cast_unsigned w32) is in
    let signed : FitsSigned w32 (negsuc k) = subst (FitsSigned w32) is (sfits_to_z {w = w32} {n = n} (record { fits = fits })) in
    absurd (none (negsuc k) (signed, inl (omega (arith, ints))) (ap (to_be_bytes w32) same))

four_fit : (bytes : List ℕ) → AreBytes bytes → from_be_bytes w32 bytes < 2 ^ 32
four_fit bytes are = omega (arith, are 0, are 1, are 2, are 3)

module _ (max : ℕ) (rest : List ℕ) (small : max < 2 ^ 31) (are : AreBytes rest) (no_bad : HasNoBadSize max rest) (no_frame : IsRest max rest) where
  -- the size in front
  abbrev size : ℕ
  size = from_be_bytes w32 (take 4 rest)

  -- where it is whole
  behind_size : 4 ≤ length rest → Completes max rest ((4 + size) - length rest)
  behind_size l =
      let few : length rest < 4 + size = go (cases_lt (length rest) (4 + size)) in
      let payload : length (drop 4 rest) ≡ length rest - 4 = length-drop 4 rest in
      (omega arith, inr (record { size = size; bytes = drop 4 rest; same = split; within = sized.1; all = omega arith }))
    where
      four : length (take 4 rest) ≡ 4
      four = omega (arith, length-take 4 rest)

      spelled : to_be_bytes w32 size ≡ take 4 rest
      spelled = be_bytes_4 (take 4 rest) size four (bytes_taken 4 rest are) refl

      split : rest ≡ to_be_bytes w32 size ++ drop 4 rest
      split = sym (take-append-drop 4 rest) ∙ ap (λ xs. xs ++ drop 4 rest) (sym spelled)

      sized : (1 ≤ size) × (size ≤ max)
      sized =
          is_size max size (cast_signed w32 size) (four_fit (take 4 rest) (bytes_taken 4 rest are)) refl
          (λ bad out e. no_bad bad (drop 4 rest) out (split ∙ ap (λ xs. xs ++ drop 4 rest) e))

      go : (length rest < 4 + size) ⊎ (4 + size ≤ length rest) → length rest < 4 + size
      go (inl few) = few
      go (inr whole) =
          let p : List ℕ = take size (drop 4 rest) in
          let here : length (drop 4 rest) ≡ length rest - 4 = length-drop 4 rest in
          let counted : length p ≡ size = omega (arith, length-take size (drop 4 rest)) in
          let some : 1 ≤ length p = omega (arith, sized.0) in
          let within : length p ≤ max = omega (arith, sized.1) in
          absurd (no_frame p (drop size (drop 4 rest)) (record { some = some; within = within }) (one_in_front rest p (drop size (drop 4 rest)) size l are refl counted refl refl))

  -- what is missing completes the size or the payload under way
  pub completes : Completes max rest (missing_of rest)
  completes = go (nat_lt (length rest) 4) refl
    where
      go : (b : Bool) → nat_lt (length rest) 4 ≡ b → Completes max rest (if b then 4 - length rest else (4 + size) - length rest)
      go true test = let few : length rest < 4 = ltb-true (length rest) 4 test in (omega arith, inl (omega arith))
      go false test = behind_size (ltb-false (length rest) 4 test)
