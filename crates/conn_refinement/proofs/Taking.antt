-- What bytes that are read make, on both sides: less than a frame, a whole one, or a size that no frame has.
use Rattle.std.proofs.Common.{◌≡◌, ℕ, ℤ, pos, negsuc, ◌+◌, ◌-◌, ◌<◌, ◌≤◌, ◌^◌, ◌⊎◌, ◌==◌, Bool, true, false, ◌&&◌, ◌||◌, nat_lt, nat_le, min, if◌then◌else◌, Option, None, Some, List, [], ◌∷◌, ◌++◌, length, take, slice_get, refl, sym, ap, ◌∙◌, subst, inl, inr, arith, FitsSigned, append_assoc, length-append}
use Rattle.std.specs.Int.{w32, to_be_bytes, from_be_bytes, cast_signed, cast_unsigned}
use Rattle.std.proofs.lemmas.Bool.{and_from, and_left, and_right, and_parts, and_cases, or_left, or_right, ltb-true, ltb-false, leb-true, leb-false, lt-ltb, le-ltb, le-leb, lt-leb, eq-eqb}
use Rattle.std.proofs.lemmas.Int.{of_z-to_z, ints}
use Rattle.std.proofs.lemmas.Nat.{be_bytes_4, from_be_bytes-to_be_bytes_4}
use Rattle.std.proofs.Math.Facts.{sfits_to_z}
use Rattle.host_model.specs.declared.cause.EndCause.TheVariants.{SizeFault}
use Rattle.host_model.specs.Frames.{frame}
use Rattle.conn_state.specs.Phase.{Phase, ConnView, sizing, held, framing, ready, waiting, writing, ended, IsReading, wanted}
use Rattle.conn_state.specs.Run.{EachIsByte}
use Rattle.conn_state.specs.Step.{after_size, after_took}
use Rattle.conn_state.proofs.Lists.{bytes_append}
use Rattle.machine_model.specs.Loop.{LoopConn, FrameProgress, part, bad_size, whole, read_more}
use Rattle.machine_model.specs.Plain.{when, are_same, is_size, is_whole, is_bad_size, progress_behind, progress_by}
use Rattle.conn_refinement.specs.Progress.{GoesOnFrom, MakesPhase}
use Rattle.conn_refinement.specs.Phases.{HasAllCollected, PhaseTells, IsOpenTied, IsFraming, IsLean}
use Rattle.machine_model.specs.OwnCalls.{longest_payload}

-- bytes are the same as themselves
same_bytes : (xs : List ℕ) → are_same xs xs ≡ true
same_bytes [] = refl
same_bytes (x ∷ xs) = and_from (x == x) (are_same xs xs) (eq-eqb x x refl) (same_bytes xs)

-- fewer bytes than a size has
pub size_begun : (max : ℕ) (bytes : List ℕ) → length bytes < 4 → progress_by max bytes ≡ Some part
size_begun max bytes l = ap (λ b. if b then Some part else progress_behind max (from_be_bytes w32 (take 4 bytes)) bytes) (lt-ltb (length bytes) 4 l)

-- a size, and bytes behind it
behind_size : (max size : ℕ) (bytes : List ℕ) → size < 2 ^ 32 → progress_by max (to_be_bytes w32 size ++ bytes) ≡ progress_behind max size (to_be_bytes w32 size ++ bytes)
behind_size max size bytes fits =
    let all : List ℕ = to_be_bytes w32 size ++ bytes in
    ap (λ b. if b then Some part else progress_behind max (from_be_bytes w32 (take 4 (to_be_bytes w32 size ++ bytes))) (to_be_bytes w32 size ++ bytes))
    (le-ltb (length (to_be_bytes w32 size ++ bytes)) 4 (omega arith))
    ∙ ap (λ n. progress_behind max n (to_be_bytes w32 size ++ bytes)) (from_be_bytes-to_be_bytes_4 size fits)

-- a size that a frame has, and less than its payload
pub payload_begun : (max size : ℕ) (bytes : List ℕ) → size < 2 ^ 32 → 1 ≤ size → size ≤ max → length bytes < size → progress_by max (to_be_bytes w32 size ++ bytes) ≡ Some part
payload_begun max size bytes fits some within fewer =
    behind_size max size bytes fits
    ∙ ap
    (λ b.
    if b then Some part
    else if is_whole max (to_be_bytes w32 size ++ bytes) then Some (whole bytes)
    else when (is_bad_size max size (to_be_bytes w32 size ++ bytes)) (Some (bad_size (cast_signed w32 size))))
    (and_from (is_size max size (to_be_bytes w32 size ++ bytes)) (nat_lt (length bytes) size)
    (and_from (nat_le 1 size) (nat_le size max && are_same (to_be_bytes w32 size ++ bytes) (to_be_bytes w32 size ++ bytes)) (le-leb 1 size some)
    (and_from (nat_le size max) (are_same (to_be_bytes w32 size ++ bytes) (to_be_bytes w32 size ++ bytes)) (le-leb size max within) (same_bytes (to_be_bytes w32 size ++ bytes))))
    (lt-ltb (length bytes) size fewer))

-- a size, and just its payload
pub payload_whole : (max : ℕ) (payload : List ℕ) → length payload < 2 ^ 32 → 1 ≤ length payload → length payload ≤ max → progress_by max (frame payload) ≡ Some (whole payload)
payload_whole max payload fits some within =
    let bad : Option FrameProgress = when (is_bad_size max (length payload) (frame payload)) (Some (bad_size (cast_signed w32 (length payload)))) in
    let first : (is_size max (length payload) (frame payload) && nat_lt (length payload) (length payload)) ≡ false =
    and_right (is_size max (length payload) (frame payload)) (nat_lt (length payload) (length payload)) (le-ltb (length payload) (length payload) (omega arith)) in
    let second : is_whole max (frame payload) ≡ true =
    and_from (nat_le 1 (length payload)) (nat_le (length payload) max && are_same (frame payload) (frame payload)) (le-leb 1 (length payload) some)
    (and_from (nat_le (length payload) max) (are_same (frame payload) (frame payload)) (le-leb (length payload) max within) (same_bytes (frame payload))) in
    behind_size max (length payload) payload fits
    ∙ (λ i.
    if first i then Some part
    else if second i then Some (whole payload)
    else when (is_bad_size max (length payload) (frame payload)) (Some (bad_size (cast_signed w32 (length payload)))))

-- a size that no frame has
size_refused : (max size : ℕ) → size < 2 ^ 32 → (size ≡ 0) ⊎ (max < size) → progress_by max (to_be_bytes w32 size ++ []) ≡ Some (bad_size (cast_signed w32 size))
size_refused max size fits out =
    let first : (is_size max size (to_be_bytes w32 size ++ []) && nat_lt 0 size) ≡ false =
    and_left (is_size max size (to_be_bytes w32 size ++ [])) (nat_lt 0 size) (no_size out) in
    let third : is_bad_size max size (to_be_bytes w32 size ++ []) ≡ true =
    and_from (size == 0 || nat_lt max size) (nat_lt size 4294967296 && are_same (to_be_bytes w32 size ++ []) (to_be_bytes w32 size ++ [])) (is_out out)
    (and_from (nat_lt size 4294967296) (are_same (to_be_bytes w32 size ++ []) (to_be_bytes w32 size ++ [])) (lt-ltb size 4294967296 (omega arith)) (same_bytes (to_be_bytes w32 size ++ []))) in
    behind_size max size [] fits
    ∙ (λ i.
    if first i then Some part
    else if nat_le 1 0 && (nat_le 0 max && are_same (to_be_bytes w32 size ++ []) (frame [])) then Some (whole [])
    else when (third i) (Some (bad_size (cast_signed w32 size))))
  where
    no_size : (size ≡ 0) ⊎ (max < size) → is_size max size (to_be_bytes w32 size ++ []) ≡ false
    no_size (inl e) = ap (λ b. b && (nat_le size max && are_same (to_be_bytes w32 size ++ []) (to_be_bytes w32 size ++ []))) (ap (nat_le 1) e)
    no_size (inr l) =
        and_right (nat_le 1 size) (nat_le size max && are_same (to_be_bytes w32 size ++ []) (to_be_bytes w32 size ++ []))
        (ap (λ b. b && are_same (to_be_bytes w32 size ++ []) (to_be_bytes w32 size ++ [])) (lt-leb size max l))

    is_out : (size ≡ 0) ⊎ (max < size) → (size == 0 || nat_lt max size) ≡ true
    is_out (inl e) = or_left (size == 0) (nat_lt max size) (eq-eqb size 0 e)
    is_out (inr l) = or_right (size == 0) (nat_lt max size) (lt-ltb max size l)

-- four bytes spell a number of 32 bits
size_fits : (bytes : List ℕ) → EachIsByte bytes → from_be_bytes w32 bytes < 2 ^ 32
size_fits bytes are = omega (arith, are 0, are 1, are 2, are 3)

-- a connection that reads a size
module _ (max frames : ℕ) (conn : LoopConn) (front bytes : List ℕ) (small : max ≤ longest_payload) (going : conn.cause ≡ None) (counted : frames ≡ length conn.payloads)
    (collected : HasAllCollected conn) (held_is : conn.held ≡ front) (left : conn.left ≡ []) (are : EachIsByte (front ++ bytes)) where
  -- the bytes behind those that are held
  all_are : conn.held ++ bytes ≡ front ++ bytes
  all_are = ap (λ k. k ++ bytes) held_is

  -- a size of 0 or above, by its test
  by_range : (n : ℕ) (b : Bool) → n < 2 ^ 32 → to_be_bytes w32 n ≡ front ++ bytes → cast_signed w32 n ≡ pos n → (nat_le 1 n && nat_le n max) ≡ b
      → MakesPhase max conn bytes (sizing front) frames (if b then held n else ended (SizeFault (pos n)))
  by_range n true fits spelled signed test =
      let parts : (nat_le 1 n ≡ true) × (nat_le n max ≡ true) = and_parts (nat_le 1 n) (nat_le n max) test in
      let some : 1 ≤ n = leb-true 1 n parts.0 in
      let within : n ≤ max = leb-true n max parts.1 in (
        tt,
        ap (progress_by max) (all_are ∙ sym spelled) ∙ payload_begun max n [] fits some within some,
        record { going = going; counted = counted; tells = (collected, all_are ∙ sym spelled, some, within, fits, left) },
      )
  by_range n false fits spelled signed test =
      (pos n, tt, refl, ap (progress_by max) (all_are ∙ sym spelled) ∙ size_refused max n fits (out (and_cases (nat_le 1 n) (nat_le n max) test)) ∙ ap (λ z. Some (bad_size z)) signed)
    where
      out : (nat_le 1 n ≡ false) ⊎ (nat_le n max ≡ false) → (n ≡ 0) ⊎ (max < n)
      out (inl e) = inl (omega (arith, leb-false 1 n e))
      out (inr e) = inr (omega (arith, leb-false n max e))

  -- a whole size, as two's complement
  by_sign : (n : ℕ) (z : ℤ) → n < 2 ^ 32 → to_be_bytes w32 n ≡ front ++ bytes → cast_signed w32 n ≡ z → MakesPhase max conn bytes (sizing front) frames (after_size max z)
  by_sign n (pos k) fits spelled is =
      let same : n ≡ k = sym (of_z-to_z w32 n fits) ∙ ap (cast_unsigned w32) is in
      subst (λ m. MakesPhase max conn bytes (sizing front) frames (after_size max (pos m))) same
      (by_range n (nat_le 1 n && nat_le n max) fits spelled (is ∙ ap pos (sym same)) refl)
  by_sign n (negsuc k) fits spelled is =
      let same : n ≡ cast_unsigned w32 (negsuc k) = sym (of_z-to_z w32 n fits) ∙ ap (cast_unsigned w32) is in
      let signed : FitsSigned w32 (negsuc k) = subst (FitsSigned w32) is (sfits_to_z {w = w32} {n = n} (record { fits = fits })) in
      let range = signed.sfits in
      (negsuc k, tt, refl, ap (progress_by max) (all_are ∙ sym spelled) ∙ size_refused max n fits (inr (omega (arith, ints))) ∙ ap (λ z. Some (bad_size z)) is)

  -- the bytes of a size, by whether all of them are there
  pub by_count : (b : Bool) → length (front ++ bytes) ≤ 4 → nat_lt (length (front ++ bytes)) 4 ≡ b
      → MakesPhase max conn bytes (sizing front) frames (if b then sizing (front ++ bytes) else after_size max (cast_signed w32 (from_be_bytes w32 (front ++ bytes))))
  by_count true most test =
      let few : length (front ++ bytes) < 4 = ltb-true (length (front ++ bytes)) 4 test in (
        tt,
        ap (progress_by max) all_are ∙ size_begun max (front ++ bytes) few,
        record { going = going; counted = counted; tells = (collected, all_are, few, left, are) },
      )
  by_count false most test =
      let four : length (front ++ bytes) ≡ 4 = omega (arith, ltb-false (length (front ++ bytes)) 4 test) in
      by_sign (from_be_bytes w32 (front ++ bytes)) (cast_signed w32 (from_be_bytes w32 (front ++ bytes))) (size_fits (front ++ bytes) are)
      (be_bytes_4 (front ++ bytes) (from_be_bytes w32 (front ++ bytes)) four are refl) refl

-- a payload is behind those before it
pushed : (payloads : List (List ℕ)) (payload : List ℕ) → slice_get (payloads ++ payload ∷ []) (length payloads) ≡ Some payload
pushed [] payload = refl
pushed (x ∷ xs) payload = pushed xs payload

-- a connection that reads a payload
module _ (max frames size : ℕ) (conn : LoopConn) (front bytes : List ℕ) (fits : size < 2 ^ 32) (within : size ≤ max) (going : conn.cause ≡ None) (counted : frames ≡ length conn.payloads)
    (collected : HasAllCollected conn) (held_is : conn.held ≡ to_be_bytes w32 size ++ front) (left : conn.left ≡ []) (some : 1 ≤ size) where
  -- the bytes behind those that are held
  framed : conn.held ++ bytes ≡ to_be_bytes w32 size ++ (front ++ bytes)
  framed = ap (λ k. k ++ bytes) held_is ∙ append_assoc (to_be_bytes w32 size) front bytes

  -- the bytes of a payload, by whether all of them are there
  pub by_rest : (b : Bool) → length (front ++ bytes) ≤ size → nat_lt (length (front ++ bytes)) size ≡ b
      → (let view : ConnView = if b then record { frames = frames; phase = framing size (front ++ bytes) } else record { frames = frames + 1; phase = ready frames (front ++ bytes) } in
      MakesPhase max conn bytes (framing size front) view.frames view.phase)
  by_rest true most test =
      let few : length (front ++ bytes) < size = ltb-true (length (front ++ bytes)) size test in (
        tt,
        ap (progress_by max) framed ∙ payload_begun max size (front ++ bytes) fits some within few,
        record { going = going; counted = counted; tells = (collected, framed, few, within, fits, left) },
      )
  by_rest false most test =
      let all : length (front ++ bytes) ≡ size = omega (arith, ltb-false (length (front ++ bytes)) size test) in
      let longer : length (conn.payloads ++ (front ++ bytes) ∷ []) ≡ length conn.payloads + 1 = length-append conn.payloads ((front ++ bytes) ∷ []) in
      let submitted : conn.submitted ≡ length conn.payloads = collected.0 in
      let taken : conn.collected ≡ length conn.payloads = collected.1 in (
        tt,
        ap (progress_by max) (framed ∙ ap (λ n. to_be_bytes w32 n ++ (front ++ bytes)) (sym all)) ∙ payload_whole max (front ++ bytes) (omega arith) (omega arith) (omega arith),
        record {
          going = going;
          counted = omega arith;
          tells = (
            (refl, left),
            submitted ∙ sym counted,
            taken ∙ sym counted,
            omega arith,
            ap (slice_get (conn.payloads ++ (front ++ bytes) ∷ [])) counted ∙ pushed conn.payloads (front ++ bytes),
            omega arith,
          );
        },
      )

-- what is read is as much as is asked for at most, and makes the same on both sides
pub took_is_read : (max : ℕ) (view : ConnView) (conn : LoopConn) (bytes : List ℕ) → max ≤ longest_payload → IsReading view.phase → IsOpenTied max view conn → length bytes ≤ wanted view.phase
    → EachIsByte bytes → MakesPhase max conn bytes view.phase (after_took max view bytes).frames (after_took max view bytes).phase
took_is_read max view conn bytes small reading tied most are = go view.phase view.frames reading tied.counted tied.tells most
  where
    go : (phase : Phase) (frames : ℕ) → IsReading phase → frames ≡ length conn.payloads → PhaseTells max phase conn → length bytes ≤ wanted phase
        → MakesPhase max conn bytes phase (after_took max (record { frames = frames; phase = phase }) bytes).frames (after_took max (record { frames = frames; phase = phase }) bytes).phase
    go (sizing front) frames reading counted tells most =
        let joined : length (front ++ bytes) ≡ length front + length bytes = length-append front bytes in
        let few : length front < 4 = tells.2 in
        let asked : length bytes ≤ min (4 - length front) 65536 = most in
        by_count max frames conn front bytes small tied.going counted tells.0 tells.1 tells.3 (bytes_append front bytes tells.4 are) (nat_lt (length (front ++ bytes)) 4) (omega arith) refl
    go (framing size front) frames reading counted tells most =
        let joined : length (front ++ bytes) ≡ length front + length bytes = length-append front bytes in
        let few : length front < size = tells.2 in
        let asked : length bytes ≤ min (size - length front) 65536 = most in
        by_rest max frames size conn front bytes tells.4 tells.3 tied.going counted tells.0 tells.1 tells.5 (omega arith) (nat_lt (length (front ++ bytes)) size) (omega arith) refl
    go (held size) frames reading counted tells most = absurd reading
    go (ready number payload) frames reading counted tells most = absurd reading
    go (waiting number) frames reading counted tells most = absurd reading
    go (writing left) frames reading counted tells most = absurd reading
    go (ended cause) frames reading counted tells most = absurd reading
