-- What was read of pieces and what is left of them, and the front of a frame under way.
use Rattle.std.proofs.Common.{◌≡◌, ◌≢◌, ℕ, zero, suc, ◌+◌, ◌-◌, ◌^◌, ◌<◌, ◌≤◌, ◌⊎◌, min, if◌then◌else◌, List, [], ◌∷◌, ◌++◌, length, take, drop, refl, sym, ap, ◌∙◌, inl, inr, arith, append_assoc, length-append, take-append-drop, take_at}
use Rattle.std.specs.Int.{w32, to_be_bytes, from_be_bytes}
use Rattle.std.proofs.lemmas.Bool.{lt-ltb, le-ltb}
use Rattle.std.proofs.lemmas.List.{length-take-le, length-drop}
use Rattle.std.proofs.lemmas.Nat.{from_be_bytes-to_be_bytes_4}
use Rattle.host_model.specs.Frames.{Frames}
use Rattle.machine_model.specs.AtFronts.{size_in}
use Rattle.script_model.specs.Arrival.{bytes_of_pieces, ends_from}
use Rattle.script_model.specs.Feeding.{Completes, piece_end, TakesItsPart}
use Rattle.script_model.specs.Playing.{pieces_left}

-- Of all these pieces these bytes were read, and these are left: they end where the pieces end.
pub record Remains (pieces : List (List ℕ)) (read : List ℕ) (left : List (List ℕ)) : Type 0 where
  pub bytes : read ++ bytes_of_pieces left ≡ bytes_of_pieces pieces
  pub ends : (at : ℕ) → length read ≤ at → piece_end (ends_from 0 pieces) at ≡ piece_end (ends_from (length read) left) at

pub all_remains : (pieces : List (List ℕ)) → Remains pieces [] pieces
all_remains pieces = record { bytes = refl; ends = λ at l. refl }

pub left_bytes : (bytes : List ℕ) (pieces : List (List ℕ)) → bytes_of_pieces (pieces_left bytes pieces) ≡ bytes ++ bytes_of_pieces pieces
left_bytes [] pieces = refl
left_bytes (byte ∷ bytes) pieces = refl

pub left-append : (bytes : List ℕ) (pieces more : List (List ℕ)) → pieces_left bytes pieces ++ more ≡ pieces_left bytes (pieces ++ more)
left-append [] pieces more = refl
left-append (byte ∷ bytes) pieces more = refl

left_ends : (rest : List ℕ) (pieces : List (List ℕ)) (whole here at : ℕ) → whole ≡ here + length rest → here ≤ at
    → piece_end (whole ∷ ends_from whole pieces) at ≡ piece_end (ends_from here (pieces_left rest pieces)) at
left_ends [] pieces whole here at is l =
    let same : whole ≡ here = omega (arith, is) in
    ap (λ b. if b then whole else piece_end (ends_from whole pieces) at) (le-ltb at whole (omega arith)) ∙ ap (λ w. piece_end (ends_from w pieces) at) same
left_ends (byte ∷ bytes) pieces whole here at is l = ap (λ w. piece_end (w ∷ ends_from w pieces) at) is

-- some bytes of the first piece are read
pub remains_read : (all left : List (List ℕ)) (read bytes : List ℕ) (n : ℕ) → n ≤ length bytes → Remains all read (bytes ∷ left) → Remains all (read ++ take n bytes) (pieces_left (drop n bytes) left)
remains_read all left read bytes n l r =
    let some : length (take n bytes) ≡ n = length-take-le n bytes l in
    let here : length (read ++ take n bytes) ≡ length read + length (take n bytes) = length-append read (take n bytes) in
    let rest : length (drop n bytes) ≡ length bytes - n = length-drop n bytes in
    record {
      bytes =
          ap (λ b. (read ++ take n bytes) ++ b) (left_bytes (drop n bytes) left) ∙ append_assoc read (take n bytes) (drop n bytes ++ bytes_of_pieces left)
          ∙ ap (λ b. read ++ b) (sym (append_assoc (take n bytes) (drop n bytes) (bytes_of_pieces left)))
          ∙ ap (λ b. read ++ (b ++ bytes_of_pieces left)) (take-append-drop n bytes) ∙ r.bytes;
      ends = λ at within. r.ends at (omega arith) ∙ left_ends (drop n bytes) left (length read + length bytes) (length (read ++ take n bytes)) at (omega arith) within;
    }

-- so many bytes are read of the first piece as are missing, as one read asks for, and as it has
pub part_read : (max missing : ℕ) (all left payloads : List (List ℕ)) (read held bytes : List ℕ) → Frames max read payloads held → Completes max held missing
    → take (min (min missing 65536) (length bytes)) bytes ≢ [] → Remains all read (bytes ∷ left)
    → TakesItsPart max (ends_from 0 all) read (take (min (min missing 65536) (length bytes)) bytes)
part_read max missing all left payloads read held bytes frames completes some r =
    let n : ℕ = min (min missing 65536) (length bytes) in
    let size : length (take n bytes) ≡ n = length-take-le n bytes (omega arith) in
    let more : 0 < length (take n bytes) = has_some (take n bytes) some in
    let end : piece_end (ends_from 0 all) (length read) ≡ length read + length bytes =
    r.ends (length read) (omega arith)
    ∙ ap (λ b. if b then length read + length bytes else piece_end (ends_from (length read + length bytes) left) (length read)) (lt-ltb (length read) (length read + length bytes) (omega arith)) in
    record {
      payloads = payloads;
      rest = held;
      frames = frames;
      missing = missing;
      completes = completes;
      some = more;
      count = omega arith;
    }
  where
    has_some : (xs : List ℕ) → xs ≢ [] → 0 < length xs
    has_some [] ne = absurd (ne refl)
    has_some (x ∷ xs) ne = omega arith

-- these bytes begin with a size that a frame has, and are less than the frame
pub record IsUnderWay (max : ℕ) (held : List ℕ) : Type 0 where
  pub size : ℕ
  pub bytes : List ℕ
  pub same : held ≡ to_be_bytes w32 size ++ bytes
  pub within : size ≤ max
  pub less : length bytes < size

-- less than a size is held, or less than a frame
abbrev pub HoldsLess : ℕ → List ℕ → Type 0
HoldsLess max held = (length held < 4) ⊎ IsUnderWay max held

under_way_size : (max : ℕ) (held : List ℕ) → max < 2 ^ 31 → (u : IsUnderWay max held) → (size_in held ≡ u.size) × (length held ≡ 4 + length u.bytes)
under_way_size max held small u =
    let all : length held ≡ length (to_be_bytes w32 u.size) + length u.bytes = ap length u.same ∙ length-append (to_be_bytes w32 u.size) u.bytes in
    let four : length (to_be_bytes w32 u.size) ≡ 4 = refl in
    let within : u.size ≤ max = u.within in
    let front : take 4 held ≡ to_be_bytes w32 u.size = ap (take 4) u.same ∙ take_at (to_be_bytes w32 u.size) u.bytes 4 refl in
    (ap (λ b. if b then 0 else from_be_bytes w32 (take 4 held)) (le-ltb (length held) 4 (omega arith)) ∙ ap (from_be_bytes w32) front ∙ from_be_bytes-to_be_bytes_4 u.size (omega arith), omega arith)

-- what is missing of a size
pub size_completes : (max : ℕ) (held : List ℕ) → length held < 4 → Completes max held (4 - length held)
size_completes max held l = (omega arith, inl (omega arith))

-- and of the frame that has it
pub frame_completes : (max size : ℕ) (held : List ℕ) → max < 2 ^ 31 → 4 ≤ length held → HoldsLess max held → size ≡ size_in held → Completes max held ((4 + size) - length held)
frame_completes max size held small l (inl less) is = absurd (let f : ⊥ = omega arith in f)
frame_completes max size held small l (inr u) is =
    let t : (size_in held ≡ u.size) × (length held ≡ 4 + length u.bytes) = under_way_size max held small u in
    let a : size_in held ≡ u.size = t.0 in
    let b : length held ≡ 4 + length u.bytes = t.1 in
    let less : length u.bytes < u.size = u.less in
    (omega arith, inr (record { size = u.size; bytes = u.bytes; same = u.same; within = u.within; all = omega arith }))

take_front : (n : ℕ) (xs ys : List ℕ) → n ≤ length xs → take n (xs ++ ys) ≡ take n xs
take_front zero xs ys l = refl
take_front (suc n) [] ys l = absurd (let f : ⊥ = omega arith in f)
take_front (suc n) (x ∷ xs) ys l = ap (λ r. x ∷ r) (take_front n xs ys (omega arith))

-- a whole size stays as it is while more is read
pub size_stays : (held bytes : List ℕ) → 4 ≤ length held → size_in (held ++ bytes) ≡ size_in held
size_stays held bytes l =
    let n : length (held ++ bytes) ≡ length held + length bytes = length-append held bytes in
    ap (λ b. if b then 0 else from_be_bytes w32 (take 4 (held ++ bytes))) (le-ltb (length (held ++ bytes)) 4 (omega arith)) ∙ ap (from_be_bytes w32) (take_front 4 held bytes l)
    ∙ sym (ap (λ b. if b then 0 else from_be_bytes w32 (take 4 held)) (le-ltb (length held) 4 l))
