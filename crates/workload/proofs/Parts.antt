-- Frames of which a part was read.
use Rattle.std.proofs.Common.{◌≡◌, ℕ, ℤ, ◌+◌, ◌^◌, ◌<◌, ◌≤◌, List, [], ◌∷◌, ◌++◌, length, refl, sym, ap, ◌∙◌, arith, append_assoc, length-append}
use Rattle.std.specs.Int.{w32, to_be_bytes}
use Rattle.std.specs.List.{flat_map, AllByRecursion}
use Rattle.host_model.specs.Frames.{frame, ArePayloads, IsOutside, IsPartial, size_bytes}
use Rattle.host_model.proofs.Lists.{append_parts}
use Rattle.host_model.proofs.Framing.{frame_parts}

-- what is less than a frame
abbrev pub LessThanAFrame : ℕ → Type 0
LessThanAFrame max = (size : ℕ) (bytes : List ℕ) → 1 ≤ size → size ≤ max → length bytes < size → IsPartial max (to_be_bytes w32 size ++ bytes)

no_frame : (p more : List ℕ) → frame p ++ more ≡ [] → ⊥
no_frame p more e =
    let l : length (frame p ++ more) ≡ 0 = ap length e in
    let k : length (frame p ++ more) ≡ length (frame p) + length more = length-append (frame p) more in
    let m : length (frame p) ≡ 4 + length p = length-append (to_be_bytes w32 (length p)) p in
    let f : ⊥ = omega arith in f

-- where these frames and some bytes behind them are those frames, these are the first of those
pub read_first : (max : ℕ) → max < 2 ^ 31 → (ps qs : List (List ℕ)) (rest : List ℕ) → ArePayloads max ps → ArePayloads max qs
    → flat_map frame ps ++ rest ≡ flat_map frame qs → (behind : List (List ℕ)) × (qs ≡ ps ++ behind) × (rest ≡ flat_map frame behind)
read_first max small [] qs rest a b e = (qs, refl, e)
read_first max small (p ∷ ps) [] rest a b e = absurd (no_frame p (flat_map frame ps ++ rest) (sym (append_assoc (frame p) (flat_map frame ps) rest) ∙ e))
read_first max small (p ∷ ps) (q ∷ qs) rest a b e =
    let lp : length p ≤ max = a.0.within in
    let lq : length q ≤ max = b.0.within in
    let h : (p ≡ q) × (flat_map frame ps ++ rest ≡ flat_map frame qs) =
    frame_parts p q (flat_map frame ps ++ rest) (flat_map frame qs) (omega arith) (omega arith) (sym (append_assoc (frame p) (flat_map frame ps) rest) ∙ e) in
    let t : (behind : List (List ℕ)) × (qs ≡ ps ++ behind) × (rest ≡ flat_map frame behind) = read_first max small ps qs rest a.1 b.1 h.1 in
    (t.0, (λ i. sym h.0 i ∷ t.1 i), t.2)

-- no size that no frame has stands in front of frames
pub no_size : (max : ℕ) → LessThanAFrame max → (z : ℤ) (more : List ℕ) (qs : List (List ℕ)) → ArePayloads max qs → IsOutside max z
    → size_bytes z ++ more ≡ flat_map frame qs → ⊥
no_size max partial z more [] all out e =
    let l : length (size_bytes z ++ more) ≡ 0 = ap length e in
    let k : length (size_bytes z ++ more) ≡ 4 + length more = length-append (size_bytes z) more in
    let f : ⊥ = omega arith in f
no_size max partial z more (q ∷ qs) all out e =
    let some : 1 ≤ length q = all.0.some in
    let parts = append_parts (size_bytes z) (to_be_bytes w32 (length q)) more (q ++ flat_map frame qs) refl
    (e ∙ append_assoc (to_be_bytes w32 (length q)) q (flat_map frame qs)) in
    (partial (length q) [] some all.0.within (omega (arith, some))).size z [] out (ap (λ xs. xs ++ []) (sym parts.0))

pub all_behind : {X : Type 0} (P : X → Type 0) (xs ys : List X) → AllByRecursion P (xs ++ ys) → AllByRecursion P ys
all_behind P [] ys all = all
all_behind P (x ∷ xs) ys all = all_behind P xs ys all.1

pub in_middle : {X : Type 0} (P : X → Type 0) (xs : List X) (x : X) (ys : List X) → AllByRecursion P (xs ++ x ∷ ys) → P x
in_middle P [] x ys all = all.0
in_middle P (z ∷ xs) x ys all = in_middle P xs x ys all.1
