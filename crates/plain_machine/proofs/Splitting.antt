-- A walk over the frames of bytes.
use Rattle.std.proofs.Common.{◌≡◌, ℕ, ◌+◌, ◌-◌, ◌^◌, ◌<◌, ◌≤◌, List, [], ◌∷◌, ◌++◌, length, take, drop, refl, sym, ap, ◌∙◌, subst, arith, append_assoc, append-nil, length-append, take_at, drop_at}
use Rattle.std.specs.Int.{w32, to_be_bytes, from_be_bytes}
use Rattle.std.specs.List.{flat_map}
use Rattle.std.proofs.lemmas.Nat.{from_be_bytes-to_be_bytes_4}
use Rattle.std.proofs.lemmas.Grind.{flat_map-append}
use Rattle.host_model.specs.Frames.{Frames, frame, IsPayload, ArePayloads, IsRest}
use Rattle.host_model.proofs.Lists.{all_push}

-- the size that a frame in front says, and how many bytes there are
size_in_front : (max : ℕ) (bytes payload more : List ℕ) → max < 2 ^ 31 → length payload ≤ max → bytes ≡ frame payload ++ more
    → (from_be_bytes w32 (take 4 bytes) ≡ length payload) × (4 + length payload ≤ length bytes)
size_in_front max bytes payload more small h e =
    let size : List ℕ = to_be_bytes w32 (length payload) in
    let f : bytes ≡ size ++ (payload ++ more) = e ∙ append_assoc size payload more in
    let t : take 4 bytes ≡ size = ap (take 4) f ∙ take_at size (payload ++ more) 4 refl in
    let n : length bytes ≡ length (frame payload) + length more = ap length e ∙ length-append (frame payload) more in
    let m : length (frame payload) ≡ 4 + length payload = length-append size payload in
    (ap (from_be_bytes w32) t ∙ from_be_bytes-to_be_bytes_4 (length payload) (omega arith), omega arith)

-- no frame stands in front where none of that size could
pub none_in_front : (max : ℕ) (bytes : List ℕ) → max < 2 ^ 31
    → ((n : ℕ) → 1 ≤ n → n ≤ max → from_be_bytes w32 (take 4 bytes) ≡ n → 4 + n ≤ length bytes → ⊥) → IsRest max bytes
none_in_front max bytes small none payload more h e =
    let f : (from_be_bytes w32 (take 4 bytes) ≡ length payload) × (4 + length payload ≤ length bytes) = size_in_front max bytes payload more small h.within e in
    none (length payload) h.some h.within f.0 f.1

-- these payloads' frames stand in front of this rest
pub record Walked (max : ℕ) (bytes : List ℕ) (payloads : List (List ℕ)) (rest : List ℕ) : Type 0 where
  pub whole : bytes ≡ flat_map frame payloads ++ rest
  pub each : ArePayloads max payloads

-- no step was made yet
pub not_walked : (max : ℕ) (bytes : List ℕ) → Walked max bytes [] bytes
not_walked max bytes = record { whole = refl; each = tt }

-- a step over a frame
pub walked_on : (max : ℕ) (bytes rest payload behind : List ℕ) (payloads : List (List ℕ)) → Walked max bytes payloads rest → IsPayload max payload
    → rest ≡ frame payload ++ behind → Walked max bytes (payloads ++ payload ∷ []) behind
walked_on max bytes rest payload behind payloads w h e =
    record {
      whole = w.whole ∙ ap (λ t. flat_map frame payloads ++ t) e ∙ sym (append_assoc (flat_map frame payloads) (frame payload) behind)
          ∙ ap (λ t. (flat_map frame payloads ++ t) ++ behind) (sym (append-nil (frame payload)))
          ∙ ap (λ t. t ++ behind) (sym (flat_map-append frame payloads (payload ∷ [])));
      each = all_push (IsPayload max) payloads payload w.each h;
    }

-- the bytes behind a frame are fewer
pub fewer_behind : (rest payload behind : List ℕ) → rest ≡ frame payload ++ behind → length behind < length rest
fewer_behind rest payload behind e =
    let n : length rest ≡ length (frame payload) + length behind = ap length e ∙ length-append (frame payload) behind in
    let m : length (frame payload) ≡ 4 + length payload = length-append (to_be_bytes w32 (length payload)) payload in
    omega arith

-- the walk came to the end
pub walked_all : (max : ℕ) (bytes rest : List ℕ) (payloads : List (List ℕ)) (at : ℕ) → Walked max bytes payloads rest → IsRest max rest
    → at ≡ length bytes - length rest → (at ≤ length bytes) × Frames max bytes payloads (drop at bytes)
walked_all max bytes rest payloads at w r is =
    let n : length bytes ≡ length (flat_map frame payloads) + length rest = ap length w.whole ∙ length-append (flat_map frame payloads) rest in
    let a : at ≡ length (flat_map frame payloads) = omega arith in
    let b : drop at bytes ≡ rest = ap (drop at) w.whole ∙ drop_at (flat_map frame payloads) rest at (sym a) in
    (omega arith, subst (Frames max bytes payloads) (sym b) (record { whole = w.whole; each = w.each; no_more = r }))

pub ruleset splitting = (not_walked, walked_on, fewer_behind, walked_all)
