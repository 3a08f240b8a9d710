-- The frames of a workload, by their payloads.
use Rattle.std.proofs.Common.{◌≡◌, ℕ, ◌+◌, ◌≤◌, Bool, true, false, cond, List, [], ◌∷◌, ◌++◌, map, length, refl, sym, ◌∙◌, arith, append-nil}
use Rattle.std.specs.List.{flat_map}
use Rattle.host_model.specs.Frames.{frame, Frames, IsPayload, ArePayloads}
use Rattle.host_model.proofs.Framing.{rest_nil}
use Rattle.workload.specs.Numbers.{number_at, first_number, second_number}
use Rattle.workload.specs.CallFrames.{add_frame, subtract_frame, adds, frame_at}
use Rattle.workload.specs.Payloads.{add_payload, subtract_payload, payload_at, most_payload_bytes}

add_framed : (k a b : ℕ) → add_frame k a b ≡ frame (add_payload k a b)
unfolding add_frame add_payload
add_framed k a b = refl

subtract_framed : (k a b : ℕ) → subtract_frame k a b ≡ frame (subtract_payload k a b)
unfolding subtract_frame subtract_payload
subtract_framed k a b = refl

add_size : (k a b : ℕ) → length (add_payload k a b) ≡ 30
unfolding add_payload
add_size k a b = refl

subtract_size : (k a b : ℕ) → length (subtract_payload k a b) ≡ 54
unfolding subtract_payload
subtract_size k a b = refl

either_framed : (sum : Bool) (k a b : ℕ) → cond sum (add_frame k a b) (subtract_frame k a b) ≡ frame (cond sum (add_payload k a b) (subtract_payload k a b))
either_framed true k a b = add_framed k a b
either_framed false k a b = subtract_framed k a b

pub framed : (seed k : ℕ) → frame_at seed k ≡ frame (payload_at seed k)
framed seed k = let x : ℕ = number_at seed (k + 1) in either_framed (adds k) k (first_number x) (second_number x)

either_sized : (sum : Bool) (k a b max : ℕ) → most_payload_bytes ≤ max → IsPayload max (cond sum (add_payload k a b) (subtract_payload k a b))
either_sized true k a b max most = let size = add_size k a b in record { some = omega (arith, size); within = omega (arith, size) }
either_sized false k a b max most = let size = subtract_size k a b in record { some = omega (arith, size); within = omega (arith, size) }

pub is_payload : (seed k max : ℕ) → most_payload_bytes ≤ max → IsPayload max (payload_at seed k)
is_payload seed k max most = let x : ℕ = number_at seed (k + 1) in either_sized (adds k) k (first_number x) (second_number x) max most

pub all_framed : (seed : ℕ) (ks : List ℕ) → flat_map (frame_at seed) ks ≡ flat_map frame (map (payload_at seed) ks)
all_framed seed [] = refl
all_framed seed (k ∷ ks) = λ i. framed seed k i ++ all_framed seed ks i

pub are_payloads : (seed max : ℕ) → most_payload_bytes ≤ max → (ks : List ℕ) → ArePayloads max (map (payload_at seed) ks)
are_payloads seed max most [] = tt
are_payloads seed max most (k ∷ ks) = (is_payload seed k max most, are_payloads seed max most ks)

pub split_so : (seed max : ℕ) → most_payload_bytes ≤ max → (ks : List ℕ) → Frames max (flat_map (frame_at seed) ks) (map (payload_at seed) ks) []
split_so seed max most ks = record {
  whole = all_framed seed ks ∙ sym (append-nil (flat_map frame (map (payload_at seed) ks)));
  each = are_payloads seed max most ks;
  no_more = rest_nil max;
}
