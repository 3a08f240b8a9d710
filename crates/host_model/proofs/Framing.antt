-- The split of bytes into frames: that there is one, that it is the only one, and how it grows with the bytes.
use Rattle.std.proofs.Common.{◌≡◌, ℕ, zero, suc, ◌+◌, ◌^◌, ◌<◌, ◌≤◌, ◌⊎◌, ℤ, List, [], ◌∷◌, ◌++◌, length, take, drop, refl, sym, ap, ◌∙◌, inl, inr, arith, append_assoc, append-nil, length-append, take_at, drop_at}
use Rattle.std.specs.Int.{w32, to_be_bytes, from_be_bytes}
use Rattle.std.specs.List.{flat_map}
use Rattle.std.proofs.lemmas.Bool.{cases_lt}
use Rattle.std.proofs.lemmas.Nat.{from_be_bytes-to_be_bytes_4}
use Rattle.std.proofs.lemmas.Grind.{flat_map-append}
use Rattle.host_model.specs.Frames.{Frames, frame, IsPayload, ArePayloads, IsRest, HasNoBadSize, size_bytes}
use Rattle.host_model.proofs.Lists.{append_parts, cases_list, all_push}

-- the size and the payload of a frame in front of bytes are theirs
pub frame_parts : (p q ts bs : List ℕ) → length p < 2 ^ 31 → length q < 2 ^ 31 → frame p ++ ts ≡ frame q ++ bs → (p ≡ q) × (ts ≡ bs)
frame_parts p q ts bs lp lq e =
    let s : (to_be_bytes w32 (length p) ≡ to_be_bytes w32 (length q)) × (p ++ ts ≡ q ++ bs) =
    append_parts (to_be_bytes w32 (length p)) (to_be_bytes w32 (length q)) (p ++ ts) (q ++ bs) refl
    (sym (append_assoc (to_be_bytes w32 (length p)) p ts) ∙ e ∙ append_assoc (to_be_bytes w32 (length q)) q bs) in
    let l : length p ≡ length q =
    sym (from_be_bytes-to_be_bytes_4 (length p) (omega arith)) ∙ ap (from_be_bytes w32) s.0 ∙ from_be_bytes-to_be_bytes_4 (length q) (omega arith) in
    append_parts p q ts bs l s.1

-- the same rest and the same payloads, whichever way the bytes are split
pub same_split : (max : ℕ) → max < 2 ^ 31 → (ps qs : List (List ℕ)) (r s : List ℕ) → ArePayloads max ps → ArePayloads max qs
    → IsRest max r → IsRest max s → flat_map frame ps ++ r ≡ flat_map frame qs ++ s → (ps ≡ qs) × (r ≡ s)
same_split max small [] [] r s a b x y e = (refl, e)
same_split max small [] (q ∷ qs) r s a b x y e =
    absurd (x q (flat_map frame qs ++ s) b.0 (e ∙ append_assoc (frame q) (flat_map frame qs) s))
same_split max small (p ∷ ps) [] r s a b x y e =
    absurd (y p (flat_map frame ps ++ r) a.0 (sym e ∙ append_assoc (frame p) (flat_map frame ps) r))
same_split max small (p ∷ ps) (q ∷ qs) r s a b x y e =
    let lp : length p ≤ max = a.0.within in
    let lq : length q ≤ max = b.0.within in
    let h : (p ≡ q) × (flat_map frame ps ++ r ≡ flat_map frame qs ++ s) =
    frame_parts p q (flat_map frame ps ++ r) (flat_map frame qs ++ s) (omega arith) (omega arith)
    (sym (append_assoc (frame p) (flat_map frame ps) r) ∙ e ∙ append_assoc (frame q) (flat_map frame qs) s) in
    let t : (ps ≡ qs) × (r ≡ s) = same_split max small ps qs r s a.1 b.1 x y h.1 in
    (λ i. h.0 i ∷ t.0 i, t.1)

-- the frames of bytes and the rest behind them are the only ones
pub only_split : (max : ℕ) (bytes rest other_rest : List ℕ) (payloads others : List (List ℕ)) → max < 2 ^ 31
    → Frames max bytes payloads rest → Frames max bytes others other_rest → (payloads ≡ others) × (rest ≡ other_rest)
only_split max bytes rest other_rest payloads others small f g =
    same_split max small payloads others rest other_rest f.each g.each f.no_more g.no_more (sym f.whole ∙ g.whole)

-- what stands behind a size, and the payload that the size says of it
payload_of : List ℕ → List ℕ
payload_of bytes = take (from_be_bytes w32 (take 4 bytes)) (drop 4 bytes)

-- the bytes behind that payload
behind : List ℕ → List ℕ
behind bytes = drop (from_be_bytes w32 (take 4 bytes)) (drop 4 bytes)

-- where a frame stands in front, its parts are these
found : (max : ℕ) → max < 2 ^ 31 → (bytes p more : List ℕ) → IsPayload max p → bytes ≡ frame p ++ more → (payload_of bytes ≡ p) × (behind bytes ≡ more)
unfolding payload_of behind
found max small bytes p more h e =
    let lp : length p ≤ max = h.within in
    let f : bytes ≡ to_be_bytes w32 (length p) ++ (p ++ more) = e ∙ append_assoc (to_be_bytes w32 (length p)) p more in
    let t : take 4 bytes ≡ to_be_bytes w32 (length p) = ap (take 4) f ∙ take_at (to_be_bytes w32 (length p)) (p ++ more) 4 refl in
    let d : drop 4 bytes ≡ p ++ more = ap (drop 4) f ∙ drop_at (to_be_bytes w32 (length p)) (p ++ more) 4 refl in
    let n : from_be_bytes w32 (take 4 bytes) ≡ length p = ap (from_be_bytes w32) t ∙ from_be_bytes-to_be_bytes_4 (length p) (omega arith) in
    ((λ i. take (n i) (d i)) ∙ take_at p more (length p) refl, (λ i. drop (n i) (d i)) ∙ drop_at p more (length p) refl)

-- a whole frame stands in front of bytes, or none does
first : (max : ℕ) → max < 2 ^ 31 → (bytes : List ℕ) → ((p more : List ℕ) × IsPayload max p × (bytes ≡ frame p ++ more)) ⊎ IsRest max bytes
first max small bytes = go (cases_lt 0 (length p)) (cases_lt max (length p)) (cases_list bytes (frame p ++ more))
  where
    p : List ℕ
    p = payload_of bytes

    more : List ℕ
    more = behind bytes

    go : (0 < length p) ⊎ (length p ≤ 0) → (max < length p) ⊎ (length p ≤ max) → (bytes ≡ frame p ++ more) ⊎ (bytes ≡ frame p ++ more → ⊥)
        → ((p' more' : List ℕ) × IsPayload max p' × (bytes ≡ frame p' ++ more')) ⊎ IsRest max bytes
    go (inl a) (inr b) (inl e) = inl (p, more, record { some = a; within = b }, e)
    go a b (inr n) =
        inr (λ q ts h e. let s : (p ≡ q) × (more ≡ ts) = found max small bytes q ts h e in n (e ∙ (λ i. frame (sym s.0 i) ++ sym s.1 i)))
    go (inr a) b e =
        inr (λ q ts h e. let s : (p ≡ q) × (more ≡ ts) = found max small bytes q ts h e in
        let l : length p ≡ length q = ap length s.0 in let o : 1 ≤ length q = h.some in absurd (let f : ⊥ = omega arith in f))
    go a (inl b) e =
        inr (λ q ts h e. let s : (p ≡ q) × (more ≡ ts) = found max small bytes q ts h e in
        let l : length p ≡ length q = ap length s.0 in let o : length q ≤ max = h.within in absurd (let f : ⊥ = omega arith in f))

-- a frame in front of bytes that are split
in_front : (max : ℕ) (p bytes more : List ℕ) (payloads : List (List ℕ)) (rest : List ℕ) → IsPayload max p → bytes ≡ frame p ++ more
    → Frames max more payloads rest → Frames max bytes (p ∷ payloads) rest
in_front max p bytes more payloads rest h e f =
    record {
      whole = e ∙ ap (λ r. frame p ++ r) f.whole ∙ sym (append_assoc (frame p) (flat_map frame payloads) rest);
      each = (h, f.each);
      no_more = f.no_more;
    }

-- bytes behind a frame are fewer than with it
fewer : (p more : List ℕ) → suc (length more) ≤ length (frame p ++ more)
fewer p more = omega (arith, length-append p more)

-- the split of at most so many bytes
split_within : (max : ℕ) → max < 2 ^ 31 → (fuel : ℕ) (bytes : List ℕ) → length bytes ≤ fuel
    → (payloads : List (List ℕ)) × (rest : List ℕ) × Frames max bytes payloads rest
split_within max small zero bytes l = go (first max small bytes)
  where
    go : ((p more : List ℕ) × IsPayload max p × (bytes ≡ frame p ++ more)) ⊎ IsRest max bytes
        → (payloads : List (List ℕ)) × (rest : List ℕ) × Frames max bytes payloads rest
    go (inl t) =
        let k : suc (length t.1) ≤ length (frame t.0 ++ t.1) = fewer t.0 t.1 in let e : length bytes ≡ length (frame t.0 ++ t.1) = ap length t.3 in
        absurd (let f : ⊥ = omega arith in f)
    go (inr r) = ([], bytes, record { whole = refl; each = tt; no_more = r })
split_within max small (suc fuel) bytes l = go (first max small bytes) (λ more k. split_within max small fuel more k)
  where
    go : ((p more : List ℕ) × IsPayload max p × (bytes ≡ frame p ++ more)) ⊎ IsRest max bytes
        → ((more : List ℕ) → length more ≤ fuel → (payloads : List (List ℕ)) × (rest : List ℕ) × Frames max more payloads rest)
        → (payloads : List (List ℕ)) × (rest : List ℕ) × Frames max bytes payloads rest
    go (inl t) again =
        let k : suc (length t.1) ≤ length (frame t.0 ++ t.1) = fewer t.0 t.1 in
        let e : length bytes ≡ length (frame t.0 ++ t.1) = ap length t.3 in
        let s : (payloads : List (List ℕ)) × (rest : List ℕ) × Frames max t.1 payloads rest = again t.1 (omega arith) in
        (t.0 ∷ s.0, s.1, in_front max t.0 bytes t.1 s.0 s.1 t.2 t.3 s.2)
    go (inr r) again = ([], bytes, record { whole = refl; each = tt; no_more = r })

-- every stream splits
pub a_split : (max : ℕ) (bytes : List ℕ) → max < 2 ^ 31 → (payloads : List (List ℕ)) × (rest : List ℕ) × Frames max bytes payloads rest
a_split max bytes small = split_within max small (length bytes) bytes (omega arith)

-- less than a frame that gets longer
pub frames_read : (max : ℕ) (bytes b : List ℕ) (payloads : List (List ℕ)) (held : List ℕ) → Frames max bytes payloads held → IsRest max (held ++ b)
    → Frames max (bytes ++ b) payloads (held ++ b)
frames_read max bytes b payloads held f r =
    record { whole = ap (λ t. t ++ b) f.whole ∙ append_assoc (flat_map frame payloads) held b; each = f.each; no_more = r }

-- no bytes are less than a frame
pub rest_nil : (max : ℕ) → IsRest max []
rest_nil max payload more h e =
    let l : 0 ≡ length (frame payload ++ more) = ap length e in let k : suc (length more) ≤ length (frame payload ++ more) = fewer payload more in
    let f : ⊥ = omega arith in f

-- and no bytes have a bad size
pub size_nil : (max : ℕ) → HasNoBadSize max []
size_nil max z more h e =
    let l : 0 ≡ length (size_bytes z ++ more) = ap length e in let k : length (size_bytes z ++ more) ≡ 4 + length more = length-append (size_bytes z) more in
    let f : ⊥ = omega arith in f

-- a size alone is less than a frame
pub rest_size : (max : ℕ) (z : ℤ) → IsRest max (size_bytes z)
rest_size max z payload more h e =
    let l : 4 ≡ length (frame payload ++ more) = ap length e in
    let k : length (frame payload ++ more) ≡ length (frame payload) + length more = length-append (frame payload) more in
    let m : length (frame payload) ≡ 4 + length payload = length-append (to_be_bytes w32 (length payload)) payload in
    let o : 1 ≤ length payload = h.some in
    let f : ⊥ = omega arith in f

-- a frame that gets whole
pub frames_whole : (max : ℕ) (bytes b : List ℕ) (payloads : List (List ℕ)) (held p : List ℕ) → Frames max bytes payloads held → IsPayload max p
    → held ++ b ≡ frame p → Frames max (bytes ++ b) (payloads ++ p ∷ []) []
frames_whole max bytes b payloads held p f h e =
    record {
      whole =
          ap (λ t. t ++ b) f.whole ∙ append_assoc (flat_map frame payloads) held b
          ∙ ap (λ t. flat_map frame payloads ++ t) (e ∙ sym (append-nil (frame p)))
          ∙ sym (flat_map-append frame payloads (p ∷ []))
          ∙ sym (append-nil (flat_map frame (payloads ++ p ∷ [])));
      each = all_push (IsPayload max) payloads p f.each h;
      no_more = rest_nil max;
    }
