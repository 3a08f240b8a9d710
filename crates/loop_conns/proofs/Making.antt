-- What bytes that are read make of a connection, in its state and in the machine.
use Rattle.std.proofs.Common.{◌≡◌, ℕ, ℤ, pos, negsuc, ◌+◌, ◌-◌, ◌<◌, ◌≤◌, Bool, true, false, ◌&&◌, nat_lt, nat_le, min, if◌then◌else◌, None, List, [], ◌∷◌, ◌++◌, length, take, slice_get, refl, sym, ap, ◌∙◌, subst, arith, append_assoc, length-append}
use Rattle.std.specs.Int.{w32, to_be_bytes, from_be_bytes, cast_signed}
use Rattle.std.proofs.lemmas.Bool.{lt-ltb, le-ltb}
use Rattle.std.proofs.lemmas.Option.{none-some}
use Rattle.std.proofs.lemmas.Nat.{from_be_bytes-to_be_bytes_4}
use Rattle.host_model.specs.declared.cause.EndCause.TheVariants.{End, Cut, SizeFault, Envelope, ReadFault, WriteFault, NoMemory, Stopped}
use Rattle.conn_state.specs.Phase.{Phase, ConnView, sizing, held, framing, ready, waiting, writing, ended, wanted, most_read, cause_of, size_asked, IsReading, IsReady}
use Rattle.conn_state.specs.Run.{EachIsByte}
use Rattle.conn_state.specs.Step.{after_size, after_size_bytes, after_payload_bytes, after_took}
use Rattle.conn_state.specs.Split.{StaysWithin}
use Rattle.conn_state.proofs.Lists.{bytes_append}
use Rattle.conn_state.proofs.Pieces.{piece_of_size_bytes, piece_of_payload_bytes}
use Rattle.machine_model.specs.Loop.{LoopConn, part, bad_size, whole, IsProgress, read_more}
use Rattle.machine_model.proofs.Lists.{get_last}
use Rattle.conn_refinement.specs.Phases.{HasAllCollected, PhaseTells, IsOpenTied, IsFraming, IsLean}
use Rattle.loop_conns.specs.Woven.{missing_of}
use Rattle.call_rules.specs.Desks.{longest_payload}

-- a phase in which the frame that was under way goes on
abbrev pub GoesOnSo : Phase → Phase → Type 0
GoesOnSo (sizing bytes) new = IsLean new
GoesOnSo (framing size bytes) new = IsFraming new
GoesOnSo _ new = ⊥

-- what is so of a connection that has read these bytes, by its phase then, with so many frames
abbrev pub MakesSo : ℕ → LoopConn → List ℕ → Phase → ℕ → Phase → Type 0
MakesSo max conn bytes old frames (ready number payload) =
    IsFraming old × IsProgress max (conn.held ++ bytes) (whole payload) × IsOpenTied max (record { frames = frames; phase = ready number payload }) (read_more conn bytes (whole payload))
MakesSo max conn bytes old frames (ended cause) = (z : ℤ) × IsLean old × (cause ≡ SizeFault z) × IsProgress max (conn.held ++ bytes) (bad_size z)
MakesSo max conn bytes old frames phase =
    GoesOnSo old phase × IsProgress max (conn.held ++ bytes) part × IsOpenTied max (record { frames = frames; phase = phase }) (read_more conn bytes part)

-- a size is read, or waits, or is no frame's
abbrev OfSize : Phase → Type 0
OfSize (sizing bytes) = Unit {0}
OfSize (held size) = Unit {0}
OfSize (ended cause) = Unit {0}
OfSize _ = ⊥

-- a payload is read, or whole
abbrev OfPayload : Phase → Type 0
OfPayload (framing size bytes) = Unit {0}
OfPayload (ready number payload) = Unit {0}
OfPayload _ = ⊥

either : (P : Phase → Type 0) (b : Bool) (x y : Phase) → P x → P y → P (if b then x else y)
either P true x y a b = a
either P false x y a b = b

of_size : (max : ℕ) (z : ℤ) → OfSize (after_size max z)
of_size max (pos n) = either OfSize (nat_le 1 n && nat_le n max) (held n) (ended (SizeFault (pos n))) tt tt
of_size max (negsuc n) = tt

of_size_bytes : (max : ℕ) (bytes : List ℕ) → OfSize (after_size_bytes max bytes)
of_size_bytes max bytes = either OfSize (nat_lt (length bytes) 4) (sizing bytes) (after_size max (cast_signed w32 (from_be_bytes w32 bytes))) tt (of_size max (cast_signed w32 (from_be_bytes w32 bytes)))

of_payload_bytes : (frames size : ℕ) (bytes : List ℕ) → OfPayload (after_payload_bytes frames size bytes).phase
of_payload_bytes frames size bytes = go (nat_lt (length bytes) size)
  where
    go : (b : Bool) → (let view : ConnView = if b then record { frames = frames; phase = framing size bytes } else record { frames = frames + 1; phase = ready frames bytes } in OfPayload view.phase)
    go true = tt
    go false = tt

module _ (max : ℕ) (small : max ≤ longest_payload) (conn : LoopConn) (bytes : List ℕ) (going : conn.cause ≡ None) (collected : HasAllCollected conn) (left : conn.left ≡ []) where
  -- a connection that reads a size
  module _ (front : List ℕ) (frames : ℕ) (counted : frames ≡ length conn.payloads) (held_is : conn.held ≡ front) where
    all_is : conn.held ++ bytes ≡ front ++ bytes
    all_is = ap (λ k. k ++ bytes) held_is

    made_of_size : (now : ℕ) (phase : Phase) → now ≡ frames → OfSize phase → StaysWithin max frames (front ++ bytes) now phase → MakesSo max conn bytes (sizing front) now phase
    made_of_size now (sizing xs) same of stays = (
      tt,
      subst (λ k. IsProgress max k part) (sym all_is) stays.partial,
      record { going = going; counted = same ∙ counted; tells = (collected, all_is ∙ stays.same, stays.holds.0, left, stays.holds.1) },
    )
    made_of_size now (held n) same of stays =
        let within : n ≤ max = stays.holds.within in (
          tt,
          subst (λ k. IsProgress max k part) (sym all_is) stays.partial,
          record { going = going; counted = same ∙ counted; tells = (collected, all_is ∙ stays.same, stays.holds.some, within, omega arith, left) },
        )
    made_of_size now (ended (SizeFault z)) same of stays = (z, tt, refl, (stays.outside, all_is ∙ stays.same))
    made_of_size now (ended End) same of stays = absurd stays
    made_of_size now (ended Cut) same of stays = absurd stays
    made_of_size now (ended (Envelope fault)) same of stays = absurd stays
    made_of_size now (ended ReadFault) same of stays = absurd stays
    made_of_size now (ended WriteFault) same of stays = absurd stays
    made_of_size now (ended NoMemory) same of stays = absurd stays
    made_of_size now (ended Stopped) same of stays = absurd stays
    made_of_size now (framing n xs) same of stays = absurd of
    made_of_size now (ready n payload) same of stays = absurd of
    made_of_size now (waiting n) same of stays = absurd of
    made_of_size now (writing xs) same of stays = absurd of

  -- a connection that reads a payload
  module _ (size : ℕ) (front : List ℕ) (frames : ℕ) (counted : frames ≡ length conn.payloads) (held_is : conn.held ≡ to_be_bytes w32 size ++ front) where
    framed : conn.held ++ bytes ≡ to_be_bytes w32 size ++ (front ++ bytes)
    framed = ap (λ k. k ++ bytes) held_is ∙ append_assoc (to_be_bytes w32 size) front bytes

    made_of_payload : (now : ℕ) (phase : Phase) → OfPayload phase → StaysWithin max frames (to_be_bytes w32 size ++ (front ++ bytes)) now phase
        → MakesSo max conn bytes (framing size front) now phase
    made_of_payload now (framing n xs) of stays =
        let within : n ≤ max = stays.holds.within in (
          tt,
          subst (λ k. IsProgress max k part) (sym framed) stays.partial,
          record { going = going; counted = stays.counted ∙ counted; tells = (collected, framed ∙ stays.same, stays.holds.fewer, within, omega arith, left) },
        )
    made_of_payload now (ready number payload) of stays =
        let longer : length (conn.payloads ++ payload ∷ []) ≡ length conn.payloads + 1 = length-append conn.payloads (payload ∷ []) in
        let submitted : conn.submitted ≡ length conn.payloads = collected.0 in
        let taken : conn.collected ≡ length conn.payloads = collected.1 in
        let number_is : number ≡ length conn.payloads = stays.numbered ∙ counted in
        let now_is : now ≡ frames + 1 = stays.counted in
        let within : length payload ≤ max = stays.allowed.within in (
          tt,
          (stays.allowed, framed ∙ stays.same),
          record {
            going = going;
            counted = omega arith;
            tells = (
              (refl, left),
              submitted ∙ sym number_is,
              taken ∙ sym number_is,
              omega arith,
              ap (slice_get (conn.payloads ++ payload ∷ [])) number_is ∙ get_last conn.payloads payload,
              within,
            );
          },
        )
    made_of_payload now (sizing xs) of stays = absurd of
    made_of_payload now (held n) of stays = absurd of
    made_of_payload now (waiting n) of stays = absurd of
    made_of_payload now (writing xs) of stays = absurd of
    made_of_payload now (ended cause) of stays = absurd of

-- What is read, as much as is asked for at most, makes the same in the state and in the machine.
pub makes_so : (max : ℕ) (view : ConnView) (conn : LoopConn) (bytes : List ℕ) → max ≤ longest_payload → IsReading view.phase → IsOpenTied max view conn → length bytes ≤ wanted view.phase
    → EachIsByte bytes → MakesSo max conn bytes view.phase (after_took max view bytes).frames (after_took max view bytes).phase
makes_so max view conn bytes small reading tied most are = go view.phase view.frames reading tied.counted tied.tells most
  where
    go : (phase : Phase) (frames : ℕ) → IsReading phase → frames ≡ length conn.payloads → PhaseTells max phase conn → length bytes ≤ wanted phase
        → MakesSo max conn bytes phase (after_took max (record { frames = frames; phase = phase }) bytes).frames (after_took max (record { frames = frames; phase = phase }) bytes).phase
    go (sizing front) frames reading counted tells most =
        let joined : length (front ++ bytes) ≡ length front + length bytes = length-append front bytes in
        let few : length front < 4 = tells.2 in
        let asked : length bytes ≤ min (4 - length front) 65536 = most in
        made_of_size max small conn bytes tied.going tells.0 tells.3 front frames counted tells.1 frames (after_size_bytes max (front ++ bytes)) refl (of_size_bytes max (front ++ bytes))
        (piece_of_size_bytes max frames (front ++ bytes) (omega arith) (bytes_append front bytes tells.4 are) (omega arith))
    go (framing size front) frames reading counted tells most =
        let joined : length (front ++ bytes) ≡ length front + length bytes = length-append front bytes in
        let few : length front < size = tells.2 in
        let asked : length bytes ≤ min (size - length front) 65536 = most in
        made_of_payload max small conn bytes tied.going tells.0 tells.5 size front frames counted tells.1 (after_payload_bytes frames size (front ++ bytes)).frames
        (after_payload_bytes frames size (front ++ bytes)).phase (of_payload_bytes frames size (front ++ bytes))
        (piece_of_payload_bytes max frames size (front ++ bytes) (omega arith) (omega arith) tells.3 (omega arith))
    go (held size) frames reading counted tells most = absurd reading
    go (ready number payload) frames reading counted tells most = absurd reading
    go (waiting number) frames reading counted tells most = absurd reading
    go (writing left) frames reading counted tells most = absurd reading
    go (ended cause) frames reading counted tells most = absurd reading

-- what is missing of the size or the frame that is under way, by the bytes held of it
pub missing_is : (max : ℕ) (phase : Phase) (conn : LoopConn) → IsReading phase → PhaseTells max phase conn → wanted phase ≡ min (missing_of conn.held) most_read
missing_is max (sizing bytes) conn reading tells =
    sym (ap (λ k. min (missing_of k) most_read) tells.1
    ∙ ap (λ b. min (if b then 4 - length bytes else (4 + from_be_bytes w32 (take 4 bytes)) - length bytes) most_read) (lt-ltb (length bytes) 4 tells.2))
missing_is max (framing size bytes) conn reading tells =
    let all : List ℕ = to_be_bytes w32 size ++ bytes in
    let long : length (to_be_bytes w32 size ++ bytes) ≡ 4 + length bytes = length-append (to_be_bytes w32 size) bytes in
    let few : length bytes < size = tells.2 in
    sym (ap (λ k. min (missing_of k) most_read) tells.1
    ∙ ap (λ b. min (if b then 4 - length (to_be_bytes w32 size ++ bytes) else (4 + from_be_bytes w32 (take 4 (to_be_bytes w32 size ++ bytes))) - length (to_be_bytes w32 size ++ bytes)) most_read)
    (le-ltb (length (to_be_bytes w32 size ++ bytes)) 4 (omega arith))
    ∙ ap (λ n. min ((4 + n) - length (to_be_bytes w32 size ++ bytes)) most_read) (from_be_bytes-to_be_bytes_4 size tells.4)
    ∙ ap (λ n. min n most_read) (let e : (4 + size) - length (to_be_bytes w32 size ++ bytes) ≡ size - length bytes = omega arith in e))
missing_is max (held size) conn reading tells = absurd reading
missing_is max (ready number payload) conn reading tells = absurd reading
missing_is max (waiting number) conn reading tells = absurd reading
missing_is max (writing left) conn reading tells = absurd reading
missing_is max (ended cause) conn reading tells = absurd reading

-- what neither has ended, nor is whole, nor waits for its admission, reads on
size_on : (phase : Phase) → OfSize phase → cause_of phase ≡ None → size_asked phase ≡ None → IsReading phase
size_on (sizing bytes) of none unasked = tt
size_on (held n) of none unasked = absurd (none-some n (sym unasked))
size_on (ended cause) of none unasked = absurd (none-some cause (sym none))
size_on (framing n bytes) of none unasked = absurd of
size_on (ready n payload) of none unasked = absurd of
size_on (waiting n) of none unasked = absurd of
size_on (writing left) of none unasked = absurd of

payload_on : (phase : Phase) → OfPayload phase → (IsReady phase → ⊥) → IsReading phase
payload_on (framing n bytes) of not_ready = tt
payload_on (ready n payload) of not_ready = absurd (not_ready tt)
payload_on (sizing bytes) of not_ready = absurd of
payload_on (held n) of not_ready = absurd of
payload_on (waiting n) of not_ready = absurd of
payload_on (writing left) of not_ready = absurd of
payload_on (ended cause) of not_ready = absurd of

pub reading_on : (max : ℕ) (view : ConnView) (bytes : List ℕ) → IsReading view.phase → cause_of (after_took max view bytes).phase ≡ None → (IsReady (after_took max view bytes).phase → ⊥)
    → size_asked (after_took max view bytes).phase ≡ None → IsReading (after_took max view bytes).phase
reading_on max view bytes reading none not_ready unasked = go view.phase view.frames reading none not_ready unasked
  where
    go : (phase : Phase) (frames : ℕ) → IsReading phase → cause_of (after_took max (record { frames = frames; phase = phase }) bytes).phase ≡ None
        → (IsReady (after_took max (record { frames = frames; phase = phase }) bytes).phase → ⊥) → size_asked (after_took max (record { frames = frames; phase = phase }) bytes).phase ≡ None
        → IsReading (after_took max (record { frames = frames; phase = phase }) bytes).phase
    go (sizing front) frames reading none not_ready unasked = size_on (after_size_bytes max (front ++ bytes)) (of_size_bytes max (front ++ bytes)) none unasked
    go (framing size front) frames reading none not_ready unasked =
        payload_on (after_payload_bytes frames size (front ++ bytes)).phase (of_payload_bytes frames size (front ++ bytes)) not_ready
    go (held size) frames reading none not_ready unasked = absurd reading
    go (ready number payload) frames reading none not_ready unasked = absurd reading
    go (waiting number) frames reading none not_ready unasked = absurd reading
    go (writing left) frames reading none not_ready unasked = absurd reading
    go (ended cause) frames reading none not_ready unasked = absurd reading
