-- What is handed on grows with the bytes, and stands still behind a fault.
use Rattle.std.proofs.Common.{◌≡◌, ℕ, zero, suc, ◌+◌, ◌-◌, ◌≤◌, ◌<◌, Bool, true, false, cond, List, [], ◌∷◌, ◌++◌, length, take, drop, refl, sym, ap, ◌∙◌, subst, append_assoc, append-nil, arith}
use Rattle.std.specs.List.{flat_map}
use Rattle.std.proofs.lemmas.List.{take-append-le}
use Rattle.std.proofs.lemmas.Grind.{flat_map-append}
use Rattle.wire_num.specs.Encoded.{AreByteSized}
use Rattle.host_model.specs.Frames.{frame}
use Rattle.host_model.specs.Conversation.{IsPrefix}
use Rattle.stream_model.specs.declared.fault.StreamFault.{StreamFault}
use Rattle.stream_model.specs.declared.fault.StreamFault.TheVariants.{Envelope, Body, TooLong}
use Rattle.stream_model.specs.Plan.{message_plan}
use Rattle.stream_model.specs.Progress.{MessageProgress, Wants, Whole, Refused, message_progress, IsDecided, IsDecidedAt}
use Rattle.stream_model.specs.Messages.{split_by, split_of, HasStreamFaultAt, HasStreamFault}
use Rattle.stream_model.specs.Handed.{tail_at, tail_by, tail, handed}
use Rattle.stream_model.proofs.Settling.{settled_stays, settled_within}
use Rattle.stream_model.proofs.Splitting.{more_is_found, stopped}

-- what is handed on of a rest with what follows
abbrev rest_handed : ℕ → List ℕ → Bool → List ℕ
rest_handed max bytes ended = flat_map frame (split_of max bytes).0 ++ tail max (split_of max bytes).1 ended

handed_parts : (max : ℕ) (bytes more : List ℕ) (ended : Bool) → AreByteSized bytes → AreByteSized more
    → handed max (bytes ++ more) ended ≡ flat_map frame (split_of max bytes).0 ++ rest_handed max ((split_of max bytes).1 ++ more) ended
handed_parts max bytes more ended are rest_are =
    let s = split_of max bytes in
    let t = split_of max (s.1 ++ more) in
    let found = more_is_found max bytes more are rest_are in
    ap (λ (ms : List (List ℕ)). flat_map frame ms ++ tail max (split_of max (bytes ++ more)).1 ended) found.0
    ∙ ap (λ (b : List ℕ). flat_map frame (s.0 ++ t.0) ++ tail max b ended) found.1
    ∙ ap (λ (b : List ℕ). b ++ tail max t.1 ended) (flat_map-append frame s.0 t.0)
    ∙ append_assoc (flat_map frame s.0) (flat_map frame t.0) (tail max t.1 ended)

-- the tail of a fault is told by the bytes up to it
same_tail : (rest more : List ℕ) (at : ℕ) (fault : StreamFault) → at ≤ length rest → tail_at (rest ++ more) at fault ≡ tail_at rest at fault
same_tail rest more at (Envelope f) le = ap frame (take-append-le at rest more le)
same_tail rest more at (Body f) le = refl
same_tail rest more at TooLong le = refl

tail_of_fault : (max : ℕ) (byte : ℕ) (bytes : List ℕ) (ended : Bool) (at : ℕ) (fault : StreamFault) → message_progress max (byte ∷ bytes) ≡ Refused at fault
    → tail max (byte ∷ bytes) ended ≡ tail_at (byte ∷ bytes) at fault
tail_of_fault max byte bytes ended at fault e = ap (tail_by (byte ∷ bytes) ended) e

-- behind a fault nothing is added
rest_stands : (max byte : ℕ) (bytes more : List ℕ) (before ended : Bool) (at : ℕ) (fault : StreamFault) → message_progress max (byte ∷ bytes) ≡ Refused at fault
    → rest_handed max ((byte ∷ bytes) ++ more) ended ≡ tail max (byte ∷ bytes) before
rest_stands max byte bytes more before ended at fault e =
    let rest = byte ∷ bytes in
    let stays : message_progress max (rest ++ more) ≡ Refused at fault = settled_stays max 0 (message_plan max) rest more (subst IsDecided (sym e) tt) ∙ e in
    let none : split_of max (rest ++ more) ≡ ([], rest ++ more) = stopped (length (rest ++ more)) max (rest ++ more) at fault stays in
    let place = settled_within max 0 (message_plan max) rest at (subst (IsDecidedAt at) (sym e) refl) in
    let fits : at ≤ 0 + length rest = place.1 in
    ap (λ (p : List (List ℕ) × List ℕ). flat_map frame p.0 ++ tail max p.1 ended) none
    ∙ tail_of_fault max byte (bytes ++ more) ended at fault stays ∙ same_tail rest more at fault (omega arith)
    ∙ sym (tail_of_fault max byte bytes before at fault e)

rest_grows_if : (max byte : ℕ) (bytes more : List ℕ) (ended : Bool) (g : MessageProgress) → message_progress max (byte ∷ bytes) ≡ g
    → IsPrefix (tail_by (byte ∷ bytes) false g) (rest_handed max ((byte ∷ bytes) ++ more) ended)
rest_grows_if max byte bytes more ended (Wants k) e = (rest_handed max ((byte ∷ bytes) ++ more) ended, refl)
rest_grows_if max byte bytes more ended (Whole n) e = (rest_handed max ((byte ∷ bytes) ++ more) ended, refl)
rest_grows_if max byte bytes more ended (Refused at fault) e =
    ([], rest_stands max byte bytes more false ended at fault e ∙ tail_of_fault max byte bytes false at fault e ∙ sym (append-nil (tail_at (byte ∷ bytes) at fault)))

rest_grows : (max : ℕ) (rest more : List ℕ) (ended : Bool) → IsPrefix (tail max rest false) (rest_handed max (rest ++ more) ended)
rest_grows max [] more ended = (rest_handed max more ended, refl)
rest_grows max (byte ∷ bytes) more ended = rest_grows_if max byte bytes more ended (message_progress max (byte ∷ bytes)) refl

-- what was handed on before the end is a beginning of what is handed on of more bytes
pub handed_grows : (max : ℕ) (bytes more : List ℕ) (ended : Bool) → AreByteSized bytes → AreByteSized more
    → IsPrefix (handed max bytes false) (handed max (bytes ++ more) ended)
handed_grows max bytes more ended are rest_are =
    let s = split_of max bytes in
    let r = rest_grows max s.1 more ended in
    (r.0, handed_parts max bytes more ended are rest_are ∙ ap (λ (b : List ℕ). flat_map frame s.0 ++ b) r.1 ∙ sym (append_assoc (flat_map frame s.0) (tail max s.1 false) r.0))

still_at : (max : ℕ) (rest more : List ℕ) (before ended : Bool) (at : ℕ) (fault : StreamFault) → HasStreamFaultAt max rest at fault
    → rest_handed max (rest ++ more) ended ≡ tail max rest before
still_at max [] more before ended at fault h = absurd (h.0 refl)
still_at max (byte ∷ bytes) more before ended at fault h = rest_stands max byte bytes more before ended at fault h.1

-- behind a fault it stands still, whether the input has ended or not
pub handed_stands : (max : ℕ) (bytes more : List ℕ) (before ended : Bool) (fault : StreamFault) → AreByteSized bytes → AreByteSized more
    → HasStreamFault max (split_of max bytes).1 fault → handed max (bytes ++ more) ended ≡ handed max bytes before
handed_stands max bytes more before ended fault are rest_are h =
    let s = split_of max bytes in
    handed_parts max bytes more ended are rest_are ∙ ap (λ (b : List ℕ). flat_map frame s.0 ++ b) (still_at max s.1 more before ended h.0 fault h.1)
