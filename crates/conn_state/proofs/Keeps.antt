-- Each call keeps the split of the bytes taken.
use Rattle.std.proofs.Common.{◌≡◌, ℕ, ℤ, ◌<◌, ◌≤◌, ◌^◌, ◌⊎◌, List, [], ◌∷◌, ◌++◌, length, refl, sym, ap, ◌∙◌, subst, inl, inr, arith, length-append, append_assoc}
use Rattle.std.specs.List.{enumerate_from, flat_map}
use Rattle.streams.specs.declared.outcomes.Settled.{Settled}
use Rattle.streams.specs.declared.outcomes.Settled.TheVariants.{Reply, Nothing, Close, NoMemory as NoRoom}
use Rattle.host_model.specs.declared.cause.EndCause.{EndCause}
use Rattle.host_model.specs.declared.cause.EndCause.TheVariants.{End, Cut, SizeFault, Envelope, ReadFault, WriteFault, NoMemory, Stopped}
use Rattle.host_model.specs.Frames.{Frames, frame, size_bytes, IsPayload, IsRest, HasNoBadSize, IsPartial}
use Rattle.conn_state.specs.Phase.{Phase, ConnView, sizing, held, framing, ready, waiting, writing, ended, bytes_held, wanted, left_to_write, IsHeld, IsReading, IsWaiting, HasNotEnded}
use Rattle.conn_state.specs.Step.{after_bytes, after_admission, after_answer, after_wrote, after_end_of_input, IsFromOutside}
use Rattle.conn_state.specs.Run.{EachIsByte}
use Rattle.conn_state.specs.Split.{AllGiven, OneIsLost, HoldsLess, CauseSays, PhaseSays, Splits, IsOneFrame, StaysWithin}
use Rattle.conn_state.proofs.Lists.{bytes_append, AllByRecursion-push, handed_on, frames_on}
use Rattle.conn_state.proofs.Partials.{size_is_partial, payload_is_partial}
use Rattle.conn_state.proofs.Pieces.{piece_of_size_bytes, piece_of_payload_bytes}

-- no frame stands in front of a size that no frame has
bad_size_is_rest : (max : ℕ) (z : ℤ) → IsRest max (size_bytes z)
bad_size_is_rest max z payload more allowed e =
    let some : 1 ≤ length payload = allowed.some in
    omega (arith, ap length e, length-append payload more)

-- a piece that makes no frame whole keeps the payloads
same_payloads : (max : ℕ) (bytes piece : List ℕ) (handed_out : List (ℕ × List ℕ)) (payloads : List (List ℕ)) (part : List ℕ) (now : ℕ) (phase : Phase)
    → Frames max bytes payloads part → now ≡ length payloads → IsRest max (part ++ piece) → PhaseSays max payloads (part ++ piece) handed_out phase
    → Splits max (bytes ++ piece) handed_out (record { frames = now; phase = phase })
same_payloads max bytes piece handed_out payloads part now phase split counted no_more stands = record {
  payloads = payloads;
  rest = part ++ piece;
  frames = record {
    whole = ap (λ (xs : List ℕ). xs ++ piece) split.whole ∙ append_assoc (flat_map frame payloads) part piece;
    each = split.each;
    no_more = no_more;
  };
  counted = counted;
  stands = stands;
}

-- a piece that makes a frame whole adds its payload
one_payload_more : (max : ℕ) (bytes piece : List ℕ) (handed_out : List (ℕ × List ℕ)) (payloads : List (List ℕ)) (part : List ℕ) (frames now number : ℕ) (payload : List ℕ)
    → Frames max bytes payloads part → frames ≡ length payloads → AllGiven payloads handed_out → IsOneFrame max frames (part ++ piece) now number payload
    → Splits max (bytes ++ piece) handed_out (record { frames = now; phase = ready number payload })
one_payload_more max bytes piece handed_out payloads part frames now number payload split counted all whole =
    let joined : bytes ++ piece ≡ flat_map frame payloads ++ (part ++ piece) =
    ap (λ (xs : List ℕ). xs ++ piece) split.whole ∙ append_assoc (flat_map frame payloads) part piece in
    let last : flat_map frame payloads ++ (part ++ piece) ≡ flat_map frame payloads ++ frame payload =
    ap (λ (xs : List ℕ). flat_map frame payloads ++ xs) whole.same in
    record {
      payloads = payloads ++ payload ∷ [];
      rest = [];
      frames = record {
        whole = joined ∙ last ∙ frames_on payloads payload;
        each = AllByRecursion-push (IsPayload max) payloads payload split.each whole.allowed;
        no_more = (size_is_partial max [] (omega arith)).rest;
      };
      counted = omega (arith, whole.counted, length-append payloads (payload ∷ []));
      stands = (record { before = payloads; last = refl; numbered = whole.numbered ∙ counted; handed = all }, refl);
    }

-- a piece keeps the split
from_piece : (max : ℕ) (bytes piece : List ℕ) (handed_out : List (ℕ × List ℕ)) (payloads : List (List ℕ)) (part : List ℕ) (frames now : ℕ) (phase : Phase)
    → Frames max bytes payloads part → frames ≡ length payloads → AllGiven payloads handed_out → StaysWithin max frames (part ++ piece) now phase
    → Splits max (bytes ++ piece) handed_out (record { frames = now; phase = phase })
from_piece max bytes piece handed_out payloads part frames now (sizing xs) split counted all p =
    same_payloads max bytes piece handed_out payloads part now (sizing xs) split (p.counted ∙ counted) p.partial.rest (all, p.same, p.holds)
from_piece max bytes piece handed_out payloads part frames now (held n) split counted all p =
    same_payloads max bytes piece handed_out payloads part now (held n) split (p.counted ∙ counted) p.partial.rest (all, p.same, p.holds)
from_piece max bytes piece handed_out payloads part frames now (framing n xs) split counted all p =
    same_payloads max bytes piece handed_out payloads part now (framing n xs) split (p.counted ∙ counted) p.partial.rest (all, p.same, p.holds)
from_piece max bytes piece handed_out payloads part frames now (ready number payload) split counted all p =
    one_payload_more max bytes piece handed_out payloads part frames now number payload split counted all p
from_piece max bytes piece handed_out payloads part frames now (ended (SizeFault z)) split counted all p =
    let no_more : IsRest max (part ++ piece) = subst (λ (xs : List ℕ). IsRest max xs) (sym p.same) (bad_size_is_rest max z) in
    same_payloads max bytes piece handed_out payloads part now (ended (SizeFault z)) split (p.counted ∙ counted) no_more (all, p.same, p.outside)
from_piece max bytes piece handed_out payloads part frames now (waiting n) split counted all p = absurd p
from_piece max bytes piece handed_out payloads part frames now (writing xs) split counted all p = absurd p
from_piece max bytes piece handed_out payloads part frames now (ended End) split counted all p = absurd p
from_piece max bytes piece handed_out payloads part frames now (ended Cut) split counted all p = absurd p
from_piece max bytes piece handed_out payloads part frames now (ended (Envelope f)) split counted all p = absurd p
from_piece max bytes piece handed_out payloads part frames now (ended ReadFault) split counted all p = absurd p
from_piece max bytes piece handed_out payloads part frames now (ended WriteFault) split counted all p = absurd p
from_piece max bytes piece handed_out payloads part frames now (ended NoMemory) split counted all p = absurd p
from_piece max bytes piece handed_out payloads part frames now (ended Stopped) split counted all p = absurd p

-- what is taken in a phase that holds less than a frame is a piece
took_piece : (max frames : ℕ) (phase : Phase) (bytes : List ℕ) → max < 2 ^ 31 → HoldsLess max phase → EachIsByte bytes → 0 < length bytes → length bytes ≤ wanted phase
    → StaysWithin max frames (bytes_held phase ++ bytes) (after_bytes max frames phase bytes).frames (after_bytes max frames phase bytes).phase
took_piece max frames (sizing xs) bytes small holds are some asked =
    piece_of_size_bytes max frames (xs ++ bytes) small (bytes_append xs bytes holds.1 are) (omega (arith, length-append xs bytes))
took_piece max frames (framing n xs) bytes small holds are some asked =
    piece_of_payload_bytes max frames n (xs ++ bytes) small holds.some holds.within (omega (arith, holds.fewer, length-append xs bytes))
took_piece max frames (held n) bytes small holds are some asked = absurd (omega arith)
took_piece max frames (ready number payload) bytes small holds are some asked = absurd holds
took_piece max frames (waiting n) bytes small holds are some asked = absurd holds
took_piece max frames (writing xs) bytes small holds are some asked = absurd holds
took_piece max frames (ended cause) bytes small holds are some asked = absurd holds

-- where bytes are asked for, less than a frame is held, and it is the rest behind the payloads handed out
pub record Asks (max : ℕ) (payloads : List (List ℕ)) (rest : List ℕ) (handed_out : List (ℕ × List ℕ)) (phase : Phase) : Type 0 where
  pub all : AllGiven payloads handed_out
  pub same : rest ≡ bytes_held phase
  pub holds : HoldsLess max phase

asks_of : (max : ℕ) (payloads : List (List ℕ)) (rest : List ℕ) (handed_out : List (ℕ × List ℕ)) (phase : Phase) → 0 < wanted phase
    → PhaseSays max payloads rest handed_out phase → Asks max payloads rest handed_out phase
asks_of max payloads rest handed_out (sizing xs) some stands = record { all = stands.0; same = stands.1; holds = stands.2 }
asks_of max payloads rest handed_out (held n) some stands = record { all = stands.0; same = stands.1; holds = stands.2 }
asks_of max payloads rest handed_out (framing n xs) some stands = record { all = stands.0; same = stands.1; holds = stands.2 }
asks_of max payloads rest handed_out (ready number payload) some stands = absurd (omega arith)
asks_of max payloads rest handed_out (waiting n) some stands = absurd (omega arith)
asks_of max payloads rest handed_out (writing xs) some stands = absurd (omega arith)
asks_of max payloads rest handed_out (ended cause) some stands = absurd (omega arith)

-- bytes that are taken are a piece
pub took_is_piece : (max : ℕ) (bytes piece : List ℕ) (handed_out : List (ℕ × List ℕ)) (old : ConnView) → max < 2 ^ 31 → Splits max bytes handed_out old
    → EachIsByte piece → 0 < length piece → length piece ≤ wanted old.phase
    → StaysWithin max old.frames (bytes_held old.phase ++ piece) (after_bytes max old.frames old.phase piece).frames (after_bytes max old.frames old.phase piece).phase
took_is_piece max bytes piece handed_out old small splits are some asked =
    let asks = asks_of max splits.payloads splits.rest handed_out old.phase (omega arith) splits.stands in
    took_piece max old.frames old.phase piece small asks.holds are some asked

pub took_keeps : (max : ℕ) (bytes piece : List ℕ) (handed_out : List (ℕ × List ℕ)) (old : ConnView) → max < 2 ^ 31 → Splits max bytes handed_out old
    → EachIsByte piece → 0 < length piece → length piece ≤ wanted old.phase
    → Splits max (bytes ++ piece) handed_out (after_bytes max old.frames old.phase piece)
took_keeps max bytes piece handed_out old small splits are some asked =
    let asks = asks_of max splits.payloads splits.rest handed_out old.phase (omega arith) splits.stands in
    let split : Frames max bytes splits.payloads (bytes_held old.phase) = subst (λ (xs : List ℕ). Frames max bytes splits.payloads xs) asks.same splits.frames in
    let piece_is = took_is_piece max bytes piece handed_out old small splits are some asked in
    from_piece max bytes piece handed_out splits.payloads (bytes_held old.phase) old.frames
    (after_bytes max old.frames old.phase piece).frames (after_bytes max old.frames old.phase piece).phase split splits.counted asks.all piece_is

-- what a phase holds isn't a frame, and no size in front of it is one that no frame has
held_is_partial : (max : ℕ) (phase : Phase) → max < 2 ^ 31 → HoldsLess max phase → IsPartial max (bytes_held phase)
held_is_partial max (sizing xs) small holds = size_is_partial max xs holds.0
held_is_partial max (held n) small holds = payload_is_partial max n [] small holds.some holds.within holds.fewer
held_is_partial max (framing n xs) small holds = payload_is_partial max n xs small holds.some holds.within holds.fewer
held_is_partial max (ready number payload) small holds = absurd holds
held_is_partial max (waiting n) small holds = absurd holds
held_is_partial max (writing xs) small holds = absurd holds
held_is_partial max (ended cause) small holds = absurd holds

-- what an end from outside leaves: each payload handed out, or one lost
abbrev pub Left : ℕ → List (List ℕ) → List ℕ → List (ℕ × List ℕ) → Type 0
Left max payloads rest handed_out = (AllGiven payloads handed_out ⊎ OneIsLost payloads rest handed_out) × HasNoBadSize max rest

left_of_held : (max : ℕ) (payloads : List (List ℕ)) (rest : List ℕ) (handed_out : List (ℕ × List ℕ)) (phase : Phase) → max < 2 ^ 31
    → AllGiven payloads handed_out → rest ≡ bytes_held phase → HoldsLess max phase → Left max payloads rest handed_out
left_of_held max payloads rest handed_out phase small all same holds =
    (inl all, subst (λ (xs : List ℕ). HasNoBadSize max xs) (sym same) (held_is_partial max phase small holds).size)

-- no size at all stands in front of nothing
nothing_is_partial : (max : ℕ) (rest : List ℕ) → rest ≡ [] → HasNoBadSize max rest
nothing_is_partial max rest none = subst (λ (xs : List ℕ). HasNoBadSize max xs) (sym none) (size_is_partial max [] (omega arith)).size

pub left_of : (max : ℕ) (payloads : List (List ℕ)) (rest : List ℕ) (handed_out : List (ℕ × List ℕ)) (phase : Phase) → max < 2 ^ 31 → HasNotEnded phase
    → PhaseSays max payloads rest handed_out phase → Left max payloads rest handed_out
left_of max payloads rest handed_out (sizing xs) small open_ stands = left_of_held max payloads rest handed_out (sizing xs) small stands.0 stands.1 stands.2
left_of max payloads rest handed_out (held n) small open_ stands = left_of_held max payloads rest handed_out (held n) small stands.0 stands.1 stands.2
left_of max payloads rest handed_out (framing n xs) small open_ stands = left_of_held max payloads rest handed_out (framing n xs) small stands.0 stands.1 stands.2
left_of max payloads rest handed_out (ready number payload) small open_ stands =
    (inr (record { number = number; payload = payload; left = stands.0; nothing_behind = stands.1 }), nothing_is_partial max rest stands.1)
left_of max payloads rest handed_out (waiting n) small open_ stands = (inl stands.0, nothing_is_partial max rest stands.1)
left_of max payloads rest handed_out (writing xs) small open_ stands = (inl stands.0, nothing_is_partial max rest stands.1)
left_of max payloads rest handed_out (ended cause) small open_ stands = absurd open_

-- an end from outside
pub stands_ended : (max : ℕ) (payloads : List (List ℕ)) (rest : List ℕ) (handed_out : List (ℕ × List ℕ)) (cause : EndCause) → IsFromOutside cause
    → Left max payloads rest handed_out → CauseSays max payloads rest handed_out cause
stands_ended max payloads rest handed_out End outside left = absurd outside
stands_ended max payloads rest handed_out Cut outside left = absurd outside
stands_ended max payloads rest handed_out (SizeFault z) outside left = absurd outside
stands_ended max payloads rest handed_out (Envelope f) outside left = absurd outside
stands_ended max payloads rest handed_out ReadFault outside left = left
stands_ended max payloads rest handed_out WriteFault outside left = left
stands_ended max payloads rest handed_out NoMemory outside left = left
stands_ended max payloads rest handed_out Stopped outside left = left

-- the end of the input
pub stands_at_end : (max : ℕ) (payloads : List (List ℕ)) (rest : List ℕ) (handed_out : List (ℕ × List ℕ)) (phase : Phase) → max < 2 ^ 31 → IsReading phase
    → PhaseSays max payloads rest handed_out phase → PhaseSays max payloads rest handed_out (after_end_of_input phase)
stands_at_end max payloads rest handed_out (sizing []) small reading stands = (stands.0, stands.1)
stands_at_end max payloads rest handed_out (sizing (x ∷ xs)) small reading stands =
    (stands.0, (λ none. let no : x ∷ xs ≡ [] = sym stands.1 ∙ none in cc), (left_of_held max payloads rest handed_out (sizing (x ∷ xs)) small stands.0 stands.1 stands.2).1)
stands_at_end max payloads rest handed_out (framing n xs) small reading stands =
    (stands.0, (λ none. let no : bytes_held (framing n xs) ≡ [] = sym stands.1 ∙ none in cc), (left_of_held max payloads rest handed_out (framing n xs) small stands.0 stands.1 stands.2).1)
stands_at_end max payloads rest handed_out (held n) small reading stands = absurd reading
stands_at_end max payloads rest handed_out (ready number payload) small reading stands = absurd reading
stands_at_end max payloads rest handed_out (waiting n) small reading stands = absurd reading
stands_at_end max payloads rest handed_out (writing xs) small reading stands = absurd reading
stands_at_end max payloads rest handed_out (ended cause) small reading stands = absurd reading

-- a new size
stands_anew : (max : ℕ) (payloads : List (List ℕ)) (rest : List ℕ) (handed_out : List (ℕ × List ℕ)) → AllGiven payloads handed_out → rest ≡ []
    → PhaseSays max payloads rest handed_out (sizing [])
stands_anew max payloads rest handed_out all none = (all, none, (omega arith, λ i. omega arith))

-- the admission of a frame
pub stands_admitted : (max : ℕ) (payloads : List (List ℕ)) (rest : List ℕ) (handed_out : List (ℕ × List ℕ)) (phase : Phase) → IsHeld phase
    → PhaseSays max payloads rest handed_out phase → PhaseSays max payloads rest handed_out (after_admission phase)
stands_admitted max payloads rest handed_out (held n) is stands = stands
stands_admitted max payloads rest handed_out (sizing xs) is stands = absurd is
stands_admitted max payloads rest handed_out (framing n xs) is stands = absurd is
stands_admitted max payloads rest handed_out (ready number payload) is stands = absurd is
stands_admitted max payloads rest handed_out (waiting n) is stands = absurd is
stands_admitted max payloads rest handed_out (writing xs) is stands = absurd is
stands_admitted max payloads rest handed_out (ended cause) is stands = absurd is

-- the outcome of a frame
stands_settled : (max : ℕ) (payloads : List (List ℕ)) (rest : List ℕ) (handed_out : List (ℕ × List ℕ)) (number : ℕ) (settled : Settled)
    → PhaseSays max payloads rest handed_out (waiting number) → PhaseSays max payloads rest handed_out (after_answer settled)
stands_settled max payloads rest handed_out number (Reply reply) stands = (stands.0, stands.1)
stands_settled max payloads rest handed_out number Nothing stands = stands_anew max payloads rest handed_out stands.0 stands.1
stands_settled max payloads rest handed_out number (Close fault) stands = (stands.0, stands.1, omega (arith, stands.2))
stands_settled max payloads rest handed_out number NoRoom stands = (inl stands.0, nothing_is_partial max rest stands.1)

pub stands_answered : (max : ℕ) (payloads : List (List ℕ)) (rest : List ℕ) (handed_out : List (ℕ × List ℕ)) (phase : Phase) (settled : Settled) → IsWaiting phase
    → PhaseSays max payloads rest handed_out phase → PhaseSays max payloads rest handed_out (after_answer settled)
stands_answered max payloads rest handed_out (waiting number) settled is stands = stands_settled max payloads rest handed_out number settled stands
stands_answered max payloads rest handed_out (sizing xs) settled is stands = absurd is
stands_answered max payloads rest handed_out (held n) settled is stands = absurd is
stands_answered max payloads rest handed_out (framing n xs) settled is stands = absurd is
stands_answered max payloads rest handed_out (ready number payload) settled is stands = absurd is
stands_answered max payloads rest handed_out (writing xs) settled is stands = absurd is
stands_answered max payloads rest handed_out (ended cause) settled is stands = absurd is

-- a write
stands_left : (max : ℕ) (payloads : List (List ℕ)) (rest : List ℕ) (handed_out : List (ℕ × List ℕ)) (left : List ℕ) → AllGiven payloads handed_out → rest ≡ []
    → PhaseSays max payloads rest handed_out (after_wrote left)
stands_left max payloads rest handed_out [] all none = stands_anew max payloads rest handed_out all none
stands_left max payloads rest handed_out (x ∷ xs) all none = (all, none)

pub stands_written : (max : ℕ) (payloads : List (List ℕ)) (rest : List ℕ) (handed_out : List (ℕ × List ℕ)) (phase : Phase) (left : List ℕ) → 0 < length (left_to_write phase)
    → PhaseSays max payloads rest handed_out phase → PhaseSays max payloads rest handed_out (after_wrote left)
stands_written max payloads rest handed_out (writing xs) left some stands = stands_left max payloads rest handed_out left stands.0 stands.1
stands_written max payloads rest handed_out (sizing xs) left some stands = absurd (omega arith)
stands_written max payloads rest handed_out (held n) left some stands = absurd (omega arith)
stands_written max payloads rest handed_out (framing n xs) left some stands = absurd (omega arith)
stands_written max payloads rest handed_out (ready number payload) left some stands = absurd (omega arith)
stands_written max payloads rest handed_out (waiting n) left some stands = absurd (omega arith)
stands_written max payloads rest handed_out (ended cause) left some stands = absurd (omega arith)

-- the payload that is whole is handed out
pub stands_given : (max : ℕ) (payloads : List (List ℕ)) (rest : List ℕ) (handed_out : List (ℕ × List ℕ)) (number : ℕ) (payload : List ℕ)
    → PhaseSays max payloads rest handed_out (ready number payload) → PhaseSays max payloads rest (handed_out ++ (number, payload) ∷ []) (waiting number)
stands_given max payloads rest handed_out number payload stands =
    let is = stands.0 in
    let numbers : handed_out ++ (number, payload) ∷ [] ≡ enumerate_from 0 is.before ++ (length is.before, payload) ∷ [] =
    ap (λ (pairs : List (ℕ × List ℕ)). pairs ++ (number, payload) ∷ []) is.handed
    ∙ ap (λ (n : ℕ). enumerate_from 0 is.before ++ (n, payload) ∷ []) is.numbered in
    let all : AllGiven payloads (handed_out ++ (number, payload) ∷ []) =
    numbers ∙ sym (handed_on is.before payload) ∙ ap (λ (ps : List (List ℕ)). enumerate_from 0 ps) (sym is.last) in
    (all, stands.1, omega (arith, ap length is.last, is.numbered, length-append is.before (payload ∷ [])))
