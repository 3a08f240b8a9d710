-- Runs of the tiny desk: the acts that lead to each.
use Rattle.std.proofs.Common.{◌≡◌, ℕ, zero, suc, pos, ◌<◌, ◌^◌, None, Some, List, [], ◌∷◌, ◌++◌, slice_get, refl, sym, ap, ◌∙◌, subst, inl, inr, arith, rules, FitsSigned}
use Rattle.std.specs.Int.{w32, from_be_bytes, cast_unsigned, cast_signed}
use Rattle.std.proofs.lemmas.Int.{to_z-of_z}
use Rattle.std.proofs.lemmas.Nat.{from_be_bytes-to_be_bytes_4}
use Rattle.std.proofs.lemmas.Option.{slice_get_past}
use Rattle.host_model.specs.declared.cause.EndCause.{EndCause}
use Rattle.streams.specs.declared.marks.Mark.TheVariants.{Opened, Read, Ended, Wrote, Closed}
use Rattle.host_model.specs.declared.cause.EndCause.TheVariants.{End, Stopped}
use Rattle.host_model.specs.Frames.{size_bytes, IsOutside, IsPartial, HasNoBadSize}
use Rattle.host_model.specs.Journal.{entries_of}
use Rattle.host_model.specs.World.{World, Act, moves, enters, Move, opens, reads, reads_frame, ends, replies, writes, gives_up, marks_by, Moves, ReachedBy, HasEnded, Endpoint, Stage, open_, pending, answered, over, over_pending, at_first, with_endpoint, unopened_endpoint}
use Rattle.host_model.specs.TinyDesk.{tiny_desk, counting, tiny_entry, size_of_one, IsTinyRun}
use Rattle.host_model.proofs.Lists.{nil-cons, append_parts}
use Rattle.host_model.proofs.Framing.{rest_size}
use Rattle.host_model.proofs.Filters.{endpoint_other}
use Rattle.host_model.proofs.Runs.{meets}

abbrev Tiny : Type 0
Tiny = World ℕ ℕ

abbrev Reached : List (Act ℕ ℕ) → Tiny → Type 0
Reached acts world = ReachedBy tiny_desk counting (5 ∷ []) acts world

-- the world once connection 0 has moved
abbrev moved : Tiny → Move → Endpoint → Tiny
moved old move endpoint = record { tape = old.tape ++ marks_by 0 move; journal = old.journal; endpoints = with_endpoint old.endpoints 0 endpoint }

-- one more move of connection 0
move_on : (acts : List (Act ℕ ℕ)) (old : Tiny) (move : Move) (endpoint : Endpoint) → Reached acts old → Moves tiny_desk (entries_of 0 old.journal) (old.endpoints 0) move endpoint
    → Reached (moves 0 move ∷ acts) (moved old move endpoint)
move_on acts old move endpoint r m = (old, r, (endpoint, m, refl))

-- connection 0 with its one payload
abbrev endpoint : Stage → Endpoint
endpoint stage = record { payloads = (1 ∷ []) ∷ []; held = []; stage = stage }

-- and once its call is entered
abbrev entered : Tiny → Stage → Tiny
entered old stage = record { tape = old.tape; journal = old.journal ++ tiny_entry 0 5 ∷ []; endpoints = with_endpoint old.endpoints 0 (record (old.endpoints 0) { stage = stage }) }

abbrev framed : List ℕ
framed = 0 ∷ 0 ∷ 0 ∷ 1 ∷ 1 ∷ []

-- it is opened, has read a frame, is given up, and its call is entered
abbrev first : Tiny
first = moved at_first opens (record { payloads = []; held = []; stage = open_ [] })

abbrev second : Tiny
second = moved first (reads_frame framed (1 ∷ [])) (endpoint pending)

abbrev third : Tiny
third = moved second (gives_up Stopped) (endpoint (over_pending Stopped))

abbrev fourth : Tiny
fourth = entered third (over Stopped)

-- the acts that lead there
reached_second : Reached (moves 0 (reads_frame framed (1 ∷ [])) ∷ moves 0 opens ∷ []) second
reached_second =
    move_on (moves 0 opens ∷ []) first (reads_frame framed (1 ∷ [])) (endpoint pending)
    (move_on [] at_first opens (record { payloads = []; held = []; stage = open_ [] }) refl (refl, refl))
    (refl, record { some = omega arith; within = omega arith }, refl, refl)

reached_fourth : Reached (enters (tiny_entry 0 5) ∷ moves 0 (gives_up Stopped) ∷ moves 0 (reads_frame framed (1 ∷ [])) ∷ moves 0 opens ∷ []) fourth
reached_fourth = (
  third,
  move_on (moves 0 (reads_frame framed (1 ∷ [])) ∷ moves 0 opens ∷ []) second (gives_up Stopped) (endpoint (over_pending Stopped)) reached_second
      (over_pending Stopped, tt, refl, refl),
  ([], 1 ∷ [], over Stopped, refl, refl, refl, refl, refl, refl),
)

-- the other connections stay unopened while connection 0 moves
abbrev Others : (ℕ → Endpoint) → Type 0
Others endpoints = (c : ℕ) → endpoints (suc c) ≡ unopened_endpoint

others : (endpoints : ℕ → Endpoint) (endpoint : Endpoint) → Others endpoints → Others (with_endpoint endpoints 0 endpoint)
others endpoints endpoint o c = endpoint_other endpoints 0 endpoint (suc c) (λ e. let f : ⊥ = omega arith in f) ∙ o c

-- a run of connection 0 alone that has ended by a cause
all_ended : (endpoints : ℕ → Endpoint) (cause : EndCause) → Others endpoints → HasEnded (endpoints 0).stage (Some cause) → (c : ℕ) → HasEnded (endpoints c).stage (slice_get (cause ∷ []) c)
all_ended endpoints cause o e zero = e
all_ended endpoints cause o e (suc c) =
    subst (HasEnded (endpoints (suc c)).stage) (sym (slice_get_past (cause ∷ []) (suc c) (omega arith))) (subst (λ l. HasEnded l.stage None) (sym (o c)) tt)

others_second : Others second.endpoints
others_second = others first.endpoints (endpoint pending) (others (λ _. unopened_endpoint) (record { payloads = []; held = []; stage = open_ [] }) (λ c. refl))

pub stopped : IsTinyRun (Opened 0 ∷ Read 0 framed ∷ Closed 0 ∷ []) (tiny_entry 0 5 ∷ []) (Stopped ∷ [])
stopped =
    meets tiny_desk counting (5 ∷ []) (enters (tiny_entry 0 5) ∷ moves 0 (gives_up Stopped) ∷ moves 0 (reads_frame framed (1 ∷ [])) ∷ moves 0 opens ∷ []) fourth (Stopped ∷ [])
    (omega arith) reached_fourth
    (all_ended fourth.endpoints Stopped (others third.endpoints (endpoint (over Stopped)) (others second.endpoints (endpoint (over_pending Stopped)) others_second)) refl)

-- a size of one byte is less than a frame
good_size : HasNoBadSize 2 size_of_one
good_size z more o e =
    let p : size_of_one ≡ size_bytes z = (append_parts size_of_one (size_bytes z) [] more refl e).0 in
    let fits : FitsSigned w32 z = o.0 in
    let b : cast_unsigned w32 z < 2 ^ 32 = search (rules, fits) in
    let u : 1 ≡ cast_unsigned w32 z = ap (from_be_bytes w32) p ∙ from_be_bytes-to_be_bytes_4 (cast_unsigned w32 z) b in
    let v : z ≡ pos 1 = sym (to_z-of_z w32 z o.0) ∙ ap (cast_signed w32) (sym u) in
    let w : IsOutside 2 (pos 1) = subst (IsOutside 2) v o in
    elim w.1 [ inl low ↦ let f : ⊥ = omega arith in f | inr high ↦ let f : ⊥ = omega arith in f ]

partial_one : IsPartial 2 size_of_one
partial_one = record { rest = rest_size 2 (pos 1); size = good_size }

-- connection 0 while it has read a size alone
abbrev sized : Tiny
sized = moved first (reads size_of_one) (record { payloads = []; held = size_of_one; stage = open_ [] })

-- its frame is whole, its call is entered, its reply is made and written, and its input ends
abbrev asked : Tiny
asked = moved sized (reads_frame (1 ∷ []) (1 ∷ [])) (endpoint pending)

abbrev called : Tiny
called = entered asked answered

abbrev said : Tiny
said = moved called replies (endpoint (open_ (5 ∷ 5 ∷ [])))

abbrev half : Tiny
half = moved said (writes (5 ∷ [])) (endpoint (open_ (5 ∷ [])))

abbrev whole : Tiny
whole = moved half (writes (5 ∷ [])) (endpoint (open_ []))

abbrev ended : Tiny
ended = moved whole ends (endpoint (over End))

-- these acts, the last one first
abbrev acts_asked : List (Act ℕ ℕ)
acts_asked = moves 0 (reads_frame (1 ∷ []) (1 ∷ [])) ∷ moves 0 (reads size_of_one) ∷ moves 0 opens ∷ []

abbrev acts_called : List (Act ℕ ℕ)
acts_called = enters (tiny_entry 0 5) ∷ acts_asked

abbrev acts_whole : List (Act ℕ ℕ)
acts_whole = moves 0 (writes (5 ∷ [])) ∷ moves 0 (writes (5 ∷ [])) ∷ moves 0 replies ∷ acts_called

reached_asked : Reached acts_asked asked
reached_asked =
    move_on (moves 0 (reads size_of_one) ∷ moves 0 opens ∷ []) sized (reads_frame (1 ∷ []) (1 ∷ [])) (endpoint pending)
    (move_on (moves 0 opens ∷ []) first (reads size_of_one) (record { payloads = []; held = size_of_one; stage = open_ [] })
    (move_on [] at_first opens (record { payloads = []; held = []; stage = open_ [] }) refl (refl, refl))
    (refl, (λ e. nil-cons 0 (0 ∷ 0 ∷ 1 ∷ []) (sym e)), partial_one, refl))
    (refl, record { some = omega arith; within = omega arith }, refl, refl)

reached_called : Reached acts_called called
reached_called = (asked, reached_asked, ([], 1 ∷ [], answered, refl, refl, refl, refl, refl, refl))

reached_whole : Reached acts_whole whole
reached_whole =
    move_on (moves 0 (writes (5 ∷ [])) ∷ moves 0 replies ∷ acts_called) half (writes (5 ∷ [])) (endpoint (open_ []))
    (move_on (moves 0 replies ∷ acts_called) said (writes (5 ∷ [])) (endpoint (open_ (5 ∷ [])))
    (move_on acts_called called replies (endpoint (open_ (5 ∷ 5 ∷ []))) reached_called ([], 1 ∷ [], refl, refl, refl))
    (5 ∷ [], refl, (λ e. nil-cons 5 [] (sym e)), refl))
    ([], refl, (λ e. nil-cons 5 [] (sym e)), refl)

others_called : Others called.endpoints
others_called =
    others asked.endpoints (endpoint answered)
    (others sized.endpoints (endpoint pending)
    (others first.endpoints (record { payloads = []; held = size_of_one; stage = open_ [] })
    (others (λ _. unopened_endpoint) (record { payloads = []; held = []; stage = open_ [] }) (λ c. refl))))

others_ended : Others ended.endpoints
others_ended =
    others whole.endpoints (endpoint (over End))
    (others half.endpoints (endpoint (open_ []))
    (others said.endpoints (endpoint (open_ (5 ∷ []))) (others called.endpoints (endpoint (open_ (5 ∷ 5 ∷ []))) others_called)))

pub replied : IsTinyRun (Opened 0 ∷ Read 0 size_of_one ∷ Read 0 (1 ∷ []) ∷ Wrote 0 (5 ∷ []) ∷ Wrote 0 (5 ∷ []) ∷ Ended 0 ∷ Closed 0 ∷ []) (tiny_entry 0 5 ∷ []) (End ∷ [])
replied =
    meets tiny_desk counting (5 ∷ []) (moves 0 ends ∷ acts_whole) ended (End ∷ []) (omega arith)
    (move_on acts_whole whole ends (endpoint (over End)) reached_whole (refl, refl)) (all_ended ended.endpoints End others_ended refl)
