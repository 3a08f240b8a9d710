-- Why each of the wrong runs of the tiny desk is none.
use Rattle.std.proofs.Common.{◌≡◌, ℕ, ◌<◌, ◌<ℤ◌, ◌⊎◌, pos, FitsSigned, List, [], ◌∷◌, ◌++◌, length, refl, sym, ap, ◌∙◌, subst, inl, inr, arith, rules, append_assoc}
use Rattle.std.specs.Int.{w32}
use Rattle.std.proofs.lemmas.List.{same_from_push}
use Rattle.std.specs.List.{flat_map, AllByRecursion}
use Rattle.streams.specs.declared.outcomes.EnvelopeFault.TheVariants.{Short}
use Rattle.streams.specs.declared.marks.Mark.{Mark}
use Rattle.streams.specs.declared.marks.Mark.TheVariants.{Opened, Read, Ended, Wrote, ReadFailed, WriteFailed, Closed}
use Rattle.host_model.specs.declared.cause.EndCause.TheVariants.{End, Cut, SizeFault, Envelope, ReadFault, WriteFault, Stopped}
use Rattle.host_model.specs.Frames.{Frames, frame, ArePayloads, IsOutside}
use Rattle.host_model.specs.Marks.{marks_of, input, IsTransfer}
use Rattle.host_model.specs.Journal.{JournalEntry}
use Rattle.host_model.specs.Conversation.{but_last, Conversation, AllKeepConnection, LastCloses, Done, IsInTurn, sent, IsPrefix}
use Rattle.host_model.specs.OrderBetween.{HasBegun, IsWhole}
use Rattle.host_model.specs.DeskRules.{Close}
use Rattle.host_model.specs.TinyDesk.{tiny_desk, tiny_entry, size_of_one, IsTinyRun}
use Rattle.host_model.proofs.Lists.{nil-cons, cons_parts}
use Rattle.host_model.proofs.Framing.{only_split, rest_nil, rest_size}

-- the splits of a size, of a frame, and of a frame and a size
size_split : Frames 2 size_of_one [] size_of_one
size_split = record { whole = refl; each = tt; no_more = rest_size 2 (pos 1) }

-- a payload of one byte
payload_each : ArePayloads 2 ((1 ∷ []) ∷ [])
payload_each = (record { some = omega arith; within = omega arith }, tt)

frame_split : Frames 2 (0 ∷ 0 ∷ 0 ∷ 1 ∷ 1 ∷ []) ((1 ∷ []) ∷ []) []
frame_split = record { whole = refl; each = payload_each; no_more = rest_nil 2 }

more_split : Frames 2 (0 ∷ 0 ∷ 0 ∷ 1 ∷ 1 ∷ 0 ∷ 0 ∷ 0 ∷ 1 ∷ []) ((1 ∷ []) ∷ []) size_of_one
more_split = record { whole = refl; each = payload_each; no_more = rest_size 2 (pos 1) }

-- bytes of the tiny desk have one split
same : (bytes rest other : List ℕ) (ps qs : List (List ℕ)) → Frames 2 bytes ps rest → Frames 2 bytes qs other → (ps ≡ qs) × (rest ≡ other)
same bytes rest other ps qs f g = only_split 2 bytes rest other ps qs (omega arith) f g

-- one call isn't two
twice_done : (ps : List (List ℕ)) → ps ≡ (1 ∷ []) ∷ [] → Done tiny_desk (tiny_entry 0 5 ∷ tiny_entry 0 6 ∷ []) ps → ⊥
twice_done ps e d = let f : Done tiny_desk (tiny_entry 0 5 ∷ tiny_entry 0 6 ∷ []) ((1 ∷ []) ∷ []) = subst (Done tiny_desk (tiny_entry 0 5 ∷ tiny_entry 0 6 ∷ [])) e d in cc

pub called_twice : IsTinyRun (Opened 0 ∷ Read 0 size_of_one ∷ Read 0 (1 ∷ []) ∷ Wrote 0 (5 ∷ 5 ∷ []) ∷ Ended 0 ∷ Closed 0 ∷ []) (tiny_entry 0 5 ∷ tiny_entry 0 6 ∷ []) (End ∷ []) → ⊥
called_twice h =
    let c : Conversation tiny_desk 0 _ _ End = h.each 0 End refl in
    twice_done c.talk.payloads (same (0 ∷ 0 ∷ 0 ∷ 1 ∷ 1 ∷ []) c.talk.rest [] c.talk.payloads ((1 ∷ []) ∷ []) c.talk.frames frame_split).0 c.talk.ended.2.done

pub replied_twice : IsTinyRun (Opened 0 ∷ Read 0 size_of_one ∷ Read 0 (1 ∷ []) ∷ Wrote 0 (5 ∷ 5 ∷ []) ∷ Wrote 0 (5 ∷ 5 ∷ []) ∷ Ended 0 ∷ Closed 0 ∷ []) (tiny_entry 0 5 ∷ []) (End ∷ []) → ⊥
replied_twice h =
    let c : Conversation tiny_desk 0 _ _ End = h.each 0 End refl in
    let p : c.talk.payloads ≡ (1 ∷ []) ∷ [] = (same (0 ∷ 0 ∷ 0 ∷ 1 ∷ 1 ∷ []) c.talk.rest [] c.talk.payloads ((1 ∷ []) ∷ []) c.talk.frames frame_split).0 in
    let w : 5 ∷ 5 ∷ 5 ∷ 5 ∷ [] ≡ 5 ∷ 5 ∷ [] = c.talk.ended.2.written ∙ ap (sent tiny_desk (tiny_entry 0 5 ∷ []) 0) p in
    nil-cons 5 (5 ∷ []) (sym (cons_parts 5 5 (5 ∷ 5 ∷ []) [] (cons_parts 5 5 (5 ∷ 5 ∷ 5 ∷ []) (5 ∷ []) w).1).1)

pub not_replied : IsTinyRun (Opened 0 ∷ Read 0 size_of_one ∷ Read 0 (1 ∷ []) ∷ Ended 0 ∷ Closed 0 ∷ []) (tiny_entry 0 5 ∷ []) (End ∷ []) → ⊥
not_replied h =
    let c : Conversation tiny_desk 0 _ _ End = h.each 0 End refl in
    let p : c.talk.payloads ≡ (1 ∷ []) ∷ [] = (same (0 ∷ 0 ∷ 0 ∷ 1 ∷ 1 ∷ []) c.talk.rest [] c.talk.payloads ((1 ∷ []) ∷ []) c.talk.frames frame_split).0 in
    nil-cons 5 (5 ∷ []) (c.talk.ended.2.written ∙ ap (sent tiny_desk (tiny_entry 0 5 ∷ []) 0) p)

-- a number is neither less nor more than itself
differ : (a b : ℕ) → a ≡ b → a < b ⊎ b < a → ⊥
differ a b e (inl l) = let f : ⊥ = omega arith in f
differ a b e (inr l) = let f : ⊥ = omega arith in f

pub another_answer : IsTinyRun (Opened 0 ∷ Read 0 size_of_one ∷ Read 0 (1 ∷ []) ∷ Wrote 0 (6 ∷ 6 ∷ []) ∷ Ended 0 ∷ Closed 0 ∷ []) (tiny_entry 0 6 ∷ []) (End ∷ []) → ⊥
another_answer h = differ 6 5 h.legal.0 (inr (omega arith))

pub end_in_a_frame : IsTinyRun (Opened 0 ∷ Read 0 size_of_one ∷ Ended 0 ∷ Closed 0 ∷ []) [] (End ∷ []) → ⊥
end_in_a_frame h =
    let c : Conversation tiny_desk 0 _ _ End = h.each 0 End refl in
    nil-cons 0 (0 ∷ 0 ∷ 1 ∷ []) (sym c.talk.ended.1 ∙ (same size_of_one c.talk.rest size_of_one c.talk.payloads [] c.talk.frames size_split).1)

pub cut_behind_a_frame : IsTinyRun (Opened 0 ∷ Read 0 size_of_one ∷ Read 0 (1 ∷ []) ∷ Wrote 0 (5 ∷ 5 ∷ []) ∷ Ended 0 ∷ Closed 0 ∷ []) (tiny_entry 0 5 ∷ []) (Cut ∷ []) → ⊥
cut_behind_a_frame h =
    let c : Conversation tiny_desk 0 _ _ Cut = h.each 0 Cut refl in
    c.talk.ended.1 (same (0 ∷ 0 ∷ 0 ∷ 1 ∷ 1 ∷ []) c.talk.rest [] c.talk.payloads ((1 ∷ []) ∷ []) c.talk.frames frame_split).1

pub good_size_refused : IsTinyRun (Opened 0 ∷ Read 0 size_of_one ∷ Closed 0 ∷ []) [] (SizeFault (pos 1) ∷ []) → ⊥
good_size_refused h =
    let c : Conversation tiny_desk 0 _ _ (SizeFault (pos 1)) = h.each 0 (SizeFault (pos 1)) refl in
    elim c.talk.ended.2.1 [ inl low ↦ let f : ⊥ = omega arith in f | inr high ↦ let f : ⊥ = omega arith in f ]

pub not_closed : IsTinyRun (Opened 0 ∷ Read 0 size_of_one ∷ Read 0 (1 ∷ []) ∷ Wrote 0 (5 ∷ 5 ∷ []) ∷ Ended 0 ∷ []) (tiny_entry 0 5 ∷ []) (End ∷ []) → ⊥
not_closed h =
    let c : Conversation tiny_desk 0 _ _ End = h.each 0 End refl in
    let own : List Mark = Opened 0 ∷ Read 0 size_of_one ∷ Read 0 (1 ∷ []) ∷ Wrote 0 (5 ∷ 5 ∷ []) ∷ [] in
    let s : own ++ Ended 0 ∷ [] ≡ (Opened 0 ∷ (c.marks.transfers ++ Ended 0 ∷ [])) ++ Closed 0 ∷ [] =
    c.marks.shape ∙ ap (λ r. Opened 0 ∷ r) (sym (append_assoc c.marks.transfers (Ended 0 ∷ []) (Closed 0 ∷ []))) in
    let l : Ended 0 ≡ Closed 0 = (same_from_push own (Opened 0 ∷ (c.marks.transfers ++ Ended 0 ∷ [])) (Ended 0) (Closed 0) s).1 in
    cc

pub replied_before_it_is_whole : IsTinyRun (Opened 0 ∷ Read 0 size_of_one ∷ Wrote 0 (5 ∷ 5 ∷ []) ∷ Read 0 (1 ∷ []) ∷ Ended 0 ∷ Closed 0 ∷ []) (tiny_entry 0 5 ∷ []) (End ∷ []) → ⊥
replied_before_it_is_whole h =
    let c : Conversation tiny_desk 0 _ _ End = h.each 0 End refl in
    let t : IsInTurn tiny_desk (tiny_entry 0 5 ∷ []) (Opened 0 ∷ Read 0 size_of_one ∷ Wrote 0 (5 ∷ 5 ∷ []) ∷ []) =
    c.turns (Opened 0 ∷ Read 0 size_of_one ∷ Wrote 0 (5 ∷ 5 ∷ []) ∷ []) (Read 0 (1 ∷ []) ∷ Ended 0 ∷ Closed 0 ∷ []) refl in
    let p : t.payloads ≡ [] = (same size_of_one t.rest size_of_one t.payloads [] t.frames size_split).0 in
    let w : IsPrefix (5 ∷ 5 ∷ []) [] = subst (λ ps. IsPrefix (5 ∷ 5 ∷ []) (sent tiny_desk (tiny_entry 0 5 ∷ []) 0 ps)) p t.replying.within in
    nil-cons 5 (5 ∷ w.0) w.1

pub read_on_before_the_reply : IsTinyRun (Opened 0 ∷ Read 0 (0 ∷ 0 ∷ 0 ∷ 1 ∷ 1 ∷ []) ∷ Read 0 size_of_one ∷ Wrote 0 (5 ∷ 5 ∷ []) ∷ Ended 0 ∷ Closed 0 ∷ []) (tiny_entry 0 5 ∷ []) (Cut ∷ []) → ⊥
read_on_before_the_reply h =
    let c : Conversation tiny_desk 0 _ _ Cut = h.each 0 Cut refl in
    let t : IsInTurn tiny_desk (tiny_entry 0 5 ∷ []) (Opened 0 ∷ Read 0 (0 ∷ 0 ∷ 0 ∷ 1 ∷ 1 ∷ []) ∷ Read 0 size_of_one ∷ []) =
    c.turns (Opened 0 ∷ Read 0 (0 ∷ 0 ∷ 0 ∷ 1 ∷ 1 ∷ []) ∷ Read 0 size_of_one ∷ []) (Wrote 0 (5 ∷ 5 ∷ []) ∷ Ended 0 ∷ Closed 0 ∷ []) refl in
    let s : (t.payloads ≡ (1 ∷ []) ∷ []) × (t.rest ≡ size_of_one) =
    same (0 ∷ 0 ∷ 0 ∷ 1 ∷ 1 ∷ 0 ∷ 0 ∷ 0 ∷ 1 ∷ []) t.rest size_of_one t.payloads ((1 ∷ []) ∷ []) t.frames more_split in
    nil-cons 5 (5 ∷ []) (t.first_sent (λ e. nil-cons 0 (0 ∷ 0 ∷ 1 ∷ []) (sym e ∙ s.1)) ∙ ap (sent tiny_desk (tiny_entry 0 5 ∷ []) 0) s.0)

-- the frame of connection 1 isn't whole before any of its bytes
not_whole : (tape : List Mark) → input (marks_of 1 tape) ≡ [] → IsWhole tiny_desk tape (tiny_entry 1 5) → ⊥
not_whole tape e w = go w.payloads w.among (sym e ∙ w.bytes)
  where
    go : (ps : List (List ℕ)) → 0 < length ps → [] ≡ flat_map frame ps ++ w.more → ⊥
    go [] l b = let f : ⊥ = omega arith in f
    go (p ∷ ps) l b = cc

pub out_of_order : IsTinyRun (Opened 0 ∷ Opened 1 ∷ Read 0 (0 ∷ 0 ∷ 0 ∷ 1 ∷ 1 ∷ []) ∷ Wrote 0 (6 ∷ []) ∷ Read 1 (0 ∷ 0 ∷ 0 ∷ 1 ∷ 1 ∷ []) ∷ Wrote 0 (6 ∷ []) ∷ Wrote 1 (5 ∷ 5 ∷ [])
    ∷ Ended 0 ∷ Closed 0 ∷ Ended 1 ∷ Closed 1 ∷ []) (tiny_entry 1 5 ∷ tiny_entry 0 6 ∷ []) (End ∷ End ∷ []) → ⊥
out_of_order h =
    let front : List Mark = Opened 0 ∷ Opened 1 ∷ Read 0 (0 ∷ 0 ∷ 0 ∷ 1 ∷ 1 ∷ []) ∷ Wrote 0 (6 ∷ []) ∷ [] in
    let b : HasBegun tiny_desk (tiny_entry 1 5 ∷ tiny_entry 0 6 ∷ []) front (tiny_entry 0 6) =
    record { payloads = (1 ∷ []) ∷ []; rest = []; frames = frame_split; among = omega arith; loud = refl; begun = omega arith } in
    let l : 1 < 0 =
    h.order front (Read 1 (0 ∷ 0 ∷ 0 ∷ 1 ∷ 1 ∷ []) ∷ Wrote 0 (6 ∷ []) ∷ Wrote 1 (5 ∷ 5 ∷ []) ∷ Ended 0 ∷ Closed 0 ∷ Ended 1 ∷ Closed 1 ∷ []) refl 1 0 (tiny_entry 0 6) (tiny_entry 1 5) refl refl b
    (not_whole front refl) in
    let f : ⊥ = omega arith in f

pub marks_of_nobody : IsTinyRun (Opened 0 ∷ []) [] [] → ⊥
marks_of_nobody h = let e : Opened 0 ∷ [] ≡ [] = h.no_marks 0 (omega arith) in cc

pub entry_of_nobody : IsTinyRun [] (tiny_entry 0 5 ∷ []) [] → ⊥
entry_of_nobody h = let e : tiny_entry 0 5 ∷ [] ≡ [] = h.no_entries 0 (omega arith) in cc

refused_split : Frames 2 (0 ∷ 0 ∷ 0 ∷ 1 ∷ 4 ∷ []) ((4 ∷ []) ∷ []) []
refused_split = record { whole = refl; each = (record { some = omega arith; within = omega arith }, tt); no_more = rest_nil 2 }

pub end_behind_a_refused_head : IsTinyRun (Opened 0 ∷ Read 0 (0 ∷ 0 ∷ 0 ∷ 1 ∷ 4 ∷ []) ∷ Ended 0 ∷ Closed 0 ∷ []) [] (End ∷ []) → ⊥
end_behind_a_refused_head h =
    let c : Conversation tiny_desk 0 _ _ End = h.each 0 End refl in
    let p : c.talk.payloads ≡ (4 ∷ []) ∷ [] = (same (0 ∷ 0 ∷ 0 ∷ 1 ∷ 4 ∷ []) c.talk.rest [] c.talk.payloads ((4 ∷ []) ∷ []) c.talk.frames refused_split).0 in
    (subst (AllKeepConnection tiny_desk) p c.talk.ended.0).0

none_split : Frames 2 (0 ∷ 0 ∷ 0 ∷ 0 ∷ []) [] (0 ∷ 0 ∷ 0 ∷ 0 ∷ [])
none_split = record { whole = refl; each = tt; no_more = rest_size 2 (pos 0) }

-- a size of no bytes is one that no frame has
outside_none : IsOutside 2 (pos 0)
outside_none = let fits : FitsSigned w32 (pos 0) = search rules in let low : pos 0 <ℤ pos 1 = omega arith in (fits, inl low)

pub stopped_behind_a_bad_size : IsTinyRun (Opened 0 ∷ Read 0 (0 ∷ 0 ∷ 0 ∷ 0 ∷ []) ∷ Closed 0 ∷ []) [] (Stopped ∷ []) → ⊥
stopped_behind_a_bad_size h =
    let c : Conversation tiny_desk 0 _ _ Stopped = h.each 0 Stopped refl in
    let e : c.talk.rest ≡ 0 ∷ 0 ∷ 0 ∷ 0 ∷ [] = (same (0 ∷ 0 ∷ 0 ∷ 0 ∷ []) c.talk.rest (0 ∷ 0 ∷ 0 ∷ 0 ∷ []) c.talk.payloads [] c.talk.frames none_split).1 in
    (c.talk.ended.behind (λ n. nil-cons 0 (0 ∷ 0 ∷ 0 ∷ []) (sym n ∙ e))).1 (pos 0) [] outside_none e

pub cut_behind_a_bad_size : IsTinyRun (Opened 0 ∷ Read 0 (0 ∷ 0 ∷ 0 ∷ 0 ∷ []) ∷ Ended 0 ∷ Closed 0 ∷ []) [] (Cut ∷ []) → ⊥
cut_behind_a_bad_size h =
    let c : Conversation tiny_desk 0 _ _ Cut = h.each 0 Cut refl in
    c.talk.ended.2 (pos 0) [] outside_none (same (0 ∷ 0 ∷ 0 ∷ 0 ∷ []) c.talk.rest (0 ∷ 0 ∷ 0 ∷ 0 ∷ []) c.talk.payloads [] c.talk.frames none_split).1

pub read_fault_behind_a_bad_size : IsTinyRun (Opened 0 ∷ Read 0 (0 ∷ 0 ∷ 0 ∷ 0 ∷ []) ∷ ReadFailed 0 ∷ Closed 0 ∷ []) [] (ReadFault ∷ []) → ⊥
read_fault_behind_a_bad_size h =
    let c : Conversation tiny_desk 0 _ _ ReadFault = h.each 0 ReadFault refl in
    c.talk.ended.1 (pos 0) [] outside_none (same (0 ∷ 0 ∷ 0 ∷ 0 ∷ []) c.talk.rest (0 ∷ 0 ∷ 0 ∷ 0 ∷ []) c.talk.payloads [] c.talk.frames none_split).1

calls_not_closes : (p : List ℕ) → p ≡ 1 ∷ [] → tiny_desk.decide p ≡ Close Short → ⊥
calls_not_closes p e closes = let f : tiny_desk.decide (1 ∷ []) ≡ Close Short = subst (λ r. tiny_desk.decide r ≡ Close Short) e closes in cc

pub good_head_refused : IsTinyRun (Opened 0 ∷ Read 0 (0 ∷ 0 ∷ 0 ∷ 1 ∷ 1 ∷ []) ∷ Wrote 0 (5 ∷ 5 ∷ []) ∷ Closed 0 ∷ []) (tiny_entry 0 5 ∷ []) (Envelope Short ∷ []) → ⊥
good_head_refused h =
    let c : Conversation tiny_desk 0 _ _ (Envelope Short) = h.each 0 (Envelope Short) refl in
    let l : LastCloses tiny_desk c.talk.payloads Short = c.talk.ended.0 in
    let p : c.talk.payloads ≡ (1 ∷ []) ∷ [] = (same (0 ∷ 0 ∷ 0 ∷ 1 ∷ 1 ∷ []) c.talk.rest [] c.talk.payloads ((1 ∷ []) ∷ []) c.talk.frames frame_split).0 in
    calls_not_closes l.1 (same_from_push l.0 [] l.1 (1 ∷ []) (sym l.2 ∙ p)).1 l.3

opened_once : (transfers : List Mark) → AllByRecursion IsTransfer transfers → transfers ≡ Opened 0 ∷ [] → ⊥
opened_once transfers a e = (subst (AllByRecursion IsTransfer) e a).0

pub opened_twice : IsTinyRun (Opened 0 ∷ Opened 0 ∷ Ended 0 ∷ Closed 0 ∷ []) [] (End ∷ []) → ⊥
opened_twice h =
    let c : Conversation tiny_desk 0 _ _ End = h.each 0 End refl in
    let own : List Mark = Opened 0 ∷ c.marks.transfers in
    let s : (own ++ Ended 0 ∷ []) ++ Closed 0 ∷ [] ≡ (Opened 0 ∷ Opened 0 ∷ Ended 0 ∷ []) ++ Closed 0 ∷ [] =
    append_assoc own (Ended 0 ∷ []) (Closed 0 ∷ []) ∙ sym c.marks.shape in
    let t : own ++ Ended 0 ∷ [] ≡ (Opened 0 ∷ Opened 0 ∷ []) ++ Ended 0 ∷ [] =
    (same_from_push (own ++ Ended 0 ∷ []) (Opened 0 ∷ Opened 0 ∷ Ended 0 ∷ []) (Closed 0) (Closed 0) s).0 in
    let u : own ≡ Opened 0 ∷ Opened 0 ∷ [] = (same_from_push own (Opened 0 ∷ Opened 0 ∷ []) (Ended 0) (Ended 0) t).0 in
    opened_once c.marks.transfers c.marks.only (cons_parts (Opened 0) (Opened 0) c.marks.transfers (Opened 0 ∷ []) u).1

two_split : Frames 2 (0 ∷ 0 ∷ 0 ∷ 1 ∷ 1 ∷ 0 ∷ 0 ∷ 0 ∷ 1 ∷ 1 ∷ []) ((1 ∷ []) ∷ (1 ∷ []) ∷ []) []
two_split = record { whole = refl; each = (payload_each.0, payload_each); no_more = rest_nil 2 }

pub two_frames_at_once : IsTinyRun (Opened 0 ∷ Read 0 (0 ∷ 0 ∷ 0 ∷ 1 ∷ 1 ∷ 0 ∷ 0 ∷ 0 ∷ 1 ∷ 1 ∷ []) ∷ Wrote 0 (5 ∷ 5 ∷ 6 ∷ 6 ∷ []) ∷ Ended 0 ∷ Closed 0 ∷ [])
    (tiny_entry 0 5 ∷ record { key = record { c = 0; i = 1 }; call = 10; answer = 6 } ∷ []) (End ∷ []) → ⊥
two_frames_at_once h =
    let es : List (JournalEntry ℕ ℕ) = tiny_entry 0 5 ∷ record { key = record { c = 0; i = 1 }; call = 10; answer = 6 } ∷ [] in
    let bytes : List ℕ = 0 ∷ 0 ∷ 0 ∷ 1 ∷ 1 ∷ 0 ∷ 0 ∷ 0 ∷ 1 ∷ 1 ∷ [] in
    let c : Conversation tiny_desk 0 _ _ End = h.each 0 End refl in
    let t : IsInTurn tiny_desk es (Opened 0 ∷ Read 0 bytes ∷ []) =
    c.turns (Opened 0 ∷ Read 0 bytes ∷ []) (Wrote 0 (5 ∷ 5 ∷ 6 ∷ 6 ∷ []) ∷ Ended 0 ∷ Closed 0 ∷ []) refl in
    let p : t.payloads ≡ (1 ∷ []) ∷ (1 ∷ []) ∷ [] = (same bytes t.rest [] t.payloads ((1 ∷ []) ∷ (1 ∷ []) ∷ []) t.frames two_split).0 in
    let b : IsPrefix (5 ∷ 5 ∷ []) [] = subst (λ ps. IsPrefix (sent tiny_desk es 0 (but_last ps)) []) p t.replying.before in
    nil-cons 5 (5 ∷ b.0) b.1

pub write_fault_behind_the_reply : IsTinyRun (Opened 0 ∷ Read 0 (0 ∷ 0 ∷ 0 ∷ 1 ∷ 1 ∷ []) ∷ Wrote 0 (5 ∷ 5 ∷ []) ∷ WriteFailed 0 ∷ Closed 0 ∷ []) (tiny_entry 0 5 ∷ []) (WriteFault ∷ []) → ⊥
write_fault_behind_the_reply h =
    let c : Conversation tiny_desk 0 _ _ WriteFault = h.each 0 WriteFault refl in
    let p : c.talk.payloads ≡ (1 ∷ []) ∷ [] = (same (0 ∷ 0 ∷ 0 ∷ 1 ∷ 1 ∷ []) c.talk.rest [] c.talk.payloads ((1 ∷ []) ∷ []) c.talk.frames frame_split).0 in
    c.talk.ended.4 (ap (sent tiny_desk (tiny_entry 0 5 ∷ []) 0) (sym p))

silent_split : Frames 2 (0 ∷ 0 ∷ 0 ∷ 1 ∷ 5 ∷ []) ((5 ∷ []) ∷ []) []
silent_split = record { whole = refl; each = (record { some = omega arith; within = omega arith }, tt); no_more = rest_nil 2 }

pub wrong_number : IsTinyRun (Opened 0 ∷ Read 0 (0 ∷ 0 ∷ 0 ∷ 1 ∷ 5 ∷ []) ∷ Ended 0 ∷ Closed 0 ∷ []) (record { key = record { c = 0; i = 1 }; call = 11; answer = 5 } ∷ []) (End ∷ []) → ⊥
wrong_number h =
    let c : Conversation tiny_desk 0 _ _ End = h.each 0 End refl in
    let p : c.talk.payloads ≡ (5 ∷ []) ∷ [] = (same (0 ∷ 0 ∷ 0 ∷ 1 ∷ 5 ∷ []) c.talk.rest [] c.talk.payloads ((5 ∷ []) ∷ []) c.talk.frames silent_split).0 in
    let d : Done tiny_desk (record { key = record { c = 0; i = 1 }; call = 11; answer = 5 } ∷ []) ((5 ∷ []) ∷ []) =
    subst (Done tiny_desk (record { key = record { c = 0; i = 1 }; call = 11; answer = 5 } ∷ [])) p c.talk.ended.2.done in
    differ 1 0 (ap (λ (q : ℕ × ℕ). q.0) (cons_parts (1, 11) (0, 11) [] [] d).0) (inr (omega arith))
