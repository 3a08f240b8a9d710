-- Each connection of a workload is read whole and finished.
use Rattle.std.proofs.Common.{◌≡◌, ℕ, ◌^◌, ◌<◌, ◌≤◌, ◌==◌, Bool, true, false, List, [], ◌∷◌, ◌++◌, map, slice_get, refl, sym, ap, ◌∙◌, subst, append_assoc, append-nil}
use Rattle.std.specs.List.{filter, flat_map, AllByRecursion}
use Rattle.std.proofs.lemmas.Grind.{flat_map-append}
use Rattle.std.proofs.lemmas.Option.{none-some}
use Rattle.streams.specs.declared.marks.Mark.{Mark}
use Rattle.streams.specs.declared.marks.Mark.TheVariants.{Opened, Ended, ReadFailed, WriteFailed, Closed}
use Rattle.host_model.specs.declared.cause.EndCause.{EndCause}
use Rattle.host_model.specs.declared.cause.EndCause.TheVariants.{End, Cut, SizeFault, Envelope, ReadFault, WriteFault, NoMemory, Stopped}
use Rattle.host_model.specs.Frames.{Frames, frame, IsPayload, ArePayloads}
use Rattle.host_model.specs.Marks.{Marks, connection_of, marks_of, read_by, input, output}
use Rattle.host_model.specs.Journal.{entries_of}
use Rattle.host_model.specs.DeskRules.{DeskRules}
use Rattle.host_model.specs.Conversation.{KeepsConnection, IsFinished, EndsBy, Conversation}
use Rattle.host_model.proofs.Framing.{only_split}
use Rattle.call_rules.specs.PlainCalls.{PlainCall, PlainAnswer}
use Rattle.call_rules.specs.Entries.{CallEntry}
use Rattle.script_model.specs.ScriptLines.{governs, fails, fails_input, some_line, pieces_on}
use Rattle.script_model.specs.Writing.{KeepsItsRules, writes_in}
use Rattle.script_model.specs.Fed.{IsReadFrom}
use Rattle.script_model.specs.Arrival.{bytes_of_pieces}
use Rattle.script_model.proofs.Openings.{kept_at}
use Rattle.workload.specs.LoadPlan.{connections_of, frames_on, bytes_on, workload_plan}
use Rattle.workload.specs.ExpectedRun.{reply_at}
use Rattle.workload.specs.Payloads.{payload_at, most_payload_bytes}
use Rattle.workload.specs.Calls.{call_in_load, answer_in_load}
use Rattle.workload.proofs.Pieces.{pieces_joined}
use Rattle.workload.proofs.Payloads.{split_so}
use Rattle.workload.proofs.Plans.{no_rules, no_fault}
use Rattle.workload.proofs.Parts.{LessThanAFrame, read_first, no_size, all_behind, in_middle}
use Rattle.workload.proofs.Talks.{AreReplied, all_go_on}

not_both : (b : Bool) → b ≡ true → b ≡ false → ⊥
not_both true is e = cc
not_both false e is = cc

module _ (seed size : ℕ) (d : DeskRules PlainCall PlainAnswer) (tape : List Mark) (journal : List CallEntry) (c : ℕ) (within : c < connections_of size) (small : d.max < 2 ^ 31)
    (most : most_payload_bytes ≤ d.max) (partial : LessThanAFrame d.max) (reads : IsReadFrom d.max (workload_plan seed size) tape c)
    (writes : KeepsItsRules d (workload_plan seed size) c (entries_of c journal) tape)
    (replied : AreReplied d (payload_at seed) (call_in_load seed) (answer_in_load seed) (reply_at seed) (frames_on (connections_of size) c size)) where
  abbrev own : List Mark
  own = marks_of c tape

  abbrev frames_here : List ℕ
  frames_here = frames_on (connections_of size) c size

  abbrev wanted : List (List ℕ)
  wanted = map (payload_at seed) frames_here

  abbrev all_bytes_here : List ℕ
  all_bytes_here = bytes_on seed size (connections_of size) c

  -- the connection is read whole, all its calls are made, and all replies written
  pub record IsWhole : Type 0 where
    pub read : input own ≡ all_bytes_here
    pub finished : IsFinished d (entries_of c journal) wanted (output own)

  joined : bytes_of_pieces (pieces_on c (workload_plan seed size).lines) ≡ all_bytes_here
  joined = pieces_joined seed size c within

  split : Frames d.max all_bytes_here wanted []
  split = split_so seed d.max most frames_here

  ended_whole : (transfers : List Mark) → own ≡ (Opened c ∷ transfers) ++ Ended c ∷ Closed c ∷ [] → input own ≡ all_bytes_here
  ended_whole transfers e =
      let t = kept_at (λ mark. connection_of mark == c) tape (Opened c ∷ transfers) (Ended c) (Closed c ∷ []) e in
      ap input e ∙ flat_map-append read_by (Opened c ∷ transfers) (Ended c ∷ Closed c ∷ []) ∙ append-nil (input (Opened c ∷ transfers)) ∙ ap input (sym t.3)
      ∙ (reads.ended t.0 t.1 t.2).1 ∙ joined

  same : (payloads : List (List ℕ)) (rest : List ℕ) → Frames d.max (input own) payloads rest → input own ≡ all_bytes_here → (payloads ≡ wanted) × (rest ≡ [])
  same payloads rest frames read = only_split d.max all_bytes_here rest [] payloads wanted small (subst (λ b. Frames d.max b payloads rest) read frames) split

  first_of_all : (payloads : List (List ℕ)) (rest : List ℕ) → Frames d.max (input own) payloads rest
      → (behind : List (List ℕ)) × (wanted ≡ payloads ++ behind) × (rest ++ reads.bytes.0 ≡ flat_map frame behind)
  first_of_all payloads rest frames =
      let more : List ℕ = reads.bytes.0 in
      let e : flat_map frame payloads ++ (rest ++ more) ≡ flat_map frame wanted =
      sym (append_assoc (flat_map frame payloads) rest more) ∙ ap (λ xs. xs ++ more) (sym frames.whole) ∙ sym reads.bytes.1 ∙ joined ∙ split.whole
      ∙ append-nil (flat_map frame wanted) in
      read_first d.max small payloads wanted (rest ++ more) frames.each split.each e

  of_cause : (cause : EndCause) (payloads : List (List ℕ)) (rest : List ℕ) → Frames d.max (input own) payloads rest
      → EndsBy d payloads rest (entries_of c journal) (output own) cause → Marks c own cause → (cause ≡ NoMemory → ⊥) → (cause ≡ Stopped → ⊥) → IsWhole
  of_cause End payloads rest frames ends marks memory goes =
      let read = ended_whole marks.transfers marks.shape in
      record { read = read; finished = subst (λ ps. IsFinished d (entries_of c journal) ps (output own)) (same payloads rest frames read).0 ends.2 }
  of_cause Cut payloads rest frames ends marks memory goes =
      absurd (ends.1 (same payloads rest frames (ended_whole marks.transfers marks.shape)).1)
  of_cause (SizeFault z) payloads rest frames ends marks memory goes =
      let t = first_of_all payloads rest frames in
      absurd (no_size d.max partial z reads.bytes.0 t.0 (all_behind (IsPayload d.max) payloads t.0 (subst (ArePayloads d.max) t.1 split.each)) ends.2
      (ap (λ xs. xs ++ reads.bytes.0) (sym ends.1) ∙ t.2))
  of_cause (Envelope fault) payloads rest frames ends marks memory goes =
      let t = first_of_all payloads rest frames in
      let last = ends.0 in
      let e : wanted ≡ last.0 ++ last.1 ∷ t.0 = t.1 ∙ ap (λ ps. ps ++ t.0) last.2 ∙ append_assoc last.0 (last.1 ∷ []) t.0 in
      let on : AllByRecursion (λ p. KeepsConnection (d.decide p)) wanted = all_go_on d (payload_at seed) (call_in_load seed) (answer_in_load seed) (reply_at seed) frames_here replied in
      absurd (subst KeepsConnection last.3 (in_middle (λ p. KeepsConnection (d.decide p)) last.0 last.1 t.0 (subst (AllByRecursion (λ p. KeepsConnection (d.decide p))) e on)))
  of_cause ReadFault payloads rest frames ends marks memory goes =
      let t = kept_at (λ mark. connection_of mark == c) tape (Opened c ∷ marks.transfers) (ReadFailed c) (Closed c ∷ []) marks.shape in
      absurd (not_both (some_line (fails_input c) (workload_plan seed size).lines) (reads.failed t.0 t.1 t.2).0 (no_fault seed size c))
  of_cause WriteFault payloads rest frames ends marks memory goes =
      let t = kept_at (λ mark. connection_of mark == c) tape (Opened c ∷ marks.transfers) (WriteFailed c) (Closed c ∷ []) marks.shape in
      absurd (none-some fails (sym (ap (λ rules. slice_get (filter governs rules) (writes_in (marks_of c t.0))) (no_rules seed size c)) ∙ writes.fails_so t.0 t.1 t.2))
  of_cause NoMemory payloads rest frames ends marks memory goes = absurd (memory refl)
  of_cause Stopped payloads rest frames ends marks memory goes = absurd (goes refl)

  pub is_whole : (cause : EndCause) → Conversation d c own (entries_of c journal) cause → (cause ≡ NoMemory → ⊥) → (cause ≡ Stopped → ⊥) → IsWhole
  is_whole cause conversation memory goes =
      of_cause cause conversation.talk.payloads conversation.talk.rest conversation.talk.frames conversation.talk.ended conversation.marks memory goes
