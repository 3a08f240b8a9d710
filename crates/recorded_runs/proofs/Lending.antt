-- From the headline of a run, and what links noted of it, that a loop has served the links: what it lent, what it offered, and how it stood at rest.
use Rattle.std.proofs.Common.{◌≡◌, ℕ, zero, suc, ◌+◌, ◌<◌, ◌≤◌, ◌^◌, ◌⊎◌, cond, true, Some, List, [], ◌∷◌, ◌++◌, length, take, slice_get, refl, sym, ap, ◌∙◌, subst, inl, inr, arith, append_assoc, append-nil, length-append, take_at, eq-eqb}
use Rattle.std.specs.List.{flat_map}
use Rattle.std.proofs.lemmas.Bool.{cases_lt}
use Rattle.std.proofs.lemmas.Grind.{flat_map-append}
use Rattle.std.proofs.lemmas.Option.{none-some, same_Some}
use Rattle.streams.specs.declared.marks.Mark.{Mark}
use Rattle.streams.specs.declared.marks.Mark.TheVariants.{Opened, Read, Ended, Wrote, ReadFailed, WriteFailed, Closed}
use Rattle.streams.specs.declared.rest_place.RestPlace.{RestPlace}
use Rattle.host_model.specs.declared.cause.EndCause.{EndCause}
use Rattle.host_model.specs.declared.cause.EndCause.TheVariants.{End, Cut, SizeFault, Envelope, ReadFault, WriteFault, NoMemory, Stopped}
use Rattle.host_model.specs.Frames.{Frames, frame, HasNoBadSize, size_bytes}
use Rattle.host_model.specs.Marks.{connection_of, marks_of, read_by, written_by, input, output}
use Rattle.host_model.specs.Journal.{JournalEntry, ServiceRules, entries_of}
use Rattle.host_model.specs.DeskRules.{DeskRules}
use Rattle.host_model.specs.Conversation.{Conversation, EndsBy, IsInTurn, sent}
use Rattle.host_model.specs.Headline.{Headline}
use Rattle.host_model.proofs.Filters.{marks_append}
use Rattle.host_model.proofs.Framing.{only_split}
use Rattle.host_model.proofs.Lists.{append_parts}
use Rattle.machine_model.specs.OpenAtFronts.{marks_counted}
use Rattle.machine_model.specs.Resting.{IsPlaceOfRest}
use Rattle.machine_model.proofs.Lists.{get_within}
use Rattle.script_model.specs.RestLines.{IsOverBudget}
use Rattle.script_model.proofs.Holding.{AreBytes}
use Rattle.loop_conns.specs.Woven.{missing_of}
use Rattle.script_links.specs.Shows.{transfer_in, transfers_in}
use Rattle.script_links.specs.Serves as links
use Rattle.host_loop.specs.Lengths as loop
use Rattle.host_loop.specs.Rests.{IsNotedRest, AreNotedRests}
use Rattle.recorded_runs.proofs.Sizes.{bad_rest, completes}
use Rattle.recorded_runs.proofs.Pieces.{bytes_ended}

-- marks of bytes are counted alike
one_counted : (mark : Mark) → loop.transfer_of mark ≡ transfer_in mark
one_counted (Opened c) = refl
one_counted (Read c bytes) = refl
one_counted (Ended c) = refl
one_counted (Wrote c bytes) = refl
one_counted (ReadFailed c) = refl
one_counted (WriteFailed c) = refl
one_counted (Closed c) = refl

pub counted_alike : (marks : List Mark) → marks_counted loop.transfer_of marks ≡ transfers_in marks
counted_alike [] = refl
counted_alike (mark ∷ marks) = (λ i. one_counted mark i + counted_alike marks i)

module _ {C A : Type 0} (d : DeskRules C A) (budget : ℕ) (tape : List Mark) (journal : List (JournalEntry C A)) where
  each_rest : (places : List RestPlace) (k : ℕ) (at : RestPlace) → AreNotedRests d budget tape journal places → slice_get places k ≡ Some at → IsNotedRest d budget tape journal at
  each_rest [] k at all e = absurd (none-some at e)
  each_rest (x ∷ places) zero at all e = subst (IsNotedRest d budget tape journal) (same_Some x at e) all.0
  each_rest (x ∷ places) (suc k) at all e = each_rest places k at all.1 e

  -- a place of rest, where a tape is cut there
  pub rested : (places : List RestPlace) → AreNotedRests d budget tape journal places → (k : ℕ) (at : RestPlace) (front back : List Mark) → slice_get places k ≡ Some at
      → tape ≡ front ++ back → at.place ≡ length front → IsPlaceOfRest d journal front × (at.held ≡ true → IsOverBudget d.max budget front)
  rested places all k at front back e split place =
      let noted : IsNotedRest d budget tape journal at = each_rest places k at all e in
      let same : noted.front ≡ front = (append_parts noted.front front noted.back back (noted.place ∙ place) (sym noted.split ∙ split)).0 in
      (subst (IsPlaceOfRest d journal) same noted.at_rest, λ held. subst (IsOverBudget d.max budget) same (noted.over_budget held))

module _ {C A : Type 0} (d : DeskRules C A) where
  -- a connection has ended with nothing that isn't a beginning of a frame behind its payloads, but a bad size alone
  no_end : (ps : List (List ℕ)) (rest : List ℕ) (es : List (JournalEntry C A)) (out : List ℕ) (cause : EndCause) → 4 < length rest → (HasNoBadSize d.max rest → ⊥)
      → EndsBy d ps rest es out cause → ⊥
  no_end ps rest es out End long bad h = let none : length rest ≡ 0 = ap length h.1 in omega arith
  no_end ps rest es out Cut long bad h = bad h.2
  no_end ps rest es out (SizeFault z) long bad h = let four : length rest ≡ 4 = ap length h.1 in omega arith
  no_end ps rest es out (Envelope fault) long bad h = let none : length rest ≡ 0 = ap length h.1 in omega arith
  no_end ps rest es out ReadFault long bad h = bad h.1
  no_end ps rest es out WriteFault long bad h = let none : length rest ≡ 0 = ap length h.1 in omega arith
  no_end ps rest es out NoMemory long bad h = bad (h.behind (λ none. let z : length rest ≡ 0 = ap length none in let f : ⊥ = omega arith in f)).1
  no_end ps rest es out Stopped long bad h = bad (h.behind (λ none. let z : length rest ≡ 0 = ap length none in let f : ⊥ = omega arith in f)).1

module _ {C A M : Type 0} (d : DeskRules C A) (r : ServiceRules C A M) (memories : List M) (tape : List Mark) (journal : List (JournalEntry C A)) (causes : List EndCause)
    (headline : Headline d r memories tape journal causes) (small : d.max < 2 ^ 31) (c : ℕ) (front back : List Mark) (mark : Mark) (split : tape ≡ front ++ mark ∷ back)
    (mine : connection_of mark ≡ c) where
  own_marks : marks_of c tape ≡ marks_of c front ++ mark ∷ marks_of c back
  own_marks =
      ap (marks_of c) split ∙ marks_append c front (mark ∷ back)
      ∙ ap (λ b. marks_of c front ++ cond b (mark ∷ marks_of c back) (marks_of c back)) (eq-eqb (connection_of mark) c mine)

  -- a connection with a mark has had a conversation
  conversed : (cause : EndCause) × Conversation d c (marks_of c tape) (entries_of c journal) cause
  conversed = go (cases_lt c (length causes))
    where
      go : (c < length causes) ⊎ (length causes ≤ c) → (cause : EndCause) × Conversation d c (marks_of c tape) (entries_of c journal) cause
      go (inl l) = let t = get_within causes c l in (t.0, headline.each c t.0 t.1)
      go (inr l) =
          let none : length (marks_of c front ++ mark ∷ marks_of c back) ≡ 0 = ap length (sym own_marks ∙ headline.no_marks c l) in
          let some : length (marks_of c front ++ mark ∷ marks_of c back) ≡ length (marks_of c front) + suc (length (marks_of c back)) = length-append (marks_of c front) (mark ∷ marks_of c back) in
          absurd (let f : ⊥ = omega arith in f)

  -- its turn before the mark, and after it
  pub turn_before : IsInTurn d (entries_of c journal) (marks_of c front)
  turn_before = conversed.1.turns (marks_of c front) (mark ∷ marks_of c back) own_marks

  pub turn_behind : IsInTurn d (entries_of c journal) (marks_of c front ++ mark ∷ [])
  turn_behind = conversed.1.turns (marks_of c front ++ mark ∷ []) (marks_of c back) (own_marks ∙ sym (append_assoc (marks_of c front) (mark ∷ []) (marks_of c back)))

  -- what was read before the mark begins no frame of a bad size, where bytes were read then
  no_bad_size : 0 < length (read_by mark) → (payloads : List (List ℕ)) (rest : List ℕ) → Frames d.max (input (marks_of c front)) payloads rest → HasNoBadSize d.max rest
  no_bad_size some payloads rest f z more out is =
      let later : List ℕ = read_by mark ++ input (marks_of c back) in
      let all : input (marks_of c tape) ≡ input (marks_of c front) ++ later = ap input own_marks ∙ flat_map-append read_by (marks_of c front) (mark ∷ marks_of c back) in
      let whole : input (marks_of c tape) ≡ flat_map frame payloads ++ (size_bytes z ++ (more ++ later)) =
      all ∙ ap (λ t. t ++ later) (f.whole ∙ ap (λ t. flat_map frame payloads ++ t) is) ∙ append_assoc (flat_map frame payloads) (size_bytes z ++ more) later
      ∙ ap (λ t. flat_map frame payloads ++ t) (append_assoc (size_bytes z) more later) in
      let talk = conversed.1.talk in
      let same : talk.rest ≡ size_bytes z ++ (more ++ later) =
      (only_split d.max (input (marks_of c tape)) talk.rest (size_bytes z ++ (more ++ later)) talk.payloads payloads small talk.frames
      (record { whole = whole; each = f.each; no_more = bad_rest d.max z (more ++ later) small out })).1 in
      let a : length talk.rest ≡ 4 + length (more ++ later) = ap length same ∙ length-append (size_bytes z) (more ++ later) in
      let b : length (more ++ later) ≡ length more + length later = length-append more later in
      let e : length later ≡ length (read_by mark) + length (input (marks_of c back)) = length-append (read_by mark) (input (marks_of c back)) in
      no_end d talk.payloads talk.rest (entries_of c journal) (output (marks_of c tape)) conversed.0 (omega arith) (λ good. good z (more ++ later) out same) talk.ended

  -- A read is lent what is missing.
  pub reads_so : (lent : ℕ) → 0 < length (read_by mark) → AreBytes (input (marks_of c front)) → loop.IsLentWhatIsMissing d journal front c lent
      → links.LendsWhatIsMissing d.max (input (marks_of c front)) lent
  reads_so lent some are lends =
      let turn = turn_before in
      record {
        payloads = turn.payloads;
        rest = turn.rest;
        frames = turn.frames;
        missing = missing_of turn.rest;
        completes = completes d.max turn.rest small (bytes_ended (flat_map frame turn.payloads) turn.rest (subst AreBytes turn.frames.whole are))
            (no_bad_size some turn.payloads turn.rest turn.frames) turn.frames.no_more;
        smaller = lends turn.payloads turn.rest turn.frames;
      }

  -- A write is offered the rest.
  pub writes_so : (bytes : List ℕ) (offered : ℕ) → read_by mark ≡ [] → written_by mark ≡ bytes → loop.OffersWhatIsLeft d journal front c offered
      → links.OffersTheRest d (entries_of c journal) (marks_of c front) bytes offered
  writes_so bytes offered quiet wrote offers =
      let turn = turn_before in
      let left : List ℕ = turn.replying.within.0 in
      let unsent : sent d (entries_of c journal) 0 turn.payloads ≡ output (marks_of c front) ++ left = turn.replying.within.1 in
      let counted : length (output (marks_of c front)) + offered ≡ length (sent d (entries_of c journal) 0 turn.payloads) = offers turn.payloads turn.rest turn.frames in
      let sum : length (sent d (entries_of c journal) 0 turn.payloads) ≡ length (output (marks_of c front)) + length left = ap length unsent ∙ length-append (output (marks_of c front)) left in
      record {
        payloads = turn.payloads;
        rest = turn.rest;
        frames = turn.frames;
        left = left;
        unsent = sym unsent;
        all = omega arith;
        front = in_front;
      }
    where
      in_front : bytes ≡ take (length bytes) turn_before.replying.within.0
      in_front =
          let turn = turn_before in
          let later = turn_behind in
          let es = entries_of c journal in
          let out : List ℕ = output (marks_of c front) in
          let same_input : input (marks_of c front ++ mark ∷ []) ≡ input (marks_of c front) =
          flat_map-append read_by (marks_of c front) (mark ∷ []) ∙ ap (λ t. input (marks_of c front) ++ (t ++ [])) quiet ∙ append-nil (input (marks_of c front)) in
          let same_out : output (marks_of c front ++ mark ∷ []) ≡ out ++ bytes =
          flat_map-append written_by (marks_of c front) (mark ∷ []) ∙ ap (λ t. out ++ t) (append-nil (written_by mark) ∙ wrote) in
          let same : later.payloads ≡ turn.payloads =
          (only_split d.max (input (marks_of c front)) later.rest turn.rest later.payloads turn.payloads small
          (subst (λ t. Frames d.max t later.payloads later.rest) same_input later.frames) turn.frames).0 in
          let both : out ++ turn.replying.within.0 ≡ out ++ (bytes ++ later.replying.within.0) =
          sym turn.replying.within.1 ∙ ap (λ ps. sent d es 0 ps) (sym same) ∙ later.replying.within.1 ∙ ap (λ t. t ++ later.replying.within.0) same_out
          ∙ append_assoc out bytes later.replying.within.0 in
          let is : turn.replying.within.0 ≡ bytes ++ later.replying.within.0 = (append_parts out out turn.replying.within.0 (bytes ++ later.replying.within.0) refl both).1 in
          sym (ap (take (length bytes)) is ∙ take_at bytes later.replying.within.0 (length bytes) refl)
