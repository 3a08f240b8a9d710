-- What a moment of the loop tells of the run as a whole: its places of rest, and the lengths that were lent then.
use Rattle.std.proofs.Common.{◌≡◌, ◌≢◌, ℕ, zero, suc, ◌+◌, ◌<◌, ◌≤◌, ◌^◌, ◌⊎◌, min, nat_lt, ◌==◌, if◌then◌else◌, Option, None, Some, List, [], ◌∷◌, ◌++◌, length, refl, sym, ap, ◌∙◌, subst, inl, inr, arith, length-append}
use Rattle.std.proofs.lemmas.Bool.{cases_lt, lt-ltb, le-ltb}
use Rattle.std.proofs.lemmas.List.Elements.{filter-append}
use Rattle.streams.specs.declared.marks.Mark.{Mark}
use Rattle.streams.specs.declared.marks.Mark.TheVariants.{Read, Wrote}
use Rattle.host_model.specs.declared.cause.EndCause.{EndCause}
use Rattle.host_model.specs.Frames.{Frames}
use Rattle.host_model.specs.Marks.{marks_of, input, output}
use Rattle.host_model.specs.Journal.{JournalEntry, ServiceRules, entries_of}
use Rattle.host_model.specs.DeskRules.{DeskRules}
use Rattle.host_model.specs.Conversation.{sent}
use Rattle.host_model.proofs.Lists.{cons_parts}
use Rattle.host_model.proofs.Framing.{only_split}
use Rattle.host_model.proofs.Runs.{stands}
use Rattle.conn_state.specs.Phase.{most_read}
use Rattle.machine_model.specs.HallState.{HallState, IsNew}
use Rattle.machine_model.specs.Loop.{LoopConn, Loop, IsOpen}
use Rattle.machine_model.specs.Bounds.{sum_among}
use Rattle.machine_model.specs.AtFronts.{size_in, IsSizeBehind, summed}
use Rattle.machine_model.specs.Resting.{IsAtRest, IsPlaceOfRest}
use Rattle.machine_model.specs.Worker.{WorkerState}
use Rattle.machine_model.specs.Machine.{IsFirst}
use Rattle.machine_model.specs.Places.{PayloadPlace, collected_all, jobs_of, outcomes_of, WhatIsWritten, CellKeeps}
use Rattle.machine_model.specs.Merge.{cell_at_first}
use Rattle.machine_model.proofs.Standing.{clear_by_left}
use Rattle.machine_model.proofs.Running.{keeps}
use Rattle.machine_model.proofs.Merging.{first_is}
use Rattle.machine_model.proofs.Taping.{TapeTells}
use Rattle.machine_model.proofs.Budgeting.{run_tells}
use Rattle.machine_model.proofs.Pausing.{rests}
use Rattle.script_model.specs.RestLines.{IsOverBudget}
use Rattle.script_model.proofs.Tracing.{IsTraced, run_traced}
use Rattle.script_model.proofs.Written.{sent_stays}
use Rattle.loop_conns.specs.Woven.{missing_of, held_if_open, all_held}
use Rattle.host_loop.specs.Lengths.{LengthIsRight, IsLentWhatIsMissing, OffersWhatIsLeft}
use Rattle.machine_model.proofs.OwnOrder.{PassesBy}
use Rattle.host_loop.proofs.Lent.{LentFor}
use Rattle.host_loop.proofs.Growing.{Grows, run_grows}

-- the whole size under way on connection c of this loop, where it is open
abbrev held_by_one : Loop → ℕ → ℕ
held_by_one loop c = held_if_open (loop.conns c).cause (loop.conns c).held

-- the same, and 0 of one that isn't opened
abbrev held_below : Loop → ℕ → ℕ
held_below loop c = if nat_lt c loop.count then held_by_one loop c else 0

below_is : (loop : Loop) (c : ℕ) → c < loop.count → held_below loop c ≡ held_by_one loop c
below_is loop c l = ap (λ b. if b then held_by_one loop c else 0) (lt-ltb c loop.count l)

past_is : (loop : Loop) (c : ℕ) → loop.count ≤ c → held_below loop c ≡ 0
past_is loop c l = ap (λ b. if b then held_by_one loop c else 0) (le-ltb c loop.count l)

summed_is : (loop : Loop) (n : ℕ) → n ≤ loop.count → summed (held_below loop) n ≡ sum_among (λ conn. held_if_open conn.cause conn.held) loop.conns n
summed_is loop zero l = refl
summed_is loop (suc n) l =
    let a : held_below loop n ≡ held_by_one loop n = below_is loop n (omega arith) in
    let b : summed (held_below loop) n ≡ sum_among (λ conn. held_if_open conn.cause conn.held) loop.conns n = summed_is loop n (omega arith) in
    omega arith

module _ {C A M : Type 0} (d : DeskRules C A) (small : d.max < 2 ^ 31) (r : ServiceRules C A M) (memories : List M) (opening : HallState C A M) (new : IsNew memories opening)
    (Has : ℕ → WorkerState A → Type 0) (mid loop : Loop) (hall : HallState C A M) (p : PassesBy d r Has (cell_at_first opening) mid loop hall) where
  first : IsFirst memories (cell_at_first opening)
  first = first_is d r memories opening new

  kept : CellKeeps d r memories p.moment
  kept = keeps d r memories (λ acts world reached. stands d r memories acts world small reached) small (cell_at_first opening) p.moment p.before first p.leads

  told : TapeTells d.max mid
  told = subst (TapeTells d.max) p.moment_is (run_tells d r memories (cell_at_first opening) p.moment p.before first p.leads)

  traced : IsTraced mid
  traced =
      subst IsTraced p.moment_is
      (run_traced d r memories (cell_at_first opening)
      (λ cell events runs. keeps d r memories (λ acts world reached. stands d r memories acts world small reached) small (cell_at_first opening) cell events first runs)
      first p.before p.moment p.leads)

  -- a moment of rest is a place of rest
  pub place_of_rest : IsAtRest mid → IsPlaceOfRest d hall.journal mid.tape
  place_of_rest rest =
      subst (λ (t : HallState C A M × Loop). IsPlaceOfRest d t.0.journal t.1.tape) (λ i. (p.behind.hall_is i, p.moment_is i))
      (rests d r memories (λ acts world reached. stands d r memories acts world small reached) small (cell_at_first opening) p.moment p.behind.last p.before p.behind.events first p.leads
      (subst IsAtRest (sym p.moment_is) rest) p.behind.runs)

  -- sizes that pass the budget in the loop do so on its tape
  pub over_budget : (budget : ℕ) → budget < all_held mid → ((c : ℕ) → c < mid.count → held_if_open (mid.conns c).cause (mid.conns c).held ≤ d.max) → IsOverBudget d.max budget mid.tape
  over_budget budget over within =
      let all : summed (held_below mid) mid.count ≡ all_held mid = summed_is mid mid.count (omega arith) in
      record {
        sizes = held_below mid;
        count = mid.count;
        each = λ c. each c (cases_lt c mid.count);
        within = λ c. less c (cases_lt c mid.count);
        more = omega arith;
      }
    where
      less : (c : ℕ) → (c < mid.count) ⊎ (mid.count ≤ c) → held_below mid c ≤ d.max
      less c (inl l) = let a : held_below mid c ≡ held_by_one mid c = below_is mid c l in let b : held_by_one mid c ≤ d.max = within c l in omega arith
      less c (inr l) = let a : held_below mid c ≡ 0 = past_is mid c l in omega arith

      by_cause : (c : ℕ) → c < mid.count → (cause : Option EndCause) → (mid.conns c).cause ≡ cause → (held_below mid c ≡ 0) ⊎ IsSizeBehind d.max size_in mid.tape c (held_below mid c)
      by_cause c l None is =
          inr (record {
            is_open = traced.each c l is;
            payloads = (mid.conns c).payloads;
            rest = (mid.conns c).held;
            frames = told.frames c l;
            same = below_is mid c l ∙ ap (λ k. held_if_open k (mid.conns c).held) is;
          })
      by_cause c l (Some cause) is = inl (below_is mid c l ∙ ap (λ k. held_if_open k (mid.conns c).held) is)

      each : (c : ℕ) → (c < mid.count) ⊎ (mid.count ≤ c) → (held_below mid c ≡ 0) ⊎ IsSizeBehind d.max size_in mid.tape c (held_below mid c)
      each c (inl l) = by_cause c l (mid.conns c).cause refl
      each c (inr l) = inl (past_is mid c l)

  -- what is split at this moment is what the connection holds
  split_is : (c : ℕ) → c < mid.count → (payloads : List (List ℕ)) (rest : List ℕ) → Frames d.max (input (marks_of c mid.tape)) payloads rest → (payloads ≡ (mid.conns c).payloads) × (rest ≡ (mid.conns c).held)
  split_is c l payloads rest frames = only_split d.max (input (marks_of c mid.tape)) rest (mid.conns c).held payloads (mid.conns c).payloads small frames (told.frames c l)

  read_right : (c lent : ℕ) → IsOpen mid c → lent ∷ [] ≡ min (missing_of (mid.conns c).held) most_read ∷ [] → IsLentWhatIsMissing d hall.journal mid.tape c lent
  read_right c lent o is payloads rest frames =
      (cons_parts lent (min (missing_of (mid.conns c).held) most_read) [] [] is).0 ∙ ap (λ h. min (missing_of h) most_read) (sym (split_is c o.0 payloads rest frames).1)

  -- what is sent to the payloads of then is what was written by then, and what was left
  sent_by_then : (c : ℕ) → IsOpen mid c → (mid.conns c).left ≢ [] → sent d (entries_of c hall.journal) 0 (mid.conns c).payloads ≡ output (marks_of c mid.tape) ++ (mid.conns c).left
  sent_by_then c o some =
      subst (λ (t : HallState C A M × Loop). sent d (entries_of c t.0.journal) 0 (t.1.conns c).payloads ≡ output (marks_of c t.1.tape) ++ (t.1.conns c).left)
      (λ i. (p.behind.hall_is i, p.moment_is i))
      (now (subst (λ (l : Loop). IsOpen l c) (sym p.moment_is) o) (λ none. some (ap (λ (l : Loop). (l.conns c).left) (sym p.moment_is) ∙ none)))
    where
      now : IsOpen p.moment.loop c → (p.moment.loop.conns c).left ≢ []
          → sent d (entries_of c p.behind.last.hall.journal) 0 (p.moment.loop.conns c).payloads ≡ output (marks_of c p.moment.loop.tape) ++ (p.moment.loop.conns c).left
      now o some =
          let conn : LoopConn = p.moment.loop.conns c in
          let es : List (JournalEntry C A) = entries_of c p.moment.hall.journal in
          let out : List ℕ = output (marks_of c p.moment.loop.tape) in
          let place : kept.place c ≡ collected_all =
          clear_by_left d p.moment.workers (jobs_of c p.moment.hall.jobs) (outcomes_of c p.moment.hall.outcomes) es c conn (kept.place c) (kept.at c o.0) some in
          let w : WhatIsWritten d es out conn None collected_all =
          subst (λ (x : Option EndCause × PayloadPlace). WhatIsWritten d es out conn x.0 x.1) (λ i. (o.1 i, place i)) (kept.written c o.0) in
          let g : Grows r p.moment.hall p.behind.last.hall = run_grows r d p.behind.events p.moment p.behind.last p.behind.runs in
          ap (λ j. sent d (entries_of c j) 0 conn.payloads) g.1
          ∙ ap (λ l. sent d l 0 conn.payloads) (filter-append (λ (e : JournalEntry C A). e.key.c == c) p.moment.hall.journal g.0)
          ∙ sent_stays d es (entries_of c g.0) conn.payloads w.0 ∙ w.1

  write_right : (c offered : ℕ) → IsOpen mid c → (mid.conns c).left ≢ [] → offered ∷ [] ≡ length (mid.conns c).left ∷ [] → OffersWhatIsLeft d hall.journal mid.tape c offered
  write_right c offered o some is payloads rest frames =
      let n : offered ≡ length (mid.conns c).left = (cons_parts offered (length (mid.conns c).left) [] [] is).0 in
      let same : length (sent d (entries_of c hall.journal) 0 payloads) ≡ length (sent d (entries_of c hall.journal) 0 (mid.conns c).payloads) =
      ap (λ ps. length (sent d (entries_of c hall.journal) 0 ps)) (split_is c o.0 payloads rest frames).0 in
      let all : length (sent d (entries_of c hall.journal) 0 (mid.conns c).payloads) ≡ length (output (marks_of c mid.tape)) + length (mid.conns c).left =
      ap length (sent_by_then c o some) ∙ length-append (output (marks_of c mid.tape)) (mid.conns c).left in
      omega arith

  -- The length for a mark that is made at this moment is right.
  pub length_right : (mark : Mark) (lent : ℕ) → LentFor mid mark (lent ∷ []) → LengthIsRight d hall.journal mid.tape mark lent
  length_right (Read c bytes) lent t = read_right c lent t.0 t.1
  length_right (Wrote c bytes) lent t = write_right c lent t.0 t.1 t.2
  length_right _ lent t = tt
