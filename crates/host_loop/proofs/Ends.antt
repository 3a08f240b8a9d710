-- What is known where serving ends is what serving promises, part by part.
use Rattle.std.proofs.Common.{◌≡◌, ◌≢◌, ℕ, ◌+◌, ◌<◌, ◌≤◌, ◌^◌, ◌⊎◌, Bool, true, false, Option, None, Some, List, [], ◌∷◌, ◌++◌, length, All, slice_get, slice_index_or, slice_set, refl, sym, ap, ◌∙◌, subst, inl, inr, arith}
use Rattle.std.specs.List.{AllByRecursion}
use Rattle.std.proofs.lemmas.Bool.{cases_lt, false_from_ne_true}
use Rattle.std.proofs.lemmas.Option.{none-some, slice_get-get_or, slice_get_past, get_or_from_slice_get, IfSome_then}
use Rattle.std.proofs.lemmas.List.{length-set}
use Rattle.std.proofs.lemmas.List.Elements.{All-from_recursion, recursion_from_All}
use Rattle.streams.specs.declared.marks.Mark.{Mark}
use Rattle.streams.specs.declared.marks.Mark.TheVariants.{Read, Wrote}
use Rattle.streams.specs.declared.rest_place.RestPlace.{RestPlace}
use Rattle.streams.specs.Cause.{Rose}
use Rattle.streams.specs.Content.{IsSpent}
use Rattle.host_model.specs.declared.cause.EndCause.{EndCause}
use Rattle.host_model.specs.declared.cause.EndCause.TheVariants.{End, Cut, SizeFault, Envelope, ReadFault, WriteFault, NoMemory as RanOut, Stopped}
use Rattle.host_model.specs.Marks.{marks_of, input, output}
use Rattle.host_model.specs.Journal.{after_call, after, entries_of}
use Rattle.host_model.specs.DeskRules.{DeskRules}
use Rattle.host_model.specs.Headline.{Headline}
use Rattle.host_model.proofs.Runs.{stands}
use Rattle.host_model.proofs.Runs as worlds
use Rattle.conn_table.specs.declared.run_limits.Outcome.{Outcome}
use Rattle.conn_table.specs.declared.run_limits.Outcome.TheVariants.{All as AllOver, NetFault, JournalFault, NoMemory}
use Rattle.call_rules.specs.PlainCalls.{PlainCall, PlainAnswer}
use Rattle.call_rules.specs.Entries.{CallEntry}
use Rattle.call_rules.specs.Handling.{ServiceState, handler_rules}
use Rattle.call_history.specs.History.{meaning_after}
use Rattle.call_history.specs.Calls.{asks_of}
use Rattle.machine_model.specs.HallState.{HallState}
use Rattle.machine_model.specs.SeenHall.{MayHave, filled}
use Rattle.machine_model.specs.Loop.{Loop}
use Rattle.machine_model.specs.AtFronts.{IsWithinBudget, IsBounded}
use Rattle.machine_model.specs.Resting.{IsPlaceOfRest}
use Rattle.machine_model.specs.OpenAtFronts.{marks_counted}
use Rattle.machine_model.specs.Machine.{HaveAllEnded}
use Rattle.machine_model.specs.Merge.{no_loop, calls_in, Weaves, IsOneHistory, cell_at_first}
use Rattle.machine_model.proofs.Breaking.{broken_rose, whole_count}
use Rattle.machine_model.proofs.Fronts.{woven_fronts}
use Rattle.machine_model.proofs.Merging.{merged_meets, first_is}
use Rattle.machine_model.proofs.Running.{meets}
use Rattle.machine_model.proofs.Telling.{turns_close}
use Rattle.seat_booth.specs.Seats.{SeatAgrees}
use Rattle.hall_pool.specs.Turns.{asks_made}
use Rattle.hall_pool.specs.Crew.{HasServed}
use Rattle.hall_pool.specs.Ends.{TellsOneHistory}
use Rattle.hall_pool.proofs.Ending.{one_history}
use Rattle.script_model.specs.DecidedEnds.{EndsOn, IsOfBytes, MayBeUnread}
use Rattle.script_model.proofs.Decided.{talk_decides}
use Rattle.loop_conns.specs.declared.connections.LoopConnections.{LoopConnections}
use Rattle.loop_conns.specs.Tied.{CauseShows, IsOverOnLinks, StageTells, AreTied}
use Rattle.loop_conns.specs.Woven.{ServedItem, WeavesLent, all_held, IsPassedAtRest, IsWovenTo}
use Rattle.loop_conns.specs.Going.{AreAllGone}
use Rattle.host_loop.specs.Lengths.{transfer_of, LengthIsRight, AreLengths}
use Rattle.host_loop.specs.Rests.{IsNotedRest, AreNotedRests}
use Rattle.host_loop.specs.Served.{ServerSetting, ServedRun, ComesOutBy, AreServicesLeft, AreLinksLeft, rules_served, IsServed}
use Rattle.host_loop.specs.Ending.{EndTells, EndsServing}
use Rattle.machine_model.proofs.OwnOrder.{PassesBy, HasBehind, passes}
use Rattle.machine_model.proofs.Troubles.{Accounted, account, closed_breaks}
use Rattle.host_loop.proofs.Unbroken.{unbroken}
use Rattle.host_loop.proofs.Lent.{MadeAt, made_at, lent_count, weave_grows}
use Rattle.host_loop.proofs.Noted.{place_of_rest, over_budget, length_right}
use Rattle.host_loop.proofs.Seen.{seat_breaks}
use Rattle.call_rules.specs.Desks.{longest_payload}

-- where neither the links nor the journal have failed, all is over, or memory ran out
named : (run : ServedRun) (outcome : Outcome) → ComesOutBy run outcome → (Rose run.first.net_faults run.links.net_faults → ⊥)
    → (Rose run.faults_before run.faults → ⊥) → (outcome ≡ AllOver) ⊎ (outcome ≡ NoMemory)
named run AllOver so links journal = inl refl
named run NetFault so links journal = absurd (links so)
named run JournalFault so links journal = absurd (journal so.1)
named run NoMemory so links journal = inr refl

-- a call leaves as many memories as there were
length-after_call : (memories : List ServiceState) (call : PlainCall) → length (after_call handler_rules memories call) ≡ length memories
length-after_call memories call = go (slice_get memories call.slot)
  where
    go : (o : Option ServiceState) → length {A = ServiceState} (elim o [ None ↦ memories | Some m ↦ slice_set memories call.slot (handler_rules.rule call m).1 ]) ≡ length memories
    go None = refl
    go (Some m) = length-set memories call.slot (handler_rules.rule call m).1

length-after : (memories : List ServiceState) (journal : List CallEntry) → length (after handler_rules memories journal) ≡ length memories
length-after memories [] = refl
length-after memories (e ∷ journal) = length-after (after_call handler_rules memories e.call) journal ∙ length-after_call memories e.call

-- a connection that is gone is over
over_here : (first links : _) (kept : LoopConnections) (loop : Loop) → AreTied first links kept loop → AreAllGone kept → (c : ℕ) → c < loop.count
    → IsOverOnLinks first links kept.table c (loop.conns c) (slice_index_or kept.causes.items c Stopped)
over_here first links kept loop t gone c l =
    subst (λ place. StageTells first links kept.table c (loop.conns c) (slice_index_or kept.causes.items c Stopped) place) (gone c) (t.each c l)

-- where none is open, each has ended
all_ended : (first links : _) (kept : LoopConnections) (loop : Loop) → AreTied first links kept loop → AreAllGone kept → HaveAllEnded loop kept.causes.items
all_ended first links kept loop t gone =
    let count : loop.count ≡ length kept.causes.items = t.count in
    record {
      count = sym count;
      each = λ c l. (over_here first links kept loop t gone c l).ended ∙ sym (slice_get-get_or kept.causes.items c Stopped (omega arith));
    }

module _ (s : ServerSetting) (run : ServedRun) (e : EndsServing s run) where
  abbrev d : DeskRules PlainCall PlainAnswer
  d = rules_served s

  abbrev opening : HallState PlainCall PlainAnswer ServiceState
  opening = filled e.booth.opening []

  small : s.desk.max_frame < 2 ^ 31
  small = let l : s.desk.max_frame ≤ longest_payload = e.small in omega arith

  others : All (HasServed s.desk e.booth) (e.own_seat ∷ e.crew)
  others =
      All-from_recursion (HasServed s.desk e.booth) (e.own_seat ∷ e.crew) (e.own_served, recursion_from_All (HasServed s.desk e.booth) e.crew e.crew_served)

  -- one history, with a weave of the loop
  abbrev Tells : List ServedItem → Loop → Type 0
  Tells weave loop = TellsOneHistory s.desk e.booth e.hall weave loop

  tells : (weave : List ServedItem) (loop : Loop) → calls_in weave ≡ asks_made e.loop_seat.mine → Weaves s.desk.max_frame no_loop weave loop → Tells weave loop
  tells weave loop asked woven = one_history s.desk e.booth e.loop_seat (e.own_seat ∷ e.crew) e.hall e.ends e.zeroth others weave loop e.newly (sym asked) woven

  module _ (loop : Loop) (w : IsWovenTo s.desk.max_frame run.first run.links e.kept (asks_made e.loop_seat.mine) loop) (t : Tells w.weave loop) where
    abbrev last : HallState PlainCall PlainAnswer ServiceState
    last = meaning_after opening t.log

    journal_is : last.journal ≡ t.entries
    journal_is = ap (λ (h : HallState PlainCall PlainAnswer ServiceState). h.journal) t.ends

    broken_is : last.broken ≡ run.torn
    broken_is = ap (λ (h : HallState PlainCall PlainAnswer ServiceState). h.broken) t.ends ∙ sym e.torn

    faults_are : last.faults ≡ run.faults
    faults_are = ap (λ (h : HallState PlainCall PlainAnswer ServiceState). h.faults) t.ends ∙ sym e.faults

    memories_are : last.memories ≡ run.services
    memories_are = ap (λ (h : HallState PlainCall PlainAnswer ServiceState). h.memories) t.ends ∙ sym e.services

    ended : HaveAllEnded loop e.kept.causes.items
    ended = all_ended run.first run.links e.kept loop w.tied e.gone

    known : Accounted handler_rules opening (asks_of t.log) last
    known = account handler_rules opening e.booth.opening.memories t.log t.one.opened t.one.history

    headline : Headline d handler_rules s.services loop.tape t.entries run.causes
    headline =
        subst (λ (x : List ServiceState × List CallEntry × List EndCause). Headline d handler_rules x.0 loop.tape x.1 x.2) (λ i. (e.services_before i, journal_is i, sym e.causes i))
        (merged_meets d handler_rules e.booth.opening.memories opening t.log w.weave loop e.kept.causes.items
        (λ cell events runs over.
        meets d handler_rules e.booth.opening.memories (λ acts world reached. stands d handler_rules e.booth.opening.memories acts world small reached) small
        (λ acts world causes reached over. worlds.meets d handler_rules e.booth.opening.memories acts world causes small reached over) (cell_at_first opening) cell events e.kept.causes.items
        (first_is d handler_rules e.booth.opening.memories opening t.one.opened) runs over)
        t.one ended)

    memories : run.torn ≡ false → run.services ≡ after handler_rules s.services t.entries
    memories h =
        sym memories_are ∙ known.services.whole (broken_is ∙ h)
        ∙ (λ i. after handler_rules (e.services_before i) (journal_is i))

    ahead : run.torn ≡ true → (call : PlainCall) × (run.services ≡ after_call handler_rules (after handler_rules s.services t.entries) call)
    ahead h =
        let more : (call : PlainCall) × (last.memories ≡ after_call handler_rules (after handler_rules opening.memories last.journal) call) = known.services.ahead (broken_is ∙ h) in
        (more.0, sym memories_are ∙ more.1 ∙ (λ i. after_call handler_rules (after handler_rules (e.services_before i) (journal_is i)) more.0))

    services : AreServicesLeft s run t.entries
    services = record { count = count run.torn refl; memories = memories; ahead = ahead }
      where
        count : (b : Bool) → run.torn ≡ b → length run.services ≡ length s.services
        count false h = ap length (memories h) ∙ length-after s.services t.entries
        count true h = ap length (ahead h).1 ∙ length-after_call (after handler_rules s.services t.entries) (ahead h).0 ∙ length-after s.services t.entries

    torn : run.torn ≡ true → Rose run.faults_before run.faults
    torn h =
        subst (λ (x : ℕ × ℕ). Rose x.0 x.1) (λ i. (e.faults_before i, faults_are i)) (broken_rose handler_rules opening t.log t.one.opened.opened t.one.history (broken_is ∙ h))

    kept : run.torn ≡ false → run.faults ≡ run.faults_before
    kept h = sym faults_are ∙ (whole_count handler_rules opening t.log t.one.history (broken_is ∙ h)).1 ∙ e.faults_before

    bounded : (front back : List Mark) → loop.tape ≡ front ++ back → IsBounded s.desk.max_frame s.budget front
    bounded front back is =
        record {
          few = woven_fronts s.desk.max_frame w.weave loop w.woven front back is;
          sizes = subst (λ n. IsWithinBudget s.desk.max_frame n front) e.budget (w.within.fronts front back is);
        }

    -- a moment of the loop, on the run
    passing : (front back : List ServedItem) (mid : Loop) → w.weave ≡ front ++ back → Weaves d.max no_loop front mid → Weaves d.max mid back loop
        → PassesBy d handler_rules (HasBehind d handler_rules e.booth.opening.memories opening t.log) (cell_at_first opening) mid loop last
    passing front back mid split before behind =
        passes d handler_rules e.booth.opening.memories opening t.log front back mid loop
        (subst (λ ws. IsOneHistory d handler_rules e.booth.opening.memories opening t.log ws loop) split t.one) before behind

    made_right : (lengths : List ℕ) → WeavesLent s.desk.max_frame no_loop w.weave lengths loop → (front back : List Mark) (mark : Mark) (lent : ℕ) → transfer_of mark ≡ 1 → loop.tape ≡ front ++ mark ∷ back
        → slice_get lengths (marks_counted transfer_of front) ≡ Some lent → LengthIsRight d t.entries front mark lent
    made_right lengths woven front back mark lent one is at =
        let m : MadeAt s.desk.max_frame no_loop w.weave loop front mark lent = made_at s.desk.max_frame w.weave lengths no_loop loop front back mark lent woven one is at in
        subst (λ (x : List CallEntry × List Mark). LengthIsRight d x.0 x.1 mark lent) (λ i. (journal_is i, m.tape i))
        (length_right d small handler_rules e.booth.opening.memories opening t.one.opened (HasBehind d handler_rules e.booth.opening.memories opening t.log) m.mid loop last
        (passing m.before m.behind m.mid m.split m.came m.goes) mark lent m.lent_for)

    lengths_right : (lengths : List ℕ) → WeavesLent s.desk.max_frame no_loop w.weave lengths loop → AreLengths d t.entries loop.tape lengths
    lengths_right lengths woven =
        record {
          count =
              let n : marks_counted transfer_of loop.tape ≡ 0 + length lengths = lent_count s.desk.max_frame w.weave lengths no_loop loop woven in
              omega arith;
          each = each;
        }
      where
        each : (front back : List Mark) (mark : Mark) (lent : ℕ) → loop.tape ≡ front ++ mark ∷ back → slice_get lengths (marks_counted transfer_of front) ≡ Some lent → LengthIsRight d t.entries front mark lent
        each front back (Read c bytes) lent is at = made_right lengths woven front back (Read c bytes) lent refl is at
        each front back (Wrote c bytes) lent is at = made_right lengths woven front back (Wrote c bytes) lent refl is at
        each front back _ lent is at = tt

    noted : (place : RestPlace) → IsPassedAtRest s.desk.max_frame e.kept.table.budget w.weave loop place → IsNotedRest d s.budget loop.tape t.entries place
    noted place n =
        let p : PassesBy d handler_rules (HasBehind d handler_rules e.booth.opening.memories opening t.log) (cell_at_first opening) n.mid loop last = passing n.front n.back n.mid n.split n.before n.behind in
        let more : (more : List Mark) × (loop.tape ≡ n.mid.tape ++ more) = weave_grows s.desk.max_frame n.back n.mid loop n.behind in
        record {
          front = n.mid.tape;
          back = more.0;
          split = more.1;
          place = n.place;
          at_rest =
              subst (λ j. IsPlaceOfRest d j n.mid.tape) journal_is
              (place_of_rest d small handler_rules e.booth.opening.memories opening t.one.opened (HasBehind d handler_rules e.booth.opening.memories opening t.log) n.mid loop last p n.at_rest);
          over_budget = λ h.
              over_budget d small handler_rules e.booth.opening.memories opening t.one.opened (HasBehind d handler_rules e.booth.opening.memories opening t.log) n.mid loop last p s.budget
              (subst (λ b. b < all_held n.mid) e.budget (n.over_budget h)) (n.within h);
        }

    all_noted : (places : List RestPlace) → AllByRecursion (IsPassedAtRest s.desk.max_frame e.kept.table.budget w.weave loop) places → AreNotedRests d s.budget loop.tape t.entries places
    all_noted [] a = tt
    all_noted (place ∷ places) a = (noted place a.0, all_noted places a.1)

    shows : (c : ℕ) (cause : EndCause) → slice_get run.causes c ≡ Some cause → CauseShows run.first run.links c cause
    shows c cause is = go (cases_lt c loop.count)
      where
        at : slice_get e.kept.causes.items c ≡ Some cause
        at = ap (λ l. slice_get l c) (sym e.causes) ∙ is

        go : (c < loop.count) ⊎ (loop.count ≤ c) → CauseShows run.first run.links c cause
        go (inl l) =
            subst (CauseShows run.first run.links c) (get_or_from_slice_get e.kept.causes.items c cause Stopped at) (over_here run.first run.links e.kept loop w.tied e.gone c l).shows
        go (inr l) =
            let n : loop.count ≡ length e.kept.causes.items = w.tied.count in
            absurd (none-some cause (sym (slice_get_past e.kept.causes.items c (omega arith)) ∙ at))

    -- what was read, and what is left, has decided an end that bytes may decide
    on_bytes : (c : ℕ) (cause : EndCause) (unread : List ℕ) → slice_get run.causes c ≡ Some cause → IsOfBytes cause → MayBeUnread cause unread
        → EndsOn d (input (marks_of c loop.tape) ++ unread) cause
    on_bytes c cause unread at of_bytes none =
        talk_decides d (input (marks_of c loop.tape)) unread (entries_of c t.entries) (output (marks_of c loop.tape)) cause (headline.each c cause at).talk of_bytes none

    by_bytes : (c : ℕ) (cause : EndCause) (unread : List ℕ) → slice_get run.causes c ≡ Some cause → run.links.left c ≡ Some unread
        → (Rose (run.first.faults c) (run.links.faults c) → ⊥) → cause ≢ Stopped
        → (cause ≡ RanOut) ⊎ EndsOn d (input (marks_of c loop.tape) ++ unread) cause
    by_bytes c End unread at told quiet goes = inr (on_bytes c End unread at tt (subst IsSpent told (shows c End at)))
    by_bytes c Cut unread at told quiet goes = inr (on_bytes c Cut unread at tt (subst IsSpent told (shows c Cut at)))
    by_bytes c (SizeFault z) unread at told quiet goes = inr (on_bytes c (SizeFault z) unread at tt tt)
    by_bytes c (Envelope fault) unread at told quiet goes = inr (on_bytes c (Envelope fault) unread at tt tt)
    by_bytes c ReadFault unread at told quiet goes = absurd (quiet (shows c ReadFault at))
    by_bytes c WriteFault unread at told quiet goes = absurd (quiet (shows c WriteFault at))
    by_bytes c RanOut unread at told quiet goes = inl refl
    by_bytes c Stopped unread at told quiet goes = absurd (goes refl)

    left : AreLinksLeft run
    left =
        record {
          opened = w.tied.opened ∙ w.tied.count ∙ ap length (sym e.causes);
          none_open = λ c. go c (cases_lt c loop.count);
          listens = w.tied.listens;
          faults = w.tied.faults;
          net_faults = w.tied.net_faults;
        }
      where
        go : (c : ℕ) → (c < loop.count) ⊎ (loop.count ≤ c) → run.links.is_open c ≡ false
        go c (inl l) = (over_here run.first run.links e.kept loop w.tied e.gone c l).link
        go c (inr l) = (w.tied.unopened c l).1

    comes_out : (outcome : Outcome) → EndTells s run e.kept e.loop_seat e.own_seat outcome → ComesOutBy run outcome
    comes_out AllOver so = (so.0, whole, unstopped, so.1.quiet)
      where
        goes_ended : HaveAllEnded so.1.loop e.kept.causes.items
        goes_ended = all_ended run.first run.links e.kept so.1.loop so.1.so_far.tied e.gone

        goes_tells : Tells so.1.so_far.weave so.1.loop
        goes_tells = tells so.1.so_far.weave so.1.loop so.1.so_far.asked so.1.so_far.woven

        whole : run.torn ≡ false
        whole =
            false_from_ne_true run.torn
            (λ h. unbroken d small handler_rules e.booth.opening.memories opening goes_tells.log so.1.so_far.weave so.1.loop e.kept.causes.items goes_tells.one goes_ended so.1.none_left
            (ap (λ (x : HallState PlainCall PlainAnswer ServiceState). x.broken) goes_tells.ends ∙ sym e.torn ∙ h))

        unstopped : (c : ℕ) → slice_get run.causes c ≢ Some Stopped
        unstopped c is = go (cases_lt c so.1.loop.count)
          where
            at : slice_get e.kept.causes.items c ≡ Some Stopped
            at = ap (λ l. slice_get l c) (sym e.causes) ∙ is

            go : (c < so.1.loop.count) ⊎ (so.1.loop.count ≤ c) → ⊥
            go (inl l) = so.1.none_stopped c (goes_ended.each c l ∙ at)
            go (inr l) =
                let n : so.1.loop.count ≡ length e.kept.causes.items = so.1.so_far.tied.count in
                none-some Stopped (sym (slice_get_past e.kept.causes.items c (omega arith)) ∙ at)
    comes_out NetFault so = so
    comes_out JournalFault (inl f) =
        let is : run.torn ≡ true =
        sym broken_is
        ∙ closed_breaks handler_rules opening e.booth.opening.memories t.log f.front f.back f.ask t.one.opened t.one.history (turns_close d (asks_of t.log) t.one.turns)
        (t.one.same ∙ w.asked ∙ f.split) f.answer f.not_closed in
        (is, torn is)
    comes_out JournalFault (inr told) =
        let agrees : SeatAgrees e.ends.log e.own_seat = e.ends.each 1 e.own_seat (omega arith) in
        let is : run.torn ≡ true = e.torn ∙ seat_breaks e.booth (e.loop_seat ∷ e.own_seat ∷ e.crew) e.hall e.ends e.own_seat agrees told in
        (is, torn is)
    comes_out NoMemory so = tt

    more_faults : run.faults_before ≤ run.faults
    more_faults = subst (λ (x : ℕ × ℕ). x.0 ≤ x.1) (λ i. (e.faults_before i, faults_are i)) known.later

    served : IsServed s run
    served =
        record {
          tape = loop.tape;
          journal = t.entries;
          tape_told = w.tied.tape;
          journal_told = subst (λ o. MayHave o t.entries) (sym e.told) t.told;
          headline = headline;
          services = services;
          torn = torn;
          kept = kept;
          bounded = bounded;
          lengths = IfSome_then run.links.lengths w.lengths lengths_right;
          rests = IfSome_then run.links.rests w.rests all_noted;
          comes_out = comes_out run.outcome e.so;
          ends = shows;
          left = left;
          faults = more_faults;
          by_bytes = by_bytes;
          outcome_is_named = named run run.outcome (comes_out run.outcome e.so);
        }

  pub ends_served : IsServed s run
  ends_served =
      let w : IsWovenTo s.desk.max_frame run.first run.links e.kept (asks_made e.loop_seat.mine) e.woven.0 = e.woven.1 in
      served e.woven.0 w (tells w.weave e.woven.0 w.asked w.woven)
