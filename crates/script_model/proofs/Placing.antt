-- Where a rehearsal comes to its end, and at each line of rest, there is a place on the tape; so a rehearsal is fed by its script.
use Rattle.std.proofs.Common.{◌≡◌, ℕ, ◌^◌, ◌<◌, ◌≤◌, Option, None, Some, List, [], ◌∷◌, ◌++◌, map, length, refl, sym, ap, ◌∙◌, subst, inl, inr, ⊎_elim, arith, append-nil}
use Rattle.std.proofs.lemmas.Option.{none-some}
use Rattle.streams.specs.declared.marks.Mark.TheVariants.{Ended, ReadFailed}
use Rattle.host_model.specs.declared.key.Key.{Key}
use Rattle.host_model.specs.declared.cause.EndCause.{EndCause}
use Rattle.host_model.specs.Journal.{ServiceRules}
use Rattle.host_model.specs.DeskRules.{DeskRules, Invoke}
use Rattle.host_model.specs.Marks.{marks_of, input}
use Rattle.machine_model.specs.Loop.{most_connections}
use Rattle.machine_model.specs.Worker.{holds}
use Rattle.machine_model.specs.Machine.{Cell, MachineEvent, EventsLead, IsFirst}
use Rattle.machine_model.specs.Plain.{Told, event_told, run_plain}
use Rattle.machine_model.specs.Places.{CellKeeps}
use Rattle.machine_model.specs.Resting.{IsAtRest, IsPlaceOfRest}
use Rattle.machine_model.proofs.Taping.{open_on_tape}
use Rattle.script_model.specs.Arrival.{bytes_of_pieces}
use Rattle.script_model.specs.ScriptLines.{PlanLine, resting, ScriptPlan, openings, pieces_on}
use Rattle.script_model.specs.RestLines.{HasPlaceFor}
use Rattle.script_model.specs.Playing.{MemoryAt, Play}
use Rattle.script_model.specs.Rehearsing.{rehearsal, IsRehearsalOf}
use Rattle.script_model.specs.Ending.{LetsAllMove}
use Rattle.script_model.proofs.Leading.{Leading, lines_lead, is_run}
use Rattle.script_model.proofs.Waiting.{Counted, counted}
use Rattle.script_model.proofs.Wanting.{ShowsAt, shown}
use Rattle.script_model.proofs.FedReads.{FedBefore, last_fed, opens_all}
use Rattle.script_model.proofs.Concluding.{IsStalled}
use Rattle.script_model.proofs.Ended.{settled, stalled}
use Rattle.script_model.proofs.Cutting.{with_lines, fewer_openings, front_moves, IsCut, cut}
use Rattle.script_model.proofs.Tracing.{Goes, run_goes, run_traced}
use Rattle.script_model.proofs.Stalling.{all_read_or_over}

module _ {C A M : Type 0} (d : DeskRules C A) (r : ServiceRules C A M) (memory : ℕ → MemoryAt)
    (computes : (first cell : Cell C A M) (told : List Told) → run_plain d r told (Some first) ≡ Some cell → EventsLead d r first (map event_told told) cell)
    (small : d.max < 2 ^ 31) (memories : List M) (first : Cell C A M) (is_first : IsFirst memories first)
    (stands : (cell : Cell C A M) (events : List MachineEvent) → EventsLead d r first events cell → CellKeeps d r memories cell)
    (served : (cell : Cell C A M) (events : List MachineEvent) → EventsLead d r first events cell → (w : ℕ) (key : Key) (payload : List ℕ) (call : C) → cell.workers w ≡ holds key payload
    → d.decide payload ≡ Invoke call → r.slot call < length cell.hall.memories)
    (moment : (mid last : Cell C A M) (events more : List MachineEvent) → EventsLead d r first events mid → IsAtRest mid.loop → EventsLead d r mid more last
    → IsPlaceOfRest d last.hall.journal mid.loop.tape) (budget workers : ℕ) where
  module _ (script : ScriptPlan) (lets : LetsAllMove workers script) (fuel : ℕ) (play : Play C A M) (whole : rehearsal d r memory fuel budget workers script first ≡ Some play) where
    abbrev rehearsed : IsRehearsalOf d r memory budget workers script play.wants first play.cell
    rehearsed = record { fuel = fuel; play = play; done = whole; count = refl; same = refl }

    fed : FedBefore d r memory computes small script [] play
    fed = last_fed d r memory computes small script memories budget workers play.wants first play.cell is_first rehearsed

    run : (events : List MachineEvent) × EventsLead d r first events play.cell
    run = is_run d r memory computes budget workers script play.wants first play.cell rehearsed

    stands_still : (c : ℕ) → c < play.cell.loop.count → (play.cell.loop.conns c).cause ≡ None → IsStalled d.max budget play c
    stands_still = stalled d r memory computes budget workers script play.wants memories first play.cell is_first lets stands served rehearsed

    -- a connection that has ended owes nothing, since it waited open for its last payload
    all_collected : (c : ℕ) → c < play.cell.loop.count → (play.cell.loop.conns c).collected ≡ length (play.cell.loop.conns c).payloads
    all_collected c l =
        ⊎_elim (λ s. s.1) (λ m. open_or m (play.cell.loop.conns c).cause refl)
        (settled d r memory computes budget workers script play.wants memories first play.cell is_first lets stands served rehearsed c l)
      where
        open_or : (play.cell.loop.conns c).submitted < length (play.cell.loop.conns c).payloads → (cause : Option EndCause) → (play.cell.loop.conns c).cause ≡ cause
            → (play.cell.loop.conns c).collected ≡ length (play.cell.loop.conns c).payloads
        open_or m None o = (stands_still c l o).collected
        open_or m (Some cause) e =
            let s : ShowsAt d r memory memories first computes stands play.cell play.wants =
            shown d r memory memories first computes stands budget workers script play.wants play.cell is_first rehearsed in
            let k : Counted (play.cell.loop.conns c) = counted d r memories play.cell (stands play.cell run.0 run.1) c l in
            let n : (play.cell.loop.conns c).collected ≤ (play.cell.loop.conns c).submitted = k.collected in
            absurd (none-some cause (sym (s.waits.each c l (omega arith)).0 ∙ e))

    at_rest : IsAtRest play.cell.loop
    at_rest c l = (all_collected c l, λ o. (stands_still c l o).left)

    all_bytes : (c : ℕ) → play.unread c ≡ [] → input (marks_of c play.cell.loop.tape) ≡ bytes_of_pieces (pieces_on c script.lines)
    all_bytes c none =
        sym (ap (λ pieces. input (marks_of c play.cell.loop.tape) ++ bytes_of_pieces (pieces ++ [])) none ∙ append-nil (input (marks_of c play.cell.loop.tape))) ∙ (fed.each c).remains.bytes

    -- the place is the end of the tape, whatever comes later
    pub place : openings script.lines ≤ most_connections → (last : Cell C A M) (events : List MachineEvent) → EventsLead d r play.cell events last
        → HasPlaceFor d budget script.lines last.loop.tape last.hall.journal
    place few last events led =
        let goes : Goes play.cell.loop last.loop = run_goes d r memories first stands run.0 events play.cell last run.1 led in
        record {
          front = play.cell.loop.tape;
          back = goes.back;
          split = goes.tape;
          opened = opens_all d r memory computes small script memories budget workers play.wants first play.cell is_first rehearsed few;
          no_more = λ c.
              record {
                bytes = (bytes_of_pieces (play.unread c ++ []), sym (fed.each c).remains.bytes);
                ended = λ front back e. (fed.marks front back (Ended c) e).0;
                failed = λ front back e. (fed.marks front back (ReadFailed c) e).0;
              };
          at_rest = moment play.cell last run.0 events run.1 at_rest led;
          all_read = ⊎_elim (λ all. inl (λ c o. all_bytes c (all c (open_on_tape d.max play.cell.loop c fed.tells o)))) (λ over. inr over)
              (all_read_or_over d.max budget play stands_still (λ c size e. let t : _ × _ × _ = (fed.each c).size size e in (t.0, t.1)) fed.tells
              (run_traced d r memories first stands is_first run.0 play.cell run.1));
        }

  module _ (script : ScriptPlan) (lets : LetsAllMove workers script) (wants : ℕ) (last : Cell C A M) (t : IsRehearsalOf d r memory budget workers script wants first last)
      (few : openings script.lines ≤ most_connections) where
    -- behind its last line too
    pub place_at_end : HasPlaceFor d budget script.lines last.loop.tape last.hall.journal
    place_at_end =
        subst (λ (x : Cell C A M). HasPlaceFor d budget script.lines x.loop.tape x.hall.journal) (sym t.same) (place script lets t.fuel t.play t.done few t.play.cell [] refl)

    pub place_at_rest : (before behind : List PlanLine) → script.lines ≡ before ++ resting ∷ behind → HasPlaceFor d budget before last.loop.tape last.hall.journal
    place_at_rest before behind is =
        let k : IsCut d r memory budget workers script before behind first t.play = cut d r memory t.fuel budget workers script first t.play before behind is t.done in
        let l : Leading d r memory computes k.mid (Some t.play) = subst (Leading d r memory computes k.mid) k.more (lines_lead d r memory computes k.fuel budget workers behind k.mid) in
        let fewer : openings before ≤ openings (before ++ resting ∷ behind) = fewer_openings before (resting ∷ behind) in
        let all : openings script.lines ≡ openings (before ++ resting ∷ behind) = ap openings is in
        subst (λ (x : Cell C A M). HasPlaceFor d budget before x.loop.tape x.hall.journal) (sym t.same)
        (place (with_lines script before) (front_moves workers script before (resting ∷ behind) is lets) k.fuel k.mid k.front (omega arith) t.play.cell l.events l.lead)
