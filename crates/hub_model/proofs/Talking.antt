-- Each loop of a hub has whole conversations, in order.
use Rattle.std.proofs.Common.{◌≡◌, ◌≢◌, ℕ, zero, suc, ◌<◌, ◌≤◌, ◌^◌, ◌⊎◌, List, refl, sym, ap, ◌∙◌, subst, inl, inr}
use Rattle.std.proofs.lemmas.Bool.{cases_eq, cases_lt}
use Rattle.streams.specs.declared.marks.Mark.{Mark}
use Rattle.host_model.specs.declared.cause.EndCause.{EndCause}
use Rattle.host_model.specs.Journal.{JournalEntry, ServiceRules}
use Rattle.host_model.specs.DeskRules.{DeskRules}
use Rattle.host_model.specs.Headline.{Headline}
use Rattle.host_model.proofs.Runs.{stands}
use Rattle.host_model.proofs.Runs as worlds
use Rattle.call_history.specs.History.{meaning_after}
use Rattle.call_history.specs.Calls.{calls_by, asks_of}
use Rattle.machine_model.specs.HallState.{HallState, IsNew}
use Rattle.machine_model.specs.Loop.{Loop}
use Rattle.machine_model.specs.Worker.{idle}
use Rattle.machine_model.specs.Machine.{HaveAllEnded}
use Rattle.machine_model.specs.Merge.{LoopItem, no_loop, calls_in, Weaves, cell_at_first}
use Rattle.machine_model.proofs.Merging.{first_is}
use Rattle.machine_model.proofs.Running.{meets}
use Rattle.machine_model.proofs.OwnOrder.{WorksTo, EndsAt, runs_on}
use Rattle.hub_model.specs.HubState.{HubState}
use Rattle.hub_model.specs.HubRule.{HubCall}
use Rattle.hub_model.specs.Seen.{replays, own_entries, seen_part, seen_asks, seen_calls}
use Rattle.hub_model.specs.Talk.{TalksInOrder, OfHubTurns, IsHubHistory}
use Rattle.hub_model.proofs.AsksSeen.{zero_at, by_seat, asks_seen}
use Rattle.hub_model.proofs.Working.{Any, seen_pairs, turns_seen, pairs_of, seen_by_seat, none_seen, loop_seen}
use Rattle.hub_model.proofs.Seeing.{sees, sees_end}
use Rattle.hub_model.proofs.Opening.{opens_new}

module _ {C A M : Type 0} (default : A) (d : DeskRules C A) (small : d.max < 2 ^ 31) (r : ServiceRules C A M) (n l : ℕ) (memories : List M) (hub : HubState C A M) (log : List (HubCall C A M))
    (o : IsHubHistory n d r memories hub log) (among : l < n) where
  abbrev rules : ServiceRules C A (List A)
  rules = replays default

  -- its own entries
  abbrev pub final : List (JournalEntry C A)
  final = own_entries n l (meaning_after hub log).journal

  abbrev opening : HallState C A (List A)
  opening = seen_part n l final hub

  is_new : IsNew opening.memories opening
  is_new = opens_new n l final memories hub o.opened

  works : (v : ℕ) → v ≢ 0 → WorksTo d (Any d n l) idle (pairs_of (seen_calls n l final log) v)
  works zero not = absurd (not refl)
  works (suc seat) not = go (cases_eq seat l)
    where
      go : (seat ≡ l) ⊎ (seat ≡ l → ⊥) → WorksTo d (Any d n l) idle (pairs_of (seen_calls n l final log) (suc seat))
      go (inl e) = subst (WorksTo d (Any d n l) idle) (sym (ap (λ (x : ℕ). pairs_of (seen_calls n l final log) (suc x)) e ∙ none_seen n l final log)) tt
      go (inr m) = by (cases_lt seat n)
        where
          by : (seat < n) ⊎ (n ≤ seat) → WorksTo d (Any d n l) idle (pairs_of (seen_calls n l final log) (suc seat))
          by (inl below) = subst (WorksTo d (Any d n l) idle) (sym (seen_by_seat n l final log seat m)) (loop_seen d n l seat (calls_by seat (asks_of log)) m (o.loops seat below))
          by (inr past) =
              let t : OfHubTurns d (calls_by seat (asks_of log)) = o.turns seat past in
              subst (WorksTo d (Any d n l) idle) (sym (seen_by_seat n l final log seat m ∙ ap (seen_pairs n l) t.2)) (turns_seen d n l t.0 t.1)

  module _ (weave : List (LoopItem C A)) (loop : Loop) (causes : List EndCause) (same : seen_asks n l (calls_by l (asks_of log)) ≡ calls_in weave)
      (woven : Weaves d.max no_loop weave loop) (ended : HaveAllEnded loop causes) where
    own_is : calls_by 0 (asks_of (seen_calls n l final log)) ≡ calls_in weave
    own_is =
        ap (calls_by 0) (asks_seen n l final log) ∙ ap (λ (s : ℕ). calls_by s (seen_asks n l (asks_of log))) (sym (zero_at l l refl)) ∙ by_seat n l l (asks_of log) ∙ same

    at_end : EndsAt d rules (λ v hand. Unit {0}) (cell_at_first opening) loop (meaning_after opening (seen_calls n l final log))
    at_end =
        runs_on d rules (λ v hand. Unit {0}) (seen_calls n l final log) weave (cell_at_first opening) loop (sees default r n l final hub log o.history o.submits refl) own_is woven works

    all : Headline d rules opening.memories at_end.last.loop.tape at_end.last.hall.journal causes
    all =
        meets d rules opening.memories (λ acts world reached. stands d rules opening.memories acts world small reached) small
        (λ acts world given reached over. worlds.meets d rules opening.memories acts world given small reached over) (cell_at_first opening) at_end.last at_end.events causes
        (first_is d rules opening.memories opening is_new) at_end.runs (subst (λ (x : Loop). HaveAllEnded x causes) (sym at_end.loop_is) ended)

    journal_is : at_end.last.hall.journal ≡ final
    journal_is = ap (λ (x : HallState C A (List A)). x.journal) (at_end.hall_is ∙ sees_end default r n l final hub log o.history o.submits refl)

    headline : Headline d rules opening.memories loop.tape final causes
    headline = subst (λ (x : List Mark × List (JournalEntry C A)). Headline d rules opening.memories x.0 x.1 causes) (λ i. ((at_end.loop_is i).tape, journal_is i)) all

    pub loop_talks : TalksInOrder d loop.tape final causes
    loop_talks = record { order = headline.order; each = headline.each; no_marks = headline.no_marks; no_entries = headline.no_entries }
