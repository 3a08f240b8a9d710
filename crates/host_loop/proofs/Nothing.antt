-- Where nothing was served, what serving promises is so of an empty tape and an empty journal.
use Rattle.std.proofs.Common.{◌≡◌, ℕ, ◌<◌, ◌≤◌, ◌^◌, Option, None, Some, IfSome, List, [], ◌∷◌, ◌++◌, length, slice_get, refl, sym, ap, ◌∙◌, subst, inr, arith}
use Rattle.std.proofs.lemmas.Bool.{false≢true}
use Rattle.std.proofs.lemmas.Option.{none-some, IfSome_then}
use Rattle.streams.specs.declared.marks.Mark.{Mark}
use Rattle.streams.specs.declared.rest_place.RestPlace.{RestPlace}
use Rattle.outside.specs.LinksState.{LinksState}
use Rattle.host_model.specs.Headline.{Headline}
use Rattle.host_model.proofs.Lists.{nil-cons}
use Rattle.call_rules.specs.Handling.{handler_rules}
use Rattle.machine_model.specs.SeenHall.{MayHave}
use Rattle.machine_model.specs.AtFronts.{KeepsWithin}
use Rattle.machine_model.specs.Merge.{no_loop}
use Rattle.machine_model.proofs.Fronts.{woven_fronts}
use Rattle.machine_model.proofs.Budgeting.{nothing_keeps}
use Rattle.loop_conns.specs.Woven.{ServedItem}
use Rattle.host_loop.specs.Lengths.{AreLengths}
use Rattle.host_loop.specs.Rests.{AreNotedRests}
use Rattle.host_loop.specs.Served.{ServerSetting, ServedRun, ComesOutBy, rules_served, IsServed}
use Rattle.host_loop.specs.Ending.{ServesNothing}
use Rattle.call_rules.specs.Desks.{longest_payload}

-- what is empty where it is told may be empty
may_be_empty : {X : Type 0} (o : Option (List X)) → IfSome o (λ items. items ≡ []) → MayHave o []
may_be_empty None h = tt
may_be_empty (Some items) h = h

module _ (s : ServerSetting) (run : ServedRun) (e : ServesNothing s run) where
  small : s.desk.max_frame < 2 ^ 31
  small = let l : s.desk.max_frame ≤ longest_payload = e.small in omega arith

  no_mark : (front back : List Mark) (mark : Mark) → [] ≡ front ++ mark ∷ back → ⊥
  no_mark [] back mark is = nil-cons mark back is
  no_mark (x ∷ front) back mark is = nil-cons x (front ++ mark ∷ back) is

  headline : Headline (rules_served s) handler_rules s.services [] [] run.causes
  headline =
      subst (Headline (rules_served s) handler_rules s.services [] []) (sym e.causes)
      (record {
        legal = tt;
        order = λ front back is x y entry other at_x at_y. absurd (none-some entry at_x);
        each = λ c cause at. absurd (none-some cause at);
        no_marks = λ c l. refl;
        no_entries = λ c l. refl;
      })

  no_lengths : (lengths : List ℕ) → lengths ≡ [] → AreLengths (rules_served s) [] [] lengths
  no_lengths lengths none = record { count = ap length none; each = λ front back mark lent is at. absurd (no_mark front back mark is) }

  no_rests : (places : List RestPlace) → places ≡ [] → AreNotedRests (rules_served s) s.budget [] [] places
  no_rests places none = subst (AreNotedRests (rules_served s) s.budget [] []) (sym none) tt

  within : KeepsWithin s.desk.max_frame s.budget no_loop
  within = nothing_keeps s.desk.max_frame small s.budget

  pub nothing_served : IsServed s run
  nothing_served =
      record {
        tape = [];
        journal = [];
        tape_told = subst (λ (l : LinksState). MayHave l.tape []) (sym e.links) (may_be_empty run.first.tape e.fresh.tape);
        journal_told = e.empty;
        headline = headline;
        services = record { count = ap length e.services; memories = λ h. e.services; ahead = λ h. absurd (false≢true (sym e.whole ∙ h)) };
        torn = λ h. absurd (false≢true (sym e.whole ∙ h));
        kept = λ h. e.faults;
        bounded = λ front back is. record {
          few = woven_fronts s.desk.max_frame no_items no_loop refl front back is;
          sizes = within.fronts front back is;
        };
        lengths = subst (λ (l : LinksState). IfSome l.lengths (AreLengths (rules_served s) [] [])) (sym e.links) (IfSome_then run.first.lengths e.fresh.lengths no_lengths);
        rests = subst (λ (l : LinksState). IfSome l.rests (AreNotedRests (rules_served s) s.budget [] [])) (sym e.links) (IfSome_then run.first.rests e.fresh.rests no_rests);
        comes_out = subst (ComesOutBy run) (sym e.outcome) tt;
        ends = λ c cause at. absurd (none-some cause (ap (λ l. slice_get l c) (sym e.causes) ∙ at));
        left = record {
          opened = ap (λ (l : LinksState). l.opened) e.links ∙ e.fresh.opened ∙ ap length (sym e.causes);
          none_open = λ c. ap (λ (l : LinksState). l.is_open c) e.links ∙ e.fresh.none_open c;
          listens = ap (λ (l : LinksState). l.listens) e.links;
          faults = λ c. let same : run.links.faults c ≡ run.first.faults c = ap (λ (l : LinksState). l.faults c) e.links in omega arith;
          net_faults = let same : run.links.net_faults ≡ run.first.net_faults = ap (λ (l : LinksState). l.net_faults) e.links in omega arith;
        };
        faults = let same : run.faults ≡ run.faults_before = e.faults in omega arith;
        by_bytes = λ c cause unread at told quiet goes. absurd (none-some cause (ap (λ l. slice_get l c) (sym e.causes) ∙ at));
        outcome_is_named = λ links journal. inr e.outcome;
      }
    where
      no_items : List ServedItem
      no_items = []
