-- One item more in the loop's own order: what was woven so far goes on with it.
use Rattle.std.proofs.Common.{◌≡◌, ℕ, ◌<◌, ◌≤◌, ◌^◌, Option, None, Some, IfSome, List, [], ◌∷◌, ◌++◌, refl, sym, ap, ◌∙◌, subst, append-nil, append_assoc}
use Rattle.std.specs.List.{AllByRecursion}
use Rattle.streams.specs.declared.rest_place.RestPlace.{RestPlace}
use Rattle.streams.specs.Told.{told_with}
use Rattle.outside.specs.LinksState.{LinksState}
use Rattle.machine_model.specs.Loop.{Loop}
use Rattle.machine_model.specs.AtFronts.{all_begun, KeepsWithin}
use Rattle.machine_model.specs.Merge.{handles, calls, no_loop, calls_in, Weaves}
use Rattle.machine_model.proofs.Extending.{weaves-append, calls-append}
use Rattle.machine_model.proofs.Budgeting.{weave_within}
use Rattle.loop_conns.specs.declared.connections.LoopConnections.{LoopConnections}
use Rattle.loop_conns.specs.Tied.{AreTied}
use Rattle.loop_conns.specs.Woven.{ServedItem, ServedAsk, lent_to, WeavesLent, IsPassedAtRest, IsWovenTo}

-- what is lent to one item
abbrev pub lent_by : Loop → ServedItem → List ℕ
lent_by loop (handles conn_event) = lent_to loop conn_event
lent_by loop (calls e) = []

-- lengths along a weave, and those of one item more
module _ (max : ℕ) where
  last_lent : (old new : Loop) (item : ServedItem) → Weaves max old (item ∷ []) new → WeavesLent max old (item ∷ []) (lent_by old item) new
  last_lent old new (handles conn_event) w = (w.0, [], w.1, sym (append-nil (lent_to old conn_event)), (refl, w.2))
  last_lent old new (calls e) w = (w.0, w.1, (refl, w.2))

  pub lent_more : (old mid new : Loop) (items : List ServedItem) (item : ServedItem) (lengths : List ℕ) → WeavesLent max old items lengths mid
      → Weaves max mid (item ∷ []) new → WeavesLent max old (items ++ item ∷ []) (lengths ++ lent_by mid item) new
  lent_more old mid new [] item lengths l w =
      subst (λ (p : List ℕ × Loop). WeavesLent max p.1 (item ∷ []) (p.0 ++ lent_by mid item) new) (λ i. (sym l.0 i, l.1 i)) (last_lent mid new item w)
  lent_more old mid new (handles conn_event ∷ items) item lengths l w = (
    l.0,
    l.1 ++ lent_by mid item,
    l.2,
    ap (λ xs. xs ++ lent_by mid item) l.3 ∙ append_assoc (lent_to old conn_event) l.1 (lent_by mid item),
    lent_more l.0 mid new items item l.1 l.4 w,
  )
  lent_more old mid new (calls e ∷ items) item lengths l w = (l.0, l.1, lent_more l.0 mid new items item lengths l.2 w)

-- places of rest of a weave are places of one that goes on
module _ (max budget : ℕ) (weave more : List ServedItem) (loop next : Loop) (goes : Weaves max loop more next) where
  passed_more : (noted : RestPlace) → IsPassedAtRest max budget weave loop noted → IsPassedAtRest max budget (weave ++ more) next noted
  passed_more noted p =
      record {
        mid = p.mid;
        front = p.front;
        back = p.back ++ more;
        split = ap (λ xs. xs ++ more) p.split ∙ append_assoc p.front p.back more;
        before = p.before;
        behind = weaves-append max p.mid loop next p.back more p.behind goes;
        place = p.place;
        at_rest = p.at_rest;
        over_budget = p.over_budget;
        within = p.within;
      }

  pub all_passed_more : (stages : List RestPlace) → AllByRecursion (IsPassedAtRest max budget weave loop) stages → AllByRecursion (IsPassedAtRest max budget (weave ++ more) next) stages
  all_passed_more [] a = tt
  all_passed_more (noted ∷ stages) a = (passed_more noted a.0, all_passed_more stages a.1)

-- what is told of lengths that have these more
told_lengths : (o : Option (List ℕ)) (P Q : List ℕ → Type 0) (more : List ℕ) → ((xs : List ℕ) → P xs → Q (xs ++ more)) → IfSome o P → IfSome (told_with o more) Q
told_lengths None P Q more step h = h
told_lengths (Some xs) P Q more step h = step xs h

told_places : (o : Option (List RestPlace)) (P Q : List RestPlace → Type 0) → ((xs : List RestPlace) → P xs → Q xs) → IfSome o P → IfSome o Q
told_places None P Q step h = h
told_places (Some xs) P Q step h = step xs h

-- What was woven so far, with one item more.
module _ (max : ℕ) (small : max < 2 ^ 31) (first l0 l1 : LinksState) (k0 k1 : LoopConnections) (asks : List ServedAsk) (loop : Loop) (w : IsWovenTo max first l0 k0 asks loop) where
  pub item_woven : (item : ServedItem) (next : Loop) → Weaves max loop (item ∷ []) next → AreTied first l1 k1 next → k1.table.budget ≡ k0.table.budget
      → all_begun next ≤ k0.table.budget → l1.lengths ≡ told_with l0.lengths (lent_by loop item) → l1.rests ≡ l0.rests
      → IsWovenTo max first l1 k1 (asks ++ calls_in (item ∷ [])) next
  item_woven item next one tied budget less lengths rests =
      record {
        weave = w.weave ++ item ∷ [];
        woven = weaves-append max no_loop loop next w.weave (item ∷ []) w.woven one;
        asked = calls-append w.weave (item ∷ []) ∙ ap (λ xs. xs ++ calls_in (item ∷ [])) w.asked;
        tied = tied;
        within = subst (λ n. KeepsWithin max n next) (sym budget) (weave_within max small k0.table.budget w.weave loop item next w.woven w.within one less);
        lengths =
            subst (λ o. IfSome o (λ all. WeavesLent max no_loop (w.weave ++ item ∷ []) all next)) (sym lengths)
            (told_lengths l0.lengths (λ all. WeavesLent max no_loop w.weave all loop) (λ all. WeavesLent max no_loop (w.weave ++ item ∷ []) all next) (lent_by loop item)
            (λ xs h. lent_more max no_loop loop next w.weave item xs h one) w.lengths);
        rests =
            subst (λ o. IfSome o (AllByRecursion (IsPassedAtRest max k1.table.budget (w.weave ++ item ∷ []) next))) (sym rests)
            (subst (λ n. IfSome l0.rests (AllByRecursion (IsPassedAtRest max n (w.weave ++ item ∷ []) next))) (sym budget)
            (told_places l0.rests (AllByRecursion (IsPassedAtRest max k0.table.budget w.weave loop)) (AllByRecursion (IsPassedAtRest max k0.table.budget (w.weave ++ item ∷ []) next))
            (all_passed_more max k0.table.budget w.weave (item ∷ []) loop next one) w.rests));
      }

module _ (max : ℕ) (first l0 l1 : LinksState) (k0 k1 : LoopConnections) (asks : List ServedAsk) (loop : Loop) (w : IsWovenTo max first l0 k0 asks loop) where
  -- nothing more
  pub none_woven : AreTied first l1 k1 loop → k1.table.budget ≡ k0.table.budget → l1.lengths ≡ l0.lengths → l1.rests ≡ l0.rests → IsWovenTo max first l1 k1 asks loop
  none_woven tied budget lengths rests =
      record {
        weave = w.weave;
        woven = w.woven;
        asked = w.asked;
        tied = tied;
        within = subst (λ n. KeepsWithin max n loop) (sym budget) w.within;
        lengths = subst (λ o. IfSome o (λ all. WeavesLent max no_loop w.weave all loop)) (sym lengths) w.lengths;
        rests =
            subst (λ o. IfSome o (AllByRecursion (IsPassedAtRest max k1.table.budget w.weave loop))) (sym rests)
            (subst (λ n. IfSome l0.rests (AllByRecursion (IsPassedAtRest max n w.weave loop))) (sym budget) w.rests);
      }
