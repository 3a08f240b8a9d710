-- Links were asked what is next: nothing has moved, and the place at which they were asked may be noted.
use Rattle.std.proofs.Common.{◌≡◌, ◌≢◌, ℕ, zero, suc, ◌+◌, ◌<◌, ◌≤◌, ◌^◌, ◌⊎◌, Bool, true, false, if◌then◌else◌, Option, None, Some, IfSome, List, [], ◌∷◌, ◌++◌, length, take, replicate, slice_index_or, refl, sym, ap, ◌∙◌, subst, inl, inr, append-nil, eq-eqb, ne_eqb, arith}
use Rattle.std.specs.List.{AllByRecursion}
use Rattle.std.specs.Int.{w32, to_be_bytes, from_be_bytes}
use Rattle.std.proofs.lemmas.Bool.{cases_eq, lt-ltb, le-ltb}
use Rattle.std.proofs.lemmas.Option.{none-some, same_Some}
use Rattle.std.proofs.lemmas.Nat.{from_be_bytes-to_be_bytes_4}
use Rattle.streams.specs.declared.marks.Mark.{Mark}
use Rattle.outside.specs.declared.answers.Ask.{Ask}
use Rattle.streams.specs.declared.rest_place.RestPlace.{RestPlace}
use Rattle.outside.specs.LinksState.{LinksState}
use Rattle.outside.specs.Asking.{place_asked, noted_at, NotesItsPlace}
use Rattle.host_model.specs.declared.cause.EndCause.{EndCause}
use Rattle.host_model.specs.declared.cause.EndCause.TheVariants.{Stopped}
use Rattle.conn_state.specs.Phase.{Phase, size_asked, sizing, held, framing, ready, waiting, writing, ended}
use Rattle.conn_table.specs.declared.places.Slot.{Slot}
use Rattle.conn_table.specs.Slots.{slot_in}
use Rattle.conn_table.specs.Table.{TableView, slot_of, size_given, sizes_given, size_wanted, HasItsSize}
use Rattle.conn_table.proofs.Sizing.{slot_is}
use Rattle.machine_model.specs.SeenHall.{MayHave}
use Rattle.machine_model.specs.Loop.{LoopConn, Loop, OwesNothing}
use Rattle.machine_model.specs.Bounds.{sum_among}
use Rattle.machine_model.specs.AtFronts.{size_in, summed}
use Rattle.machine_model.specs.Resting.{IsAtRest}
use Rattle.machine_model.specs.Merge.{no_loop}
use Rattle.conn_refinement.specs.Phases.{PhaseTells, IsLean}
use Rattle.conn_refinement.specs.Weights.{weight_of, table_weight}
use Rattle.conn_refinement.proofs.Counting.{counted}
use Rattle.loop_conns.specs.declared.connections.ConnStage.{ConnStage}
use Rattle.loop_conns.specs.declared.connections.ConnStage.TheVariants.{Lean, Laden, Gone}
use Rattle.loop_conns.specs.declared.connections.LoopConnections.{LoopConnections}
use Rattle.loop_conns.specs.Tied.{IsLaden, StageTells, AreTied, PhasesTell}
use Rattle.loop_conns.specs.Woven.{ServedAsk, WeavesLent, held_if_open, all_held, IsPassedAtRest, owed_by, IsWovenTo, LoopIsRunning}
use Rattle.loop_conns.specs.Going.{HasNoRoom}
use Rattle.loop_conns.proofs.Tying.{place_moved}
use Rattle.loop_conns.proofs.Owing.{owes_bytes, owes_outcome}

-- a connection that owes nothing by the count
none_owed : (conn : LoopConn) → owed_by None conn ≡ 0 → OwesNothing conn
none_owed conn none = go (cases_eq conn.collected (length conn.payloads))
  where
    not_one : owed_by None conn ≡ 1 → ⊥
    not_one e = let a : owed_by None conn ≡ 0 = none in let b : owed_by None conn ≡ 1 = e in let g : ⊥ = omega arith in g

    some_left : (x : ℕ) (xs : List ℕ) → conn.left ≡ x ∷ xs → conn.left ≡ [] → ⊥
    some_left x xs e f =
        let a : length conn.left ≡ suc (length xs) = ap length e in
        let b : length conn.left ≡ 0 = ap length f in
        let g : ⊥ = omega arith in g

    nothing : conn.collected ≡ length conn.payloads → (left : List ℕ) → conn.left ≡ left → conn.left ≡ []
    nothing all [] e = e
    nothing all (x ∷ xs) e = absurd (not_one (owes_bytes conn all (some_left x xs e)))

    go : (conn.collected ≡ length conn.payloads) ⊎ (conn.collected ≡ length conn.payloads → ⊥) → OwesNothing conn
    go (inl all) = (all, nothing all conn.left refl)
    go (inr n) = absurd (not_one (owes_outcome conn n))

-- a sum that is 0
each_none : (f : LoopConn → ℕ) (conns : ℕ → LoopConn) (n : ℕ) → sum_among f conns n ≡ 0 → (x : ℕ) → x < n → f (conns x) ≡ 0
each_none f conns zero none x l = absurd (let g : ⊥ = omega arith in g)
each_none f conns (suc n) none x l = go (cases_eq x n) (λ m. each_none f conns n (let t : f (conns n) + sum_among f conns n ≡ 0 = none in omega arith) x m)
  where
    go : (x ≡ n) ⊎ (x ≡ n → ⊥) → (x < n → f (conns x) ≡ 0) → f (conns x) ≡ 0
    go (inl e) again = ap (λ i. f (conns i)) e ∙ (let t : f (conns n) + sum_among f conns n ≡ 0 = none in let z : f (conns n) ≡ 0 = omega arith in z)
    go (inr m) again = let d : x ≡ n → ⊥ = m in again (omega arith)

-- Where no connection owes something, the machine is at rest.
pub goes_at_rest : (max : ℕ) (first links : LinksState) (kept : LoopConnections) (asks : List ServedAsk) (g : LoopIsRunning max first links kept asks) → kept.owing ≡ 0 → IsAtRest g.loop
goes_at_rest max first links kept asks g none c l = go (g.loop.conns c).cause refl
  where
    own : owed_by (g.loop.conns c).cause (g.loop.conns c) ≡ 0
    own = each_none (λ k. owed_by k.cause k) g.loop.conns g.loop.count (sym g.owing ∙ none) c l

    go : (cause : Option EndCause) → (g.loop.conns c).cause ≡ cause
        → ((g.loop.conns c).collected ≡ length (g.loop.conns c).payloads) × ((g.loop.conns c).cause ≡ None → (g.loop.conns c).left ≡ [])
    go None e =
        let h : OwesNothing (g.loop.conns c) = none_owed (g.loop.conns c) (sym (ap (λ o. owed_by o (g.loop.conns c)) e) ∙ own) in
        (h.0, λ going. h.1)
    go (Some cause) e = (g.none_left c l (λ n. none-some cause (sym n ∙ e)), λ n. absurd (none-some cause (sym n ∙ e)))

-- what a size and bytes behind it begin
whole_size : (size : ℕ) (bytes : List ℕ) → size < 2 ^ 32 → size_in (to_be_bytes w32 size ++ bytes) ≡ size
whole_size size bytes fits =
    ap (λ b. if b then 0 else from_be_bytes w32 (take 4 (to_be_bytes w32 size ++ bytes))) (le-ltb (length (to_be_bytes w32 size ++ bytes)) 4 (omega arith))
    ∙ from_be_bytes-to_be_bytes_4 size fits

-- what fewer bytes begin
begun_size : (bytes : List ℕ) → length bytes < 4 → size_in bytes ≡ 0
begun_size bytes l = ap (λ b. if b then 0 else from_be_bytes w32 (take 4 bytes)) (lt-ltb (length bytes) 4 l)

-- A connection at rest holds at least the size that is admitted, or that waits.
lean_holds : (max : ℕ) (phase : Phase) (size : Option ℕ) (conn : LoopConn) → IsLean phase → size ≡ None → PhaseTells max phase conn
    → size_given size + size_given (size_asked phase) ≤ size_in conn.held
lean_holds max (sizing bytes) size conn lean none t = let e : size_given size ≡ 0 = ap size_given none in omega arith
lean_holds max (held n) size conn lean none t =
    let e : size_given size ≡ 0 = ap size_given none in
    let same : size_in conn.held ≡ n = ap size_in t.1 ∙ whole_size n [] t.4 in
    omega arith
lean_holds max (writing left) size conn lean none t = let e : size_given size ≡ 0 = ap size_given none in omega arith
lean_holds max (framing n bytes) size conn lean none t = absurd lean
lean_holds max (ready number payload) size conn lean none t = absurd lean
lean_holds max (waiting number) size conn lean none t = absurd lean
lean_holds max (ended cause) size conn lean none t = absurd lean

laden_holds : (max : ℕ) (phase : Phase) (size : Option ℕ) (conn : LoopConn) → IsLaden phase → HasItsSize phase size → conn.collected ≡ length conn.payloads → PhaseTells max phase conn
    → size_given size + size_given (size_asked phase) ≤ size_in conn.held
laden_holds max (framing n bytes) size conn laden has all t =
    let e : size_given size ≡ n = ap size_given has in
    let same : size_in conn.held ≡ n = ap size_in t.1 ∙ whole_size n bytes t.4 in
    omega arith
laden_holds max (ready number payload) size conn laden has all t =
    let a : conn.collected ≡ number = t.2 in let b : length conn.payloads ≡ suc number = t.3 in let d : conn.collected ≡ length conn.payloads = all in let g : ⊥ = omega arith in absurd g
laden_holds max (waiting number) size conn laden has all t =
    let a : conn.collected ≡ number = t.2 in let b : length conn.payloads ≡ suc number = t.3 in let d : conn.collected ≡ length conn.payloads = all in let g : ⊥ = omega arith in absurd g
laden_holds max (sizing bytes) size conn laden has all t = absurd laden
laden_holds max (held n) size conn laden has all t = absurd laden
laden_holds max (writing left) size conn laden has all t = absurd laden
laden_holds max (ended cause) size conn laden has all t = absurd laden

-- the size under way is one that a frame may have
holds_few : (max : ℕ) (phase : Phase) (conn : LoopConn) → PhaseTells max phase conn → size_in conn.held ≤ max
holds_few max (sizing bytes) conn t = let none : size_in conn.held ≡ 0 = ap size_in t.1 ∙ begun_size bytes t.2 in omega arith
holds_few max (held n) conn t =
    let same : size_in conn.held ≡ n = ap size_in t.1 ∙ whole_size n [] t.4 in let few : n ≤ max = t.3 in omega arith
holds_few max (framing n bytes) conn t =
    let same : size_in conn.held ≡ n = ap size_in t.1 ∙ whole_size n bytes t.4 in let few : n ≤ max = t.3 in omega arith
holds_few max (ready number payload) conn t = let none : size_in conn.held ≡ 0 = ap size_in t.0.0 ∙ begun_size [] (omega arith) in omega arith
holds_few max (waiting number) conn t = let none : size_in conn.held ≡ 0 = ap size_in t.0.0 ∙ begun_size [] (omega arith) in omega arith
holds_few max (writing left) conn t = let none : size_in conn.held ≡ 0 = ap size_in t.1 ∙ begun_size [] (omega arith) in omega arith
holds_few max (ended cause) conn t = absurd t

open_holds_few : (max : ℕ) (table : TableView) (loop : Loop) → PhasesTell max table loop → (c : ℕ) → c < loop.count → held_if_open (loop.conns c).cause (loop.conns c).held ≤ max
open_holds_few max table loop phases c l = go (loop.conns c).cause refl
  where
    go : (cause : Option EndCause) → (loop.conns c).cause ≡ cause → held_if_open (loop.conns c).cause (loop.conns c).held ≤ max
    go None e =
        let same : held_if_open (loop.conns c).cause (loop.conns c).held ≡ size_in (loop.conns c).held = ap (λ o. held_if_open o (loop.conns c).held) e in
        let few : size_in (loop.conns c).held ≤ max = holds_few max (slot_of c table.slots).conn.phase (loop.conns c) (phases c l e).tells in
        omega arith
    go (Some cause) e =
        let none : held_if_open (loop.conns c).cause (loop.conns c).held ≡ 0 = ap (λ o. held_if_open o (loop.conns c).held) e in
        omega arith

-- the size that is admitted of what is kept, and the one that waits
abbrev pub both_of : Slot → ℕ
both_of slot = size_given slot.size + size_wanted slot.conn

both_within : (slots : List Slot) → sizes_given slots ≤ table_weight both_of slots
both_within [] = omega arith
both_within (x ∷ slots) = let t : sizes_given slots ≤ table_weight both_of slots = both_within slots in omega arith

-- one that waits is among those that are added up
waits_among : (c : ℕ) (slots : List Slot) (slot : Slot) → slot_in c slots ≡ Some slot → sizes_given slots + size_wanted slot.conn ≤ table_weight both_of slots
waits_among c [] slot e = absurd (none-some slot e)
waits_among c (x ∷ slots) slot e = go (cases_eq x.number c) (λ f. waits_among c slots slot f)
  where
    go : (x.number ≡ c) ⊎ (x.number ≡ c → ⊥) → (slot_in c slots ≡ Some slot → sizes_given slots + size_wanted slot.conn ≤ table_weight both_of slots)
        → sizes_given (x ∷ slots) + size_wanted slot.conn ≤ table_weight both_of (x ∷ slots)
    go (inl is) again =
        let same : x ≡ slot = same_Some x slot (sym (ap (λ t. if t then Some x else slot_in c slots) (eq-eqb x.number c is)) ∙ e) in
        let k : size_wanted x.conn ≡ size_wanted slot.conn = ap (λ (s : Slot). size_wanted s.conn) same in
        let t : sizes_given slots ≤ table_weight both_of slots = both_within slots in
        omega arith
    go (inr n) again =
        let t : sizes_given slots + size_wanted slot.conn ≤ table_weight both_of slots =
        again (sym (ap (λ t. if t then Some x else slot_in c slots) (ne_eqb x.number c n)) ∙ e) in
        omega arith

summed_less : (h : ℕ → ℕ) (f : LoopConn → ℕ) (conns : ℕ → LoopConn) (n : ℕ) → ((x : ℕ) → x < n → h x ≤ f (conns x)) → summed h n ≤ sum_among f conns n
summed_less h f conns zero each = omega arith
summed_less h f conns (suc n) each =
    let a : h n ≤ f (conns n) = each n (omega arith) in
    let t : summed h n ≤ sum_among f conns n = summed_less h f conns n (λ x l. each x (omega arith)) in
    omega arith

module _ (max : ℕ) (first links : LinksState) (kept : LoopConnections) (loop : Loop) (t : AreTied first links kept loop) (phases : PhasesTell max kept.table loop) (rest : IsAtRest loop) where
  holds_so : (c : ℕ) (place : ConnStage) → c < loop.count → StageTells first links kept.table c (loop.conns c) (slice_index_or kept.causes.items c Stopped) place
      → weight_of both_of (slot_in c kept.table.slots) ≤ held_if_open (loop.conns c).cause (loop.conns c).held
  holds_so c Lean l h =
      let some : both_of (slot_of c kept.table.slots) ≤ size_in (loop.conns c).held =
      lean_holds max (slot_of c kept.table.slots).conn.phase (slot_of c kept.table.slots).size (loop.conns c) h.1 h.2 (phases c l h.0.going).tells in
      let same : held_if_open (loop.conns c).cause (loop.conns c).held ≡ size_in (loop.conns c).held = ap (λ o. held_if_open o (loop.conns c).held) h.0.going in
      let weight : weight_of both_of (slot_in c kept.table.slots) ≡ both_of (slot_of c kept.table.slots) = ap (weight_of both_of) (slot_is c kept.table.slots h.0.there) in
      omega arith
  holds_so c Laden l h =
      let some : both_of (slot_of c kept.table.slots) ≤ size_in (loop.conns c).held =
      laden_holds max (slot_of c kept.table.slots).conn.phase (slot_of c kept.table.slots).size (loop.conns c) h.1 h.2 (rest c l).0 (phases c l h.0.going).tells in
      let same : held_if_open (loop.conns c).cause (loop.conns c).held ≡ size_in (loop.conns c).held = ap (λ o. held_if_open o (loop.conns c).held) h.0.going in
      let weight : weight_of both_of (slot_in c kept.table.slots) ≡ both_of (slot_of c kept.table.slots) = ap (weight_of both_of) (slot_is c kept.table.slots h.0.there) in
      omega arith
  holds_so c Gone l h = let none : weight_of both_of (slot_in c kept.table.slots) ≡ 0 = ap (weight_of both_of) h.gone in omega arith

  -- At rest, where a frame that waits has no room, the sizes under way pass the budget.
  pub rests_over : (c : ℕ) → HasNoRoom kept.table c → kept.table.budget < all_held loop
  rests_over c no_room =
      let sum : summed (λ x. weight_of both_of (slot_in x kept.table.slots)) loop.count ≡ table_weight both_of kept.table.slots =
      counted both_of kept.table.slots (λ x. weight_of both_of (slot_in x kept.table.slots)) loop.count t.orderly.rising (λ x l. (t.unopened x l).0) (λ x l. refl) in
      let more : sizes_given kept.table.slots + size_wanted (slot_of c kept.table.slots).conn ≤ table_weight both_of kept.table.slots =
      waits_among c kept.table.slots (slot_of c kept.table.slots) (slot_is c kept.table.slots no_room.0) in
      let over : kept.table.budget < sizes_given kept.table.slots + size_wanted (slot_of c kept.table.slots).conn = no_room.2 in
      let less : summed (λ x. weight_of both_of (slot_in x kept.table.slots)) loop.count ≤ sum_among (λ k. held_if_open k.cause k.held) loop.conns loop.count =
      summed_less (λ x. weight_of both_of (slot_in x kept.table.slots)) (λ k. held_if_open k.cause k.held) loop.conns loop.count
      (λ x l. holds_so x (slice_index_or kept.stages.items x Gone) l (t.each x l)) in
      omega arith

-- nothing has changed but what was noted, what has arrived, and what was said
pub record IsStill (old new : LinksState) : Type 0 where
  pub listens : new.listens ≡ old.listens
  pub opened : new.opened ≡ old.opened
  pub is_open : (x : ℕ) → new.is_open x ≡ old.is_open x
  pub tape : new.tape ≡ old.tape
  pub left : (x : ℕ) → new.left x ≡ old.left x
  pub faults : (x : ℕ) → new.faults x ≡ old.faults x
  pub lengths : new.lengths ≡ old.lengths
  pub later : old.net_faults ≤ new.net_faults

still_tied : (first l0 l1 : LinksState) (kept : LoopConnections) (loop : Loop) → AreTied first l0 kept loop → IsStill l0 l1 → AreTied first l1 kept loop
still_tied first l0 l1 kept loop t s =
    let since : first.net_faults ≤ l0.net_faults = t.net_faults in
    let later : l0.net_faults ≤ l1.net_faults = s.later in
    record {
      tape = subst (λ o. MayHave o loop.tape) (sym s.tape) t.tape;
      count = t.count;
      stages = t.stages;
      opened = s.opened ∙ t.opened;
      each = λ x l.
          place_moved x first l0 l1 kept.table kept.table refl (s.is_open x) (s.faults x) (s.left x) (loop.conns x) (slice_index_or kept.causes.items x Stopped)
          (slice_index_or kept.stages.items x Gone) (t.each x l);
      unopened = λ x l. ((t.unopened x l).0, s.is_open x ∙ (t.unopened x l).1);
      numbered = t.numbered;
      orderly = t.orderly;
      listens = s.listens ∙ t.listens;
      faults = λ x. subst (λ n. first.faults x ≤ n) (sym (s.faults x)) (t.faults x);
      net_faults = omega arith;
    }

-- Places of rest that were noted, and the same place noted some times more.
module _ (P : RestPlace → Type 0) where
  noted_more : (stages : List RestPlace) (place : RestPlace) (count : ℕ) → AllByRecursion P stages → (count ≢ 0 → P place) → AllByRecursion P (stages ++ replicate count place)
  noted_more [] place zero a p = tt
  noted_more [] place (suc count) a p =
      let own : P place = p (λ e. let f : suc count ≡ 0 = e in let g : ⊥ = omega arith in g) in
      (own, noted_more [] place count tt (λ n. own))
  noted_more (x ∷ stages) place count a p = (a.0, noted_more stages place count a.1 p)

  noted_all : (tape : Option (List Mark)) (ask : Ask) (count : ℕ) (old : Option (List RestPlace)) → IfSome old (AllByRecursion P)
      → ((marks : List Mark) → tape ≡ Some marks → count ≢ 0 → P (place_asked marks ask)) → IfSome (noted_at tape ask count old) (AllByRecursion P)
  noted_all None ask count old a p = a
  noted_all (Some marks) ask count None a p = a
  noted_all (Some marks) ask count (Some stages) a p = noted_more stages (place_asked marks ask) count a (p marks refl)

-- The loop goes on where links were asked: what they noted is a place of rest.
module _ (max : ℕ) (first l0 l1 : LinksState) (kept : LoopConnections) (asks : List ServedAsk) (g : LoopIsRunning max first l0 kept asks) (ask : Ask)
    (idle : ask.idle ≡ true → kept.owing ≡ 0) (no_room : ask.held ≡ true → (c : ℕ) × HasNoRoom kept.table c) where
  abbrev Passed : RestPlace → Type 0
  Passed noted = IsPassedAtRest max kept.table.budget g.so_far.weave g.loop noted

  passed_here : (marks : List Mark) → l0.tape ≡ Some marks → ask.idle ≡ true → Passed (place_asked marks ask)
  passed_here marks is idle_now =
      let rest : IsAtRest g.loop = goes_at_rest max first l0 kept asks g (idle idle_now) in
      record {
        mid = g.loop;
        front = g.so_far.weave;
        back = [];
        split = sym (append-nil g.so_far.weave);
        before = g.so_far.woven;
        behind = refl;
        place = sym (ap length (subst (λ o. MayHave o g.loop.tape) is g.so_far.tied.tape));
        at_rest = rest;
        over_budget = λ h. let k : (c : ℕ) × HasNoRoom kept.table c = no_room h in rests_over max first l0 kept g.loop g.so_far.tied g.phases rest k.0 k.1;
        within = λ h. open_holds_few max kept.table g.loop g.phases;
      }

  idle_if_some : (count : ℕ) → (ask.idle ≡ false → count ≡ 0) → count ≢ 0 → (b : Bool) → ask.idle ≡ b → ask.idle ≡ true
  idle_if_some count none some true e = e
  idle_if_some count none some false e = absurd (some (none e))

  noted_rests : NotesItsPlace ask l0.tape l0.rests l1.rests → IfSome l1.rests (AllByRecursion Passed)
  noted_rests n =
      subst (λ o. IfSome o (AllByRecursion Passed)) (sym n.1)
      (noted_all Passed l0.tape ask n.0 l0.rests g.so_far.rests (λ marks is some. passed_here marks is (idle_if_some n.0 n.2 some ask.idle refl)))

  pub noted_woven : IsStill l0 l1 → NotesItsPlace ask l0.tape l0.rests l1.rests → IsWovenTo max first l1 kept asks g.loop
  noted_woven s n =
      record {
        weave = g.so_far.weave;
        woven = g.so_far.woven;
        asked = g.so_far.asked;
        tied = still_tied first l0 l1 kept g.loop g.so_far.tied s;
        within = g.so_far.within;
        lengths = subst (λ o. IfSome o (λ lengths. WeavesLent max no_loop g.so_far.weave lengths g.loop)) (sym s.lengths) g.so_far.lengths;
        rests = noted_rests n;
      }

  pub noted_goes : IsStill l0 l1 → NotesItsPlace ask l0.tape l0.rests l1.rests → l1.net_faults ≡ l0.net_faults → LoopIsRunning max first l1 kept asks
  noted_goes s n same =
      record {
        loop = g.loop;
        so_far = noted_woven s n;
        phases = g.phases;
        none_left = g.none_left;
        none_stopped = g.none_stopped;
        taken = g.taken;
        owing = g.owing;
        quiet = same ∙ g.quiet;
      }
