-- Connections stay tied to the machine's loop where one of them changes on all sides.
use Rattle.std.proofs.Common.{◌≡◌, ◌≢◌, ℕ, ◌<◌, ◌≤◌, ◌⊎◌, Option, None, Some, IsSome, List, [], ◌++◌, length, slice_index_or, slice_set, unwrap_or, refl, sym, ap, ◌∙◌, subst, inl, inr, append-nil, append_assoc, arith}
use Rattle.std.proofs.lemmas.Bool.{cases_eq}
use Rattle.std.proofs.lemmas.List.{get_or-set_same, get_or-set_other, length-set}
use Rattle.streams.specs.Cause.{Rose}
use Rattle.streams.specs.Content.{IsSpent}
use Rattle.streams.specs.declared.marks.Mark.{Mark}
use Rattle.streams.specs.Told.{told_with}
use Rattle.outside.specs.LinksState.{LinksState}
use Rattle.host_model.specs.declared.cause.EndCause.{EndCause}
use Rattle.host_model.specs.declared.cause.EndCause.TheVariants.{End, Cut, SizeFault, Envelope, ReadFault, WriteFault, NoMemory, Stopped}
use Rattle.conn_table.specs.declared.places.Slot.{Slot}
use Rattle.conn_table.specs.Slots.{slot_in}
use Rattle.conn_table.specs.Table.{TableView, slot_of, fresh_slot, HasItsSize}
use Rattle.machine_model.specs.SeenHall.{MayHave}
use Rattle.machine_model.specs.Loop.{LoopConn, Loop, with_conn, changed}
use Rattle.machine_model.proofs.Lists.{put_same, put_other}
use Rattle.conn_refinement.specs.Phases.{IsOpenTied, IsLean}
use Rattle.conn_refinement.specs.Tables.{IsSameBut}
use Rattle.loop_conns.specs.declared.connections.ConnStage.{ConnStage}
use Rattle.loop_conns.specs.declared.connections.ConnStage.TheVariants.{Lean, Laden, Gone}
use Rattle.loop_conns.specs.declared.connections.LoopConnections.{LoopConnections}
use Rattle.loop_conns.specs.Tied.{IsLaden, CauseShows, IsOpenOnLinks, StageTells, IsOrderly, AreTied, PhasesTell}
use Rattle.loop_conns.specs.Ended.{MovesOnly}

-- the element at one place is this now, and the others are as they were
pub record IsSetAt {X : Type 0} (default : X) (c : ℕ) (x : X) (old new : List X) : Type 0 where
  pub count : length new ≡ length old
  pub own : slice_index_or new c default ≡ x
  pub others : (i : ℕ) → (i ≡ c → ⊥) → slice_index_or new i default ≡ slice_index_or old i default

pub set_at : {X : Type 0} (default : X) (c : ℕ) (x : X) (old new : List X) → c < length old → new ≡ slice_set old c x → IsSetAt default c x old new
set_at default c x old new l is =
    record {
      count = ap length is ∙ length-set old c x;
      own = ap (λ xs. slice_index_or xs c default) is ∙ get_or-set_same old c x default l;
      others = λ i n. ap (λ xs. slice_index_or xs i default) is ∙ get_or-set_other old c i x default n;
    }

pub same_at : {X : Type 0} (default : X) (c : ℕ) (x : X) (old new : List X) → new ≡ old → slice_index_or old c default ≡ x → IsSetAt default c x old new
same_at default c x old new is own =
    record { count = ap length is; own = ap (λ xs. slice_index_or xs c default) is ∙ own; others = λ i n. ap (λ xs. slice_index_or xs i default) is }

-- Connection c has changed on the links and among what is kept: to this place, with this cause were it to end now.
pub record ChangesOne (c : ℕ) (place : ConnStage) (cause : EndCause) (marks : List Mark) (lent : List ℕ) (l0 l1 : LinksState) (k0 k1 : LoopConnections) : Type 0 where
  pub links : MovesOnly c marks lent l0 l1
  pub table : IsSameBut c k0.table k1.table
  pub orderly : IsOrderly k0.table → IsOrderly k1.table
  pub stages : IsSetAt Gone c place k0.stages.items k1.stages.items
  pub causes : IsSetAt Stopped c cause k0.causes.items k1.causes.items

-- nothing on a tape, or on one that isn't told
pub told_none : {X : Type 0} (o : Option (List X)) → told_with o [] ≡ o
told_none None = refl
told_none (Some xs) = ap Some (append-nil xs)

-- twice as once
pub told_twice : {X : Type 0} (o : Option (List X)) (xs ys : List X) → told_with (told_with o xs) ys ≡ told_with o (xs ++ ys)
told_twice None xs ys = refl
told_twice (Some zs) xs ys = ap Some (append_assoc zs xs ys)

-- what is told of a list that has these items more
pub may_have_more : {X : Type 0} (o : Option (List X)) (all more : List X) → MayHave o all → MayHave (told_with o more) (all ++ more)
may_have_more None all more h = tt
may_have_more (Some xs) all more h = ap (λ l. l ++ more) h

-- a count that rose, rose since any time before
pub rose_since : (first before now : ℕ) → first ≤ before → Rose before now → Rose first now
rose_since first before now l rose = omega arith

-- a connection of which nothing has changed
module _ (x : ℕ) (first l0 l1 : LinksState) (t0 t1 : TableView) (slot : slot_in x t1.slots ≡ slot_in x t0.slots) (link : l1.is_open x ≡ l0.is_open x)
    (faults : l1.faults x ≡ l0.faults x) (left : l1.left x ≡ l0.left x) where
  slot_same : slot_of x t1.slots ≡ slot_of x t0.slots
  slot_same = ap (λ o. unwrap_or o (fresh_slot x)) slot

  shows_moved : (cause : EndCause) → CauseShows first l0 x cause → CauseShows first l1 x cause
  shows_moved ReadFault h = subst (Rose (first.faults x)) (sym faults) h
  shows_moved WriteFault h = subst (Rose (first.faults x)) (sym faults) h
  shows_moved End h = subst IsSpent (sym left) h
  shows_moved Cut h = subst IsSpent (sym left) h
  shows_moved (SizeFault size) h = tt
  shows_moved (Envelope fault) h = tt
  shows_moved NoMemory h = tt
  shows_moved Stopped h = tt

  open_moved : (conn : LoopConn) (cause : EndCause) → IsOpenOnLinks l0 t0 x conn cause → IsOpenOnLinks l1 t1 x conn cause
  open_moved conn cause h =
      record { there = subst (λ o. IsSome o) (sym slot) h.there; link = link ∙ h.link; going = h.going; stopped = h.stopped }

  pub place_moved : (conn : LoopConn) (cause : EndCause) (place : ConnStage) → StageTells first l0 t0 x conn cause place → StageTells first l1 t1 x conn cause place
  place_moved conn cause Lean h =
      (open_moved conn cause h.0, subst (λ (k : Slot). IsLean k.conn.phase) (sym slot_same) h.1, ap (λ (k : Slot). k.size) slot_same ∙ h.2)
  place_moved conn cause Laden h =
      (open_moved conn cause h.0, subst (λ (k : Slot). IsLaden k.conn.phase) (sym slot_same) h.1, subst (λ (k : Slot). HasItsSize k.conn.phase k.size) (sym slot_same) h.2)
  place_moved conn cause Gone h =
      record { gone = slot ∙ h.gone; link = link ∙ h.link; ended = h.ended; shows = shows_moved cause h.shows }

-- the same, told of equal parts
told_same : (first links : LinksState) (table : TableView) (x : ℕ) (conn conn_now : LoopConn) (cause cause_now : EndCause) (place place_now : ConnStage) → conn_now ≡ conn → cause_now ≡ cause
    → place_now ≡ place → StageTells first links table x conn cause place → StageTells first links table x conn_now cause_now place_now
told_same first links table x conn conn_now cause cause_now place place_now a b e t =
    subst (λ k. StageTells first links table x k cause_now place_now) (sym a)
    (subst (λ k. StageTells first links table x conn k place_now) (sym b) (subst (λ k. StageTells first links table x conn cause k) (sym e) t))

-- Where connection c changes, all stay tied.
pub changed_tied : (first l0 l1 : LinksState) (k0 k1 : LoopConnections) (loop : Loop) (c : ℕ) (conn : LoopConn) (place : ConnStage) (cause : EndCause) (marks : List Mark) (lent : List ℕ)
    → AreTied first l0 k0 loop → c < loop.count → ChangesOne c place cause marks lent l0 l1 k0 k1 → StageTells first l1 k1.table c conn cause place
    → AreTied first l1 k1 (changed loop c conn marks)
changed_tied first l0 l1 k0 k1 loop c conn place cause marks lent t below change tells =
    record {
      tape = subst (λ o. MayHave o (loop.tape ++ marks)) (sym change.links.tape) (may_have_more l0.tape loop.tape marks t.tape);
      count = t.count ∙ sym change.causes.count;
      stages = t.stages ∙ sym change.stages.count;
      opened = change.links.others.opened ∙ t.opened;
      each = λ x l. each x l (cases_eq x c);
      unopened = λ x l.
          let n : x ≢ c = λ e. let e2 : x ≡ c = e in let f : ⊥ = omega arith in f in
          (change.table.others x (λ e. n (sym e)) ∙ (t.unopened x l).0, change.links.others.is_open x n ∙ (t.unopened x l).1);
      numbered = t.numbered;
      orderly = change.orderly t.orderly;
      listens = change.links.others.listens ∙ t.listens;
      faults = λ x. faults x (cases_eq x c);
      net_faults = subst (λ n. first.net_faults ≤ n) (sym change.links.others.net_faults) t.net_faults;
    }
  where
    each : (x : ℕ) → x < loop.count → (x ≡ c) ⊎ (x ≡ c → ⊥)
        → StageTells first l1 k1.table x (with_conn loop.conns c conn x) (slice_index_or k1.causes.items x Stopped) (slice_index_or k1.stages.items x Gone)
    each x l (inl e) =
        subst (λ x. StageTells first l1 k1.table x (with_conn loop.conns c conn x) (slice_index_or k1.causes.items x Stopped) (slice_index_or k1.stages.items x Gone)) (sym e)
        (told_same first l1 k1.table c conn _ cause _ place _ (put_same loop.conns c conn) change.causes.own change.stages.own tells)
    each x l (inr n) =
        told_same first l1 k1.table x (loop.conns x) _ (slice_index_or k0.causes.items x Stopped) _ (slice_index_or k0.stages.items x Gone) _
        (put_other loop.conns c conn x n) (change.causes.others x n) (change.stages.others x n)
        (place_moved x first l0 l1 k0.table k1.table (change.table.others x (λ e. n (sym e))) (change.links.others.is_open x n) (change.links.others.faults x n) (change.links.others.left x n)
        (loop.conns x) (slice_index_or k0.causes.items x Stopped) (slice_index_or k0.stages.items x Gone) (t.each x l))

    faults : (x : ℕ) → (x ≡ c) ⊎ (x ≡ c → ⊥) → first.faults x ≤ l1.faults x
    faults x (inl e) =
        let a : first.faults c ≤ l0.faults c = t.faults c in
        let b : l0.faults c ≤ l1.faults c = change.links.faults in
        subst (λ x. first.faults x ≤ l1.faults x) (sym e) (omega arith)
    faults x (inr n) = subst (λ m. first.faults x ≤ m) (sym (change.links.others.faults x n)) (t.faults x)

-- and so do the phases
pub changed_phases : (max : ℕ) (t0 t1 : TableView) (loop : Loop) (c : ℕ) (conn : LoopConn) (marks : List Mark) → PhasesTell max t0 loop → IsSameBut c t0 t1
    → (conn.cause ≡ None → IsOpenTied max (slot_of c t1.slots).conn conn) → PhasesTell max t1 (changed loop c conn marks)
changed_phases max t0 t1 loop c conn marks p same own x l = go (cases_eq x c)
  where
    go : (x ≡ c) ⊎ (x ≡ c → ⊥) → (with_conn loop.conns c conn x).cause ≡ None → IsOpenTied max (slot_of x t1.slots).conn (with_conn loop.conns c conn x)
    go (inl e) = subst (λ x. (with_conn loop.conns c conn x).cause ≡ None → IsOpenTied max (slot_of x t1.slots).conn (with_conn loop.conns c conn x)) (sym e)
        (subst (λ (k : LoopConn). k.cause ≡ None → IsOpenTied max (slot_of c t1.slots).conn k) (sym (put_same loop.conns c conn)) own)
    go (inr n) =
        subst (λ (k : LoopConn). k.cause ≡ None → IsOpenTied max (slot_of x t1.slots).conn k) (sym (put_other loop.conns c conn x n))
        (λ going. subst (λ (k : Slot). IsOpenTied max k.conn (loop.conns x)) (sym (ap (λ o. unwrap_or o (fresh_slot x)) (same.others x (λ e. n (sym e))))) (p x l going))

-- what holds of each connection, of one that changes, and of the others
pub changed_each : (P : LoopConn → Type 0) (loop : Loop) (c : ℕ) (conn : LoopConn) → ((x : ℕ) → P (loop.conns x)) → P conn → (x : ℕ) → P (with_conn loop.conns c conn x)
changed_each P loop c conn each own x = go (cases_eq x c)
  where
    go : (x ≡ c) ⊎ (x ≡ c → ⊥) → P (with_conn loop.conns c conn x)
    go (inl e) = subst (λ x. P (with_conn loop.conns c conn x)) (sym e) (subst P (sym (put_same loop.conns c conn)) own)
    go (inr n) = subst P (sym (put_other loop.conns c conn x n)) (each x)

-- what holds of each one below a number
pub changed_below : (P : LoopConn → Type 0) (loop : Loop) (c : ℕ) (conn : LoopConn) (n : ℕ) → ((x : ℕ) → x < n → P (loop.conns x)) → P conn → (x : ℕ) → x < n → P (with_conn loop.conns c conn x)
changed_below P loop c conn n each own x l = go (cases_eq x c)
  where
    go : (x ≡ c) ⊎ (x ≡ c → ⊥) → P (with_conn loop.conns c conn x)
    go (inl e) = subst (λ x. P (with_conn loop.conns c conn x)) (sym e) (subst P (sym (put_same loop.conns c conn)) own)
    go (inr m) = subst P (sym (put_other loop.conns c conn x m)) (each x l)
