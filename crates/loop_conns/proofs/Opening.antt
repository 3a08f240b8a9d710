-- The next connection is opened on all sides, and the loop goes on.
use Rattle.std.proofs.Common.{◌≡◌, ◌≢◌, ℕ, suc, ◌+◌, ◌<◌, ◌≤◌, ◌^◌, ◌⊎◌, true, None, Some, List, [], ◌∷◌, ◌++◌, length, slice_index_or, unwrap_or, refl, sym, ap, ◌∙◌, subst, inl, inr, append-nil, arith}
use Rattle.std.proofs.lemmas.Bool.{cases_eq, cases_lt}
use Rattle.std.proofs.lemmas.Option.{none-some}
use Rattle.std.proofs.lemmas.List.{length_push, get_or_push, get_or_append_left}
use Rattle.streams.specs.declared.marks.Mark.TheVariants.{Opened}
use Rattle.streams.specs.Told.{told_with}
use Rattle.outside.specs.LinksState.{LinksState}
use Rattle.host_model.specs.declared.cause.EndCause.{EndCause}
use Rattle.host_model.specs.declared.cause.EndCause.TheVariants.{Stopped}
use Rattle.conn_state.specs.Phase.{fresh_conn}
use Rattle.conn_table.specs.declared.places.Slot.{Slot}
use Rattle.conn_table.specs.Slots.{most_connections, slot_in, with_added}
use Rattle.conn_table.specs.Table.{TableView, fresh_slot, slot_of}
use Rattle.conn_table.proofs.Sizing.{slot_is, of_found, found_more, other_more}
use Rattle.conn_table.proofs.Placing.{has_value}
use Rattle.machine_model.specs.SeenHall.{MayHave}
use Rattle.machine_model.specs.Loop.{LoopConn, Loop, new_conn, with_conn, count_if_open, open_among, opens}
use Rattle.machine_model.specs.Bounds.{sum_among}
use Rattle.machine_model.specs.AtFronts.{begun_if_open, all_begun}
use Rattle.machine_model.specs.Merge.{handles, Weaves}
use Rattle.machine_model.proofs.Lists.{put_same, put_other}
use Rattle.machine_model.proofs.Summing.{sum_outside}
use Rattle.conn_refinement.specs.Phases.{IsOpenTied, IsLean}
use Rattle.conn_refinement.specs.Weights.{weight_of}
use Rattle.conn_refinement.proofs.Counting.{counted, ones_total, open_summed}
use Rattle.conn_refinement.proofs.Tables.{no_bytes}
use Rattle.loop_conns.specs.declared.connections.ConnStage.{ConnStage}
use Rattle.loop_conns.specs.declared.connections.ConnStage.TheVariants.{Lean, Laden, Gone}
use Rattle.loop_conns.specs.declared.connections.LoopConnections.{LoopConnections}
use Rattle.loop_conns.specs.Tied.{StageTells, AreTied}
use Rattle.loop_conns.specs.Woven.{ServedItem, ServedAsk, owed_by, IsWovenTo, LoopIsRunning}
use Rattle.loop_conns.proofs.Tying.{place_moved, told_none, may_have_more}
use Rattle.loop_conns.proofs.Weaving.{item_woven}
use Rattle.loop_conns.proofs.Ordering.{added_orderly}

-- connection c was opened on the links, as the next one
pub record IsOpenedNext (c : ℕ) (old new : LinksState) : Type 0 where
  pub number : c ≡ old.opened
  pub opened : new.opened ≡ suc c
  pub few : new.opened < 2 ^ 32
  pub is_open : new.is_open c ≡ true
  pub others : (x : ℕ) → x ≢ c → new.is_open x ≡ old.is_open x
  pub tape : new.tape ≡ told_with old.tape (Opened c ∷ [])
  pub listens : new.listens ≡ old.listens
  pub left : (x : ℕ) → new.left x ≡ old.left x
  pub faults : (x : ℕ) → new.faults x ≡ old.faults x
  pub lengths : new.lengths ≡ old.lengths
  pub rests : new.rests ≡ old.rests
  pub kept : new.net_faults ≡ old.net_faults

-- and it was added to what is kept
pub record IsAdded (c : ℕ) (old new : LoopConnections) : Type 0 where
  pub room : length old.table.slots < most_connections
  pub table : new.table ≡ record old.table { slots = with_added (fresh_slot c) old.table.slots }
  pub stages : new.stages.items ≡ old.stages.items ++ Lean ∷ []
  pub causes : new.causes.items ≡ old.causes.items ++ Stopped ∷ []
  pub owing : new.owing ≡ old.owing

fresh_tied : (max : ℕ) → IsOpenTied max fresh_conn new_conn
fresh_tied max = record { going = refl; counted = refl; tells = ((refl, refl), refl, omega arith, refl, no_bytes) }

-- as many connections are open in the machine as the table has
module _ (first links : LinksState) (kept : LoopConnections) (loop : Loop) (t : AreTied first links kept loop) where
  open_so : (c : ℕ) (place : ConnStage) → StageTells first links kept.table c (loop.conns c) (slice_index_or kept.causes.items c Stopped) place
      → count_if_open (loop.conns c).cause ≡ weight_of (λ slot. 1) (slot_in c kept.table.slots)
  open_so c Lean h = ap count_if_open h.0.going ∙ sym (ap (weight_of (λ slot. 1)) (slot_is c kept.table.slots h.0.there))
  open_so c Laden h = ap count_if_open h.0.going ∙ sym (ap (weight_of (λ slot. 1)) (slot_is c kept.table.slots h.0.there))
  open_so c Gone h = ap count_if_open h.ended ∙ sym (ap (weight_of (λ slot. 1)) h.gone)

  open_counted : open_among loop.conns loop.count ≡ length kept.table.slots
  open_counted =
      open_summed loop.conns loop.count
      ∙ counted (λ slot. 1) kept.table.slots (λ c. count_if_open (loop.conns c).cause) loop.count t.orderly.rising (λ x l. (t.unopened x l).0)
      (λ x l. open_so x (slice_index_or kept.stages.items x Gone) (t.each x l))
      ∙ ones_total kept.table.slots

module _ (max : ℕ) (small : max < 2 ^ 31) (first l0 l1 : LinksState) (k0 k1 : LoopConnections) (asks : List ServedAsk) (g : LoopIsRunning max first l0 k0 asks) (c : ℕ)
    (o : IsOpenedNext c l0 l1) (a : IsAdded c k0 k1) where
  tied : AreTied first l0 k0 g.loop
  tied = g.so_far.tied

  -- the loop with one connection more
  abbrev conns : ℕ → LoopConn
  conns = with_conn g.loop.conns g.loop.count new_conn

  abbrev more : Loop
  more = record { tape = g.loop.tape ++ Opened g.loop.count ∷ []; count = suc g.loop.count; conns = conns }

  number : c ≡ g.loop.count
  number = o.number ∙ tied.opened

  absent : slot_in c k0.table.slots ≡ None
  absent = (tied.unopened c (let e : c ≡ g.loop.count = number in omega arith)).0

  found : slot_in c k1.table.slots ≡ Some (fresh_slot c)
  found = ap (λ (v : TableView). slot_in c v.slots) a.table ∙ found_more (fresh_slot c) k0.table.slots absent

  others : (x : ℕ) → (c ≡ x → ⊥) → slot_in x k1.table.slots ≡ slot_in x k0.table.slots
  others x n = ap (λ (v : TableView). slot_in x v.slots) a.table ∙ other_more (fresh_slot c) x k0.table.slots n

  own_conn : conns c ≡ new_conn
  own_conn = ap (λ k. with_conn g.loop.conns k new_conn c) (sym number) ∙ put_same g.loop.conns c new_conn

  other_conn : (x : ℕ) → (x ≡ c → ⊥) → conns x ≡ g.loop.conns x
  other_conn x n = put_other g.loop.conns g.loop.count new_conn x (λ e. n (e ∙ sym number))

  own_slot : slot_of c k1.table.slots ≡ fresh_slot c
  own_slot = of_found c k1.table.slots (fresh_slot c) found

  many_places : length k1.stages.items ≡ length k0.stages.items + 1
  many_places = ap length a.stages ∙ length_push k0.stages.items Lean

  many_causes : length k1.causes.items ≡ length k0.causes.items + 1
  many_causes = ap length a.causes ∙ length_push k0.causes.items Stopped

  abbrev Tells : ℕ → Type 0
  Tells x = StageTells first l1 k1.table x (conns x) (slice_index_or k1.causes.items x Stopped) (slice_index_or k1.stages.items x Gone)

  -- what is told of equal parts
  same_told : (x : ℕ) (conn : LoopConn) (cause : EndCause) (place : ConnStage) → conns x ≡ conn → slice_index_or k1.causes.items x Stopped ≡ cause → slice_index_or k1.stages.items x Gone ≡ place
      → StageTells first l1 k1.table x conn cause place → Tells x
  same_told x conn cause place e f d t =
      subst (λ k. StageTells first l1 k1.table x k (slice_index_or k1.causes.items x Stopped) (slice_index_or k1.stages.items x Gone)) (sym e)
      (subst (λ k. StageTells first l1 k1.table x conn k (slice_index_or k1.stages.items x Gone)) (sym f) (subst (λ k. StageTells first l1 k1.table x conn cause k) (sym d) t))

  own_tells : Tells c
  own_tells =
      same_told c new_conn Stopped Lean own_conn
      (ap (λ xs. slice_index_or xs c Stopped) a.causes ∙ get_or_push k0.causes.items Stopped Stopped c (sym tied.count ∙ sym number))
      (ap (λ xs. slice_index_or xs c Gone) a.stages ∙ get_or_push k0.stages.items Lean Gone c (sym tied.stages ∙ sym number)) (
        record { there = has_value (slot_in c k1.table.slots) (fresh_slot c) found; link = o.is_open; going = refl; stopped = refl },
        subst (λ (s : Slot). IsLean s.conn.phase) (sym own_slot) tt,
        ap (λ (s : Slot). s.size) own_slot,
      )

  other_tells : (x : ℕ) → (x ≡ c → ⊥) → x < g.loop.count → Tells x
  other_tells x n l =
      let stages : g.loop.count ≡ length k0.stages.items = tied.stages in
      let causes : g.loop.count ≡ length k0.causes.items = tied.count in
      same_told x (g.loop.conns x) (slice_index_or k0.causes.items x Stopped) (slice_index_or k0.stages.items x Gone) (other_conn x n)
      (ap (λ xs. slice_index_or xs x Stopped) a.causes ∙ get_or_append_left k0.causes.items (Stopped ∷ []) Stopped x (omega arith))
      (ap (λ xs. slice_index_or xs x Gone) a.stages ∙ get_or_append_left k0.stages.items (Lean ∷ []) Gone x (omega arith))
      (place_moved x first l0 l1 k0.table k1.table (others x (λ e. n (sym e))) (o.others x n) (o.faults x) (o.left x) (g.loop.conns x) (slice_index_or k0.causes.items x Stopped)
      (slice_index_or k0.stages.items x Gone) (tied.each x l))

  -- one of those before
  before : (x : ℕ) → x < suc g.loop.count → (x ≡ c → ⊥) → x < g.loop.count
  before x l n = go (cases_lt x g.loop.count)
    where
      go : (x < g.loop.count) ⊎ (g.loop.count ≤ x) → x < g.loop.count
      go (inl m) = m
      go (inr m) = absurd (n (let e : c ≡ g.loop.count = number in let f : x ≡ c = omega arith in f))

  each_tells : (x : ℕ) → x < suc g.loop.count → (x ≡ c) ⊎ (x ≡ c → ⊥) → Tells x
  each_tells x l (inl e) = subst Tells (sym e) own_tells
  each_tells x l (inr n) = other_tells x n (before x l n)

  opened_tied : AreTied first l1 k1 more
  opened_tied =
      let number_is : c ≡ g.loop.count = number in
      let count : g.loop.count ≡ length k0.causes.items = tied.count in
      let stages : g.loop.count ≡ length k0.stages.items = tied.stages in
      let many_c : length k1.causes.items ≡ length k0.causes.items + 1 = many_causes in
      let many_p : length k1.stages.items ≡ length k0.stages.items + 1 = many_places in
      let opened : l1.opened ≡ suc c = o.opened in
      let few : l1.opened < 2 ^ 32 = o.few in
      let since : first.net_faults ≤ l0.net_faults = tied.net_faults in
      let kept : l1.net_faults ≡ l0.net_faults = o.kept in
      record {
        tape =
            subst (λ t. MayHave t (g.loop.tape ++ Opened g.loop.count ∷ [])) (sym (o.tape ∙ ap (λ n. told_with l0.tape (Opened n ∷ [])) number))
            (may_have_more l0.tape g.loop.tape (Opened g.loop.count ∷ []) tied.tape);
        count = omega arith;
        stages = omega arith;
        opened = o.opened ∙ ap suc number;
        each = λ x l. each_tells x l (cases_eq x c);
        unopened = λ x l.
            let n : x ≢ c = λ e. let e2 : x ≡ c = e in let f : ⊥ = omega arith in f in
            (others x (λ e. n (sym e)) ∙ (tied.unopened x (omega arith)).0, o.others x n ∙ (tied.unopened x (omega arith)).1);
        numbered = omega arith;
        orderly = added_orderly c k0.table k1.table absent a.room a.table tied.orderly;
        listens = o.listens ∙ tied.listens;
        faults = λ x. subst (λ n. first.faults x ≤ n) (sym (o.faults x)) (tied.faults x);
        net_faults = omega arith;
      }

  abbrev opening : ServedItem
  opening = handles opens

  happens : Weaves max g.loop (opening ∷ []) more
  happens =
      let all : open_among g.loop.conns g.loop.count ≡ length k0.table.slots = open_counted first l0 k0 g.loop tied in
      let room : length k0.table.slots < 1024 = a.room in
      (more, (omega arith, refl), refl)

  -- a new connection adds nothing
  sum_more : (f : LoopConn → ℕ) → f new_conn ≡ 0 → sum_among f conns (suc g.loop.count) ≡ sum_among f g.loop.conns g.loop.count
  sum_more f none =
      let own : f (conns g.loop.count) ≡ 0 = ap f (put_same g.loop.conns g.loop.count new_conn) ∙ none in
      let rest : sum_among f conns g.loop.count ≡ sum_among f g.loop.conns g.loop.count = sum_outside f g.loop.conns g.loop.count new_conn g.loop.count (omega arith) in
      omega arith

  less : all_begun more ≤ k0.table.budget
  less = subst (λ n. n ≤ k0.table.budget) (sym (sum_more (λ k. begun_if_open k.cause k.held) refl)) g.so_far.within.now

  woven : IsWovenTo max first l1 k1 asks more
  woven =
      subst (λ all. IsWovenTo max first l1 k1 all more) (append-nil asks)
      (item_woven max small first l0 l1 k0 k1 asks g.loop g.so_far opening more happens opened_tied (ap (λ (v : TableView). v.budget) a.table) less
      (o.lengths ∙ sym (told_none l0.lengths)) o.rests)

  each_phase : (x : ℕ) → x < suc g.loop.count → (conns x).cause ≡ None → (x ≡ c) ⊎ (x ≡ c → ⊥) → IsOpenTied max (slot_of x k1.table.slots).conn (conns x)
  each_phase x l going (inl e) =
      subst (λ x. IsOpenTied max (slot_of x k1.table.slots).conn (conns x)) (sym e)
      (subst (λ (k : LoopConn). IsOpenTied max (slot_of c k1.table.slots).conn k) (sym own_conn)
      (subst (λ (s : Slot). IsOpenTied max s.conn new_conn) (sym own_slot) (fresh_tied max)))
  each_phase x l going (inr n) =
      let same : conns x ≡ g.loop.conns x = other_conn x n in
      subst (λ (k : LoopConn). IsOpenTied max (slot_of x k1.table.slots).conn k) (sym same)
      (subst (λ (s : Slot). IsOpenTied max s.conn (g.loop.conns x)) (sym (ap (λ o. unwrap_or o (fresh_slot x)) (others x (λ e. n (sym e)))))
      (g.phases x (before x l n) (sym (ap (λ (k : LoopConn). k.cause) same) ∙ going)))

  each_left : (x : ℕ) → x < suc g.loop.count → (conns x).cause ≢ None → (x ≡ c) ⊎ (x ≡ c → ⊥) → (conns x).collected ≡ length (conns x).payloads
  each_left x l over (inl e) = absurd (over (ap (λ i. (conns i).cause) e ∙ ap (λ (k : LoopConn). k.cause) own_conn))
  each_left x l over (inr n) =
      let same : conns x ≡ g.loop.conns x = other_conn x n in
      subst (λ (k : LoopConn). k.collected ≡ length k.payloads) (sym same) (g.none_left x (before x l n) (λ e. over (ap (λ (k : LoopConn). k.cause) same ∙ e)))

  each_unstopped : (x : ℕ) → (x ≡ c) ⊎ (x ≡ c → ⊥) → (conns x).cause ≢ Some Stopped
  each_unstopped x (inl e) is = none-some Stopped (sym (ap (λ i. (conns i).cause) e ∙ ap (λ (k : LoopConn). k.cause) own_conn) ∙ is)
  each_unstopped x (inr n) is = g.none_stopped x (sym (ap (λ (k : LoopConn). k.cause) (other_conn x n)) ∙ is)

  pub opened_goes : LoopIsRunning max first l1 k1 asks
  opened_goes =
      record {
        loop = more;
        so_far = woven;
        phases = λ x l going. each_phase x l going (cases_eq x c);
        none_left = λ x l over. each_left x l over (cases_eq x c);
        none_stopped = λ x. each_unstopped x (cases_eq x c);
        taken = g.taken;
        owing = a.owing ∙ g.owing ∙ sym (sum_more (λ k. owed_by k.cause k) refl);
        quiet = o.kept ∙ g.quiet;
      }
