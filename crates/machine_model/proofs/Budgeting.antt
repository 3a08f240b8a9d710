-- At each front of the tape the sizes under way are within the budget.
use Rattle.std.proofs.Common.{◌≡◌, ℕ, ℤ, zero, suc, ◌+◌, ◌<◌, ◌≤◌, ◌^◌, ◌⊎◌, Option, None, Some, List, [], ◌∷◌, ◌++◌, refl, sym, ap, ◌∙◌, subst, inl, inr, arith, append_assoc, append-nil}
use Rattle.std.proofs.lemmas.Bool.{cases_eq}
use Rattle.streams.specs.declared.outcomes.Settled.{Settled}
use Rattle.streams.specs.declared.outcomes.Settled.TheVariants.{Reply, Nothing, Close as Refused, NoMemory}
use Rattle.streams.specs.declared.marks.Mark.{Mark}
use Rattle.streams.specs.declared.marks.Mark.TheVariants.{Opened, Read, Ended, ReadFailed, WriteFailed, Closed}
use Rattle.host_model.specs.declared.cause.EndCause.{EndCause}
use Rattle.host_model.specs.Frames.{Frames}
use Rattle.host_model.specs.Marks.{connection_of, marks_of, input}
use Rattle.host_model.specs.Journal.{ServiceRules}
use Rattle.host_model.specs.DeskRules.{DeskRules}
use Rattle.host_model.proofs.Lists.{Always, always-push, always_nil}
use Rattle.host_model.proofs.Framing.{only_split}
use Rattle.machine_model.specs.HallRule.{HallOperation, submit, take_job, apply, put, collect, close, HallAnswer, done, job, empty, is_closed, applied, no_memory, journal_fault, is_broken, outcome}
use Rattle.machine_model.specs.Loop.{LoopConn, Loop, IsOpen, FrameProgress, part, bad_size, whole, IsProgress, marks_read, with_conn, changed, ConnEvent, opens, reads, ends, fails_read, writes, fails_write, gives_up, Happens, conn_marks_settled, LoopAsks}
use Rattle.machine_model.specs.Machine.{Cell, MachineEvent, on_conn, submits, takes, applies, puts, collects, closes, EventsLead, Steps, IsFirst}
use Rattle.machine_model.specs.Merge.{LoopItem, handles, calls, no_loop, Weaves}
use Rattle.machine_model.specs.Bounds.{sum_among}
use Rattle.machine_model.specs.OpenAtFronts.{opening_of, closing_of, marks_counted}
use Rattle.machine_model.specs.AtFronts.{size_begun, IsSizeBehind, AreSizesBehind, summed, IsWithinBudget, begun_if_open, all_begun, KeepsWithin}
use Rattle.machine_model.proofs.Summing.{sum_changed}
use Rattle.machine_model.proofs.Fronts.{counted-append}
use Rattle.machine_model.proofs.Taping.{size_told, marks_here, marks_elsewhere, input-append, TapeTells, event_told, ask_told, nothing_told, open_on_tape}

-- sums of the first n numbers
summed_more : (sizes : ℕ → ℕ) (m d : ℕ) → summed sizes m ≤ summed sizes (d + m)
summed_more sizes m zero = let e : summed sizes (0 + m) ≡ summed sizes m = ap (summed sizes) (let f : 0 + m ≡ m = omega arith in f) in omega arith
summed_more sizes m (suc d) =
    let h : summed sizes m ≤ summed sizes (d + m) = summed_more sizes m d in
    let e : summed sizes (suc d + m) ≡ summed sizes (suc (d + m)) = ap (summed sizes) (let f : suc d + m ≡ suc (d + m) = omega arith in f) in
    omega arith

-- where those from m on are 0, no sum is above that of the first m
summed_past : (sizes : ℕ → ℕ) (m : ℕ) → ((c : ℕ) → m ≤ c → sizes c ≡ 0) → (d : ℕ) → summed sizes (d + m) ≡ summed sizes m
summed_past sizes m past zero = ap (summed sizes) (let f : 0 + m ≡ m = omega arith in f)
summed_past sizes m past (suc d) =
    let h : summed sizes (d + m) ≡ summed sizes m = summed_past sizes m past d in
    let e : summed sizes (suc d + m) ≡ summed sizes (suc (d + m)) = ap (summed sizes) (let f : suc d + m ≡ suc (d + m) = omega arith in f) in
    let z : sizes (d + m) ≡ 0 = past (d + m) (omega arith) in
    omega arith

summed_within : (sizes : ℕ → ℕ) (f : LoopConn → ℕ) (conns : ℕ → LoopConn) (m : ℕ) → ((c : ℕ) → c < m → sizes c ≤ f (conns c)) → summed sizes m ≤ sum_among f conns m
summed_within sizes f conns zero each = omega arith
summed_within sizes f conns (suc m) each =
    let a : sizes m ≤ f (conns m) = each m (omega arith) in
    let b : summed sizes m ≤ sum_among f conns m = summed_within sizes f conns m (λ c l. each c (omega arith)) in
    omega arith

summed_among : (sizes : ℕ → ℕ) (f : LoopConn → ℕ) (conns : ℕ → LoopConn) (m n : ℕ) → ((c : ℕ) → c < m → sizes c ≤ f (conns c)) → ((c : ℕ) → m ≤ c → sizes c ≡ 0)
    → summed sizes n ≤ sum_among f conns m
summed_among sizes f conns m n each past =
    let top : summed sizes n ≤ summed sizes (m + n) = summed_more sizes n m in
    let swap : summed sizes (m + n) ≡ summed sizes (n + m) = ap (summed sizes) (let e : m + n ≡ n + m = omega arith in e) in
    let low : summed sizes (n + m) ≡ summed sizes m = summed_past sizes m past n in
    let b : summed sizes m ≤ sum_among f conns m = summed_within sizes f conns m each in
    omega arith

abbrev begun_of : LoopConn → ℕ
begun_of conn = begun_if_open conn.cause conn.held

module _ (max : ℕ) (small : max < 2 ^ 31) where
  -- the sizes under way at the loop's tape are those of its connections
  sizes_here : (loop : Loop) → TapeTells max loop → (sizes : ℕ → ℕ) → AreSizesBehind max size_begun loop.tape sizes
      → ((c : ℕ) → c < loop.count → sizes c ≤ begun_if_open (loop.conns c).cause (loop.conns c).held) × ((c : ℕ) → loop.count ≤ c → sizes c ≡ 0)
  sizes_here loop t sizes are = (λ c l. below c l (are c), λ c l. past c l (are c))
    where
      below : (c : ℕ) → c < loop.count → (sizes c ≡ 0) ⊎ IsSizeBehind max size_begun loop.tape c (sizes c) → sizes c ≤ begun_if_open (loop.conns c).cause (loop.conns c).held
      below c l (inl z) = omega arith
      below c l (inr s) =
          let o : IsOpen loop c = open_on_tape max loop c t s.is_open in
          let r : s.rest ≡ (loop.conns c).held =
          (only_split max (input (marks_of c loop.tape)) s.rest (loop.conns c).held s.payloads (loop.conns c).payloads small s.frames (t.frames c l)).1 in
          let e : sizes c ≡ size_begun (loop.conns c).held = s.same ∙ ap size_begun r in
          let f : begun_if_open (loop.conns c).cause (loop.conns c).held ≡ size_begun (loop.conns c).held = ap (λ k. begun_if_open k (loop.conns c).held) o.1 in
          omega arith

      past : (c : ℕ) → loop.count ≤ c → (sizes c ≡ 0) ⊎ IsSizeBehind max size_begun loop.tape c (sizes c) → sizes c ≡ 0
      past c l (inl z) = z
      past c l (inr s) = let o : IsOpen loop c = open_on_tape max loop c t s.is_open in let m : c < loop.count = o.0 in absurd (let f : ⊥ = omega arith in f)

  within_here : (budget : ℕ) (loop : Loop) → TapeTells max loop → all_begun loop ≤ budget → IsWithinBudget max budget loop.tape
  within_here budget loop t l sizes n are =
      let s : ((c : ℕ) → c < loop.count → sizes c ≤ begun_if_open (loop.conns c).cause (loop.conns c).held) × ((c : ℕ) → loop.count ≤ c → sizes c ≡ 0) = sizes_here loop t sizes are in
      let u : summed sizes n ≤ all_begun loop = summed_among sizes (λ conn. begun_if_open conn.cause conn.held) loop.conns loop.count n s.0 s.1 in
      omega arith

  -- after one more mark that opens and closes nothing and tells of no bytes, sizes are as before
  same_sizes : (tape : List Mark) (mark : Mark) (sizes : ℕ → ℕ) → opening_of mark ≡ 0 → closing_of mark ≡ 0 → input (mark ∷ []) ≡ []
      → AreSizesBehind max size_begun (tape ++ mark ∷ []) sizes → AreSizesBehind max size_begun tape sizes
  same_sizes tape mark sizes none not_closed quiet are c = go (are c)
    where
      counted : (f : Mark → ℕ) → f mark ≡ 0 → (ms : List Mark) → marks_counted f (ms ++ mark ∷ []) ≡ marks_counted f ms
      counted f z ms = let k : marks_counted f (ms ++ mark ∷ []) ≡ marks_counted f ms + marks_counted f (mark ∷ []) = counted-append f ms (mark ∷ []) in omega arith

      -- its own marks are the same, but for this one
      own : (f : Mark → ℕ) → f mark ≡ 0 → marks_counted f (marks_of c (tape ++ mark ∷ [])) ≡ marks_counted f (marks_of c tape)
      own f z =
          elim (cases_eq c (connection_of mark)) [
            | inl e ↦
                ap (marks_counted f) (marks_here c tape (mark ∷ []) (sym e, tt)) ∙ counted f z (marks_of c tape)
            | inr n ↦ ap (marks_counted f) (marks_elsewhere (connection_of mark) c tape (mark ∷ []) n (refl, tt))
          ]

      bytes : input (marks_of c (tape ++ mark ∷ [])) ≡ input (marks_of c tape)
      bytes =
          elim (cases_eq c (connection_of mark)) [
            | inl e ↦
                ap input (marks_here c tape (mark ∷ []) (sym e, tt)) ∙ input-append (marks_of c tape) (mark ∷ [])
                ∙ ap (λ r. input (marks_of c tape) ++ r) quiet ∙ append-nil (input (marks_of c tape))
            | inr n ↦ ap input (marks_elsewhere (connection_of mark) c tape (mark ∷ []) n (refl, tt))
          ]

      go : (sizes c ≡ 0) ⊎ IsSizeBehind max size_begun (tape ++ mark ∷ []) c (sizes c) → (sizes c ≡ 0) ⊎ IsSizeBehind max size_begun tape c (sizes c)
      go (inl z) = inl z
      go (inr s) =
          let o : marks_counted closing_of (marks_of c (tape ++ mark ∷ [])) < marks_counted opening_of (marks_of c (tape ++ mark ∷ [])) = s.is_open in
          let a : marks_counted opening_of (marks_of c (tape ++ mark ∷ [])) ≡ marks_counted opening_of (marks_of c tape) = own opening_of none in
          let b : marks_counted closing_of (marks_of c (tape ++ mark ∷ [])) ≡ marks_counted closing_of (marks_of c tape) = own closing_of not_closed in
          inr (record { is_open = omega arith; payloads = s.payloads; rest = s.rest; frames = subst (λ r. Frames max r s.payloads s.rest) bytes s.frames; same = s.same })

  module _ (budget : ℕ) where
    -- the loop tells its tape, and has kept within the budget
    record Within (loop : Loop) : Type 0 where
      tells : TapeTells max loop
      now : all_begun loop ≤ budget
      fronts : Always (IsWithinBudget max budget) loop.tape

    -- after one mark
    one_mark : (old new : Loop) (mark : Mark) → Within old → TapeTells max new → new.tape ≡ old.tape ++ mark ∷ [] → all_begun new ≤ budget → Within new
    one_mark old new mark w t is l =
        record {
          tells = t;
          now = l;
          fronts = subst (Always (IsWithinBudget max budget)) (sym is)
              (always-push (IsWithinBudget max budget) old.tape mark w.fronts (subst (IsWithinBudget max budget) is (within_here budget new t l)));
        }

    -- none
    no_mark : (old new : Loop) → Within old → TapeTells max new → new.tape ≡ old.tape → all_begun new ≤ budget → Within new
    no_mark old new w t is l = record { tells = t; now = l; fronts = subst (Always (IsWithinBudget max budget)) (sym is) w.fronts }

    -- two, of which the first tells nothing that is asked
    two_marks : (old new : Loop) (one other : Mark) → Within old → TapeTells max new → new.tape ≡ old.tape ++ one ∷ other ∷ [] → IsWithinBudget max budget (old.tape ++ one ∷ [])
        → all_begun new ≤ budget → Within new
    two_marks old new one other w t is between l =
        let split : (old.tape ++ one ∷ []) ++ other ∷ [] ≡ old.tape ++ one ∷ other ∷ [] = append_assoc old.tape (one ∷ []) (other ∷ []) in
        record {
          tells = t;
          now = l;
          fronts = subst (Always (IsWithinBudget max budget)) (split ∙ sym is)
              (always-push (IsWithinBudget max budget) (old.tape ++ one ∷ []) other (always-push (IsWithinBudget max budget) old.tape one w.fronts between)
              (subst (IsWithinBudget max budget) (is ∙ sym split) (within_here budget new t l)));
        }

    quiet_between : (old : Loop) (mark : Mark) → Within old → opening_of mark ≡ 0 → closing_of mark ≡ 0 → input (mark ∷ []) ≡ [] → IsWithinBudget max budget (old.tape ++ mark ∷ [])
    quiet_between old mark w none not_closed quiet sizes n are =
        w.fronts old.tape [] (sym (append-nil old.tape)) sizes n (same_sizes old.tape mark sizes none not_closed quiet are)

    -- between the read of a size that no frame has and the end, only the whole size is held
    bad_between : (old : Loop) (c : ℕ) (bytes : List ℕ) (size : ℤ) → Within old → IsOpen old c → IsProgress max ((old.conns c).held ++ bytes) (bad_size size)
        → IsWithinBudget max budget (old.tape ++ Read c bytes ∷ [])
    bad_between old c bytes size w o p =
        let conn : LoopConn = record (old.conns c) { held = (old.conns c).held ++ bytes } in
        let mid : Loop = changed old c conn (Read c bytes ∷ []) in
        let s : sum_among begun_of (with_conn old.conns c conn) old.count + begun_of (old.conns c) ≡ sum_among begun_of old.conns old.count + begun_of conn =
        sum_changed begun_of old.conns c conn old.count o.0 in
        let z : begun_of conn ≡ 0 = ap (λ k. begun_if_open k ((old.conns c).held ++ bytes)) o.1 ∙ ap size_begun p.1 in
        let n : all_begun old ≤ budget = w.now in
        within_here budget mid (size_told max old c bytes size o p w.tells) (omega arith)

    read_within : (old : Loop) (c : ℕ) (bytes : List ℕ) (progress : FrameProgress) (new : Loop) → Within old → TapeTells max new → IsOpen old c
        → IsProgress max ((old.conns c).held ++ bytes) progress → new.tape ≡ old.tape ++ marks_read c bytes progress → all_begun new ≤ budget → Within new
    read_within old c bytes part new w t o p is l = one_mark old new (Read c bytes) w t is l
    read_within old c bytes (bad_size size) new w t o p is l = two_marks old new (Read c bytes) (Closed c) w t is (bad_between old c bytes size w o p) l
    read_within old c bytes (whole payload) new w t o p is l = one_mark old new (Read c bytes) w t is l

    event_within : (old : Loop) (conn_event : ConnEvent) (new : Loop) → Within old → Happens max old conn_event new → all_begun new ≤ budget → Within new
    event_within old opens new w h l = one_mark old new (Opened old.count) w (event_told max old opens new w.tells h) (ap (λ (k : Loop). k.tape) h.1) l
    event_within old (reads c bytes) new w h l =
        read_within old c bytes h.0 new w (event_told max old (reads c bytes) new w.tells h) h.1 h.5 (ap (λ (k : Loop). k.tape) h.6) l
    event_within old (ends c) new w h l =
        two_marks old new (Ended c) (Closed c) w (event_told max old (ends c) new w.tells h) (ap (λ (k : Loop). k.tape) h.2) (quiet_between old (Ended c) w refl refl refl) l
    event_within old (fails_read c) new w h l =
        two_marks old new (ReadFailed c) (Closed c) w (event_told max old (fails_read c) new w.tells h) (ap (λ (k : Loop). k.tape) h.2) (quiet_between old (ReadFailed c) w refl refl refl) l
    event_within old (writes c count) new w h l = one_mark old new _ w (event_told max old (writes c count) new w.tells h) (ap (λ (k : Loop). k.tape) h.3) l
    event_within old (fails_write c) new w h l =
        two_marks old new (WriteFailed c) (Closed c) w (event_told max old (fails_write c) new w.tells h) (ap (λ (k : Loop). k.tape) h.2) (quiet_between old (WriteFailed c) w refl refl refl) l
    event_within old (gives_up c cause) new w h l = one_mark old new (Closed c) w (event_told max old (gives_up c cause) new w.tells h) (ap (λ (k : Loop). k.tape) h.2) l

    settled_within : (old new : Loop) (c : ℕ) (settled : Settled) (cause : Option EndCause) → Within old → TapeTells max new → new.tape ≡ old.tape ++ conn_marks_settled cause c settled
        → all_begun new ≤ budget → Within new
    settled_within old new c (Reply reply) None w t is l = no_mark old new w t (is ∙ append-nil old.tape) l
    settled_within old new c Nothing None w t is l = no_mark old new w t (is ∙ append-nil old.tape) l
    settled_within old new c (Refused fault) None w t is l = one_mark old new (Closed c) w t is l
    settled_within old new c NoMemory None w t is l = one_mark old new (Closed c) w t is l
    settled_within old new c settled (Some cause) w t is l = no_mark old new w t (is ∙ append-nil old.tape) l

    nothing_within : (loop : Loop) → loop.tape ≡ [] → loop.count ≡ 0 → Within loop
    nothing_within loop tape count =
        let t : TapeTells max loop = nothing_told max loop tape count in
        let l : all_begun loop ≡ 0 = ap (sum_among begun_of loop.conns) count in
        let m : all_begun loop ≤ budget = omega arith in
        record {
          tells = t;
          now = m;
          fronts = subst (Always (IsWithinBudget max budget)) (sym tape)
              (always_nil (IsWithinBudget max budget) (subst (IsWithinBudget max budget) tape (within_here budget loop t m)));
        }

    keeps_of : (loop : Loop) → Within loop → KeepsWithin max budget loop
    keeps_of loop w = record { now = w.now; fronts = w.fronts }

    pub nothing_keeps : KeepsWithin max budget no_loop
    nothing_keeps = keeps_of no_loop (nothing_within no_loop refl refl)

    module _ {C A : Type 0} where
      ask_within : (old : Loop) (op : HallOperation C) (answer : HallAnswer A) (new : Loop) → Within old → LoopAsks old op answer new → all_begun new ≤ budget → Within new
      ask_within old (submit key payload) done new w h l =
          no_mark old new w (ask_told {C = C} {A = A} max old (submit key payload) done new w.tells h) (ap (λ (k : Loop). k.tape) h.3 ∙ append-nil old.tape) l
      ask_within old (submit key payload) (job k p) new w h l = subst Within (sym h.3) w
      ask_within old (submit key payload) empty new w h l = subst Within (sym h.3) w
      ask_within old (submit key payload) is_closed new w h l = subst Within (sym h.3) w
      ask_within old (submit key payload) (applied reply) new w h l = subst Within (sym h.3) w
      ask_within old (submit key payload) no_memory new w h l = subst Within (sym h.3) w
      ask_within old (submit key payload) journal_fault new w h l = subst Within (sym h.3) w
      ask_within old (submit key payload) is_broken new w h l = subst Within (sym h.3) w
      ask_within old (submit key payload) (outcome k z) new w h l = subst Within (sym h.3) w
      ask_within old collect (outcome key settled) new w h l =
          settled_within old new key.c settled (old.conns key.c).cause w (ask_told {C = C} {A = A} max old collect (outcome key settled) new w.tells h) (ap (λ (k : Loop). k.tape) h) l
      ask_within old collect done new w h l = subst Within (sym h) w
      ask_within old collect (job k p) new w h l = subst Within (sym h) w
      ask_within old collect empty new w h l = subst Within (sym h) w
      ask_within old collect is_closed new w h l = subst Within (sym h) w
      ask_within old collect (applied reply) new w h l = subst Within (sym h) w
      ask_within old collect no_memory new w h l = subst Within (sym h) w
      ask_within old collect journal_fault new w h l = subst Within (sym h) w
      ask_within old collect is_broken new w h l = subst Within (sym h) w
      ask_within old close answer new w h l = subst Within (sym h) w
      ask_within old take_job answer new w h l = absurd h
      ask_within old (apply key call) answer new w h l = absurd h
      ask_within old (put key settled) answer new w h l = absurd h

      weave_tells : (items : List (LoopItem C A)) (old new : Loop) → TapeTells max old → Weaves max old items new → TapeTells max new
      weave_tells [] old new t h = subst (TapeTells max) (sym h) t
      weave_tells (handles conn_event ∷ items) old new t h = weave_tells items h.0 new (event_told max old conn_event h.0 t h.1) h.2
      weave_tells (calls e ∷ items) old new t h = weave_tells items h.0 new (ask_told max old e.op e.reply h.0 t h.1) h.2

      item_within : (old : Loop) (item : LoopItem C A) (new : Loop) → Within old → Weaves max old (item ∷ []) new → all_begun new ≤ budget → Within new
      item_within old (handles conn_event) new w h l = event_within old conn_event new w (subst (Happens max old conn_event) (sym h.2) h.1) l
      item_within old (calls e) new w h l = ask_within old e.op e.reply new w (subst (LoopAsks old e.op e.reply) (sym h.2) h.1) l

      -- one more item of a weave keeps within the budget
      pub weave_within : (items : List (LoopItem C A)) (old : Loop) (item : LoopItem C A) (new : Loop) → Weaves max no_loop items old → KeepsWithin max budget old
          → Weaves max old (item ∷ []) new → all_begun new ≤ budget → KeepsWithin max budget new
      weave_within items old item new woven k h l =
          keeps_of new
          (item_within old item new (record { tells = weave_tells items no_loop old (nothing_told max no_loop refl refl) woven; now = k.now; fronts = k.fronts }) h l)

module _ {C A M : Type 0} (d : DeskRules C A) (r : ServiceRules C A M) where
  pub step_told : (old : Cell C A M) (event : MachineEvent) (new : Cell C A M) → TapeTells d.max old.loop → Steps d r old event new → TapeTells d.max new.loop
  step_told old (on_conn conn_event) new t h = subst (λ (x : Cell C A M). TapeTells d.max x.loop) (sym h.2) (event_told d.max old.loop conn_event h.0 t h.1)
  step_told old (submits c) new t h = subst (λ (x : Cell C A M). TapeTells d.max x.loop) (sym h.2.5) (ask_told {C = C} d.max old.loop (submit _ h.1) h.2.0 h.2.1 t h.2.3)
  step_told old (takes w) new t h = subst (λ (x : Cell C A M). TapeTells d.max x.loop) (sym h.5) t
  step_told old (applies w) new t h = subst (λ (x : Cell C A M). TapeTells d.max x.loop) (sym h.2.5) t
  step_told old (puts w) new t h = subst (λ (x : Cell C A M). TapeTells d.max x.loop) (sym h.2.5) t
  step_told old collects new t h = subst (λ (x : Cell C A M). TapeTells d.max x.loop) (sym h.5) (ask_told {C = C} d.max old.loop collect h.0 h.1 t h.3)
  step_told old closes new t h = subst (λ (x : Cell C A M). TapeTells d.max x.loop) (sym h.5) (ask_told {C = C} d.max old.loop close h.0 h.1 t h.3)

  run_told : (events : List MachineEvent) (old new : Cell C A M) → TapeTells d.max old.loop → EventsLead d r old events new → TapeTells d.max new.loop
  run_told [] old new t h = subst (λ (x : Cell C A M). TapeTells d.max x.loop) (sym h) t
  run_told (event ∷ events) old new t h = run_told events h.0 new (step_told old event h.0 t h.1) h.2

  -- the tape of a run tells
  pub run_tells : (memories : List M) (first cell : Cell C A M) (events : List MachineEvent) → IsFirst memories first → EventsLead d r first events cell → TapeTells d.max cell.loop
  run_tells memories first cell events f runs = run_told events first cell (nothing_told d.max first.loop f.tape f.count) runs

  module _ (small : d.max < 2 ^ 31) (budget : ℕ) where
    step_within : (old : Cell C A M) (event : MachineEvent) (new : Cell C A M) → Within d.max small budget old.loop → Steps d r old event new → all_begun new.loop ≤ budget
        → Within d.max small budget new.loop
    step_within old (on_conn conn_event) new w h l =
        subst (λ (x : Cell C A M). Within d.max small budget x.loop) (sym h.2)
        (event_within d.max small budget old.loop conn_event h.0 w h.1 (subst (λ (x : Cell C A M). all_begun x.loop ≤ budget) h.2 l))
    step_within old (submits c) new w h l =
        subst (λ (x : Cell C A M). Within d.max small budget x.loop) (sym h.2.5)
        (ask_within d.max small budget {C = C} old.loop (submit _ h.1) h.2.0 h.2.1 w h.2.3 (subst (λ (x : Cell C A M). all_begun x.loop ≤ budget) h.2.5 l))
    step_within old (takes k) new w h l = subst (λ (x : Cell C A M). Within d.max small budget x.loop) (sym h.5) w
    step_within old (applies k) new w h l = subst (λ (x : Cell C A M). Within d.max small budget x.loop) (sym h.2.5) w
    step_within old (puts k) new w h l = subst (λ (x : Cell C A M). Within d.max small budget x.loop) (sym h.2.5) w
    step_within old collects new w h l =
        subst (λ (x : Cell C A M). Within d.max small budget x.loop) (sym h.5)
        (ask_within d.max small budget {C = C} old.loop collect h.0 h.1 w h.3 (subst (λ (x : Cell C A M). all_begun x.loop ≤ budget) h.5 l))
    step_within old closes new w h l =
        subst (λ (x : Cell C A M). Within d.max small budget x.loop) (sym h.5)
        (ask_within d.max small budget {C = C} old.loop close h.0 h.1 w h.3 (subst (λ (x : Cell C A M). all_begun x.loop ≤ budget) h.5 l))

    -- one more step of a run keeps within the budget
    pub run_within : (memories : List M) (first old new : Cell C A M) (events : List MachineEvent) (event : MachineEvent) → IsFirst memories first → EventsLead d r first events old
        → KeepsWithin d.max budget old.loop → Steps d r old event new → all_begun new.loop ≤ budget → KeepsWithin d.max budget new.loop
    run_within memories first old new events event f runs k h l =
        keeps_of d.max small budget new.loop
        (step_within old event new (record { tells = run_tells memories first old events f runs; now = k.now; fronts = k.fronts }) h l)

-- nothing was read at the start
pub first_within : {C A M : Type 0} (max : ℕ) (small : max < 2 ^ 31) (budget : ℕ) (memories : List M) (first : Cell C A M) → IsFirst memories first → KeepsWithin max budget first.loop
first_within max small budget memories first f = keeps_of max small budget first.loop (nothing_within max small budget first.loop f.tape f.count)
