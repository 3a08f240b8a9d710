-- What is admitted stays within the budget where a connection changes, and so does what is under way.
use Rattle.std.proofs.Common.{◌≡◌, ℕ, zero, suc, ◌+◌, ◌<◌, ◌≤◌, ◌⊎◌, Bool, true, false, nat_lt, if◌then◌else◌, Option, None, Some, List, [], ◌∷◌, ◌++◌, length, take, refl, sym, ap, ◌∙◌, subst, inl, inr, arith, length-append}
use Rattle.std.specs.Int.{w32, from_be_bytes}
use Rattle.std.proofs.lemmas.Bool.{cases_eq, cases_lt, ltb-true}
use Rattle.std.proofs.lemmas.Option.{none-some, same_Some}
use Rattle.streams.specs.declared.outcomes.Settled.{Settled}
use Rattle.streams.specs.declared.outcomes.Settled.TheVariants.{Reply, Nothing, Close as Refused, NoMemory as Lack}
use Rattle.streams.specs.declared.marks.Mark.{Mark}
use Rattle.host_model.specs.declared.cause.EndCause.{EndCause}
use Rattle.machine_model.specs.Loop.{LoopConn, new_conn, Loop, OwesNothing, StaysInSize, FrameProgress, part, bad_size, whole, read_more, marks_read, with_conn, changed, with_cause, conn_settled}
use Rattle.machine_model.specs.Bounds.{sum_among}
use Rattle.machine_model.specs.AtFronts.{size_in, summed, begun_if_open, all_begun}
use Rattle.machine_model.proofs.Lists.{put_same, put_other}
use Rattle.script_model.specs.Playing.{at_number, size_or_zero, kept_while_open}
use Rattle.script_model.proofs.Holding.{size_long, size_more}
use Rattle.cell_loop.specs.Admitted.{IsSizeUnderWay, AdmitsItsSize, AdmitsWithin}

-- ---- sums of admitted sizes

-- a sum of which one part grows by so much, and no other one grows
summed_by : (f g : ℕ → ℕ) (c more n : ℕ) → ((x : ℕ) → (x ≡ c → ⊥) → g x ≤ f x) → g c ≤ f c + more → summed g n ≤ summed f n + more
summed_by f g c more zero others own = omega arith
summed_by f g c more (suc n) others own = go (cases_eq n c) (summed_by f g c more n others own)
  where
    -- up to the one that grows, none has
    before : (k : ℕ) → k ≤ c → summed g k ≤ summed f k
    before zero l = omega arith
    before (suc k) l =
        let a : g k ≤ f k = others k (λ e. let h : ⊥ = omega arith in h) in
        let b : summed g k ≤ summed f k = before k (omega arith) in
        omega arith

    go : (n ≡ c) ⊎ (n ≡ c → ⊥) → summed g n ≤ summed f n + more → g n + summed g n ≤ f n + summed f n + more
    go (inl e) rest =
        let a : g n ≤ f n + more = subst (λ x. g x ≤ f x + more) (sym e) own in
        let b : summed g n ≤ summed f n = before n (omega arith) in
        omega arith
    go (inr other) rest =
        let a : g n ≤ f n = others n other in
        let b : summed g n ≤ summed f n + more = rest in
        omega arith

-- what is under way on a connection is no more than what is admitted of it
begun_admitted : (count c : ℕ) (conn : LoopConn) (admitted : Option ℕ) → c < count → AdmitsItsSize count c conn admitted → begun_if_open conn.cause conn.held ≤ size_or_zero admitted
begun_admitted count c conn admitted l a = go conn.cause refl
  where
    sized : (b : Bool) → nat_lt 4 (length conn.held) ≡ b → conn.cause ≡ None → (if b then from_be_bytes w32 (take 4 conn.held) else 0) ≤ size_or_zero admitted
    sized true e is_open =
        let long : 4 < length conn.held = ltb-true 4 (length conn.held) e in
        let is : admitted ≡ Some (size_in conn.held) = a.begun l is_open long in
        let size : size_or_zero admitted ≡ size_in conn.held = ap size_or_zero is in
        let same : size_in conn.held ≡ from_be_bytes w32 (take 4 conn.held) = size_long conn.held (omega arith) in
        omega arith
    sized false e is_open = omega arith

    go : (cause : Option EndCause) → conn.cause ≡ cause → begun_if_open cause conn.held ≤ size_or_zero admitted
    go None e = sized (nat_lt 4 (length conn.held)) refl e
    go (Some cause) e = omega arith

-- so all that is under way is within the budget
pub begun_within : (budget : ℕ) (loop : Loop) (admitted : ℕ → Option ℕ) → AdmitsWithin budget loop admitted → all_begun loop ≤ budget
begun_within budget loop admitted a =
    let less : all_begun loop ≤ summed (λ c. size_or_zero (admitted c)) loop.count = go loop.count (λ c l. begun_admitted loop.count c (loop.conns c) (admitted c) l (a.each c)) in
    let within : summed (λ c. size_or_zero (admitted c)) loop.count ≤ budget = a.within in
    omega arith
  where
    go : (n : ℕ) → ((c : ℕ) → c < n → begun_if_open (loop.conns c).cause (loop.conns c).held ≤ size_or_zero (admitted c))
        → sum_among (λ conn. begun_if_open conn.cause conn.held) loop.conns n ≤ summed (λ c. size_or_zero (admitted c)) n
    go zero each = omega arith
    go (suc n) each =
        let h : begun_if_open (loop.conns n).cause (loop.conns n).held ≤ size_or_zero (admitted n) = each n (omega arith) in
        let t : sum_among (λ conn. begun_if_open conn.cause conn.held) loop.conns n ≤ summed (λ c. size_or_zero (admitted c)) n = go n (λ c l. each c (omega arith)) in
        omega arith

-- ---- what is admitted, where one connection changes

-- what is admitted after an event of connection c, whose size is kept while it is open
abbrev pub left_admitted : (ℕ → Option ℕ) → Loop → ℕ → ℕ → Option ℕ
left_admitted admitted new c = at_number admitted c (kept_while_open (new.conns c).cause (admitted c))

no_more : (cause : Option EndCause) (size : Option ℕ) → size_or_zero (kept_while_open cause size) ≤ size_or_zero size
no_more None size = omega arith
no_more (Some cause) size = omega arith

-- a connection that has ended, of which nothing is admitted
over_admits : (count c : ℕ) (conn : LoopConn) (cause : EndCause) → AdmitsItsSize count c (with_cause conn cause) None
over_admits count c conn cause = record { own = λ size e. absurd (none-some size e); begun = λ l is_open long. absurd (none-some cause (sym is_open)) }

module _ (budget : ℕ) (loop : Loop) (admitted : ℕ → Option ℕ) (a : AdmitsWithin budget loop admitted) where
  -- a connection changes, and what is admitted of it is no more
  pub changed_admits : (c : ℕ) (conn : LoopConn) (marks : List Mark) (size : Option ℕ) → size_or_zero size ≤ size_or_zero (admitted c) → AdmitsItsSize loop.count c conn size
      → AdmitsWithin budget (changed loop c conn marks) (at_number admitted c size)
  changed_admits c conn marks size less own =
      let sum : summed (λ x. size_or_zero (at_number admitted c size x)) loop.count ≤ summed (λ x. size_or_zero (admitted x)) loop.count + 0 =
      summed_by (λ x. size_or_zero (admitted x)) (λ x. size_or_zero (at_number admitted c size x)) c 0 loop.count
      (λ x n. let e : size_or_zero (at_number admitted c size x) ≡ size_or_zero (admitted x) = ap size_or_zero (put_other admitted c size x n) in omega arith)
      (let e : size_or_zero (at_number admitted c size c) ≡ size_or_zero size = ap size_or_zero (put_same admitted c size) in omega arith) in
      let within : summed (λ x. size_or_zero (admitted x)) loop.count ≤ budget = a.within in
      record { within = omega arith; each = λ x. go x (cases_eq x c) }
    where
      go : (x : ℕ) → (x ≡ c) ⊎ (x ≡ c → ⊥) → AdmitsItsSize loop.count x (with_conn loop.conns c conn x) (at_number admitted c size x)
      go x (inl e) =
          subst (λ y. AdmitsItsSize loop.count y (with_conn loop.conns c conn y) (at_number admitted c size y)) (sym e)
          (subst (λ (p : LoopConn × Option ℕ). AdmitsItsSize loop.count c p.0 p.1) (λ i. (sym (put_same loop.conns c conn) i, sym (put_same admitted c size) i)) own)
      go x (inr n) =
          subst (λ (p : LoopConn × Option ℕ). AdmitsItsSize loop.count x p.0 p.1) (λ i. (sym (put_other loop.conns c conn x n) i, sym (put_other admitted c size x n) i)) (a.each x)

  -- the same, where what is admitted stays
  pub stays_admits : (c : ℕ) (conn : LoopConn) (marks : List Mark) → AdmitsItsSize loop.count c conn (admitted c) → AdmitsWithin budget (changed loop c conn marks) admitted
  stays_admits c conn marks own = record { within = a.within; each = λ x. go x (cases_eq x c) }
    where
      go : (x : ℕ) → (x ≡ c) ⊎ (x ≡ c → ⊥) → AdmitsItsSize loop.count x (with_conn loop.conns c conn x) (admitted x)
      go x (inl e) =
          subst (λ y. AdmitsItsSize loop.count y (with_conn loop.conns c conn y) (admitted y)) (sym e)
          (subst (λ (k : LoopConn). AdmitsItsSize loop.count c k (admitted c)) (sym (put_same loop.conns c conn)) own)
      go x (inr n) = subst (λ (k : LoopConn). AdmitsItsSize loop.count x k (admitted x)) (sym (put_other loop.conns c conn x n)) (a.each x)

  -- a connection is opened
  pub opened_admits : (tape : List Mark) → AdmitsWithin budget (record { tape = tape; count = suc loop.count; conns = with_conn loop.conns loop.count new_conn }) admitted
  opened_admits tape =
      let none : admitted loop.count ≡ None = unopened (admitted loop.count) refl in
      let zero_more : size_or_zero (admitted loop.count) ≡ 0 = ap size_or_zero none in
      let within : summed (λ x. size_or_zero (admitted x)) loop.count ≤ budget = a.within in
      record { within = omega arith; each = λ x. go x (cases_eq x loop.count) }
    where
      unopened : (o : Option ℕ) → admitted loop.count ≡ o → o ≡ None
      unopened None e = refl
      unopened (Some size) e = absurd (let l : loop.count < loop.count = ((a.each loop.count).own size e).0 in let f : ⊥ = omega arith in f)

      fresh : AdmitsItsSize (suc loop.count) loop.count new_conn (admitted loop.count)
      fresh =
          record {
            own = λ size e. absurd (none-some size (sym (unopened (admitted loop.count) refl) ∙ e));
            begun = λ l is_open long. absurd (let f : ⊥ = omega arith in f);
          }

      go : (x : ℕ) → (x ≡ loop.count) ⊎ (x ≡ loop.count → ⊥) → AdmitsItsSize (suc loop.count) x (with_conn loop.conns loop.count new_conn x) (admitted x)
      go x (inl e) =
          subst (λ y. AdmitsItsSize (suc loop.count) y (with_conn loop.conns loop.count new_conn y) (admitted y)) (sym e)
          (subst (λ (k : LoopConn). AdmitsItsSize (suc loop.count) loop.count k (admitted loop.count)) (sym (put_same loop.conns loop.count new_conn)) fresh)
      go x (inr n) =
          subst (λ (k : LoopConn). AdmitsItsSize (suc loop.count) x k (admitted x)) (sym (put_other loop.conns loop.count new_conn x n))
          (record {
            own = λ size e. let t : (x < loop.count) × IsSizeUnderWay (loop.conns x) size = (a.each x).own size e in (omega (arith, t.0), t.1);
            begun = λ l is_open long. (a.each x).begun (omega arith) is_open long;
          })

  -- a size is admitted, for which the budget has room
  pub admitted_more : (c : ℕ) → c < loop.count → 4 ≤ length (loop.conns c).held → summed (λ x. size_or_zero (admitted x)) loop.count + size_in (loop.conns c).held ≤ budget
      → AdmitsWithin budget loop (at_number admitted c (Some (size_in (loop.conns c).held)))
  admitted_more c l four room =
      let size : ℕ = size_in (loop.conns c).held in
      let sum : summed (λ x. size_or_zero (at_number admitted c (Some size) x)) loop.count ≤ summed (λ x. size_or_zero (admitted x)) loop.count + size =
      summed_by (λ x. size_or_zero (admitted x)) (λ x. size_or_zero (at_number admitted c (Some size) x)) c size loop.count
      (λ x n. let e : size_or_zero (at_number admitted c (Some size) x) ≡ size_or_zero (admitted x) = ap size_or_zero (put_other admitted c (Some size) x n) in omega arith)
      (let e : size_or_zero (at_number admitted c (Some size) c) ≡ size = ap size_or_zero (put_same admitted c (Some size)) in omega arith) in
      record { within = omega arith; each = λ x. go x (cases_eq x c) }
    where
      own : AdmitsItsSize loop.count c (loop.conns c) (Some (size_in (loop.conns c).held))
      own = record { own = λ size e. (l, inr (four, sym (same_Some (size_in (loop.conns c).held) size e))); begun = λ below is_open long. refl }

      go : (x : ℕ) → (x ≡ c) ⊎ (x ≡ c → ⊥) → AdmitsItsSize loop.count x (loop.conns x) (at_number admitted c (Some (size_in (loop.conns c).held)) x)
      go x (inl e) =
          subst (λ y. AdmitsItsSize loop.count y (loop.conns y) (at_number admitted c (Some (size_in (loop.conns c).held)) y)) (sym e)
          (subst (AdmitsItsSize loop.count c (loop.conns c)) (sym (put_same admitted c (Some (size_in (loop.conns c).held)))) own)
      go x (inr n) = subst (AdmitsItsSize loop.count x (loop.conns x)) (sym (put_other admitted c (Some (size_in (loop.conns c).held)) x n)) (a.each x)

  -- ---- an event of a connection, after which its size is kept while it is open

  -- a connection changes by an event of its own
  moved_admits : (c : ℕ) (conn : LoopConn) (marks : List Mark) (new : Loop) → new ≡ changed loop c conn marks → AdmitsItsSize loop.count c conn (kept_while_open conn.cause (admitted c))
      → AdmitsWithin budget new (left_admitted admitted new c)
  moved_admits c conn marks new is own =
      let cause : (with_conn loop.conns c conn c).cause ≡ conn.cause = ap (λ (k : LoopConn). k.cause) (put_same loop.conns c conn) in
      subst (λ (l : Loop). AdmitsWithin budget l (left_admitted admitted l c)) (sym is)
      (subst (λ (o : Option EndCause). AdmitsWithin budget (changed loop c conn marks) (at_number admitted c (kept_while_open o (admitted c)))) (sym cause)
      (changed_admits c conn marks (kept_while_open conn.cause (admitted c)) (no_more conn.cause (admitted c)) own))

  -- it has ended
  pub ended_admits : (c : ℕ) (cause : EndCause) (marks : List Mark) (new : Loop) → new ≡ changed loop c (with_cause (loop.conns c) cause) marks → AdmitsWithin budget new (left_admitted admitted new c)
  ended_admits c cause marks new is = moved_admits c (with_cause (loop.conns c) cause) marks new is (over_admits loop.count c (loop.conns c) cause)

  -- it has written, and is open
  pub written_admits : (c : ℕ) (left : List ℕ) (marks : List Mark) (new : Loop) → (loop.conns c).cause ≡ None → new ≡ changed loop c (record (loop.conns c) { left = left }) marks
      → AdmitsWithin budget new (left_admitted admitted new c)
  written_admits c left marks new is_open is =
      moved_admits c (record (loop.conns c) { left = left }) marks new is
      (subst (λ (o : Option EndCause). AdmitsItsSize loop.count c (record (loop.conns c) { left = left }) (kept_while_open o (admitted c))) (sym is_open)
      (record { own = (a.each c).own; begun = (a.each c).begun }))

  -- it has read: behind its size only where that is admitted
  pub read_admits : (c : ℕ) (bytes : List ℕ) (progress : FrameProgress) (new : Loop) → c < loop.count → (loop.conns c).cause ≡ None → OwesNothing (loop.conns c) → StaysInSize (loop.conns c).held bytes
      → (4 ≤ length (loop.conns c).held → (size : ℕ) × (admitted c ≡ Some size)) → new ≡ changed loop c (read_more (loop.conns c) bytes progress) (marks_read c bytes progress)
      → AdmitsWithin budget new (left_admitted admitted new c)
  read_admits c bytes progress new below is_open owes stays sized is = go progress is
    where
      conn : LoopConn
      conn = loop.conns c

      all_collected : conn.collected ≡ length conn.payloads
      all_collected = owes.0

      -- the size that is admitted is that in front of what is held
      sized_so : 4 ≤ length conn.held → admitted c ≡ Some (size_in conn.held)
      sized_so four =
          let t : (size : ℕ) × (admitted c ≡ Some size) = sized four in
          t.1 ∙ ap Some (own_size t.0 ((a.each c).own t.0 t.1).1)
        where
          own_size : (size : ℕ) → IsSizeUnderWay conn size → size ≡ size_in conn.held
          own_size size (inl less) = let same : conn.collected ≡ length conn.payloads = all_collected in absurd (let f : ⊥ = omega arith in f)
          own_size size (inr t) = t.1

      further : (size : ℕ) → IsSizeUnderWay conn size → IsSizeUnderWay (read_more conn bytes part) size
      further size (inl less) = inl less
      further size (inr t) = let four : 4 ≤ length conn.held = t.0 in inr (omega (arith, length-append conn.held bytes), t.1 ∙ sym (size_more conn.held bytes four))

      begun_so : 4 < length (conn.held ++ bytes) → (length conn.held < 4) ⊎ (4 ≤ length conn.held) → admitted c ≡ Some (size_in (conn.held ++ bytes))
      begun_so long (inl short) =
          let l : length conn.held + length bytes ≤ 4 = stays short in
          let n : length (conn.held ++ bytes) ≡ length conn.held + length bytes = length-append conn.held bytes in
          absurd (let f : ⊥ = omega arith in f)
      begun_so long (inr four) = sized_so four ∙ ap Some (sym (size_more conn.held bytes four))

      kept_so : AdmitsItsSize loop.count c (read_more conn bytes part) (admitted c)
      kept_so =
          record {
            own = λ size e. let t : (c < loop.count) × IsSizeUnderWay conn size = (a.each c).own size e in (t.0, further size t.1);
            begun = λ l still long. begun_so long (cases_lt (length conn.held) 4);
          }

      whole_so : (payload : List ℕ) → AdmitsItsSize loop.count c (read_more conn bytes (whole payload)) (admitted c)
      whole_so payload =
          record {
            own = λ size e.
                let same : conn.collected ≡ length conn.payloads = all_collected in (below, inl (omega (arith, length-append conn.payloads (payload ∷ []))));
            begun = λ l still long. absurd (let f : ⊥ = omega arith in f);
          }

      go : (progress : FrameProgress) → new ≡ changed loop c (read_more conn bytes progress) (marks_read c bytes progress) → AdmitsWithin budget new (left_admitted admitted new c)
      go part is =
          moved_admits c (read_more conn bytes part) (marks_read c bytes part) new is
          (subst (λ (o : Option EndCause). AdmitsItsSize loop.count c (read_more conn bytes part) (kept_while_open o (admitted c))) (sym is_open) kept_so)
      go (bad_size size) is =
          moved_admits c (read_more conn bytes (bad_size size)) (marks_read c bytes (bad_size size)) new is
          (record { own = λ n e. absurd (none-some n e); begun = λ l still long. absurd (none-some _ (sym still)) })
      go (whole payload) is =
          moved_admits c (read_more conn bytes (whole payload)) (marks_read c bytes (whole payload)) new is
          (subst (λ (o : Option EndCause). AdmitsItsSize loop.count c (read_more conn bytes (whole payload)) (kept_while_open o (admitted c))) (sym is_open) (whole_so payload))

  -- its outcome is collected, and nothing is held of it: its size goes back
  pub settled_admits : (c : ℕ) (settled : Settled) (cause : Option EndCause) (marks : List Mark) (new : Loop) → (c < loop.count → (loop.conns c).held ≡ [])
      → new ≡ changed loop c (conn_settled cause settled (loop.conns c)) marks → AdmitsWithin budget new (at_number admitted c None)
  settled_admits c settled cause marks new none is =
      subst (λ (l : Loop). AdmitsWithin budget l (at_number admitted c None)) (sym is)
      (changed_admits c (conn_settled cause settled (loop.conns c)) marks None (omega arith)
      (record {
        own = λ size e. absurd (none-some size e);
        begun = λ l still long.
            let nothing : length (conn_settled cause settled (loop.conns c)).held ≡ 0 = ap length (held_so settled cause ∙ none l) in absurd (let f : ⊥ = omega arith in f);
      }))
    where
      held_so : (settled : Settled) (cause : Option EndCause) → (conn_settled cause settled (loop.conns c)).held ≡ (loop.conns c).held
      held_so (Reply reply) None = refl
      held_so Nothing None = refl
      held_so (Refused fault) None = refl
      held_so Lack None = refl
      held_so settled (Some cause) = refl
