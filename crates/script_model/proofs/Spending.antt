-- Each move of a rehearsal leaves less to do: what is left is the machine's weight, the bytes that aren't read, the rules, and the sizes that may be admitted.
use Rattle.std.proofs.Common.{◌≡◌, ℕ, suc, ◌+◌, ◌*◌, ◌-◌, ◌<◌, ◌≤◌, ◌⊎◌, min, not, nat_lt, nat_le, false, Option, None, Some, List, [], ◌∷◌, length, take, drop, refl, ap, ◌∙◌, inl, inr, option_map, arith, length-append, length-drop}
use Rattle.std.proofs.lemmas.Bool.{and_parts, ltb-true, not-true, cases_lt}
use Rattle.std.proofs.lemmas.List.{length-take-le, length-drop}
use Rattle.host_model.specs.declared.cause.EndCause.TheVariants.{NoMemory}
use Rattle.host_model.specs.Journal.{ServiceRules}
use Rattle.host_model.specs.DeskRules.{DeskRules, DeskDecision, Close, Silent, Reply, Invoke}
use Rattle.machine_model.specs.HallState.{Job, JobOutcome}
use Rattle.machine_model.specs.Loop.{LoopConn, ConnEvent, reads, ends, fails_read, writes, fails_write, gives_up}
use Rattle.machine_model.specs.Worker.{WorkerState, idle, holds, has_answer, has_none}
use Rattle.machine_model.specs.Machine.{Cell, on_conn, submits, takes, puts, collects}
use Rattle.machine_model.specs.Plain.{is_empty, is_open, has_none_yet, answers, lacks_for_call, lacks_for_answer as lacks_answer, Told, goes, puts_none, reads_plain, ends_plain, fails_read_plain, writes_plain, fails_write_plain, gives_up_plain, told_plain}
use Rattle.machine_model.specs.AtFronts.{size_in, summed}
use Rattle.script_model.specs.Arrival.{bytes_of_pieces}
use Rattle.script_model.specs.ScriptLines.{PlanRule, takes_most, blocks, fails}
use Rattle.script_model.specs.Playing.{InputFinish, finishes, faults, MemoryAt, ample, lacking, lacking_for_call, lacking_for_answer, is_ample, Play, most_read, at_number, kept_while_open, pieces_left, moved_on, all_admitted, event_on, or_else, told_without, told_wanting, by_memory, admission, freed, freed_if_over, with_rules, with_unread, told_in, on_one, read_behind, read_move, write_move, size_move, open_move, conn_move, step_of_worker, worker_move, collect_first, collect_move}
use Rattle.script_model.proofs.Weighing.{summed_outside, summed_changed, cell_weight, Changes, Changing, conn_changes, submits_changes, collects_changes, takes_changes, applies_changes, puts_changes, lacks_changes, reads_within, ends_within, fails_read_within, fails_write_within, gives_up_within, writes_within, writes_all_within}
use Rattle.script_model.proofs.Remaining.{left_bytes}
use Rattle.script_model.proofs.Lasting.{Holding, by_test, or_holds}

-- what weighs of pieces, of rules, and of a size that may be admitted
abbrev pub pieces_weight : List (List ℕ) → ℕ
pieces_weight pieces = 10 * length (bytes_of_pieces pieces)

abbrev pub rules_weight : List PlanRule → ℕ
rules_weight rules = 2 * length rules

abbrev pub size_weight : Option ℕ → ℕ
size_weight None = 1
size_weight (Some size) = 0

size_less : (size : Option ℕ) → size_weight size ≤ 1
size_less None = omega arith
size_less (Some size) = omega arith

-- whatever becomes of the size of one connection
sizes_less : (admitted : ℕ → Option ℕ) (c : ℕ) (size : Option ℕ) (n : ℕ) → summed (λ x. size_weight (at_number admitted c size x)) n ≤ summed (λ x. size_weight (admitted x)) n + 1
sizes_less admitted c size n = go (cases_lt c n)
  where
    go : (c < n) ⊎ (n ≤ c) → summed (λ x. size_weight (at_number admitted c size x)) n ≤ summed (λ x. size_weight (admitted x)) n + 1
    go (inl l) =
        let s : summed (λ x. size_weight (at_number admitted c size x)) n + size_weight (admitted c) ≡ summed (λ x. size_weight (admitted x)) n + size_weight size =
        summed_changed size_weight admitted c size n l in
        let t : size_weight size ≤ 1 = size_less size in
        omega arith
    go (inr l) =
        let s : summed (λ x. size_weight (at_number admitted c size x)) n ≡ summed (λ x. size_weight (admitted x)) n = summed_outside size_weight admitted c size n l in
        omega arith

module _ {C A M : Type 0} where
  -- what is left to do
  abbrev pub play_weight : ℕ → Play C A M → ℕ
  play_weight bound play =
      cell_weight bound play.cell + summed (λ x. pieces_weight (play.unread x)) play.cell.loop.count + summed (λ x. rules_weight (play.rules x)) play.cell.loop.count
      + summed (λ x. size_weight (play.admitted x)) play.cell.loop.count

  -- one move more was made, less is left to do, and the hall isn't closed
  pub record IsLess (bound : ℕ) (old new : Play C A M) : Type 0 where
    pub weight : play_weight bound new < play_weight bound old
    pub moves : new.moves ≡ suc old.moves
    pub closed : new.cell.hall.closed ≡ false

  -- A machine that was told something, with these pieces, rules and sizes left.
  pub less_by : (bound gain loss : ℕ) (old new : Play C A M) → old.cell.hall.closed ≡ false → Changes gain loss bound old.cell new.cell → new.moves ≡ suc old.moves
      → summed (λ x. pieces_weight (new.unread x)) old.cell.loop.count + summed (λ x. rules_weight (new.rules x)) old.cell.loop.count + summed (λ x. size_weight (new.admitted x)) old.cell.loop.count + gain
      < summed (λ x. pieces_weight (old.unread x)) old.cell.loop.count + summed (λ x. rules_weight (old.rules x)) old.cell.loop.count + summed (λ x. size_weight (old.admitted x)) old.cell.loop.count + loss
      → IsLess bound old new
  less_by bound gain loss old new open_yet changes moved less =
      let a : summed (λ x. pieces_weight (new.unread x)) new.cell.loop.count ≡ summed (λ x. pieces_weight (new.unread x)) old.cell.loop.count = ap (λ n. summed (λ x. pieces_weight (new.unread x)) n) changes.count in
      let b : summed (λ x. rules_weight (new.rules x)) new.cell.loop.count ≡ summed (λ x. rules_weight (new.rules x)) old.cell.loop.count = ap (λ n. summed (λ x. rules_weight (new.rules x)) n) changes.count in
      let e : summed (λ x. size_weight (new.admitted x)) new.cell.loop.count ≡ summed (λ x. size_weight (new.admitted x)) old.cell.loop.count = ap (λ n. summed (λ x. size_weight (new.admitted x)) n) changes.count in
      let w : cell_weight bound new.cell + loss ≤ cell_weight bound old.cell + gain = changes.weight in
      record { weight = omega arith; moves = moved; closed = changes.closed ∙ open_yet }

module _ {C A M : Type 0} (d : DeskRules C A) (r : ServiceRules C A M) (memory : ℕ → MemoryAt) (bound : ℕ) where
  -- what is left of a play, where something comes of it, is less
  abbrev pub Lessened : Play C A M → Option (Play C A M) → Type 0
  Lessened old o = Holding (IsLess bound old) o

  told_less : (play : Play C A M) (told : Told) → play.cell.hall.closed ≡ false → Changing 0 1 bound play.cell (told_plain d r play.cell told) → Lessened play (told_in d r play told)
  told_less play told open_yet changing = go (told_plain d r play.cell told) changing
    where
      go : (o : Option (Cell C A M)) → Changing 0 1 bound play.cell o → Lessened play (option_map (λ cell. record play { cell = cell; moves = suc play.moves }) o)
      go None c = tt
      go (Some cell) c = less_by bound 0 1 play (record play { cell = cell; moves = suc play.moves }) open_yet c refl (omega arith)

  wanting_less : (play : Play C A M) (told : Told) (gain loss : ℕ) → gain < loss → play.cell.hall.closed ≡ false → Changing gain loss bound play.cell (told_plain d r play.cell told)
      → Lessened play (told_wanting d r play told)
  wanting_less play told gain loss l open_yet changing = go (told_plain d r play.cell told) changing
    where
      go : (o : Option (Cell C A M)) → Changing gain loss bound play.cell o → Lessened play (option_map (λ cell. record play { cell = cell; moves = suc play.moves; wants = suc play.wants }) o)
      go None c = tt
      go (Some cell) c = less_by bound gain loss play (record play { cell = cell; moves = suc play.moves; wants = suc play.wants }) open_yet c refl (omega arith)

  memory_less : (play : Play C A M) (at : MemoryAt) (told : Told) (o : Option (Play C A M)) → Lessened play (told_wanting d r play told) → Lessened play o
      → Lessened play (by_memory d r at play told o)
  memory_less play at told o a b = by_test (IsLess bound play) (is_ample at) o (or_else (told_wanting d r play told) o) (λ e. b) (λ e. or_holds (IsLess bound play) (told_wanting d r play told) o a b)

  -- something happens on a connection, and a size may go back
  one_less : (play : Play C A M) (c : ℕ) (conn_event : ConnEvent) → play.cell.hall.closed ≡ false → Changing 0 2 bound play.cell (told_plain d r play.cell (goes (on_conn conn_event)))
      → Lessened play (on_one d r play c conn_event)
  one_less play c conn_event open_yet changing = go (told_plain d r play.cell (goes (on_conn conn_event))) changing
    where
      go : (o : Option (Cell C A M)) → Changing 0 2 bound play.cell o → Lessened play (option_map (freed_if_over c) (option_map (λ cell. record play { cell = cell; moves = suc play.moves }) o))
      go None k = tt
      go (Some cell) k =
          let new : Play C A M = freed_if_over c (record play { cell = cell; moves = suc play.moves }) in
          let s : summed (λ x. size_weight (new.admitted x)) play.cell.loop.count ≤ summed (λ x. size_weight (play.admitted x)) play.cell.loop.count + 1 =
          sizes_less play.admitted c (kept_while_open (cell.loop.conns c).cause (play.admitted c)) play.cell.loop.count in
          less_by bound 0 2 play new open_yet k refl (omega arith)

  behind_less : (play : Play C A M) (c : ℕ) (finish : Option InputFinish) → play.cell.hall.closed ≡ false → Lessened play (read_behind d r play c finish)
  behind_less play c None open_yet = tt
  behind_less play c (Some finishes) open_yet =
      one_less play c (ends c) open_yet (conn_changes bound play.cell 0 2 c (ends_plain c (play.cell.loop.conns c)) (λ e. ends_within c (play.cell.loop.conns c) e))
  behind_less play c (Some faults) open_yet =
      one_less play c (fails_read c) open_yet (conn_changes bound play.cell 0 2 c (fails_read_plain c (play.cell.loop.conns c)) (λ e. fails_read_within c (play.cell.loop.conns c) e))

  -- bytes are read: there are some
  read_less : (play : Play C A M) (c missing : ℕ) (pieces : List (List ℕ)) → c < play.cell.loop.count → play.cell.hall.closed ≡ false → play.unread c ≡ pieces
      → Lessened play (read_move d r play c missing pieces)
  read_less play c missing [] among open_yet is = behind_less play c (play.finish c) open_yet
  read_less play c missing (bytes ∷ pieces) among open_yet is =
      go (told_plain d r play.cell (goes (on_conn (reads c (take n bytes)))))
      (conn_changes bound play.cell (10 * length (take n bytes)) 2 c (reads_plain d.max c (take n bytes) (play.cell.loop.conns c)) (λ e. reads_within d.max c (take n bytes) (play.cell.loop.conns c) e))
    where
      n : ℕ
      n = min (min missing most_read) (length bytes)

      go : (o : Option (Cell C A M)) → Changing (10 * length (take n bytes)) 2 bound play.cell o
          → Lessened play (option_map (with_unread c (pieces_left (drop n bytes) pieces)) (option_map (freed_if_over c) (option_map (λ cell. record play { cell = cell; moves = suc play.moves }) o)))
      go None k = tt
      go (Some cell) k =
          let new : Play C A M = with_unread c (pieces_left (drop n bytes) pieces) (freed_if_over c (record play { cell = cell; moves = suc play.moves })) in
          let s : summed (λ x. size_weight (new.admitted x)) play.cell.loop.count ≤ summed (λ x. size_weight (play.admitted x)) play.cell.loop.count + 1 =
          sizes_less play.admitted c (kept_while_open (cell.loop.conns c).cause (play.admitted c)) play.cell.loop.count in
          let t : summed (λ x. pieces_weight (new.unread x)) play.cell.loop.count + pieces_weight (play.unread c) ≡ summed (λ x. pieces_weight (play.unread x)) play.cell.loop.count + pieces_weight (pieces_left (drop n bytes) pieces) =
          summed_changed pieces_weight play.unread c (pieces_left (drop n bytes) pieces) play.cell.loop.count among in
          let u : pieces_weight (play.unread c) ≡ 10 * (length bytes + length (bytes_of_pieces pieces)) = ap pieces_weight is ∙ ap (λ k. 10 * k) (length-append bytes (bytes_of_pieces pieces)) in
          let v : pieces_weight (pieces_left (drop n bytes) pieces) ≡ 10 * (length (drop n bytes) + length (bytes_of_pieces pieces)) =
          ap (λ xs. 10 * length xs) (left_bytes (drop n bytes) pieces) ∙ ap (λ k. 10 * k) (length-append (drop n bytes) (bytes_of_pieces pieces)) in
          let within : n ≤ length bytes = omega arith in
          let w : length (take n bytes) ≡ n = length-take-le n bytes within in
          let x : length (drop n bytes) ≡ length bytes - n = length-drop n bytes in
          less_by bound (10 * length (take n bytes)) 2 play new open_yet k refl (omega arith)

  -- a rule is used up
  rule_less : (play : Play C A M) (c loss : ℕ) (conn_event : ConnEvent) (rule : PlanRule) (rules : List PlanRule) → c < play.cell.loop.count → play.cell.hall.closed ≡ false
      → play.rules c ≡ rule ∷ rules → Changing 0 loss bound play.cell (told_plain d r play.cell (goes (on_conn conn_event)))
      → Lessened play (option_map (with_rules c rules) (on_one d r play c conn_event))
  rule_less play c loss conn_event rule rules among open_yet is changing = go (told_plain d r play.cell (goes (on_conn conn_event))) changing
    where
      go : (o : Option (Cell C A M)) → Changing 0 loss bound play.cell o
          → Lessened play (option_map (with_rules c rules) (option_map (freed_if_over c) (option_map (λ cell. record play { cell = cell; moves = suc play.moves }) o)))
      go None k = tt
      go (Some cell) k =
          let new : Play C A M = with_rules c rules (freed_if_over c (record play { cell = cell; moves = suc play.moves })) in
          let s : summed (λ x. size_weight (new.admitted x)) play.cell.loop.count ≤ summed (λ x. size_weight (play.admitted x)) play.cell.loop.count + 1 =
          sizes_less play.admitted c (kept_while_open (cell.loop.conns c).cause (play.admitted c)) play.cell.loop.count in
          let t : summed (λ x. rules_weight (new.rules x)) play.cell.loop.count + rules_weight (play.rules c) ≡ summed (λ x. rules_weight (play.rules x)) play.cell.loop.count + rules_weight rules =
          summed_changed rules_weight play.rules c rules play.cell.loop.count among in
          let u : rules_weight (play.rules c) ≡ 2 * suc (length rules) = ap rules_weight is in
          less_by bound 0 loss play new open_yet k refl (omega arith)

  -- so is one that blocks
  blocks_less : (play : Play C A M) (c : ℕ) (rules : List PlanRule) → c < play.cell.loop.count → play.cell.hall.closed ≡ false → play.rules c ≡ blocks ∷ rules
      → IsLess bound play (moved_on (with_rules c rules play))
  blocks_less play c rules among open_yet is =
      let t : summed (λ x. rules_weight (at_number play.rules c rules x)) play.cell.loop.count + rules_weight (play.rules c) ≡ summed (λ x. rules_weight (play.rules x)) play.cell.loop.count + rules_weight rules =
      summed_changed rules_weight play.rules c rules play.cell.loop.count among in
      let u : rules_weight (play.rules c) ≡ 2 * suc (length rules) = ap rules_weight is in
      record { weight = omega arith; moves = refl; closed = open_yet }

  write_less : (play : Play C A M) (c : ℕ) (rules : List PlanRule) → c < play.cell.loop.count → play.cell.hall.closed ≡ false → is_empty (play.cell.loop.conns c).left ≡ false → play.rules c ≡ rules
      → Lessened play (write_move d r play c (play.cell.loop.conns c).left rules)
  write_less play c [] among open_yet some is =
      let conn : LoopConn = play.cell.loop.conns c in
      one_less play c (writes c (length conn.left)) open_yet (conn_changes bound play.cell 0 2 c (writes_plain c (length conn.left) conn) (λ e. writes_all_within c conn some))
  write_less play c (takes_most count ∷ rules) among open_yet some is =
      let conn : LoopConn = play.cell.loop.conns c in
      rule_less play c 0 (writes c (min count (length conn.left))) (takes_most count) rules among open_yet is
      (conn_changes bound play.cell 0 0 c (writes_plain c (min count (length conn.left)) conn) (λ e. writes_within c (min count (length conn.left)) conn))
  write_less play c (blocks ∷ rules) among open_yet some is = blocks_less play c rules among open_yet is
  write_less play c (fails ∷ rules) among open_yet some is =
      let conn : LoopConn = play.cell.loop.conns c in
      rule_less play c 2 (fails_write c) fails rules among open_yet is (conn_changes bound play.cell 0 2 c (fails_write_plain c conn) (λ e. fails_write_within c conn e))

  -- a size is admitted, or its connection given up
  admitted_less : (play : Play C A M) (c size : ℕ) → c < play.cell.loop.count → play.cell.hall.closed ≡ false → play.admitted c ≡ None
      → IsLess bound play (moved_on (record play { admitted = at_number play.admitted c (Some size) }))
  admitted_less play c size among open_yet is =
      let t : summed (λ x. size_weight (at_number play.admitted c (Some size) x)) play.cell.loop.count + size_weight (play.admitted c) ≡ summed (λ x. size_weight (play.admitted x)) play.cell.loop.count + 0 =
      summed_changed size_weight play.admitted c (Some size) play.cell.loop.count among in
      let u : size_weight (play.admitted c) ≡ 1 = ap size_weight is in
      record { weight = omega arith; moves = refl; closed = open_yet }

  sized_less : (budget : ℕ) (play : Play C A M) (c : ℕ) (held : List ℕ) (size : Option ℕ) → c < play.cell.loop.count → play.cell.hall.closed ≡ false → play.admitted c ≡ size
      → Lessened play (size_move d r memory budget play c held size)
  sized_less budget play c held (Some size) among open_yet is = read_less play c ((4 + size) - length held) (play.unread c) among open_yet refl
  sized_less budget play c held None among open_yet is =
      by_test (IsLess bound play) (nat_le (all_admitted play + size_in held) budget) (admission d r memory play c (size_in held)) None
      (λ e. memory_less play (memory play.moves) (goes (on_conn (gives_up c NoMemory))) (Some (moved_on (record play { admitted = at_number play.admitted c (Some (size_in held)) })))
      (wanting_less play (goes (on_conn (gives_up c NoMemory))) 0 2 (omega arith) open_yet
      (conn_changes bound play.cell 0 2 c (gives_up_plain c NoMemory (play.cell.loop.conns c)) (λ f. gives_up_within c NoMemory (play.cell.loop.conns c) f)))
      (admitted_less play c (size_in held) among open_yet is))
      (λ e. tt)

  pub conn_less : (budget c : ℕ) (play : Play C A M) → play.cell.hall.closed ≡ false → Lessened play (conn_move d r memory budget c play)
  conn_less budget c play open_yet =
      by_test (IsLess bound play) (is_open play.cell.loop c) (open_move d r memory budget play c conn) None
      (λ e. moves_less (ltb-true c play.cell.loop.count (and_parts (nat_lt c play.cell.loop.count) (has_none_yet conn.cause) e).0))
      (λ e. tt)
    where
      conn : LoopConn
      conn = play.cell.loop.conns c

      moves_less : c < play.cell.loop.count → Lessened play (open_move d r memory budget play c conn)
      moves_less among =
          by_test (IsLess bound play) (not (is_empty conn.left)) _ _ (λ e. write_less play c (play.rules c) among open_yet (not-true (is_empty conn.left) e) refl)
          (λ e. by_test (IsLess bound play) (nat_lt conn.submitted (length conn.payloads)) _ _
          (λ f. told_less play (goes (submits c)) open_yet (submits_changes bound play.cell c open_yet (ltb-true conn.submitted (length conn.payloads) f)))
          (λ f. by_test (IsLess bound play) (nat_lt conn.collected conn.submitted) None _ (λ g. tt)
          (λ g. by_test (IsLess bound play) (nat_lt (length conn.held) 4) _ _ (λ h. read_less play c (4 - length conn.held) (play.unread c) among open_yet refl)
          (λ h. sized_less budget play c conn.held (play.admitted c) among open_yet refl))))

  -- what a worker does, by what it holds
  event_changes : (play : Play C A M) (w : ℕ) → w < bound → (decision : DeskDecision C) → Changing 0 1 bound play.cell (told_plain d r play.cell (goes (event_on d r w decision)))
  event_changes play w among (Invoke call) = applies_changes bound play.cell w among d r answers (play.cell.workers w) refl
  event_changes play w among (Close fault) = puts_changes bound play.cell w among d (play.cell.workers w) refl
  event_changes play w among Silent = puts_changes bound play.cell w among d (play.cell.workers w) refl
  event_changes play w among (Reply reply) = puts_changes bound play.cell w among d (play.cell.workers w) refl

  without_changes : (play : Play C A M) (w : ℕ) → w < bound → (at : MemoryAt) (decision : DeskDecision C) → Changing 0 1 bound play.cell (told_plain d r play.cell (told_without d r w at decision))
  without_changes play w among lacking_for_call (Invoke call) = applies_changes bound play.cell w among d r lacks_for_call (play.cell.workers w) refl
  without_changes play w among lacking_for_answer (Invoke call) = applies_changes bound play.cell w among d r lacks_answer (play.cell.workers w) refl
  without_changes play w among ample decision = lacks_changes bound play.cell w among (play.cell.workers w) refl
  without_changes play w among lacking decision = lacks_changes bound play.cell w among (play.cell.workers w) refl
  without_changes play w among lacking_for_call (Close fault) = lacks_changes bound play.cell w among (play.cell.workers w) refl
  without_changes play w among lacking_for_call Silent = lacks_changes bound play.cell w among (play.cell.workers w) refl
  without_changes play w among lacking_for_call (Reply reply) = lacks_changes bound play.cell w among (play.cell.workers w) refl
  without_changes play w among lacking_for_answer (Close fault) = lacks_changes bound play.cell w among (play.cell.workers w) refl
  without_changes play w among lacking_for_answer Silent = lacks_changes bound play.cell w among (play.cell.workers w) refl
  without_changes play w among lacking_for_answer (Reply reply) = lacks_changes bound play.cell w among (play.cell.workers w) refl

  step_less : (play : Play C A M) (w : ℕ) → w < bound → play.cell.hall.closed ≡ false → (worker : WorkerState A) (jobs : List Job) → play.cell.hall.jobs ≡ jobs
      → Lessened play (step_of_worker d r memory play w worker jobs)
  step_less play w among open_yet idle [] is = tt
  step_less play w among open_yet idle (job ∷ jobs) is =
      told_less play (goes (takes w)) open_yet
      (takes_changes bound play.cell w among (play.cell.workers w) play.cell.hall.jobs refl refl (let n : length play.cell.hall.jobs ≡ suc (length jobs) = ap length is in omega arith))
  step_less play w among open_yet (holds key payload) jobs is =
      let decision : DeskDecision C = d.decide payload in
      memory_less play (memory play.moves) (told_without d r w (memory play.moves) decision) (told_in d r play (goes (event_on d r w decision)))
      (wanting_less play (told_without d r w (memory play.moves) decision) 0 1 (omega arith) open_yet (without_changes play w among (memory play.moves) decision))
      (told_less play (goes (event_on d r w decision)) open_yet (event_changes play w among decision))
  step_less play w among open_yet (has_answer key payload answer) jobs is =
      memory_less play (memory play.moves) (puts_none w) (told_in d r play (goes (puts w)))
      (wanting_less play (puts_none w) 0 1 (omega arith) open_yet (lacks_changes bound play.cell w among (play.cell.workers w) refl))
      (told_less play (goes (puts w)) open_yet (puts_changes bound play.cell w among d (play.cell.workers w) refl))
  step_less play w among open_yet (has_none key payload) jobs is = told_less play (puts_none w) open_yet (lacks_changes bound play.cell w among (play.cell.workers w) refl)

  pub worker_less : (w : ℕ) (play : Play C A M) → w < bound → play.cell.hall.closed ≡ false → Lessened play (worker_move d r memory w play)
  worker_less w play among open_yet = step_less play w among open_yet (play.cell.workers w) play.cell.hall.jobs refl

  -- an outcome is collected, and its connection's size goes back
  first_less : (play : Play C A M) (outcomes : List JobOutcome) → play.cell.hall.closed ≡ false → play.cell.hall.outcomes ≡ outcomes → Lessened play (collect_first d r play outcomes)
  first_less play [] open_yet is = tt
  first_less play (outcome ∷ outcomes) open_yet is =
      go (told_plain d r play.cell (goes collects)) (collects_changes bound play.cell play.cell.hall.outcomes refl (let n : length play.cell.hall.outcomes ≡ suc (length outcomes) = ap length is in omega arith))
    where
      go : (o : Option (Cell C A M)) → Changing 0 2 bound play.cell o → Lessened play (option_map (freed outcome.key.c) (option_map (λ cell. record play { cell = cell; moves = suc play.moves }) o))
      go None k = tt
      go (Some cell) k =
          let new : Play C A M = freed outcome.key.c (record play { cell = cell; moves = suc play.moves }) in
          let s : summed (λ x. size_weight (new.admitted x)) play.cell.loop.count ≤ summed (λ x. size_weight (play.admitted x)) play.cell.loop.count + 1 =
          sizes_less play.admitted outcome.key.c None play.cell.loop.count in
          less_by bound 0 2 play new open_yet k refl (omega arith)

  pub collect_less : (play : Play C A M) → play.cell.hall.closed ≡ false → Lessened play (collect_move d r play)
  collect_less play open_yet = first_less play play.cell.hall.outcomes open_yet refl
