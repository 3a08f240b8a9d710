-- With ample memory a rehearsal counts no move at which it ran out.
use Rattle.std.proofs.Common.{◌≡◌, ℕ, suc, ◌+◌, ◌-◌, min, not, nat_lt, nat_le, Option, None, Some, List, [], ◌∷◌, length, take, drop, if◌then◌else◌, refl, subst, ◌∙◌, option_map}
use Rattle.host_model.specs.Journal.{ServiceRules}
use Rattle.host_model.specs.DeskRules.{DeskRules}
use Rattle.machine_model.specs.HallState.{Job, JobOutcome}
use Rattle.machine_model.specs.Loop.{LoopConn, ConnEvent, opens, reads, ends, fails_read, writes, fails_write}
use Rattle.machine_model.specs.Worker.{WorkerState, idle, holds, has_answer, has_none}
use Rattle.machine_model.specs.Machine.{Cell, on_conn, submits, takes, puts, collects}
use Rattle.machine_model.specs.Plain.{is_empty, is_open, Told, goes, puts_none, told_plain}
use Rattle.machine_model.specs.AtFronts.{size_in}
use Rattle.script_model.specs.ScriptLines.{PlanRule, takes_most, blocks, fails, ScriptPlan}
use Rattle.script_model.specs.Playing.{InputFinish, finishes, faults, always_ample, Play, most_read, pieces_left, all_admitted, admission, event_on, freed, freed_if_over, with_rules, with_unread, told_in, on_one, read_behind, read_move, write_move, size_move, open_move, conn_move, step_of_worker, collect_first}
use Rattle.script_model.specs.Rehearsing.{before_all, IsRehearsalOf}
use Rattle.script_model.proofs.Lasting.{Holding, by_test, mapped_holds, lines_hold}

module _ {C A M : Type 0} (d : DeskRules C A) (r : ServiceRules C A M) where
  -- memory ran out at no move
  abbrev NoWant : Play C A M → Type 0
  NoWant play = play.wants ≡ 0

  abbrev Wantless : Option (Play C A M) → Type 0
  Wantless o = Holding NoWant o

  told_less : (play : Play C A M) (told : Told) → NoWant play → Wantless (told_in d r play told)
  told_less play told z = go (told_plain d r play.cell told)
    where
      go : (o : Option (Cell C A M)) → Wantless (option_map (λ cell. record play { cell = cell; moves = suc play.moves }) o)
      go None = tt
      go (Some cell) = z

  one_less : (play : Play C A M) (c : ℕ) (conn_event : ConnEvent) → NoWant play → Wantless (on_one d r play c conn_event)
  one_less play c conn_event z = mapped_holds NoWant (freed_if_over c) (told_in d r play (goes (on_conn conn_event))) (λ p h. h) (told_less play (goes (on_conn conn_event)) z)

  behind_less : (play : Play C A M) (c : ℕ) (finish : Option InputFinish) → NoWant play → Wantless (read_behind d r play c finish)
  behind_less play c None z = tt
  behind_less play c (Some finishes) z = one_less play c (ends c) z
  behind_less play c (Some faults) z = one_less play c (fails_read c) z

  read_less : (play : Play C A M) (c missing : ℕ) (pieces : List (List ℕ)) → NoWant play → Wantless (read_move d r play c missing pieces)
  read_less play c missing [] z = behind_less play c (play.finish c) z
  read_less play c missing (bytes ∷ pieces) z =
      let n : ℕ = min (min missing most_read) (length bytes) in
      mapped_holds NoWant (with_unread c (pieces_left (drop n bytes) pieces)) (on_one d r play c (reads c (take n bytes))) (λ p h. h) (one_less play c (reads c (take n bytes)) z)

  write_less : (play : Play C A M) (c : ℕ) (left : List ℕ) (rules : List PlanRule) → NoWant play → Wantless (write_move d r play c left rules)
  write_less play c left [] z = one_less play c (writes c (length left)) z
  write_less play c left (takes_most count ∷ rules) z =
      mapped_holds NoWant (with_rules c rules) (on_one d r play c (writes c (min count (length left)))) (λ p h. h) (one_less play c (writes c (min count (length left))) z)
  write_less play c left (blocks ∷ rules) z = z
  write_less play c left (fails ∷ rules) z = mapped_holds NoWant (with_rules c rules) (on_one d r play c (fails_write c)) (λ p h. h) (one_less play c (fails_write c) z)

  size_less : (budget : ℕ) (play : Play C A M) (c : ℕ) (held : List ℕ) (size : Option ℕ) → NoWant play → Wantless (size_move d r always_ample budget play c held size)
  size_less budget play c held (Some size) z = read_less play c ((4 + size) - length held) (play.unread c) z
  size_less budget play c held None z =
      by_test NoWant (nat_le (all_admitted play + size_in held) budget) (admission d r always_ample play c (size_in held)) None (λ e. z) (λ e. tt)

  open_less : (budget c : ℕ) (play : Play C A M) (conn : LoopConn) → NoWant play → Wantless (open_move d r always_ample budget play c conn)
  open_less budget c play conn z =
      let sizing : Option (Play C A M) = read_move d r play c (4 - length conn.held) (play.unread c) in
      let sized : Option (Play C A M) = size_move d r always_ample budget play c conn.held (play.admitted c) in
      let reading : Option (Play C A M) = if nat_lt (length conn.held) 4 then sizing else sized in
      let waiting : Option (Play C A M) = if nat_lt conn.collected conn.submitted then None else reading in
      let submitting : Option (Play C A M) = if nat_lt conn.submitted (length conn.payloads) then told_in d r play (goes (submits c)) else waiting in
      by_test NoWant (not (is_empty conn.left)) (write_move d r play c conn.left (play.rules c)) submitting (λ e. write_less play c conn.left (play.rules c) z)
      (λ e. by_test NoWant (nat_lt conn.submitted (length conn.payloads)) (told_in d r play (goes (submits c))) waiting (λ e. told_less play (goes (submits c)) z)
      (λ e. by_test NoWant (nat_lt conn.collected conn.submitted) None reading (λ e. tt)
      (λ e. by_test NoWant (nat_lt (length conn.held) 4) sizing sized (λ e. read_less play c (4 - length conn.held) (play.unread c) z) (λ e. size_less budget play c conn.held (play.admitted c) z))))

  conn_less : (budget c : ℕ) (play : Play C A M) → NoWant play → Wantless (conn_move d r always_ample budget c play)
  conn_less budget c play z =
      by_test NoWant (is_open play.cell.loop c) (open_move d r always_ample budget play c (play.cell.loop.conns c)) None (λ e. open_less budget c play (play.cell.loop.conns c) z) (λ e. tt)

  step_less : (play : Play C A M) (w : ℕ) (worker : WorkerState A) (jobs : List Job) → NoWant play → Wantless (step_of_worker d r always_ample play w worker jobs)
  step_less play w idle [] z = tt
  step_less play w idle (job ∷ jobs) z = told_less play (goes (takes w)) z
  step_less play w (holds key payload) jobs z = told_less play (goes (event_on d r w (d.decide payload))) z
  step_less play w (has_answer key payload answer) jobs z = told_less play (goes (puts w)) z
  step_less play w (has_none key payload) jobs z = told_less play (puts_none w) z

  first_less : (play : Play C A M) (outcomes : List JobOutcome) → NoWant play → Wantless (collect_first d r play outcomes)
  first_less play [] z = tt
  first_less play (outcome ∷ outcomes) z = mapped_holds NoWant (freed outcome.key.c) (told_in d r play (goes collects)) (λ p h. h) (told_less play (goes collects) z)

  pub no_wants : (budget workers : ℕ) (script : ScriptPlan) (wants : ℕ) (first last : Cell C A M) → IsRehearsalOf d r always_ample budget workers script wants first last → wants ≡ 0
  no_wants budget workers script wants first last t =
      let z : NoWant t.play =
      subst Wantless t.done
      (lines_hold NoWant d r always_ample conn_less (λ w play z. step_less play w (play.cell.workers w) play.cell.hall.jobs z) (λ play z. first_less play play.cell.hall.outcomes z)
      (λ play z. told_less play (goes (on_conn opens)) z) (λ play unread finish z. z) t.fuel budget workers script.lines (before_all first script) refl) in
      t.count ∙ z
