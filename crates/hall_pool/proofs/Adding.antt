-- Turns, one after another.
use Rattle.std.proofs.Common.{◌≡◌, ◌≢◌, ℕ, None, Some, List, [], ◌∷◌, ◌++◌, refl, sym, ap, ◌∙◌, subst, inl, inr, append_assoc, append-nil}
use Rattle.std.specs.List.{AllByRecursion, flat_map}
use Rattle.std.proofs.lemmas.List.{flat_map_more}
use Rattle.std.proofs.lemmas.Grind.{flat_map-append}
use Rattle.streams.specs.declared.outcomes.Settled.{Settled}
use Rattle.host_model.specs.declared.key.Key.{Key}
use Rattle.host_model.proofs.Lists.{nil-cons}
use Rattle.call_rules.specs.PlainCalls.{PlainCall, PlainAnswer}
use Rattle.call_rules.specs.Desks.{DeskMeaning, desk_rules}
use Rattle.machine_model.specs.HallRule.{HallOperation, take_job, apply, put, close, HallAnswer, done, job}
use Rattle.machine_model.specs.Merge.{worked, worked_by_call, found_none, stopped, asked, AreTurns, OfTurns}
use Rattle.hall_core.specs.Asked.{StepCall}
use Rattle.hall_pool.specs.declared.turn.Turn.{Turn}
use Rattle.hall_pool.specs.declared.turn.Turn.TheVariants.{Worked, Journal}
use Rattle.hall_pool.specs.Turns.{PoolTurn, asks_made, asked_in, turn_told, EndsRun, KeepsRunning, AddsTurn, AddsRun, HasMadeTurns}
use Rattle.hall_pool.specs.Jobs.{HallSeat, AddsAsk, SettlesJob}
use Rattle.hall_pool.proofs.Answering.{asked_more}

-- what was asked, with the answer
abbrev pub AskedSo : Type 0
AskedSo = HallOperation PlainCall × HallAnswer PlainAnswer

module _ (desk : DeskMeaning) (before : List StepCall) (old mid new : HallSeat) (key : Key) (payload : List ℕ) (took : asked_in old.mine ≡ asked_in before ++ (take_job, job key payload) ∷ []) where
  -- a job that was taken, with no call of it, and what it came to: that is a turn
  put_calls : (settled : Settled) → mid ≡ old → AddsAsk mid new (put key settled) done
      → asked_in new.mine ≡ asked_in before ++ (take_job, job key payload) ∷ (put key settled, done) ∷ []
  put_calls settled same more =
      asked_more mid new (put key settled) done more
      ∙ (ap (λ (s : HallSeat). asked_in s.mine ++ (put key settled, done) ∷ []) same
      ∙ (ap (λ (l : List AskedSo). l ++ (put key settled, done) ∷ []) took ∙ append_assoc (asked_in before) ((take_job, job key payload) ∷ []) ((put key settled, done) ∷ [])))

  -- and with a call of it, and one more
  called_calls : (call : PlainCall) (answer : HallAnswer PlainAnswer) (op : HallOperation PlainCall) → AddsAsk old mid (apply key call) answer → AddsAsk mid new op done
      → asked_in new.mine ≡ asked_in before ++ (take_job, job key payload) ∷ (apply key call, answer) ∷ (op, done) ∷ []
  called_calls call answer op applied more =
      asked_more mid new op done more
      ∙ (ap (λ (l : List AskedSo). l ++ (op, done) ∷ []) (asked_more old mid (apply key call) answer applied)
      ∙ (ap (λ (l : List AskedSo). (l ++ (apply key call, answer) ∷ []) ++ (op, done) ∷ []) took
      ∙ (ap (λ (l : List AskedSo). l ++ (op, done) ∷ []) (append_assoc (asked_in before) ((take_job, job key payload) ∷ []) ((apply key call, answer) ∷ []))
      ∙ append_assoc (asked_in before) ((take_job, job key payload) ∷ (apply key call, answer) ∷ []) ((op, done) ∷ []))))

  pub put_turn : (settled : Settled) → SettlesJob desk old mid key payload (Some settled) → AddsAsk mid new (put key settled) done → AddsTurn desk before new.mine (Worked key)
  put_turn settled (inl t) more = record { made = worked key payload settled; right = (t.1, tt); calls = put_calls settled t.0 more; told = refl }
  put_turn settled (inr t) more =
      record {
        made = worked_by_call key payload t.0 t.1 settled;
        right = (t.3, t.4, t.5, tt);
        calls = called_calls t.0 t.1 (put key settled) t.2 more;
        told = refl;
      }

  pub stopped_turn : SettlesJob desk old mid key payload None → AddsAsk mid new close done → AddsTurn desk before new.mine Journal
  stopped_turn t more =
      record { made = stopped key payload t.0 t.1; right = (t.3, t.4, refl); calls = called_calls t.0 t.1 close t.2 more; told = refl }

module _ (desk : DeskMeaning) where
  -- after a turn that isn't stopped more may come
  more_behind : (made : PoolTurn) (more : List PoolTurn) → AreTurns (desk_rules desk) (made ∷ []) → turn_told made ≢ Journal → AreTurns (desk_rules desk) more
      → AreTurns (desk_rules desk) (made ∷ more)
  more_behind (worked key payload settled) more right other m = (right.0, m)
  more_behind (worked_by_call key payload call answer settled) more right other m = (right.0, right.1, right.2, m)
  more_behind (found_none answer) more right other m = (right.0, m)
  more_behind (stopped key payload call answer) more right other m = absurd (other refl)

  -- that is so also after others
  more_behind_all : (turns : List PoolTurn) (last : PoolTurn) (more : List PoolTurn) → AreTurns (desk_rules desk) (turns ++ last ∷ []) → turn_told last ≢ Journal → AreTurns (desk_rules desk) more
      → AreTurns (desk_rules desk) (turns ++ last ∷ more)
  more_behind_all [] last more right other m = more_behind last more right other m
  more_behind_all (worked key payload settled ∷ turns) last more right other m = (right.0, more_behind_all turns last more right.1 other m)
  more_behind_all (worked_by_call key payload call answer settled ∷ turns) last more right other m = (right.0, right.1, right.2, more_behind_all turns last more right.3 other m)
  more_behind_all (found_none answer ∷ turns) last more right other m = (right.0, more_behind_all turns last more right.1 other m)
  more_behind_all (stopped key payload call answer ∷ turns) last more right other m = absurd (none turns right.2)
    where
      none : (turns : List PoolTurn) → turns ++ last ∷ [] ≡ [] → ⊥
      none [] e = nil-cons last [] (sym e)
      none (x ∷ xs) e = nil-cons x (xs ++ last ∷ []) (sym e)

  -- no call is of no turns
  pub at_work_first : HasMadeTurns desk []
  at_work_first = record { turns = []; right = λ more h. h; calls = refl }

  module _ (old new : List StepCall) (turn : Turn) (work : HasMadeTurns desk old) where
    -- what a turn leaves
    pub of_turns : AddsTurn desk old new turn → OfTurns (desk_rules desk) (asks_made new)
    of_turns a = (
      work.turns ++ a.made ∷ [],
      work.right (a.made ∷ []) a.right,
      a.calls ∙ (ap (λ (l : List AskedSo). l ++ asked a.made) work.calls ∙ flat_map_more asked [] work.turns a.made),
    )

    pub at_work_behind : AddsTurn desk old new turn → turn ≢ Journal → HasMadeTurns desk new
    at_work_behind a other =
        record {
          turns = work.turns ++ a.made ∷ [];
          right = λ more m.
              subst (AreTurns (desk_rules desk)) (sym (append_assoc work.turns (a.made ∷ []) more))
              (work.right (a.made ∷ more) (more_behind a.made more a.right (λ e. other (a.told ∙ e)) m));
          calls = a.calls ∙ (ap (λ (l : List AskedSo). l ++ asked a.made) work.calls ∙ flat_map_more asked [] work.turns a.made);
        }

    -- what a run leaves
    run_calls : (a : AddsRun desk old new turn) → asked_in new ≡ flat_map asked (work.turns ++ (a.before ++ a.last ∷ []))
    run_calls a =
        a.calls ∙ (ap (λ (l : List AskedSo). l ++ flat_map asked (a.before ++ a.last ∷ [])) work.calls ∙ sym (flat_map-append asked work.turns (a.before ++ a.last ∷ [])))

    pub of_run : AddsRun desk old new turn → OfTurns (desk_rules desk) (asks_made new)
    of_run a = (work.turns ++ (a.before ++ a.last ∷ []), work.right (a.before ++ a.last ∷ []) a.right, run_calls a)

    pub at_work_behind_run : AddsRun desk old new turn → turn ≢ Journal → HasMadeTurns desk new
    at_work_behind_run a other =
        record {
          turns = work.turns ++ (a.before ++ a.last ∷ []);
          right = λ more m.
              subst (AreTurns (desk_rules desk)) (sym (append_assoc work.turns (a.before ++ a.last ∷ []) more))
              (work.right ((a.before ++ a.last ∷ []) ++ more)
              (subst (AreTurns (desk_rules desk)) (sym (append_assoc a.before (a.last ∷ []) more)) (more_behind_all a.before a.last more a.right (λ e. other (a.told ∙ e)) m)));
          calls = run_calls a;
        }

  -- A run in its midst: turns were added that don't end it.
  pub record RunsOn (old new : List StepCall) : Type 0 where
    pub turns : List PoolTurn
    pub right : (more : List PoolTurn) → AreTurns (desk_rules desk) more → AreTurns (desk_rules desk) (turns ++ more)
    pub go_on : AllByRecursion (λ (made : PoolTurn). KeepsRunning (turn_told made)) turns
    pub calls : asked_in new ≡ asked_in old ++ flat_map asked turns

  pub runs_first : (old : List StepCall) → RunsOn old old
  runs_first old = record { turns = []; right = λ more m. m; go_on = tt; calls = sym (append-nil (asked_in old)) }

  all_go_on : (turns : List PoolTurn) (made : PoolTurn) → AllByRecursion (λ (x : PoolTurn). KeepsRunning (turn_told x)) turns → KeepsRunning (turn_told made)
      → AllByRecursion (λ (x : PoolTurn). KeepsRunning (turn_told x)) (turns ++ made ∷ [])
  all_go_on [] made all g = (g, tt)
  all_go_on (x ∷ turns) made all g = (all.0, all_go_on turns made all.1 g)

  module _ (old mid new : List StepCall) (turn : Turn) (r : RunsOn old mid) (a : AddsTurn desk mid new turn) where
    longer_calls : asked_in new ≡ asked_in old ++ flat_map asked (r.turns ++ a.made ∷ [])
    longer_calls = a.calls ∙ (ap (λ (l : List AskedSo). l ++ asked a.made) r.calls ∙ flat_map_more asked (asked_in old) r.turns a.made)

    pub runs_next : KeepsRunning turn → RunsOn old new
    runs_next g =
        let go : KeepsRunning (turn_told a.made) = subst KeepsRunning a.told g in
        record {
          turns = r.turns ++ a.made ∷ [];
          right = λ more m.
              subst (AreTurns (desk_rules desk)) (sym (append_assoc r.turns (a.made ∷ []) more))
              (r.right (a.made ∷ more) (more_behind a.made more a.right (λ e. subst KeepsRunning e go) m));
          go_on = all_go_on r.turns a.made r.go_on go;
          calls = longer_calls;
        }

    pub runs_end : EndsRun turn → AddsRun desk old new turn
    runs_end e =
        record { before = r.turns; last = a.made; right = r.right (a.made ∷ []) a.right; go_on = r.go_on; calls = longer_calls; told = a.told; ends = e }
