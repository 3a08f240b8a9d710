-- A worker's step in memory is a move of each play that it is tied to.
use Rattle.std.proofs.Common.{◌≡◌, ℕ, suc, ◌≤◌, ◌⊎◌, Bool, true, Option, None, Some, List, [], ◌∷◌, ◌++◌, slice_get, refl, sym, ap, ◌∙◌, subst, inl, inr, option_map, if◌then◌else◌, arith}
use Rattle.std.specs.Prelude.{MatchOption}
use Rattle.std.proofs.lemmas.Bool.{true≢false}
use Rattle.std.proofs.lemmas.Option.{none-some, same_Some}
use Rattle.streams.specs.Cause.{Rose}
use Rattle.streams.specs.declared.outcomes.Settled.{Settled}
use Rattle.streams.specs.declared.outcomes.Settled.TheVariants.{NoMemory}
use Rattle.host_model.specs.declared.key.Key.{Key}
use Rattle.host_model.specs.Journal.{after_call}
use Rattle.host_model.specs.DeskRules.{DeskDecision, Close, Silent, Reply, Invoke}
use Rattle.call_rules.specs.PlainCalls.{PlainCall, PlainAnswer}
use Rattle.call_rules.specs.Entries.{CallEntry}
use Rattle.call_rules.specs.Handling.{ServiceState, handler_rules}
use Rattle.machine_model.specs.HallState.{Job, JobOutcome, without}
use Rattle.machine_model.specs.HallRule.{HallOperation, submit, take_job, apply, put, collect, close, HallAnswer, done, job, empty, is_closed, applied, no_memory, journal_fault, is_broken, job_of, outcome_of, entry_under, TakesEffect}
use Rattle.machine_model.specs.Worker.{idle, holds, has_answer, has_none, settled_by, settlement, key_held, SettlesAs, WorkerAsks}
use Rattle.machine_model.specs.Machine.{with_worker, puts, takes, applies}
use Rattle.machine_model.specs.Plain.{ApplyResult, answers, lacks_for_call, lacks_for_answer, Told, goes, applies_so, puts_none, take_plain, apply_result_plain, broken_plain, call_plain, apply_plain, outcome_plain, put_plain, lack_plain, told_plain}
use Rattle.machine_model.specs.SeenHall.{MayHave, filled, SeenGives}
use Rattle.script_model.specs.Playing.{MemoryAt, ample, lacking, lacking_for_call, lacking_for_answer, event_on, or_else, told_without, told_wanting, by_memory, told_in, step_of_worker, worker_move}
use Rattle.hall_core.specs.Meant.{ServedHall}
use Rattle.cell_core.specs.declared.worker.Holding.{Holding}
use Rattle.cell_core.specs.declared.turn.Stepped.TheVariants.{Moves}
use Rattle.cell_loop.specs.Settings.{CellSetting, ServedCell, ServedPlay, HallInCell, PlainWorker, desk_of_setting}
use Rattle.cell_loop.specs.Moving.{Doing, ComesTo, HasNoMove, one_of_worker}
use Rattle.cell_core.specs.HallTied.{IsHallTied, plain_worker, KnowsItsCall}
use Rattle.cell_loop.specs.Replies.{IsReplySome}
use Rattle.cell_core.specs.TurnMoves.{TurnMakes}
use Rattle.cell_core.specs.Turns.{IsAskedInTurn, stepped_by}
use Rattle.cell_core.proofs.HallTying.{AreRepliesSome, GivesFrom, gives_from, same_jobs, same_memories, still_open, still_whole, step_tied, same_replies}

-- one move, which asks what memory is like at its own number alone
pub one_move : (f : Doing) (old new : ServedPlay) (at : MemoryAt) → new.moves ≡ suc old.moves
    → ((passes enough : ℕ) (memory : ℕ → MemoryAt) → memory old.moves ≡ at → f passes enough memory old ≡ Some new) → ComesTo f old new
one_move f old new at moved leads =
    record { memories = at ∷ []; counted = (let m : new.moves ≡ suc old.moves = moved in omega arith); fuel = 0; leads = λ passes enough memory p e so. leads passes enough memory so.0 }

-- outcomes with one more behind them
replies_push : (outcomes : List JobOutcome) (o : JobOutcome) → AreRepliesSome outcomes → IsReplySome o.settled → AreRepliesSome (outcomes ++ o ∷ [])
replies_push [] o all some = (some, tt)
replies_push (x ∷ outcomes) o all some = (all.0, replies_push outcomes o all.1 some)

-- a service that is there
answered_by : (o : Option ServiceState) (P : ServiceState → Type 0) → MatchOption o ⊥ P → (m : ServiceState) × (o ≡ Some m) × P m
answered_by None P h = absurd h
answered_by (Some m) P h = (m, refl, h)

module _ (s : CellSetting) (w : ℕ) (play : ServedPlay) (old new : ServedHall) (worker : Holding) (tied : IsHallTied old play.cell.hall) where
  -- the cell once the worker has made its step, and the play then
  abbrev cell_with : HallInCell → PlainWorker → ServedCell
  cell_with hall state = record play.cell { hall = hall; workers = with_worker play.cell.workers w state }

  abbrev play_with : ℕ → HallInCell → PlainWorker → ServedPlay
  play_with wants hall state = record play { cell = cell_with hall state; moves = suc play.moves; wants = wants }

  -- the worker's move where memory is so comes to this play
  abbrev MovesTo : MemoryAt → ServedPlay → Type 0
  MovesTo at next = (memory : ℕ → MemoryAt) → memory play.moves ≡ at → worker_move (desk_of_setting s) handler_rules memory w play ≡ Some next

  made : (at : MemoryAt) (wants : ℕ) (hall : HallInCell) (state : PlainWorker) → plain_worker worker ≡ state → KnowsItsCall s.desk worker → IsHallTied new hall
      → MovesTo at (play_with wants hall state) → TurnMakes s w play old new worker Moves
  made at wants hall state is known tied_then leads = (
    play_with wants hall state,
    one_move (one_of_worker s w) play (play_with wants hall state) at refl (λ passes enough memory so. leads memory so),
    (tied_then, known, ap (λ (x : PlainWorker). cell_with hall x) (sym is), refl, refl, refl, refl),
  )

  -- what is told comes to a play, where memory is ample and where it isn't
  told_so : (told : Told) (cell : ServedCell) → told_plain (desk_of_setting s) handler_rules play.cell told ≡ Some cell
      → told_in (desk_of_setting s) handler_rules play told ≡ Some (record play { cell = cell; moves = suc play.moves })
  told_so told cell e = ap (option_map (λ (c : ServedCell). record play { cell = c; moves = suc play.moves })) e

  wanting_so : (told : Told) (cell : ServedCell) (o : Option ServedPlay) → told_plain (desk_of_setting s) handler_rules play.cell told ≡ Some cell
      → or_else (told_wanting (desk_of_setting s) handler_rules play told) o ≡ Some (record play { cell = cell; moves = suc play.moves; wants = suc play.wants })
  wanting_so told cell o e =
      ap (λ (x : Option ServedCell). or_else (option_map (λ (c : ServedCell). record play { cell = c; moves = suc play.moves; wants = suc play.wants }) x) o) e

  -- the move of a worker that holds a job, where memory is so and this is decided
  holding : (key : Key) (payload : List ℕ) (decision : DeskDecision PlainCall) (memory : ℕ → MemoryAt) (at : MemoryAt) → play.cell.workers w ≡ holds key payload → s.desk.decide payload ≡ decision
      → memory play.moves ≡ at → worker_move (desk_of_setting s) handler_rules memory w play
      ≡ by_memory (desk_of_setting s) handler_rules at play (told_without (desk_of_setting s) handler_rules w at decision)
      (told_in (desk_of_setting s) handler_rules play (goes (event_on (desk_of_setting s) handler_rules w decision)))
  holding key payload decision memory at e q m =
      ap (λ (x : PlainWorker). step_of_worker (desk_of_setting s) handler_rules memory play w x play.cell.hall.jobs) e
      ∙ (λ i. by_memory (desk_of_setting s) handler_rules (m i) play (told_without (desk_of_setting s) handler_rules w (m i) (q i))
      (told_in (desk_of_setting s) handler_rules play (goes (event_on (desk_of_setting s) handler_rules w (q i)))))

  -- A job is taken, the oldest one.
  takes_job : (key : Key) (payload : List ℕ) (later : List Job) (entries : List CallEntry) → play.cell.workers w ≡ idle → plain_worker worker ≡ holds key payload → KnowsItsCall s.desk worker
      → MayHave new.told entries → old.jobs ≡ job_of key payload ∷ later
      → filled new entries ≡ record (filled old play.cell.hall.journal) { jobs = later; taken = old.taken ++ key ∷ [] } → TurnMakes s w play old new worker Moves
  takes_job key payload later entries e h known may jobs gives =
      let hall : HallInCell = record play.cell.hall { jobs = later; taken = play.cell.hall.taken ++ key ∷ [] } in
      let tied_then : IsHallTied new hall =
      step_tied old play.cell.hall tied new (λ (x : HallInCell). record x { jobs = later; taken = x.taken ++ key ∷ [] }) old.faults entries may gives (λ n. refl)
      (still_open old play.cell.hall tied) (still_whole old play.cell.hall tied) (same_replies old play.cell.hall tied) in
      let own : play.cell.hall.jobs ≡ job_of key payload ∷ later = same_jobs old play.cell.hall tied ∙ jobs in
      made ample play.wants hall (holds key payload) h known tied_then
      (λ memory so. (λ i. step_of_worker (desk_of_setting s) handler_rules memory play w (e i) (own i))
      ∙ told_so (goes (takes w)) (cell_with hall (holds key payload)) (λ i. take_plain play.cell w (e i) (own i)))

  -- There is no job.
  rests : old.jobs ≡ [] → play.cell.workers w ≡ idle → HasNoMove (one_of_worker s w) play
  rests jobs e passes enough memory =
      let own : play.cell.hall.jobs ≡ [] = same_jobs old play.cell.hall tied ∙ jobs in
      λ i. step_of_worker (desk_of_setting s) handler_rules memory play w (e i) (own i)

  -- Nothing is changed but for the count of faults.
  same_hall : (faults : ℕ) (entries : List CallEntry) → MayHave new.told entries → filled new entries ≡ record (filled old play.cell.hall.journal) { faults = faults } → IsHallTied new play.cell.hall
  same_hall faults entries may gives =
      step_tied old play.cell.hall tied new (λ (x : HallInCell). x) faults entries may gives (λ n. refl)
      (still_open old play.cell.hall tied) (still_whole old play.cell.hall tied) (same_replies old play.cell.hall tied)

  -- An Apply of the job in the hand, whose call this is.
  module _ (key : Key) (payload : List ℕ) (call : PlainCall) (e : play.cell.workers w ≡ holds key payload) (q : s.desk.decide payload ≡ Invoke call) where
    applied_so : (result : ApplyResult) → apply_plain (desk_of_setting s) handler_rules play.cell w result (play.cell.workers w)
        ≡ apply_result_plain handler_rules play.cell w key payload call result (slice_get play.cell.hall.memories call.slot)
    applied_so result =
        ap (λ (x : PlainWorker). apply_plain (desk_of_setting s) handler_rules play.cell w result x) e
        ∙ ap (λ (x : DeskDecision PlainCall). call_plain handler_rules play.cell w key payload result x) q
        ∙ ap (λ (b : Bool). if b then broken_plain play.cell w key payload result else apply_result_plain handler_rules play.cell w key payload call result (slice_get play.cell.hall.memories call.slot))
        (still_whole old play.cell.hall tied)

    -- the hall once the call has taken effect
    abbrev effected : PlainAnswer → HallInCell → HallInCell
    effected answer x = record x { journal = x.journal ++ entry_under key call answer ∷ []; memories = after_call handler_rules x.memories call }

    effect_tied : (answer : PlainAnswer) (faults : ℕ) (entries : List CallEntry) → MayHave new.told entries → TakesEffect handler_rules (filled old play.cell.hall.journal) key call answer faults (filled new entries)
        → IsHallTied new (effected answer play.cell.hall)
    effect_tied answer faults entries may effect =
        step_tied old play.cell.hall tied new (effected answer) faults entries may effect.1 (λ n. refl)
        (still_open old play.cell.hall tied) (still_whole old play.cell.hall tied) (same_replies old play.cell.hall tied)

    -- the service that has answered
    service_of : (answer : PlainAnswer) (faults : ℕ) (entries : List CallEntry) → TakesEffect handler_rules (filled old play.cell.hall.journal) key call answer faults (filled new entries)
        → (m : ServiceState) × (slice_get play.cell.hall.memories call.slot ≡ Some m) × (answer ≡ (handler_rules.rule call m).0)
    service_of answer faults entries effect =
        let t : (m : ServiceState) × (slice_get old.memories call.slot ≡ Some m) × (answer ≡ (handler_rules.rule call m).0) =
        answered_by (slice_get old.memories call.slot) (λ m. answer ≡ (handler_rules.rule call m).0) effect.0 in
        (t.0, ap (λ (ms : List ServiceState). slice_get ms call.slot) (same_memories old play.cell.hall tied) ∙ t.1, t.2)

    -- It is answered.
    answers_it : (answer : PlainAnswer) (faults : ℕ) (entries : List CallEntry) → MayHave new.told entries
        → TakesEffect handler_rules (filled old play.cell.hall.journal) key call answer faults (filled new entries)
        → plain_worker worker ≡ has_answer key payload answer → KnowsItsCall s.desk worker → TurnMakes s w play old new worker Moves
    answers_it answer faults entries may effect h known =
        let service : (m : ServiceState) × (slice_get play.cell.hall.memories call.slot ≡ Some m) × (answer ≡ (handler_rules.rule call m).0) = service_of answer faults entries effect in
        made ample play.wants (effected answer play.cell.hall) (has_answer key payload answer) h known (effect_tied answer faults entries may effect)
        (λ memory so. holding key payload (Invoke call) memory ample e q so
        ∙ told_so (goes (applies w)) (cell_with (effected answer play.cell.hall) (has_answer key payload answer))
        (applied_so answers ∙ ap (apply_result_plain handler_rules play.cell w key payload call answers) service.1
        ∙ ap (λ (a : PlainAnswer). Some (cell_with (effected a play.cell.hall) (has_answer key payload a))) (sym service.2)))

    -- There was no memory before its service has answered.
    lacks_before : (faults : ℕ) (entries : List CallEntry) → MayHave new.told entries → filled new entries ≡ record (filled old play.cell.hall.journal) { faults = faults }
        → plain_worker worker ≡ has_none key payload → KnowsItsCall s.desk worker → TurnMakes s w play old new worker Moves
    lacks_before faults entries may gives h known =
        made lacking_for_call (suc play.wants) play.cell.hall (has_none key payload) h known (same_hall faults entries may gives)
        (λ memory so. holding key payload (Invoke call) memory lacking_for_call e q so
        ∙ wanting_so (applies_so w lacks_for_call) (cell_with play.cell.hall (has_none key payload)) (told_in (desk_of_setting s) handler_rules play (goes (applies w)))
        (applied_so lacks_for_call))

    -- There was none for the copy of its answer.
    lacks_behind : (answer : PlainAnswer) (faults : ℕ) (entries : List CallEntry) → MayHave new.told entries
        → TakesEffect handler_rules (filled old play.cell.hall.journal) key call answer faults (filled new entries)
        → plain_worker worker ≡ has_none key payload → KnowsItsCall s.desk worker → TurnMakes s w play old new worker Moves
    lacks_behind answer faults entries may effect h known =
        let service : (m : ServiceState) × (slice_get play.cell.hall.memories call.slot ≡ Some m) × (answer ≡ (handler_rules.rule call m).0) = service_of answer faults entries effect in
        made lacking_for_answer (suc play.wants) (effected answer play.cell.hall) (has_none key payload) h known (effect_tied answer faults entries may effect)
        (λ memory so. holding key payload (Invoke call) memory lacking_for_answer e q so
        ∙ wanting_so (applies_so w lacks_for_answer) (cell_with (effected answer play.cell.hall) (has_none key payload)) (told_in (desk_of_setting s) handler_rules play (goes (applies w)))
        (applied_so lacks_for_answer ∙ ap (apply_result_plain handler_rules play.cell w key payload call lacks_for_answer) service.1
        ∙ ap (λ (a : PlainAnswer). Some (cell_with (effected a play.cell.hall) (has_none key payload))) (sym service.2)))

    -- The journal has failed.
    fails_it : (faults : ℕ) (entries : List CallEntry) → MayHave new.told entries → Rose old.faults faults
        → filled new entries ≡ record (filled old play.cell.hall.journal) { memories = after_call handler_rules old.memories call; faults = faults; broken = true }
        → plain_worker worker ≡ has_none key payload → TurnMakes s w play old new worker (stepped_by (apply key call) journal_fault)
    fails_it faults entries may rose gives h =
        let hall : HallInCell = record play.cell.hall { memories = after_call handler_rules play.cell.hall.memories call; faults = suc play.cell.hall.faults; broken = true } in
        let grown : play.cell.hall.faults ≤ suc play.cell.hall.faults = omega arith in (
          cell_with hall (has_none key payload),
          (
            key,
            call,
            (
              journal_fault,
              has_none key payload,
              hall,
              (payload, e, q, refl),
              (suc play.cell.hall.faults, grown, (still_whole old play.cell.hall tied, omega arith, refl), tt),
              refl,
            ),
          ),
          refl,
          record {
            told = subst (MayHave new.told) (ap (λ (x : HallInCell). x.journal) gives) may;
            memories = ap (λ (ms : List ServiceState). after_call handler_rules ms call) (same_memories old play.cell.hall tied) ∙ sym (ap (λ (x : HallInCell). x.memories) gives);
            torn = ap (λ (x : HallInCell). x.broken) gives;
            rose = subst (Rose old.faults) (sym (ap (λ (x : HallInCell). x.faults) gives)) rose;
          },
        )

  -- The outcome of the job in the hand is put.
  abbrev with_put : Key → Settled → HallInCell → HallInCell
  with_put key settled x = record x { taken = without key x.taken; outcomes = x.outcomes ++ outcome_of key settled ∷ [] }

  -- an outcome that is put under a key comes to this cell
  abbrev put_cell : Key → Settled → ServedCell
  put_cell key settled = cell_with (with_put key settled play.cell.hall) idle

  -- the key of a worker that holds a job
  same_key : (key k : Key) (state : PlainWorker) → play.cell.workers w ≡ state → key_held state ≡ Some k → key_held (play.cell.workers w) ≡ Some key → k ≡ key
  same_key key k state e held h = same_Some k key (sym held ∙ sym (ap key_held e) ∙ h)

  -- what is decided without a call is put
  event_puts : (settled : Settled) (decision : DeskDecision PlainCall) → settled_by decision ≡ Some settled → event_on (desk_of_setting s) handler_rules w decision ≡ puts w
  event_puts settled (Close fault) e = refl
  event_puts settled Silent e = refl
  event_puts settled (Reply reply) e = refl
  event_puts settled (Invoke call) e = absurd (none-some settled e)

  -- where memory runs out, want of memory is put
  lack_puts : (decision : DeskDecision PlainCall) → told_without (desk_of_setting s) handler_rules w lacking decision ≡ puts_none w
  lack_puts (Close fault) = refl
  lack_puts Silent = refl
  lack_puts (Reply reply) = refl
  lack_puts (Invoke call) = refl

  module _ (key : Key) (settled : Settled) (held : key_held (play.cell.workers w) ≡ Some key) (tied_then : IsHallTied new (with_put key settled play.cell.hall)) (h : plain_worker worker ≡ idle)
      (known : KnowsItsCall s.desk worker) where
    -- a job is settled so
    settles : (k : Key) (payload : List ℕ) (state : PlainWorker) → play.cell.workers w ≡ state → k ≡ key → settlement (desk_of_setting s) state ≡ Some settled
        → outcome_plain play.cell w k (settlement (desk_of_setting s) state) ≡ Some (put_cell key settled)
    settles k payload state e same so = ap (outcome_plain play.cell w k) so ∙ ap (λ (x : Key). Some (put_cell x settled)) same

    puts_lack : settled ≡ NoMemory → told_plain (desk_of_setting s) handler_rules play.cell (puts_none w) ≡ Some (put_cell key settled)
    puts_lack lack = ap (lack_plain play.cell w) held ∙ ap (λ (x : Settled). Some (put_cell key x)) (sym lack)

    puts_it : (state : PlainWorker) → play.cell.workers w ≡ state → (settlement (desk_of_setting s) state ≡ Some settled) ⊎ (settled ≡ NoMemory) → TurnMakes s w play old new worker Moves
    puts_it idle e so = absurd (none-some key (sym (ap key_held e) ∙ held))
    puts_it (holds k payload) e (inl so) =
        made ample play.wants (with_put key settled play.cell.hall) idle h known tied_then
        (λ memory at. holding k payload (s.desk.decide payload) memory ample e refl at
        ∙ ap (λ x. told_in (desk_of_setting s) handler_rules play (goes x)) (event_puts settled (s.desk.decide payload) so)
        ∙ told_so (goes (puts w)) (put_cell key settled)
        (ap (put_plain (desk_of_setting s) play.cell w) e ∙ settles k payload (holds k payload) e (same_key key k (holds k payload) e refl held) so))
    puts_it (holds k payload) e (inr lack) =
        made lacking (suc play.wants) (with_put key settled play.cell.hall) idle h known tied_then
        (λ memory at. holding k payload (s.desk.decide payload) memory lacking e refl at
        ∙ ap (λ x. or_else (told_wanting (desk_of_setting s) handler_rules play x)
        (told_in (desk_of_setting s) handler_rules play (goes (event_on (desk_of_setting s) handler_rules w (s.desk.decide payload))))) (lack_puts (s.desk.decide payload))
        ∙ wanting_so (puts_none w) (put_cell key settled) _ (puts_lack lack))
    puts_it (has_answer k payload answer) e (inl so) =
        made ample play.wants (with_put key settled play.cell.hall) idle h known tied_then
        (λ memory at. ap (λ (x : PlainWorker). step_of_worker (desk_of_setting s) handler_rules memory play w x play.cell.hall.jobs) e
        ∙ ap (λ (x : MemoryAt). by_memory (desk_of_setting s) handler_rules x play (puts_none w) (told_in (desk_of_setting s) handler_rules play (goes (puts w)))) at
        ∙ told_so (goes (puts w)) (put_cell key settled)
        (ap (put_plain (desk_of_setting s) play.cell w) e ∙ settles k payload (has_answer k payload answer) e (same_key key k (has_answer k payload answer) e refl held) so))
    puts_it (has_answer k payload answer) e (inr lack) =
        made lacking (suc play.wants) (with_put key settled play.cell.hall) idle h known tied_then
        (λ memory at. ap (λ (x : PlainWorker). step_of_worker (desk_of_setting s) handler_rules memory play w x play.cell.hall.jobs) e
        ∙ ap (λ (x : MemoryAt). by_memory (desk_of_setting s) handler_rules x play (puts_none w) (told_in (desk_of_setting s) handler_rules play (goes (puts w)))) at
        ∙ wanting_so (puts_none w) (put_cell key settled) _ (puts_lack lack))
    puts_it (has_none k payload) e (inl so) = absurd (none-some settled so)
    puts_it (has_none k payload) e (inr lack) =
        made ample play.wants (with_put key settled play.cell.hall) idle h known tied_then
        (λ memory at. ap (λ (x : PlainWorker). step_of_worker (desk_of_setting s) handler_rules memory play w x play.cell.hall.jobs) e
        ∙ told_so (puts_none w) (put_cell key settled) (puts_lack lack))

  -- the outcomes with one more
  more_replies : (key : Key) (settled : Settled) → IsAskedInTurn (put key settled) → AreRepliesSome (play.cell.hall.outcomes ++ outcome_of key settled ∷ [])
  more_replies key settled some = replies_push play.cell.hall.outcomes (outcome_of key settled) (same_replies old play.cell.hall tied) some

  put_makes : (key : Key) (settled : Settled) (answer : HallAnswer PlainAnswer) (entries : List CallEntry) → IsAskedInTurn (put key settled)
      → GivesFrom old play.cell.hall (put key settled) answer new entries → SettlesAs (desk_of_setting s) (play.cell.workers w) key settled → plain_worker worker ≡ idle → KnowsItsCall s.desk worker
      → TurnMakes s w play old new worker Moves
  put_makes key settled done entries some gives so h known =
      puts_it key settled so.0
      (step_tied old play.cell.hall tied new (with_put key settled) old.faults entries gives.0 gives.1 (λ n. refl) (still_open old play.cell.hall tied) (still_whole old play.cell.hall tied)
      (more_replies key settled some)) h known (play.cell.workers w) refl so.1
  put_makes key settled _ entries some gives so h known = absurd gives.1

  apply_makes : (key : Key) (call : PlainCall) (answer : HallAnswer PlainAnswer) (entries : List CallEntry) → GivesFrom old play.cell.hall (apply key call) answer new entries
      → WorkerAsks (desk_of_setting s) (play.cell.workers w) (apply key call) answer (plain_worker worker) → KnowsItsCall s.desk worker
      → TurnMakes s w play old new worker (stepped_by (apply key call) answer)
  apply_makes key call (applied answer) entries gives asks known =
      answers_it key asks.0 call asks.1 asks.2 answer gives.1.0 entries gives.0 gives.1.2.1 asks.3 known
  apply_makes key call no_memory entries gives asks known = go gives.1.2.1
    where
      go : (filled new entries ≡ record (filled old play.cell.hall.journal) { faults = gives.1.0 })
          ⊎ ((answer : PlainAnswer) × TakesEffect handler_rules (filled old play.cell.hall.journal) key call answer gives.1.0 (filled new entries)) → TurnMakes s w play old new worker Moves
      go (inl same) = lacks_before key asks.0 call asks.1 asks.2 gives.1.0 entries gives.0 same asks.3 known
      go (inr effect) = lacks_behind key asks.0 call asks.1 asks.2 effect.0 gives.1.0 entries gives.0 effect.1 asks.3 known
  apply_makes key call journal_fault entries gives asks known = fails_it key asks.0 call asks.1 asks.2 gives.1.0 entries gives.0 gives.1.2.1 gives.1.2.2 asks.3
  apply_makes key call is_broken entries gives asks known = absurd (true≢false (sym gives.1.2.0 ∙ tied.whole))
  apply_makes key call _ entries gives asks known = absurd gives.1.2

  take_makes : (answer : HallAnswer PlainAnswer) (entries : List CallEntry) → GivesFrom old play.cell.hall take_job answer new entries
      → WorkerAsks (desk_of_setting s) (play.cell.workers w) take_job answer (plain_worker worker) → KnowsItsCall s.desk worker
      → TurnMakes s w play old new worker (stepped_by take_job answer)
  take_makes (job key payload) entries gives asks known = takes_job key payload gives.1.0 entries asks.0 asks.1 known gives.0 gives.1.1 gives.1.2
  take_makes empty entries gives asks known =
      (rests gives.1.0 asks.0, same_hall old.faults entries gives.0 gives.1.2, asks.0 ∙ sym asks.1, known)
  take_makes is_closed entries gives asks known =
      (rests gives.1.0 asks.0, same_hall old.faults entries gives.0 gives.1.2, asks.0 ∙ sym asks.1, known)
  take_makes _ entries gives asks known = absurd gives.1

  -- A step is a move, or there is none, or the journal has failed.
  pub turn_makes : (op : HallOperation PlainCall) (answer : HallAnswer PlainAnswer) → IsAskedInTurn op → SeenGives handler_rules old op answer new
      → WorkerAsks (desk_of_setting s) (play.cell.workers w) op answer (plain_worker worker) → KnowsItsCall s.desk worker → TurnMakes s w play old new worker (stepped_by op answer)
  turn_makes take_job answer some g asks known = let t = gives_from old new play.cell.hall take_job answer tied g in take_makes answer t.0 t.1 asks known
  turn_makes (apply key call) answer some g asks known =
      let t = gives_from old new play.cell.hall (apply key call) answer tied g in apply_makes key call answer t.0 t.1 asks known
  turn_makes (put key settled) answer some g asks known =
      let t = gives_from old new play.cell.hall (put key settled) answer tied g in put_makes key settled answer t.0 some t.1 asks.0 asks.1 known
  turn_makes (submit key payload) answer some g asks known = absurd some
  turn_makes collect answer some g asks known = absurd some
  turn_makes close answer some g asks known = absurd some
