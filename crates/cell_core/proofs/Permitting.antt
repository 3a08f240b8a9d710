-- What a worker asks in a step, the hall can do: the key of the job in its hand is taken, its call's service is there, and its payload isn't too long.
use Rattle.std.proofs.Common.{◌≡◌, ℕ, ◌<◌, ◌≤◌, ◌^◌, true, Some, List, [], ◌∷◌, ◌++◌, length, refl, sym, ap, ◌∙◌, subst, inr, arith}
use Rattle.streams.specs.declared.outcomes.Settled.TheVariants.{NoMemory}
use Rattle.host_model.specs.declared.key.Key.{Key}
use Rattle.host_model.specs.Frames.{IsPayload, ArePayloads}
use Rattle.host_model.specs.Journal.{entries_of}
use Rattle.host_model.specs.DeskRules.{Invoke}
use Rattle.host_model.proofs.Runs.{stands}
use Rattle.call_rules.specs.PlainCalls.{PlainCall, PlainAnswer}
use Rattle.call_rules.specs.Desks.{DeskMeaning, IsDesk, longest_payload}
use Rattle.call_rules.specs.Entries.{CallEntry}
use Rattle.call_rules.specs.Handling.{handler_rules}
use Rattle.machine_model.specs.HallState.{has_key}
use Rattle.machine_model.specs.HallRule.{HallOperation, apply, put, HallAnswer, done}
use Rattle.machine_model.specs.OwnCalls.{HallCan}
use Rattle.machine_model.specs.SeenHall.{SeenCan}
use Rattle.machine_model.specs.Worker.{idle, holds, has_answer, has_none, tried, key_held, WorkerAsks}
use Rattle.machine_model.specs.Bounds.{HasItsService}
use Rattle.machine_model.specs.Places.{PayloadPlace, held_by, jobs_of, outcomes_of, Carries, PayloadIsAt, CellKeeps}
use Rattle.machine_model.proofs.Fitting.{worker_can}
use Rattle.machine_model.proofs.Running.{keeps}
use Rattle.hall_core.specs.Meant.{ServedHall}
use Rattle.cell_loop.specs.Settings.{CellSetting, ServedPlay, PlainWorker, desk_of_setting}
use Rattle.cell_loop.specs.Reached.{IsReached}
use Rattle.cell_core.specs.declared.worker.Holding.{Holding}
use Rattle.cell_core.specs.HallTied.{plain_worker}
use Rattle.cell_core.specs.TurnMoves.{MayTurn}
use Rattle.cell_core.proofs.HallTying.{same_taken, same_memories}

-- the payload of the job that a worker holds
abbrev pub payload_held : PlainWorker → List ℕ
payload_held idle = []
payload_held (holds key payload) = payload
payload_held (has_answer key payload answer) = payload
payload_held (has_none key payload) = payload

-- of payloads the last is one
last_is_one : (max : ℕ) (before : List (List ℕ)) (p : List ℕ) → ArePayloads max (before ++ p ∷ []) → IsPayload max p
last_is_one max [] p all = all.0
last_is_one max (first ∷ before) p all = last_is_one max before p all.1

-- what a worker carries is the last payload of its connection
is_last : (s : CellSetting) (es : List CallEntry) (key : Key) (before : List (List ℕ)) (p : List ℕ) (state : PlainWorker) → Carries (desk_of_setting s) es key before p state
    → payload_held state ≡ p
is_last s es key before p idle carries = absurd carries
is_last s es key before p (holds k payload) carries = carries.1
is_last s es key before p (has_answer k payload answer) carries = carries.1
is_last s es key before p (has_none k payload) carries = carries.1

module _ (s : CellSetting) (play : ServedPlay) (reached : IsReached s play) where
  small : s.desk.max_frame < 2 ^ 31
  small = let within : s.desk.max_frame ≤ longest_payload = reached.max in omega arith

  -- what holds of a cell that is reached
  pub cell_kept : CellKeeps (desk_of_setting s) handler_rules s.opening play.cell
  cell_kept =
      keeps (desk_of_setting s) handler_rules s.opening (λ acts world w. stands (desk_of_setting s) handler_rules s.opening acts world small w) small
      reached.run.first play.cell reached.run.events reached.run.is_first reached.run.lead

  -- a worker's payload there isn't too long
  payload_short : (w : ℕ) (key : Key) → key_held (play.cell.workers w) ≡ Some key → length (payload_held (play.cell.workers w)) ≤ longest_payload
  payload_short w key held =
      let at_worker : (key.c < play.cell.loop.count) × (cell_kept.place key.c ≡ held_by w) = cell_kept.workers w key held in
      let es : List CallEntry = entries_of key.c play.cell.hall.journal in
      let at : PayloadIsAt (desk_of_setting s) play.cell.workers (jobs_of key.c play.cell.hall.jobs) (outcomes_of key.c play.cell.hall.outcomes) es key.c (play.cell.loop.conns key.c) (held_by w) =
      subst (λ (place : PayloadPlace). PayloadIsAt (desk_of_setting s) play.cell.workers (jobs_of key.c play.cell.hall.jobs) (outcomes_of key.c play.cell.hall.outcomes) es key.c (play.cell.loop.conns key.c) place)
      at_worker.1 (cell_kept.at key.c at_worker.0) in
      let all : ArePayloads s.desk.max_frame (at.0 ++ at.1 ∷ []) = subst (ArePayloads s.desk.max_frame) at.2.last (cell_kept.frames key.c at_worker.0).each in
      let within : length at.1 ≤ s.desk.max_frame = (last_is_one s.desk.max_frame at.0 at.1 all).within in
      let same : length (payload_held (play.cell.workers w)) ≡ length at.1 = ap length (is_last s es _ at.0 at.1 (play.cell.workers w) at.6) in
      let most : s.desk.max_frame ≤ longest_payload = reached.max in
      omega arith

  -- what a worker asks there, the hall can do
  can_ask : (w : ℕ) (op : HallOperation PlainCall) (answer : HallAnswer PlainAnswer) (next : PlainWorker) → HasItsService (desk_of_setting s) handler_rules (length s.opening)
      → WorkerAsks (desk_of_setting s) (play.cell.workers w) op answer next → HallCan handler_rules play.cell.hall op
  can_ask w op answer next services asks =
      worker_can (desk_of_setting s) handler_rules s.opening (λ acts world h. stands (desk_of_setting s) handler_rules s.opening acts world small h) small
      reached.run.first play.cell reached.run.events reached.run.is_first reached.run.lead w op answer next services asks

module _ (desk : DeskMeaning) (is_desk : IsDesk desk) (hall : ServedHall) (worker : Holding) (may : MayTurn desk hall worker) where
  -- the services of its calls are there
  has_services : HasItsService (desk_of_setting may.setting) handler_rules (length may.setting.opening)
  has_services payload call decided =
      subst (λ n. call.slot < n) may.slots (is_desk.in_slots payload call (ap (λ (x : DeskMeaning). x.decide payload) (sym may.desk_is) ∙ decided))

  pub held_short : (key : Key) → key_held (plain_worker worker) ≡ Some key → length (payload_held (plain_worker worker)) ≤ longest_payload
  held_short key held =
      subst (λ (x : PlainWorker). length (payload_held x) ≤ longest_payload) may.holds
      (payload_short may.setting may.play may.reached may.w key (ap key_held may.holds ∙ held))

  pub put_can : (key : Key) → key_held (plain_worker worker) ≡ Some key → has_key key hall.taken ≡ true
  put_can key held =
      let can : has_key key may.play.cell.hall.taken ≡ true =
      can_ask may.setting may.play may.reached may.w (put key NoMemory) done idle has_services ((ap key_held may.holds ∙ held, inr refl), refl) in
      ap (has_key key) (sym (same_taken hall may.play.cell.hall may.hall_tied)) ∙ can

  pub apply_can : (key : Key) (payload : List ℕ) (call : PlainCall) → plain_worker worker ≡ holds key payload → desk.decide payload ≡ Invoke call
      → SeenCan handler_rules hall (apply key call)
  apply_can key payload call held decided =
      let can : (has_key key may.play.cell.hall.taken ≡ true) × (call.slot < length may.play.cell.hall.memories) =
      can_ask may.setting may.play may.reached may.w (apply key call) done (tried key payload done) has_services
      (payload, may.holds ∙ held, ap (λ (x : DeskMeaning). x.decide payload) may.desk_is ∙ decided, refl) in (
        ap (has_key key) (sym (same_taken hall may.play.cell.hall may.hall_tied)) ∙ can.0,
        subst (λ n. call.slot < n) (ap length (same_memories hall may.play.cell.hall may.hall_tied)) can.1,
      )
