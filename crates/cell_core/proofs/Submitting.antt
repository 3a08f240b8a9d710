-- The hall can take the payload that the loop's part hands out, and takes it: it is a job more, the newest.
use Rattle.std.proofs.Common.{◌≡◌, ℕ, ◌<◌, ◌≤◌, ◌^◌, Some, List, [], ◌∷◌, ◌++◌, slice_get, refl, sym, ◌∙◌, subst, arith}
use Rattle.std.proofs.lemmas.Bool.{true≢false}
use Rattle.host_model.proofs.Runs.{stands}
use Rattle.call_rules.specs.PlainCalls.{PlainAnswer}
use Rattle.call_rules.specs.Entries.{CallEntry}
use Rattle.call_rules.specs.Handling.{handler_rules}
use Rattle.host_model.specs.declared.key.Key.{Key}
use Rattle.machine_model.specs.HallState.{key_of}
use Rattle.machine_model.specs.HallRule.{submit, HallAnswer, done, is_closed, job_of}
use Rattle.machine_model.specs.Loop.{after_submit}
use Rattle.machine_model.specs.OwnCalls.{HallCan}
use Rattle.machine_model.specs.SeenHall.{SeenGives, SeenCan}
use Rattle.machine_model.proofs.Fitting.{loop_can}
use Rattle.hall_core.specs.Meant.{ServedHall}
use Rattle.cell_loop.specs.Settings.{CellSetting, ServedPlay, HallInCell, desk_of_setting}
use Rattle.cell_loop.specs.Reached.{IsReached}
use Rattle.cell_core.specs.HallTied.{IsHallTied}
use Rattle.cell_core.proofs.HallTying.{GivesFrom, gives_from, still_open, still_whole, step_tied, same_replies}
use Rattle.call_rules.specs.Desks.{longest_payload}

-- What is a payload of a connection that isn't submitted, the hall can take.
pub submit_can : (s : CellSetting) (hall : ServedHall) (play : ServedPlay) (c i : ℕ) (payload : List ℕ) → IsReached s play → IsHallTied hall play.cell.hall
    → c < play.cell.loop.count → (play.cell.loop.conns c).submitted ≡ i → slice_get (play.cell.loop.conns c).payloads i ≡ Some payload
    → SeenCan handler_rules hall (submit (key_of c i) payload)
submit_can s hall play c i payload reached tied there next is =
    let max : s.desk.max_frame ≤ longest_payload = reached.max in
    let small : s.desk.max_frame < 2 ^ 31 = omega arith in
    let can : HallCan handler_rules play.cell.hall (submit (key_of c i) payload) =
    loop_can (desk_of_setting s) handler_rules s.opening (λ acts world runs. stands (desk_of_setting s) handler_rules s.opening acts world small runs) small
    reached.run.first play.cell reached.run.events reached.run.is_first reached.run.lead (submit (key_of c i) payload) done (after_submit {A = PlainAnswer} play.cell.loop c done) max reached.none_left
    (there, sym next, is, refl) in
    subst (λ (h : HallInCell). HallCan handler_rules h (submit (key_of c i) payload)) (sym tied.same) can

-- It is the newest job then.
pub submit_goes : (old new : ServedHall) (hall : HallInCell) (key : Key) (payload : List ℕ) (answer : HallAnswer PlainAnswer) → IsHallTied old hall
    → SeenGives handler_rules old (submit key payload) answer new → IsHallTied new (record hall { jobs = hall.jobs ++ job_of key payload ∷ [] })
submit_goes old new hall key payload answer tied gives =
    let t : (later : List CallEntry) × GivesFrom old hall (submit key payload) answer new later = gives_from old new hall (submit key payload) answer tied gives in go answer t.0 t.1
  where
    go : (answer : HallAnswer PlainAnswer) (later : List CallEntry) → GivesFrom old hall (submit key payload) answer new later
        → IsHallTied new (record hall { jobs = hall.jobs ++ job_of key payload ∷ [] })
    go done later g =
        step_tied old hall tied new (λ (x : HallInCell). record x { jobs = x.jobs ++ job_of key payload ∷ [] }) old.faults later g.0 g.1.1 (λ n. refl)
        (still_open old hall tied) (still_whole old hall tied) (same_replies old hall tied)
    go is_closed later g = absurd (true≢false (sym g.1.0 ∙ tied.unclosed))
    go _ later g = absurd g.1
