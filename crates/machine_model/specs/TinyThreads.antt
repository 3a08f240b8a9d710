-- A small history of the hall with the loop's own order, for an example: two connections and two workers.
use Rattle.std.specs.Prelude.{ℕ, true, None, Some, List, [], ◌∷◌, ◌++◌, slice_get}
use Rattle.streams.specs.declared.outcomes.Settled.TheVariants.{Reply}
use Rattle.streams.specs.declared.marks.Mark.{Mark}
use Rattle.streams.specs.declared.marks.Mark.TheVariants.{Opened, Read, Ended, Wrote, Closed}
use Rattle.host_model.specs.Journal.{after_call}
use Rattle.host_model.specs.TinyDesk.{counting, size_of_one}
use Rattle.machine_model.specs.HallState.{key_of, HallState, without}
use Rattle.machine_model.specs.HallRule.{HallOperation, submit, take_job, apply, put, collect, close, HallAnswer, done, job, is_closed, applied, outcome, job_of, outcome_of, entry_under}
use Rattle.call_history.specs.History.{seat_call}
use Rattle.call_history.specs.Calls.{seat_ask}
use Rattle.machine_model.specs.OwnCalls.{HallCall, HallAsk}
use Rattle.machine_model.specs.Loop.{opens, reads, ends, writes}
use Rattle.machine_model.specs.Merge.{LoopItem, handles, calls}
use Rattle.machine_model.specs.Tiny.{tiny_hall}

-- a seat asked this and had this answer
abbrev pub by : ℕ → HallOperation ℕ → HallAnswer ℕ → HallAsk ℕ ℕ
by seat op answer = seat_ask seat op answer

-- the hall after an operation that was answered so
abbrev pub hall_then : HallState ℕ ℕ ℕ → HallOperation ℕ → HallAnswer ℕ → HallState ℕ ℕ ℕ
hall_then hall (submit key payload) answer = record hall { jobs = hall.jobs ++ job_of key payload ∷ [] }
hall_then hall take_job (job key payload) = elim hall.jobs [ [] ↦ hall | first ∷ later ↦ record hall { jobs = later; taken = hall.taken ++ key ∷ [] } ]
hall_then hall (apply key call) (applied answer) =
    record hall { journal = hall.journal ++ entry_under key call answer ∷ []; memories = after_call counting hall.memories call }
hall_then hall (put key settled) answer =
    record hall { taken = without key hall.taken; outcomes = hall.outcomes ++ outcome_of key settled ∷ [] }
hall_then hall collect answer = elim hall.outcomes [ [] ↦ hall | first ∷ later ↦ record hall { outcomes = later } ]
hall_then hall close answer = record hall { closed = true }
hall_then hall _ _ = hall

-- the history that these make from a hall on
abbrev pub history_of : HallState ℕ ℕ ℕ → List (HallAsk ℕ ℕ) → List (HallCall ℕ ℕ ℕ)
history_of hall [] = []
history_of hall (a ∷ asks) =
    seat_call a.seat a.op a.reply (hall_then hall a.op a.reply) ∷ history_of (hall_then hall a.op a.reply) asks

-- both connections' payloads are submitted, the second worker's call takes effect first, and the hall is closed at the end
abbrev pub small_asks : List (HallAsk ℕ ℕ)
small_asks =
    by 0 (submit (key_of 0 0) (1 ∷ [])) done ∷ by 1 take_job (job (key_of 0 0) (1 ∷ [])) ∷ by 0 (submit (key_of 1 0) (1 ∷ [])) done
    ∷ by 2 take_job (job (key_of 1 0) (1 ∷ [])) ∷ by 2 (apply (key_of 1 0) 10) (applied 5) ∷ by 1 (apply (key_of 0 0) 10) (applied 6)
    ∷ by 1 (put (key_of 0 0) (Reply (6 ∷ 6 ∷ []))) done ∷ by 0 collect (outcome (key_of 0 0) (Reply (6 ∷ 6 ∷ [])))
    ∷ by 2 (put (key_of 1 0) (Reply (5 ∷ 5 ∷ []))) done ∷ by 0 collect (outcome (key_of 1 0) (Reply (5 ∷ 5 ∷ [])))
    ∷ by 0 close done ∷ by 2 take_job is_closed ∷ by 1 take_job is_closed ∷ []

-- the history that they make of the tiny hall
abbrev pub small_history : List (HallCall ℕ ℕ ℕ)
small_history = history_of tiny_hall small_asks

-- the loop's own calls, by the place of each among all asks
abbrev pub call_at : List (HallAsk ℕ ℕ) → ℕ → List (LoopItem ℕ ℕ)
call_at asks n = elim (slice_get asks n) [ None ↦ [] | Some e ↦ calls e ∷ [] ]

-- the first payload comes in three pieces, its reply goes out in two writes, and both inputs end
abbrev pub small_weave : List (LoopItem ℕ ℕ)
small_weave =
    handles opens ∷ handles opens ∷ handles (reads 0 (0 ∷ 0 ∷ [])) ∷ handles (reads 0 (0 ∷ 1 ∷ [])) ∷ handles (reads 0 (1 ∷ [])) ∷ call_at small_asks 0
    ++ handles (reads 1 size_of_one) ∷ handles (reads 1 (1 ∷ [])) ∷ call_at small_asks 2
    ++ call_at small_asks 7 ++ handles (writes 0 1) ∷ handles (writes 0 1) ∷ call_at small_asks 9
    ++ handles (writes 1 2) ∷ handles (ends 0) ∷ handles (ends 1) ∷ call_at small_asks 10

-- the loop's tape then
abbrev pub small_tape : List Mark
small_tape =
    Opened 0 ∷ Opened 1 ∷ Read 0 (0 ∷ 0 ∷ []) ∷ Read 0 (0 ∷ 1 ∷ []) ∷ Read 0 (1 ∷ []) ∷ Read 1 size_of_one ∷ Read 1 (1 ∷ []) ∷ Wrote 0 (6 ∷ []) ∷ Wrote 0 (6 ∷ [])
    ∷ Wrote 1 (5 ∷ 5 ∷ []) ∷ Ended 0 ∷ Closed 0 ∷ Ended 1 ∷ Closed 1 ∷ []
