-- How much is still to be done: a number that each move lowers, so that a run comes to its end.
use Rattle.std.specs.Prelude.{ℕ, ◌+◌, ◌*◌, List, [], ◌∷◌, length, slice_index_or}
use Rattle.conn_state.specs.Phase.{left_to_write}
use Rattle.conn_table.specs.Table.{TableView, slot_of}
use Rattle.machine_model.specs.AtFronts.{summed}
use Rattle.script_model.specs.Arrival.{bytes_of_pieces}
use Rattle.hall_core.specs.Meant.{ServedHall}
use Rattle.cell_loop.specs.declared.loop_part.CellStage.{CellStage}
use Rattle.cell_loop.specs.declared.loop_part.CellStage.TheVariants.{Lean, Framed, Whole, Asked, Over}
use Rattle.cell_loop.specs.declared.loop_part.LoopPart.{LoopPart}
use Rattle.cell_core.specs.declared.worker.Holding.{Holding}
use Rattle.cell_core.specs.declared.worker.Holding.TheVariants.{Idle, Holds, Answered, Unanswered}
use Rattle.cell_loop.specs.Feeds.{unread_in, rules_in}

-- two, where something is to be written
abbrev pub steps_to_write : List ℕ → ℕ
steps_to_write [] = 0
steps_to_write (byte ∷ bytes) = 2

-- the steps of a connection, by how it stands: two until it ends, one for a size that may be admitted, two for what is to be written, and eight for a
-- payload that isn't submitted
abbrev pub steps_of_stand : TableView → ℕ → CellStage → ℕ
steps_of_stand table c Lean = 3 + steps_to_write (left_to_write (slot_of c table.slots).conn.phase)
steps_of_stand table c Framed = 2
steps_of_stand table c Whole = 10
steps_of_stand table c Asked = 2
steps_of_stand table c (Over cause) = 1

-- the steps of connection c: also ten for each byte that isn't read, and two for each rule
abbrev pub steps_of_conn : LoopPart → ℕ → ℕ
steps_of_conn part c =
    steps_of_stand part.table c (slice_index_or part.stages.items c Lean) + 10 * length (bytes_of_pieces (unread_in part.feeds.items c))
    + 2 * length (rules_in part.feeds.items c)

-- the steps of a worker's job, up to the collect of its outcome
abbrev pub steps_of_worker : Holding → ℕ
steps_of_worker Idle = 0
steps_of_worker (Holds job) = 6
steps_of_worker (Answered job given) = 5
steps_of_worker (Unanswered job) = 5

-- the steps of workers
abbrev pub steps_of_workers : List Holding → ℕ
steps_of_workers workers = summed (λ w. steps_of_worker (slice_index_or workers w Idle)) (length workers)

-- the steps of a hall: seven a job, and four an outcome
abbrev pub steps_of_hall : ServedHall → ℕ
steps_of_hall hall = 7 * length hall.jobs + 4 * length hall.outcomes

-- all that is to be done
abbrev pub steps_left : LoopPart → ServedHall → List Holding → ℕ
steps_left part hall workers = summed (λ c. steps_of_conn part c) (length part.stages.items) + steps_of_hall hall + steps_of_workers workers
