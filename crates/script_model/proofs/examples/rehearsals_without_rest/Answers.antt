use Rattle.std.proofs.Common.{[], ◌∷◌, ◌++◌, refl, arith}
use Rattle.streams.specs.declared.marks.Mark.TheVariants.{Ended, Closed}
use Rattle.host_model.specs.TinyDesk.{tiny_desk, tiny_entry}
use Rattle.script_model.specs.ScriptLines.{opening, piece, input_end, turn_of_conn, turn_of_worker}
use Rattle.script_model.specs.Rows.{frame_of_one}
use Rattle.script_model.proofs.NotFed.{no_place}
use Rattle.script_model.proofs.Unrested.{no_place_with_more, no_place_unwritten}
use Rattle.script_model.proofs.examples.rehearsals_without_rest.Goals as goal

pub returns-clause-empty_piece : goal.returns-clause-empty_piece
returns-clause-empty_piece c = (
  refl,
  λ fed.
      no_place tiny_desk 2 (opening ∷ piece 0 [] ∷ piece 0 (frame_of_one 1) ∷ []) (0 ∷ 0 ∷ 1 ∷ 1 ∷ []) 0 (Ended 1 ∷ Closed 1 ∷ []) [] refl refl
      (fed.rests (opening ∷ piece 0 [] ∷ piece 0 (frame_of_one 1) ∷ []) (opening ∷ input_end 0 ∷ input_end 1 ∷ []) refl),
)

pub returns-clause-no_bytes : goal.returns-clause-no_bytes
returns-clause-no_bytes c = (
  refl,
  λ fed.
      no_place tiny_desk 2 (opening ∷ piece 0 (0 ∷ 0 ∷ 0 ∷ 256 ∷ []) ∷ []) (0 ∷ 0 ∷ 256 ∷ []) 0 (Ended 1 ∷ Closed 1 ∷ []) [] refl refl
      (fed.rests (opening ∷ piece 0 (0 ∷ 0 ∷ 0 ∷ 256 ∷ []) ∷ []) (opening ∷ input_end 0 ∷ input_end 1 ∷ []) refl),
)

pub returns-clause-empty_write : goal.returns-clause-empty_write
returns-clause-empty_write c = (
  refl,
  λ fed.
      no_place_unwritten 2 (opening ∷ piece 0 (frame_of_one 1) ∷ []) (Ended 1 ∷ Closed 1 ∷ []) (tiny_entry 0 5 ∷ []) refl (omega arith)
      (fed.rests (opening ∷ piece 0 (frame_of_one 1) ∷ []) (opening ∷ input_end 0 ∷ input_end 1 ∷ []) refl) refl (omega arith),
)

pub returns-clause-no_such_worker : goal.returns-clause-no_such_worker
returns-clause-no_such_worker c = (
  refl,
  λ fed.
      no_place_with_more 2
      (opening ∷ piece 0 (frame_of_one 1 ++ 0 ∷ []) ∷ turn_of_conn 0 ∷ turn_of_conn 0 ∷ turn_of_conn 0 ∷ turn_of_conn 0 ∷ turn_of_worker 1 ∷ [])
      (Ended 1 ∷ Closed 1 ∷ []) [] refl (omega arith)
      (fed.rests (opening ∷ piece 0 (frame_of_one 1 ++ 0 ∷ []) ∷ turn_of_conn 0 ∷ turn_of_conn 0 ∷ turn_of_conn 0 ∷ turn_of_conn 0 ∷ turn_of_worker 1 ∷ [])
      (opening ∷ input_end 0 ∷ input_end 1 ∷ []) refl) (omega arith),
)

pub returns-clause-no_service : goal.returns-clause-no_service
returns-clause-no_service c = (
  refl,
  λ fed.
      no_place_with_more 2 (opening ∷ piece 0 (frame_of_one 1 ++ 0 ∷ []) ∷ []) (Ended 1 ∷ Closed 1 ∷ []) [] refl (omega arith)
      (fed.rests (opening ∷ piece 0 (frame_of_one 1 ++ 0 ∷ []) ∷ []) (opening ∷ input_end 0 ∷ input_end 1 ∷ []) refl) (omega arith),
)
