use Rattle.std.proofs.Common.{◌≤◌, [], ◌∷◌, refl, arith}
use Rattle.std.proofs.lemmas.Bool.{false≢true}
use Rattle.streams.specs.declared.marks.Mark.TheVariants.{Opened, Read, Closed}
use Rattle.host_model.specs.Journal.{entries_of}
use Rattle.host_model.specs.TinyDesk.{tiny_desk, size_of_one}
use Rattle.script_model.specs.ScriptLines.{opening, piece, input_end}
use Rattle.script_model.specs.Rows.{frame_of_one}
use Rattle.script_model.proofs.NotFed.{not_over, not_more, no_place, no_place_beside, no_place_past_an_end}
use Rattle.script_model.proofs.examples.runs_that_are_not_fed.Goals as goal

pub returns-clause-read_over_a_piece : goal.returns-clause-read_over_a_piece
returns-clause-read_over_a_piece c = λ journal back fed.
    let l : 4 ≤ 2 = not_over 2 (2 ∷ 5 ∷ []) [] size_of_one ((fed.each_read 0).reads (Opened 0 ∷ []) back size_of_one refl) in
    let f : ⊥ = omega arith in f

pub returns-clause-rule_passed_over : goal.returns-clause-rule_passed_over
returns-clause-rule_passed_over c = λ journal back fed.
    let l : 2 ≤ 1 =
    not_more 1 tiny_desk (entries_of 0 journal) (Opened 0 ∷ Read 0 size_of_one ∷ Read 0 (1 ∷ []) ∷ []) (5 ∷ 5 ∷ [])
    ((fed.each_written 0).writes (Opened 0 ∷ Read 0 size_of_one ∷ Read 0 (1 ∷ []) ∷ []) back (5 ∷ 5 ∷ []) refl) in
    let f : ⊥ = omega arith in f

pub returns-clause-ended_in_place_of_a_fault : goal.returns-clause-ended_in_place_of_a_fault
returns-clause-ended_in_place_of_a_fault c = λ journal back fed. false≢true ((fed.each_read 0).ended (Opened 0 ∷ []) back refl).0

pub returns-clause-opened_before_the_rest : goal.returns-clause-opened_before_the_rest
returns-clause-opened_before_the_rest c = λ journal back fed.
    no_place tiny_desk 2 (opening ∷ piece 0 (frame_of_one 1) ∷ []) (0 ∷ 0 ∷ 1 ∷ 1 ∷ []) 0 back journal refl refl
    (fed.rests (opening ∷ piece 0 (frame_of_one 1) ∷ []) (opening ∷ input_end 0 ∷ input_end 1 ∷ []) refl)

pub returns-clause-rest_beside_a_bad_size : goal.returns-clause-rest_beside_a_bad_size
returns-clause-rest_beside_a_bad_size c = λ journal back fed.
    no_place_beside tiny_desk 2 (255 ∷ 255 ∷ 255 ∷ 255 ∷ []) (0 ∷ 0 ∷ 1 ∷ 1 ∷ []) 0 back journal (omega arith)
    (fed.rests (opening ∷ opening ∷ piece 0 (255 ∷ 255 ∷ 255 ∷ 255 ∷ []) ∷ piece 1 (frame_of_one 1) ∷ [])
    (opening ∷ piece 2 (frame_of_one 1) ∷ input_end 0 ∷ input_end 1 ∷ input_end 2 ∷ []) refl)

pub returns-clause-ended_before_the_rest : goal.returns-clause-ended_before_the_rest
returns-clause-ended_before_the_rest c = λ journal back fed.
    no_place_past_an_end tiny_desk 2 (opening ∷ opening ∷ piece 0 (frame_of_one 1) ∷ []) (0 ∷ 0 ∷ 1 ∷ 1 ∷ []) 0 (Closed 1 ∷ back) journal refl refl refl
    (fed.rests (opening ∷ opening ∷ piece 0 (frame_of_one 1) ∷ []) (input_end 0 ∷ input_end 1 ∷ []) refl)
