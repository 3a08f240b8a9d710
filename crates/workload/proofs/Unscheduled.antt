-- The script of a workload has no line of a schedule, and no `rest` line.
use Rattle.std.proofs.Common.{◌≡◌, ℕ, zero, suc, ◌||◌, Bool, true, false, List, [], ◌∷◌, ◌++◌, length, map, replicate, refl, ap, ◌∙◌}
use Rattle.std.proofs.lemmas.Bool.{true≢false}
use Rattle.std.specs.List.{AllByRecursion}
use Rattle.script_model.specs.ScriptLines.{PlanLine, opening, piece, input_end, input_fault, resting, turn_of_conn, turn_of_worker, turn_of_outcome, some_line, count_up}
use Rattle.script_text.specs.Reading.{is_turn, is_resting}
use Rattle.script_text.specs.Sound.{IsUnscheduled, NeverRests}
use Rattle.workload.specs.LoadPlan.{all_bytes, rounds, workload_plan}
use Rattle.workload.proofs.Kept.{IsPieceUnder, rounds_are_pieces}
use Rattle.workload.proofs.FrameBytes.{streams_each}

-- one test more
quiet_on : (test one other : Bool) → (test || one) ≡ false → (one ≡ false → other ≡ false) → (test || other) ≡ false
quiet_on true one other is rest = absurd (true≢false is)
quiet_on false one other is rest = rest is

-- no opening, piece or end of input is such a line
record IsOfOthers (test : PlanLine → Bool) : Type 0 where
  opens : test opening ≡ false
  comes : (c : ℕ) (bytes : List ℕ) → test (piece c bytes) ≡ false
  ends : (c : ℕ) → test (input_end c) ≡ false

module _ (test : PlanLine → Bool) (others : IsOfOthers test) where
  -- first these lines, and then those
  both_quiet : (xs ys : List PlanLine) → some_line test xs ≡ false → some_line test ys ≡ false → some_line test (xs ++ ys) ≡ false
  both_quiet [] ys none more = more
  both_quiet (x ∷ xs) ys none more = quiet_on (test x) (some_line test xs) (some_line test (xs ++ ys)) none (λ quiet. both_quiet xs ys quiet more)

  -- a line more that is no such line
  line_quiet : (line : PlanLine) (lines : List PlanLine) → test line ≡ false → some_line test lines ≡ false → some_line test (line ∷ lines) ≡ false
  line_quiet line lines none more = ap (λ t. t || some_line test lines) none ∙ more

  quiet_openings : (n : ℕ) → some_line test (replicate n opening) ≡ false
  quiet_openings zero = refl
  quiet_openings (suc n) = line_quiet opening (replicate n opening) others.opens (quiet_openings n)

  quiet_ends : (n from : ℕ) → some_line test (map input_end (count_up from n)) ≡ false
  quiet_ends zero from = refl
  quiet_ends (suc n) from = line_quiet (input_end from) (map input_end (count_up (suc from) n)) (others.ends from) (quiet_ends n (suc from))

  quiet_pieces : (n : ℕ) (lines : List PlanLine) → AllByRecursion (IsPieceUnder n) lines → some_line test lines ≡ false
  quiet_pieces n [] all = refl
  quiet_pieces n (piece c bytes ∷ lines) all = line_quiet (piece c bytes) lines (others.comes c bytes) (quiet_pieces n lines all.1)
  quiet_pieces n (opening ∷ lines) all = absurd all.0
  quiet_pieces n (input_end c ∷ lines) all = absurd all.0
  quiet_pieces n (input_fault c ∷ lines) all = absurd all.0
  quiet_pieces n (resting ∷ lines) all = absurd all.0
  quiet_pieces n (turn_of_conn c ∷ lines) all = absurd all.0
  quiet_pieces n (turn_of_worker w ∷ lines) all = absurd all.0
  quiet_pieces n (turn_of_outcome ∷ lines) all = absurd all.0

  workload_quiet : (seed size : ℕ) → some_line test (workload_plan seed size).lines ≡ false
  workload_quiet seed size =
      let streams : List (List ℕ) = all_bytes seed size in
      let ends : List PlanLine = map input_end (count_up 0 (length streams)) in
      both_quiet (replicate (length streams) opening) (rounds streams ++ ends) (quiet_openings (length streams))
      (both_quiet (rounds streams) ends (quiet_pieces (length streams) (rounds streams) (rounds_are_pieces streams (streams_each seed size))) (quiet_ends (length streams) 0))

pub workload_unscheduled : (seed size : ℕ) → IsUnscheduled (workload_plan seed size)
workload_unscheduled seed size = workload_quiet is_turn (record { opens = refl; comes = λ c bytes. refl; ends = λ c. refl }) seed size

pub workload_never_rests : (seed size : ℕ) → NeverRests (workload_plan seed size)
workload_never_rests seed size = workload_quiet is_resting (record { opens = refl; comes = λ c bytes. refl; ends = λ c. refl }) seed size
