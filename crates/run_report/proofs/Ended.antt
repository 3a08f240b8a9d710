-- The lines of connections, one after another.
use Rattle.std.proofs.Common.{◌≡◌, ℕ, suc, ◌+◌, ◌<◌, List, [], ◌∷◌, ◌++◌, length, drop, get_or, refl, sym, ap, ◌∙◌, arith, add-one, drop-cons}
use Rattle.streams.specs.declared.marks.Mark.{Mark}
use Rattle.text_out.specs.Line.{line_of}
use Rattle.host_model.specs.declared.cause.EndCause.{EndCause}
use Rattle.host_model.specs.Marks.{marks_of, output}
use Rattle.host_model.specs.Report.{end_text, end_lines}
use Rattle.run_report.specs.Written.{outputs, ended_lines}
use Rattle.run_report.specs.Summary.{conn_text, conn_lines}

-- the lines by what the tape says are those by what was written
pub ended_as_told : (tape : List Mark) (c : ℕ) (causes : List EndCause) → ended_lines c causes (outputs tape c causes) ≡ end_lines tape c causes
ended_as_told tape c [] = refl
ended_as_told tape c (cause ∷ causes) = ap (λ r. line_of (end_text c cause (output (marks_of c tape))) ++ r) (ended_as_told tape (suc c) causes)

-- there are as many as causes
pub as_many : (tape : List Mark) (c : ℕ) (causes : List EndCause) → length (outputs tape c causes) ≡ length causes
as_many tape c [] = refl
as_many tape c (cause ∷ causes) = ap suc (as_many tape (suc c) causes)

-- the lines from number i on begin with its own
pub ended_left : (causes : List EndCause) (written : List (List ℕ)) (i : ℕ) (cause d : EndCause) (bytes e : List ℕ) → i < length causes → length written ≡ length causes
    → cause ≡ get_or causes i d → bytes ≡ get_or written i e
    → ended_lines i (drop i causes) (drop i written) ≡ line_of (end_text i cause bytes) ++ ended_lines (i + 1) (drop (i + 1) causes) (drop (i + 1) written)
ended_left causes written i cause d bytes e h l is at =
    let inside : i < length written = omega (arith, h, l) in
    (λ k. ended_lines i (drop-cons causes i d h k) (drop-cons written i e inside k))
    ∙ (λ k. line_of (end_text i (sym is k) (sym at k)) ++ ended_lines (sym (add-one i) k) (drop (sym (add-one i) k) causes) (drop (sym (add-one i) k) written))

-- the lines of a summary from number i on begin with its own
pub conns_left : (causes : List EndCause) (i : ℕ) (cause d : EndCause) → i < length causes → cause ≡ get_or causes i d
    → conn_lines i (drop i causes) ≡ line_of (conn_text i cause) ++ conn_lines (i + 1) (drop (i + 1) causes)
conns_left causes i cause d h is =
    (λ k. conn_lines i (drop-cons causes i d h k))
    ∙ (λ k. line_of (conn_text i (sym is k)) ++ conn_lines (sym (add-one i) k) (drop (sym (add-one i) k) causes))
