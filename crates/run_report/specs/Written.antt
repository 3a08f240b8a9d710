-- What was written to the connections of a run, and the lines that say so.
use Rattle.std.specs.Prelude.{ℕ, suc, List, [], ◌∷◌, ◌++◌}
use Rattle.streams.specs.declared.marks.Mark.{Mark}
use Rattle.text_out.specs.Line.{line_of}
use Rattle.host_model.specs.declared.cause.EndCause.{EndCause}
use Rattle.host_model.specs.Marks.{marks_of, output}
use Rattle.host_model.specs.Report.{end_text}

-- all bytes that the tape says were written to each connection from number c on, of which there are as many as causes
abbrev pub outputs : List Mark → ℕ → List EndCause → List (List ℕ)
outputs tape c [] = []
outputs tape c (cause ∷ causes) = output (marks_of c tape) ∷ outputs tape (suc c) causes

-- the lines of the connections from number c on, by what each ended by and what was written to it
abbrev pub ended_lines : ℕ → List EndCause → List (List ℕ) → List ℕ
ended_lines c [] written = []
ended_lines c (cause ∷ causes) [] = []
ended_lines c (cause ∷ causes) (bytes ∷ written) = line_of (end_text c cause bytes) ++ ended_lines (suc c) causes written
