-- The summary of what was served at a port: where connections are awaited, what each has ended by, and the number of calls.
use Rattle.std.specs.Prelude.{ℕ, suc, List, [], ◌∷◌, ◌++◌, codes}
use Rattle.text_out.specs.Decimal.{natural_of}
use Rattle.text_out.specs.Line.{line_of}
use Rattle.host_model.specs.declared.cause.EndCause.{EndCause}
use Rattle.host_model.specs.Report.{blank, numbered, cause_text}

-- the line that tells at which port connections are awaited
unfoldable pub listening_line : ℕ → List ℕ
listening_line port = line_of (codes "listening 127.0.0.1:" ++ natural_of port)

-- a connection and its cause
abbrev pub conn_text : ℕ → EndCause → List ℕ
conn_text c cause = numbered (codes "conn") c ++ blank ∷ cause_text cause

-- the lines of the connections from number c on
abbrev pub conn_lines : ℕ → List EndCause → List ℕ
conn_lines c [] = []
conn_lines c (cause ∷ causes) = line_of (conn_text c cause) ++ conn_lines (suc c) causes

-- what is told at the end: a line for each connection, and the number of calls
abbrev pub summary_lines : List EndCause → ℕ → List ℕ
summary_lines causes calls = conn_lines 0 causes ++ line_of (numbered (codes "calls") calls)

-- the summary
abbrev pub summary : (port : ℕ) → List EndCause → (calls : ℕ) → List ℕ
summary port causes calls = listening_line port ++ summary_lines causes calls
