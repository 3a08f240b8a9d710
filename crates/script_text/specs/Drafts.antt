-- What was read so far, in memory, as the definitions see it.
use Rattle.std.specs.Prelude.{map, Result, Ok, Err}
use Rattle.script_text.specs.declared.draft.Draft.{Draft}
use Rattle.script_text.specs.declared.words.LineRead.{LineRead}
use Rattle.script_text.specs.declared.words.LineRead.TheVariants.{Line, Rule}
use Rattle.script_text.specs.declared.fault.ScriptFault.{ScriptFault}
use Rattle.script_text.specs.declared.fault.ScriptKind.{ScriptKind}
use Rattle.script_text.specs.LineForms.{SaidLine, runs, rules_so}
use Rattle.script_text.specs.Reading.{ScriptSoFar}
use Rattle.script_text.specs.Plans.{plain_line, plain_rule, plain_rules}

-- what a line says
abbrev pub plain_said : LineRead → SaidLine
plain_said (Line line) = runs (plain_line line)
plain_said (Rule c rule) = rules_so c (plain_rule rule)

-- what was read so far
abbrev pub so_far : Draft → ScriptSoFar
so_far draft = record { lines = map plain_line draft.lines.items; rules = map plain_rules draft.rules.items; over = draft.over.items }

-- an answer, and what was read by then
abbrev pub answers_read : Result (Unit {0}) ScriptKind → ScriptSoFar → Result ScriptSoFar ScriptKind
answers_read (Ok x) so = Ok so
answers_read (Err kind) so = Err kind

-- a draft as what was read, or a fault
abbrev pub read_so_far_as : Result Draft ScriptFault → Result ScriptSoFar ScriptFault
read_so_far_as (Ok draft) = Ok (so_far draft)
read_so_far_as (Err fault) = Err fault
