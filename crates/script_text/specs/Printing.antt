-- The text of a script: its lines in order, and each connection's rules right behind the line that opens it.
use Rattle.std.specs.Prelude.{ℕ, ◌+◌, List, [], ◌∷◌, ◌++◌, codes, map, slice_index_or, if◌then◌else◌}
use Rattle.std.specs.List.{flat_map}
use Rattle.text_out.specs.Decimal.{natural_of}
use Rattle.text_out.specs.Hex.{hex_of}
use Rattle.text_out.specs.Line.{line_of}
use Rattle.script_model.specs.ScriptLines.{PlanLine, opening, piece, input_end, input_fault, resting, turn_of_conn, turn_of_worker, turn_of_outcome, PlanRule, takes_most, blocks, fails, ScriptPlan, one_if_opens}
use Rattle.script_text.specs.TextLines.{space_byte}
use Rattle.script_text.specs.Reading.{is_opening}
use Rattle.script_text.specs.LineForms.{SaidLine, runs, rules_so}

-- the text of a line that is no rule
abbrev pub line_text : PlanLine → List ℕ
line_text opening = codes "open"
line_text (piece c bytes) = codes "data " ++ (natural_of c ++ space_byte ∷ hex_of bytes)
line_text (input_end c) = codes "end " ++ natural_of c
line_text (input_fault c) = codes "readfail " ++ natural_of c
line_text resting = codes "rest"
line_text (turn_of_conn c) = codes "loop " ++ natural_of c
line_text (turn_of_worker w) = codes "work " ++ natural_of w
line_text turn_of_outcome = codes "collect"

-- the text of a rule of connection c
abbrev pub rule_text : ℕ → PlanRule → List ℕ
rule_text c (takes_most count) = codes "write " ++ (natural_of c ++ space_byte ∷ natural_of count)
rule_text c blocks = codes "block " ++ natural_of c
rule_text c fails = codes "writefail " ++ natural_of c

-- the text of what is said
abbrev pub said_text : SaidLine → List ℕ
said_text (runs line) = line_text line
said_text (rules_so c rule) = rule_text c rule

-- the rules that stand right behind a line, where these are those of the connection that it would open
abbrev pub rules_behind : List PlanRule → PlanLine → List PlanRule
rules_behind rules line = if is_opening line then rules else []

-- a line, with the rules right behind it
abbrev pub with_its_rules : ℕ → List (List PlanRule) → PlanLine → List SaidLine
with_its_rules c rules line = runs line ∷ map (rules_so c) (rules_behind (slice_index_or rules c []) line)

-- these lines and their rules, where the next connection is c
abbrev pub said_from : ℕ → List (List PlanRule) → List PlanLine → List SaidLine
said_from c rules [] = []
said_from c rules (line ∷ lines) = with_its_rules c rules line ++ said_from (c + one_if_opens line) rules lines

-- all lines of a script's print
abbrev pub said_in : ScriptPlan → List SaidLine
said_in script = said_from 0 script.rules script.lines

-- a line with its newline
abbrev pub line_said : SaidLine → List ℕ
line_said said = line_of (said_text said)

-- the print of a script
abbrev pub print_of : ScriptPlan → List ℕ
print_of script = flat_map line_said (said_in script)
