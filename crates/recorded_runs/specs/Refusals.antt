-- The errors' line of an input that is no script.
use Rattle.std.specs.Prelude.{ℕ, List, ◌∷◌, ◌++◌, codes}
use Rattle.text_out.specs.Decimal.{natural_of}
use Rattle.text_out.specs.Line.{line_of}
use Rattle.script_text.specs.declared.fault.ScriptFault.{ScriptFault}
use Rattle.script_text.specs.declared.fault.ScriptKind.{ScriptKind}
use Rattle.script_text.specs.declared.fault.ScriptKind.TheVariants.{TooLong, BadLine, NoConnection, AfterEnd, NoEnd, TooMany, NoWorker, Schedule, Rest, NoMemory}

-- the word of a kind
abbrev pub script_kind_word : ScriptKind → List ℕ
script_kind_word TooLong = codes "TooLong"
script_kind_word BadLine = codes "BadLine"
script_kind_word NoConnection = codes "NoConnection"
script_kind_word AfterEnd = codes "AfterEnd"
script_kind_word NoEnd = codes "NoEnd"
script_kind_word TooMany = codes "TooMany"
script_kind_word NoWorker = codes "NoWorker"
script_kind_word Schedule = codes "Schedule"
script_kind_word Rest = codes "Rest"
script_kind_word NoMemory = codes "NoMemory"

-- the line: `thriftd: script`, the number of the script's line, and what is wrong with it
abbrev pub refused_script_text : ScriptFault → List ℕ
refused_script_text fault = line_of (codes "thriftd: script " ++ natural_of fault.line ++ 32 ∷ script_kind_word fault.kind)
