-- The line that tells what a call came to.
use Rattle.std.specs.Prelude.{ℕ, List, ◌∷◌, ◌++◌, codes}
use Rattle.text_out.specs.Decimal.{decimal_of}
use Rattle.text_out.specs.Line.{line_of}
use Rattle.host_model.specs.Report.{blank}
use Rattle.thrift_value.specs.Tree.{of_bytes}
use Rattle.value_text.specs.ValueText.{tree_text}
use Rattle.client_desk.specs.Hearing.{PlainHeard, success, void, missing, throws, exception}

-- a result, none where none is declared, none where one is, an exception under its id, or the code and the text of a failed call
abbrev pub heard_text : PlainHeard → List ℕ
heard_text (success value) = codes "ok " ++ tree_text value
heard_text void = codes "empty"
heard_text missing = codes "missing"
heard_text (throws id value) = codes "throws " ++ (decimal_of id ++ blank ∷ tree_text value)
heard_text (exception code text) = codes "exception " ++ (decimal_of code ++ blank ∷ tree_text (of_bytes text))

-- what was heard, as a line
abbrev pub heard_line : PlainHeard → List ℕ
heard_line h = line_of (heard_text h)

-- the line of a call to which nothing is answered
abbrev pub sent_line : List ℕ
sent_line = line_of (codes "sent")
