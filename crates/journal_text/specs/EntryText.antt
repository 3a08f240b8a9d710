-- The line of a call in a journal.
use Rattle.std.specs.Prelude.{ℕ, Bool, true, false, List, ◌∷◌, ◌++◌, codes}
use Rattle.text_out.specs.Decimal.{natural_of, decimal_of}
use Rattle.text_out.specs.Line.{line_of}
use Rattle.host_model.specs.declared.key.Key.{Key}
use Rattle.host_model.specs.Report.{blank}
use Rattle.thrift_value.specs.Tree.{Tree}
use Rattle.value_text.specs.ValueText.{tree_text}
use Rattle.call_rules.specs.PlainCalls.{PlainAnswer, success, empty, throws, broken}
use Rattle.call_rules.specs.Entries.{CallEntry}

-- a word behind another
abbrev pub next_word : List ℕ → List ℕ
next_word word = blank ∷ word

-- the first word: whether the call gets a reply
abbrev pub call_word : Bool → List ℕ
call_word false = codes "call"
call_word true = codes "oneway"

-- the words in front of a method: that first one, the connection, the number of its frame, and the slot
abbrev pub front_text : Bool → Key → ℕ → List ℕ
front_text silent key slot =
    call_word silent ++ (next_word (natural_of key.c) ++ (next_word (natural_of key.i) ++ next_word (natural_of slot)))

-- the method and its arguments
abbrev pub asked_text : List ℕ → Tree → List ℕ
asked_text method args = next_word method ++ next_word (tree_text args)

-- an answer: a value, nothing, an exception under its id, or that the service couldn't answer
abbrev pub answered_text : PlainAnswer → List ℕ
answered_text (success value) = codes "ok " ++ tree_text value
answered_text empty = codes "empty"
answered_text (throws id exception) = codes "throws " ++ (decimal_of id ++ next_word (tree_text exception))
answered_text broken = codes "broken"

-- an entry: who called, what was asked, and the answer
abbrev pub entry_text : CallEntry → List ℕ
entry_text e =
    front_text e.call.silent e.key e.call.slot ++ (asked_text e.call.method e.call.args ++ next_word (answered_text e.answer))

-- an entry's line
abbrev pub call_line : CallEntry → List ℕ
call_line e = line_of (entry_text e)
