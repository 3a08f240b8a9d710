-- The summary of a workload that was run: its text, and what it sums up.
use Rattle.std.specs.Prelude.{ℕ, ℤ, pos, ◌+ℤ◌, List, [], ◌∷◌, ◌++◌, codes}
use Rattle.text_out.specs.Decimal.{decimal_of}
use Rattle.text_out.specs.Line.{line_of}
use Rattle.thrift_value.specs.Tree.{Tree, of_i32}
use Rattle.call_rules.specs.PlainCalls.{PlainAnswer, success}
use Rattle.call_rules.specs.Entries.{CallEntry}

-- a line of the summary: a word and a number
abbrev pub told_number : List ℕ → ℤ → List ℕ
told_number word n = line_of (word ++ decimal_of n)

-- the summary of a run: its connections, frames and calls, the bytes that were read and written, and the sum of the answers
abbrev pub workload_text : (connections frames calls bytes_in bytes_out : ℕ) (sum : ℤ) → List ℕ
workload_text connections frames calls bytes_in bytes_out sum =
    told_number (codes "connections ") (pos connections)
    ++ (told_number (codes "frames ") (pos frames)
    ++ (told_number (codes "calls ") (pos calls)
    ++ (told_number (codes "bytes in ") (pos bytes_in)
    ++ (told_number (codes "bytes out ") (pos bytes_out)
    ++ told_number (codes "sum ") sum))))

-- what a value adds to the sum: itself, where it is an i32
abbrev pub value_adds : Tree → ℤ
value_adds (of_i32 n) = n
value_adds _ = pos 0

-- what an answer adds: its value, where it is a success
abbrev pub answer_adds : PlainAnswer → ℤ
answer_adds (success value) = value_adds value
answer_adds _ = pos 0

-- the sum of what these come to
abbrev pub sum_over : {X : Type 0} → (X → ℤ) → List X → ℤ
sum_over f [] = pos 0
sum_over f (x ∷ xs) = f x +ℤ sum_over f xs

-- the sum over the answers of a journal
abbrev pub sum_of_answers : List CallEntry → ℤ
sum_of_answers journal = sum_over (λ e. answer_adds e.answer) journal
