-- Reading the line of an entry from the front: what was read and what is left behind it, or how many bytes are left at the first one
-- with which no entry's line goes on.
use Rattle.std.specs.Prelude.{ℕ, ◌-◌, ◌^◌, ◌==◌, Bool, true, false, List, [], ◌∷◌, codes, length, take, drop, Option, None, Some, Result, Ok, Err, if◌then◌else◌}
use Rattle.std.specs.List.{prefix_len}
use Rattle.host_model.specs.declared.key.Key.{Key}
use Rattle.host_model.specs.Report.{blank}
use Rattle.text_out.specs.Bytes.{line_feed, zero_digit}
use Rattle.thrift_value.specs.declared.tag.Tag.{Tag}
use Rattle.thrift_value.specs.declared.tag.Tag.TheVariants.{Struct}
use Rattle.thrift_value.specs.Tree.{Tree}
use Rattle.value_text.specs.Fronts.{◌>>=◌, stuck, behind_word, positive_at, integer_at}
use Rattle.value_text.specs.Reading.{value_text_at, most_rounds, text_levels}
use Rattle.call_rules.specs.PlainCalls.{PlainCall, PlainAnswer, success, empty, throws, broken, is_method_byte}
use Rattle.call_rules.specs.Entries.{CallEntry}

-- A value of a tag, or of any. A byte of it takes one at least, so `most` may be any number above that of the bytes.
abbrev pub value_front : ℕ → Option Tag → List ℕ → Result (Tree × List ℕ) ℕ
value_front most wanted text = value_text_at most text_levels wanted text

-- a number up to `most`, with no zero in front
unfoldable pub natural_front : ℕ → List ℕ → Result (ℕ × List ℕ) ℕ
natural_front most [] = Err 0
natural_front most (b ∷ bs) = if b == zero_digit then Ok (0, bs) else positive_at most (b ∷ bs)

-- a blank and a number
unfoldable pub number_front : ℕ → List ℕ → Result (ℕ × List ℕ) ℕ
number_front most text = behind_word (blank ∷ []) text >>= λ rest. natural_front most rest

-- the first word: whether the call gets no reply
unfoldable pub word_front : List ℕ → Result (Bool × List ℕ) ℕ
word_front [] = Err 0
word_front (b ∷ bs) =
    if b == 111 then (behind_word (codes "oneway") (b ∷ bs) >>= λ rest. Ok (true, rest)) else (behind_word (codes "call") (b ∷ bs) >>= λ rest. Ok (false, rest))

-- the connection and the number of the frame
unfoldable pub key_front : List ℕ → Result (Key × List ℕ) ℕ
key_front text = do
  c ← number_front (2 ^ 32 - 1) text
  i ← number_front (2 ^ 64 - 1) c.1
  Ok (record { c = c.0; i = i.0 }, i.1)

-- so many bytes as a method, which isn't empty
abbrev pub method_cut : ℕ → List ℕ → Result (List ℕ × List ℕ) ℕ
method_cut n text = if n == 0 then stuck text else Ok (take n text, drop n text)

-- a blank and a method, as far as its bytes go
unfoldable pub method_front : List ℕ → Result (List ℕ × List ℕ) ℕ
method_front text = behind_word (blank ∷ []) text >>= λ rest. method_cut (prefix_len is_method_byte rest) rest

-- a blank and the arguments
unfoldable pub arguments_front : ℕ → List ℕ → Result (Tree × List ℕ) ℕ
arguments_front most text = behind_word (blank ∷ []) text >>= λ rest. value_front most (Some Struct) rest

-- an exception and its id
unfoldable pub thrown_front : ℕ → List ℕ → Result (PlainAnswer × List ℕ) ℕ
thrown_front most text = do
  behind ← behind_word (codes "throws ") text
  id ← integer_at 32767 behind
  rest ← behind_word (blank ∷ []) id.1
  x ← value_front most None rest
  Ok (throws id.0 x.0, x.1)

-- a value that is answered
unfoldable pub success_front : ℕ → List ℕ → Result (PlainAnswer × List ℕ) ℕ
success_front most text = behind_word (codes "ok ") text >>= λ rest. value_front most None rest >>= λ x. Ok (success x.0, x.1)

-- an answer that is a word
unfoldable pub word_answer : List ℕ → PlainAnswer → List ℕ → Result (PlainAnswer × List ℕ) ℕ
word_answer word answer text = behind_word word text >>= λ rest. Ok (answer, rest)

-- an answer, by its first byte
unfoldable pub answer_front : ℕ → List ℕ → Result (PlainAnswer × List ℕ) ℕ
answer_front most [] = Err 0
answer_front most (b ∷ bs) =
    if b == 111 then success_front most (b ∷ bs)
    else if b == 101 then word_answer (codes "empty") empty (b ∷ bs)
    else if b == 116 then thrown_front most (b ∷ bs)
    else word_answer (codes "broken") broken (b ∷ bs)

-- a call: first word, key, slot, method and arguments
pub record CallFront : Type 0 where
  pub silent : Bool
  pub key : Key
  pub slot : ℕ
  pub method : List ℕ
  pub args : Tree

-- what was read of a call in memory
abbrev pub call_read : Key → PlainCall → CallFront
call_read key call = record { silent = call.silent; key = key; slot = call.slot; method = call.method; args = call.args }

unfoldable pub call_front : ℕ → List ℕ → Result (CallFront × List ℕ) ℕ
call_front most text = do
  word ← word_front text
  key ← key_front word.1
  slot ← number_front (2 ^ 32 - 1) key.1
  method ← method_front slot.1
  args ← arguments_front most method.1
  Ok (record { silent = word.0; key = key.0; slot = slot.0; method = method.0; args = args.0 }, args.1)

-- a call with its answer
abbrev pub entry_with : CallFront → PlainAnswer → CallEntry
entry_with call answer =
    record { key = call.key; call = record { slot = call.slot; method = call.method; args = call.args; silent = call.silent }; answer = answer }

-- an entry
unfoldable pub entry_front : ℕ → List ℕ → Result (CallEntry × List ℕ) ℕ
entry_front most text = do
  call ← call_front most text
  rest ← behind_word (blank ∷ []) call.1
  answer ← answer_front most rest
  Ok (entry_with call.0 answer.0, answer.1)

-- nothing stands behind it
abbrev pub nothing_behind : CallEntry → List ℕ → Result CallEntry ℕ
nothing_behind e [] = Ok e
nothing_behind e (b ∷ bs) = stuck (b ∷ bs)

-- an entry's line, with the bytes left at a fault
unfoldable pub line_front : ℕ → List ℕ → Result CallEntry ℕ
line_front most text = do
  e ← entry_front most text
  rest ← behind_word (line_feed ∷ []) e.1
  nothing_behind e.0 rest

-- an entry, or the place of the fault in a line of this length
abbrev pub placed_entry : ℕ → Result CallEntry ℕ → Result CallEntry ℕ
placed_entry size (Ok e) = Ok e
placed_entry size (Err left) = Err (size - left)

-- the entry of a line, or the place of the fault
abbrev pub entry_read : List ℕ → Result CallEntry ℕ
entry_read line = placed_entry (length line) (line_front most_rounds line)
