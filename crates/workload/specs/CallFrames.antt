-- The frames of a workload: calls of the tutorial's calculator in the strict binary protocol, numbered from 0.
use Rattle.std.specs.Prelude.{ℕ, pos, ◌+◌, ◌++◌, ◌%◌, ◌==◌, Bool, List, [], ◌∷◌, codes, if◌then◌else◌}
use Rattle.std.specs.Int.{w32}
use Rattle.wire_num.specs.Fixed.{signed_bytes}
use Rattle.host_model.specs.Frames.{frame}
use Rattle.thrift_value.specs.Tree.{Tree}
use Rattle.wire_model.specs.Encoder.{text}
use Rattle.binary_codec.specs.Written.{binary_encoder}
use Rattle.envelope.specs.declared.head.Protocol.TheVariants.{Binary}
use Rattle.envelope.specs.Said.{call}
use Rattle.envelope.specs.Spelling.{head_text}
use Rattle.call_rules.specs.Examples.{two_numbers_passed, work_passed}
use Rattle.workload.specs.Numbers.{number_at, first_number, second_number}

-- the frame of a message: its method, its type, its sequence id, and its struct
abbrev pub message_frame : List ℕ → ℕ → ℕ → Tree → List ℕ
message_frame method kind id fields = frame (head_text Binary (record { name = method; kind = kind; id = pos id }) ++ text binary_encoder fields)

-- the head of a call
abbrev pub call_head : List ℕ → ℕ → List ℕ
call_head method k = head_text Binary (record { name = method; kind = call; id = pos k })

-- the frame with the sequence id k that calls add(a, b)
unfoldable pub add_frame : ℕ → ℕ → ℕ → List ℕ
add_frame k a b = message_frame (codes "add") call k (two_numbers_passed (pos a) (pos b))

-- the frame with the sequence id k that calls calculate(k, w), where w takes b from a
unfoldable pub subtract_frame : ℕ → ℕ → ℕ → List ℕ
subtract_frame k a b = message_frame (codes "calculate") call k (work_passed (pos k) (pos a) (pos b) (pos 2))

-- every other call adds, the first one too
abbrev pub adds : ℕ → Bool
adds k = k % 2 == 0

-- a field of a call's struct that holds an i32: its type, its id, its value
abbrev pub number_field : ℕ → ℕ → List ℕ
number_field id n = 8 ∷ 0 ∷ id ∷ signed_bytes w32 (pos n)

-- the struct of a work that takes b from a
abbrev pub work_struct : ℕ → ℕ → List ℕ
work_struct a b = number_field 1 a ++ (number_field 2 b ++ (number_field 3 2 ++ 0 ∷ []))

-- the arguments of call k, by the number that it is made of
abbrev pub arguments_by : ℕ → ℕ → Tree
arguments_by k x =
    if adds k then two_numbers_passed (pos (first_number x)) (pos (second_number x))
    else work_passed (pos k) (pos (first_number x)) (pos (second_number x)) (pos 2)

-- frame k, by the number that it is made of
abbrev pub frame_by : ℕ → ℕ → List ℕ
frame_by k x = if adds k then add_frame k (first_number x) (second_number x) else subtract_frame k (first_number x) (second_number x)

-- frame k of the workload of a seed
abbrev pub frame_at : ℕ → ℕ → List ℕ
frame_at seed k = frame_by k (number_at seed (k + 1))
