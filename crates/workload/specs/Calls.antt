-- The calls of a workload's frames, and what they are answered and replied.
use Rattle.std.specs.Prelude.{ℕ, ℤ, pos, ◌+◌, false, List}
use Rattle.thrift_value.specs.Tree.{of_i32, of_struct, no_fields, field}
use Rattle.call_rules.specs.PlainCalls.{PlainCall, PlainAnswer, success}
use Rattle.workload.specs.Numbers.{number_at}
use Rattle.workload.specs.CallFrames.{message_frame, arguments_by}
use Rattle.envelope.specs.Said.{reply}
use Rattle.workload.specs.ExpectedRun.{frame_answer, method_at}

-- the call of frame k, by the number that it is made of
abbrev pub call_by : ℕ → ℕ → PlainCall
call_by k x = record { slot = 0; method = method_at k; args = arguments_by k x; silent = false }

-- the call of frame k of the workload of a seed
abbrev pub call_in_load : ℕ → ℕ → PlainCall
call_in_load seed k = call_by k (number_at seed (k + 1))

-- a number as an answer
abbrev pub answered : ℤ → PlainAnswer
answered n = success (of_i32 n)

-- the answer to the call of frame k
abbrev pub answer_in_load : ℕ → ℕ → PlainAnswer
answer_in_load seed k = answered (frame_answer seed k)

-- the reply to frame k with this number
abbrev pub reply_with : ℕ → ℤ → List ℕ
reply_with k n = message_frame (method_at k) reply k (of_struct (field (pos 0) (of_i32 n) no_fields))
