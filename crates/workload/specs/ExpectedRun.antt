-- What a run of a workload comes to in which every frame is answered.
use Rattle.std.specs.Prelude.{ℕ, ℤ, pos, ◌+◌, ◌+ℤ◌, ◌-ℤ◌, List, codes, length, if◌then◌else◌}
use Rattle.std.specs.List.{sum_by}
use Rattle.thrift_value.specs.Tree.{of_i32, of_struct, no_fields, field}
use Rattle.envelope.specs.Said.{reply}
use Rattle.script_model.specs.ScriptLines.{count_up}
use Rattle.workload.specs.Numbers.{number_at, first_number, second_number}
use Rattle.workload.specs.CallFrames.{message_frame, adds, frame_at}
use Rattle.workload.specs.LoadPlan.{connections_of}
use Rattle.workload.specs.SummaryText.{workload_text, sum_over}

-- the answer to frame k, by the number that it is made of: the sum of its two numbers, or their difference
abbrev pub frame_answer_by : ℕ → ℕ → ℤ
frame_answer_by k x = if adds k then pos (first_number x) +ℤ pos (second_number x) else pos (first_number x) -ℤ pos (second_number x)

-- the answer to frame k of the workload of a seed
abbrev pub frame_answer : ℕ → ℕ → ℤ
frame_answer seed k = frame_answer_by k (number_at seed (k + 1))

-- the method that frame k calls
abbrev pub method_at : ℕ → List ℕ
method_at k = if adds k then codes "add" else codes "calculate"

-- the reply to frame k: the result has the id 0
abbrev pub reply_at : ℕ → ℕ → List ℕ
reply_at seed k = message_frame (method_at k) reply k (of_struct (field (pos 0) (of_i32 (frame_answer seed k)) no_fields))

-- all bytes of the frames
abbrev pub bytes_in : ℕ → ℕ → ℕ
bytes_in seed size = sum_by (λ k. length (frame_at seed k)) (count_up 0 size)

-- all bytes of the replies
abbrev pub bytes_out : ℕ → ℕ → ℕ
bytes_out seed size = sum_by (λ k. length (reply_at seed k)) (count_up 0 size)

-- the sum of the answers
abbrev pub sum_of : ℕ → ℕ → ℤ
sum_of seed size = sum_over (frame_answer seed) (count_up 0 size)

-- the summary of the workload of a seed with so many frames, each of which is a call that is answered
abbrev pub work_text : ℕ → ℕ → List ℕ
work_text seed size = workload_text (connections_of size) size size (bytes_in seed size) (bytes_out seed size) (sum_of seed size)
