-- The payloads of a workload's frames.
use Rattle.std.specs.Prelude.{ℕ, pos, ◌+◌, List, ◌++◌, codes, if◌then◌else◌}
use Rattle.thrift_value.specs.Tree.{Tree}
use Rattle.wire_model.specs.Encoder.{text}
use Rattle.binary_codec.specs.Written.{binary_encoder}
use Rattle.call_rules.specs.Examples.{two_numbers_passed, work_passed}
use Rattle.workload.specs.Numbers.{number_at, first_number, second_number}
use Rattle.workload.specs.CallFrames.{call_head, adds}

-- the payload of a call: its head, and the struct of its arguments
abbrev pub call_text : List ℕ → ℕ → Tree → List ℕ
call_text method k arguments = call_head method k ++ text binary_encoder arguments

-- the payload of the call add(a, b)
unfoldable pub add_payload : ℕ → ℕ → ℕ → List ℕ
add_payload k a b = call_text (codes "add") k (two_numbers_passed (pos a) (pos b))

-- the payload of the call calculate(k, w), where w takes b from a
unfoldable pub subtract_payload : ℕ → ℕ → ℕ → List ℕ
subtract_payload k a b = call_text (codes "calculate") k (work_passed (pos k) (pos a) (pos b) (pos 2))

-- the payload of frame k, by the number that it is made of
abbrev pub payload_by : ℕ → ℕ → List ℕ
payload_by k x = if adds k then add_payload k (first_number x) (second_number x) else subtract_payload k (first_number x) (second_number x)

-- the payload of frame k of the workload of a seed
abbrev pub payload_at : ℕ → ℕ → List ℕ
payload_at seed k = payload_by k (number_at seed (k + 1))

-- the longest of them
abbrev pub most_payload_bytes : ℕ
most_payload_bytes = 54
