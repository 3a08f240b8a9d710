-- The bytes of a workload are few.
use Rattle.std.proofs.Common.{◌≡◌, ℕ, zero, suc, ℤ, pos, ◌+◌, ◌*◌, ◌≤◌, Bool, true, false, cond, codes, List, length, refl, ap, ◌∙◌, arith, length-append}
use Rattle.std.specs.Int.{w32, to_be_bytes}
use Rattle.std.specs.List.{sum_by}
use Rattle.std.proofs.Math.Nat.{mul-suc}
use Rattle.std.proofs.lemmas.List.Sums.{sum_by-cons}
use Rattle.thrift_value.specs.Tree.{of_i32, of_struct, no_fields, field}
use Rattle.host_model.specs.Frames.{frame}
use Rattle.script_model.specs.ScriptLines.{count_up}
use Rattle.workload.specs.CallFrames.{message_frame, adds, frame_at}
use Rattle.envelope.specs.Said.{reply}
use Rattle.workload.specs.ExpectedRun.{frame_answer, reply_at, bytes_in, bytes_out}
use Rattle.workload.specs.Payloads.{payload_at}
use Rattle.workload.proofs.Payloads.{framed, is_payload}

summed_most : (f : ℕ → ℕ) (most : ℕ) → ((k : ℕ) → f k ≤ most) → (n from : ℕ) → sum_by f (count_up from n) ≤ most * n
summed_most f most each zero from = omega arith
summed_most f most each (suc n) from =
    let split : sum_by f (count_up from (suc n)) ≡ f from + sum_by f (count_up (suc from) n) = sum_by-cons f from (count_up (suc from) n) in
    let here : f from ≤ most = each from in
    let more : sum_by f (count_up (suc from) n) ≤ most * n = summed_most f most each n (suc from) in
    let product : most * suc n ≡ most + most * n = mul-suc most n ∙ (let e : most * n + most ≡ most + most * n = omega arith in e) in
    omega (arith, split, here, more, product)

frame_most : (seed k : ℕ) → length (frame_at seed k) ≤ 58
frame_most seed k =
    let p : List ℕ = payload_at seed k in
    let whole : length (frame_at seed k) ≡ length (frame p) = ap length (framed seed k) in
    let parts : length (frame p) ≡ 4 + length p = length-append (to_be_bytes w32 (length p)) p in
    let few : length p ≤ 54 = (is_payload seed k 54 (omega arith)).within in
    omega (arith, whole, parts, few)

reply_most : (k : ℕ) (n : ℤ) (sum : Bool) → length (message_frame (cond sum (codes "add") (codes "calculate")) reply k (of_struct (field (pos 0) (of_i32 n) no_fields))) ≤ 33
reply_most k n true =
    let size : length (message_frame (codes "add") reply k (of_struct (field (pos 0) (of_i32 n) no_fields))) ≡ 27 = refl in omega (arith, size)
reply_most k n false =
    let size : length (message_frame (codes "calculate") reply k (of_struct (field (pos 0) (of_i32 n) no_fields))) ≡ 33 = refl in omega (arith, size)

pub read_few : (seed size : ℕ) → bytes_in seed size ≤ 58 * size
read_few seed size = summed_most (λ k. length (frame_at seed k)) 58 (frame_most seed) size 0

pub written_few : (seed size : ℕ) → bytes_out seed size ≤ 33 * size
written_few seed size = summed_most (λ k. length (reply_at seed k)) 33 (λ k. reply_most k (frame_answer seed k) (adds k)) size 0
