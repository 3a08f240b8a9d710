use Rattle.std.proofs.Common.{length, take, drop, arith, rules, ◌≡◌, ◌+◌, ◌∙◌, ap}
use Rattle.std.specs.Int.{w32, from_be_bytes}
use Rattle.host_model.proofs.Splitting.{one_in_front}
use Rattle.plain_machine.proofs.frames.first_frame.Goals as goal

pub returns : goal.returns
returns c =
    let bytes = c.args.bytes.now in
    let parts : (c.in_ok-size.size.now ≡ take 4 bytes) × (c.in_ok-size.rest.now ≡ drop 4 bytes) × (length c.in_ok-size.rest.now + 4 ≡ length bytes) = (c.in_ok-size.ensures {u = tt}).cases in
    let size = c.from_be_bytes-size.result in
    let front = c.split_at.ensures in (
      record { some = omega arith; within = omega arith },
      one_in_front bytes c.split_at.result.0.now c.split_at.result.1.now size (omega arith) (λ i. search rules) (c.from_be_bytes-size.ensures ∙ ap (from_be_bytes w32) parts.0) front.front_len
          (front.front ∙ ap (take size) parts.1) (front.back ∙ ap (drop size) parts.1),
    )
