use Rattle.std.proofs.Common.{◌≡◌, ℕ, ◌+◌, ◌*◌, ◌%◌, ◌^◌, List, drop, get_or, refl, sym, ap, subst, ◌∙◌, rules}
use Rattle.wire_num.proofs.Fronts.{decoded}
use Rattle.wire_num.proofs.Counted.{Counted, counted_short, counted_last, counted_more}
use Rattle.wire_num.proofs.varint.decode_number.Goals as goal

pub returns-then-i-bytes-clause-read : goal.returns-then-i-bytes-clause-read
returns-then-i-bytes-clause-read c =
    counted_short c.args.bytes.now c.args.most c.loop-i.number c.loop-i.weight c.loop-i.i c.loop-i.invariant (search rules) (search rules)

pub returns-then-byte-lt128-clause-read : goal.returns-then-byte-lt128-clause-read
returns-then-byte-lt128-clause-read c =
    let b : ℕ = get_or c.args.bytes.now c.loop-i.i 0 in
    let group : c.from.result ≡ b % 128 = c.from.ensures in
    counted_last c.args.bytes.now c.args.most c.loop-i.number c.loop-i.weight c.loop-i.i b c.loop-i.invariant (search rules) (search rules) refl (search rules)
    ∙ ap (λ (n : ℕ). decoded ((c.loop-i.number + c.loop-i.weight * n % 2 ^ 64) % 2 ^ 64, drop (c.loop-i.i + 1) c.args.bytes.now)) (sym group)
    ∙ ap (λ (t : List ℕ). decoded ((c.loop-i.number + c.loop-i.weight * c.from.result % 2 ^ 64) % 2 ^ 64, t)) (sym c.split_at.ensures.back)

pub loop-i-preserved : goal.loop-i-preserved
loop-i-preserved c =
    let b : ℕ = get_or c.args.bytes.now c.loop-i.i 0 in
    let group : c.from.result ≡ b % 128 = c.from.ensures in
    subst (λ (n : ℕ). Counted c.args.bytes.now c.args.most ((c.loop-i.number + c.loop-i.weight * n % 2 ^ 64) % 2 ^ 64) (c.loop-i.weight * 128 % 2 ^ 64) (c.loop-i.i + 1)) (sym group)
    (counted_more c.args.bytes.now c.args.most c.loop-i.number c.loop-i.weight c.loop-i.i b c.loop-i.invariant (search rules) (search rules) refl (search rules))
