use Rattle.std.proofs.Common.{◌<◌, ◌^◌, arith}
use Rattle.std.proofs.lemmas.Int.{ints}
use Rattle.value_text.proofs.Digits.{wide_is, wide_negative}
use Rattle.value_text.proofs.fronts.integer_at.Goals as goal

pub returns-then-byte-eq45-clause-least : goal.returns-then-byte-eq45-clause-least
returns-then-byte-eq45-clause-least c =
    let small : c.in_ok-size.size < 2 ^ 64 = omega (arith, (c.in_ok-size.ensures {u = tt}).bound) in
    let same = wide_negative c.from.result c.in_ok-size.size c.from.ensures small in
    omega (arith, ints, same, (c.in_ok-size.ensures {u = tt}).bound)

pub returns-then-byte-eq45-clause-greatest : goal.returns-then-byte-eq45-clause-greatest
returns-then-byte-eq45-clause-greatest c =
    let small : c.in_ok-size.size < 2 ^ 64 = omega (arith, (c.in_ok-size.ensures {u = tt}).bound) in
    let same = wide_negative c.from.result c.in_ok-size.size c.from.ensures small in
    omega (arith, ints, same)

pub returns-clause-least : goal.returns-clause-least
returns-clause-least c =
    let small : c.in_ok-size-2.size < 2 ^ 64 = omega (arith, (c.in_ok-size-2.ensures {u = tt}).bound) in
    let same = wide_is c.from-2.result c.in_ok-size-2.size c.from-2.ensures small in
    omega (arith, ints, same)

pub returns-clause-greatest : goal.returns-clause-greatest
returns-clause-greatest c =
    let small : c.in_ok-size-2.size < 2 ^ 64 = omega (arith, (c.in_ok-size-2.ensures {u = tt}).bound) in
    let same = wide_is c.from-2.result c.in_ok-size-2.size c.from-2.ensures small in
    omega (arith, ints, same, (c.in_ok-size-2.ensures {u = tt}).bound)
