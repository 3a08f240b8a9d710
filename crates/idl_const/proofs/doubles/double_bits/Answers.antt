use Rattle.std.proofs.Common.{ap, ◌∙◌, sym, pos}
use Rattle.std.specs.Int.{w64}
use Rattle.std.specs.Int.RustNames.{unsigned_abs}
use Rattle.std.proofs.lemmas.Int.{to_z-of_z}
use lib.Signed.{lt_z}
use Rattle.check_model.specs.WholeDoubles.{magnitude_bits}
use Rattle.idl_const.proofs.WholeBits.{bits_below_zero, bits_from_zero}
use Rattle.idl_const.proofs.doubles.double_bits.Goals as goal

pub returns-then-number-lt0 : goal.returns-then-number-lt0
returns-then-number-lt0 c =
    let same = to_z-of_z w64 c.args.number c.ranges.number in
    bits_below_zero c.args.number c.power.result c.magnitude_bits-size.result c.power.ensures
    (c.magnitude_bits-size.ensures.value ∙ ap magnitude_bits (c.unsigned_abs.ensures.value ∙ ap unsigned_abs same))
    (ap (λ z. lt_z z (pos 0)) (sym same) ∙ c.if-number-lt0.true)

pub returns-else-number-lt0 : goal.returns-else-number-lt0
returns-else-number-lt0 c =
    let same = to_z-of_z w64 c.args.number c.ranges.number in
    bits_from_zero c.args.number c.magnitude_bits-size.result
    (c.magnitude_bits-size.ensures.value ∙ ap magnitude_bits (c.unsigned_abs.ensures.value ∙ ap unsigned_abs same))
    (ap (λ z. lt_z z (pos 0)) (sym same) ∙ c.if-number-lt0.false)
