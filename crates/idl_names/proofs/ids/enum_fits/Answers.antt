use Rattle.std.proofs.Common.{rules, ◌++◌, pos, map, to_z, w64, inl, refl, ap, sym, subst, ℤ}
use Rattle.std.specs.Prelude.{◌+ℤ◌}
use Rattle.idl_include.specs.DeclaredIn.{enum_value_in}
use Rattle.idl_include.specs.EnumNumbers.{number_or}
use Rattle.idl_names.specs.EnumRange.{fit_marks, IsNextAs}
use Rattle.idl_names.proofs.Walked.{fits_next, same_number, walk_end}
use Rattle.idl_names.proofs.ids.enum_fits.Goals as goal

pub loop-value-init : goal.loop-value-init
loop-value-init c = (pos 0, inl refl, ap (λ xs. xs ++ fit_marks (pos 0) (map enum_value_in c.args.values.now)) c.new-marks.ensures.items)

pub loop-value-preserved : goal.loop-value-preserved
loop-value-preserved c =
    let i = c.loop-value.invariant in
    let o = (enum_value_in c.value-item.result).number in
    let n = number_or i.0 o in
    let now : IsNextAs c.number_or-number.result n =
    subst (λ (m : ℤ). IsNextAs m n) (sym c.number_or-number.ensures) (same_number (to_z w64 c.loop-value.next-bits) i.0 o i.1) in (
      n +ℤ pos 1,
      search (rules, c.above-next.ensures n (search (rules, now))),
      fits_next c.args.values.now c.loop-value.value-index c.value-item.result i.0 (to_z w64 c.loop-value.next-bits) c.number_or-number.result c.loop-value.marks.items c.put.new.all.items
          (fit_marks (pos 0) (map enum_value_in c.args.values.now)) c.loop-value-test.true c.value-item.is i.1 c.number_or-number.ensures (search (rules, c.in_ok-put.ensures, c.has_32_bits.ensures)) i.2,
    )

pub returns : goal.returns
returns c =
    walk_end (λ left. fit_marks c.loop-value.invariant.0 (map enum_value_in left)) c.args.values.now c.loop-value.value-index c.loop-value.marks.items _ c.loop-value-test.false refl
    c.loop-value.invariant.2
