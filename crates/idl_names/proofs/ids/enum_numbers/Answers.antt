use Rattle.std.proofs.Common.{rules, map, to_z, w64, ◌++◌, pos, ap, refl}
use Rattle.idl_include.specs.DeclaredIn.{enum_value_in}
use Rattle.idl_include.specs.EnumNumbers.{enum_numbers, numbers_from}
use Rattle.idl_names.proofs.Walked.{numbers_next, walk_end}
use Rattle.idl_names.proofs.ids.enum_numbers.Goals as goal

pub loop-value-preserved : goal.loop-value-preserved
loop-value-preserved c =
    numbers_next c.args.values.now c.loop-value.value-index c.value-item.result (to_z w64 c.loop-value.next-bits) c.number_or-number.result _ c.loop-value.numbers.items c.put.new.all.items
    (enum_numbers (map enum_value_in c.args.values.now)) c.loop-value-test.true c.value-item.is c.number_or-number.ensures (search (rules, c.in_ok-next.ensures))
    (search (rules, c.in_ok-put.ensures)) c.loop-value.invariant

pub loop-value-init : goal.loop-value-init
unfolding enum_numbers
loop-value-init c = ap (λ numbers. numbers ++ numbers_from (pos 0) (map enum_value_in c.args.values.now)) c.new-numbers.ensures.items

pub returns : goal.returns
returns c =
    walk_end (λ left. numbers_from (to_z w64 c.loop-value.next-bits) (map enum_value_in left)) c.args.values.now c.loop-value.value-index c.loop-value.numbers.items _ c.loop-value-test.false refl
    c.loop-value.invariant
