use Rattle.std.proofs.Common.{◌≡◌, ℤ, length, Some, sym, ap, ◌∙◌}
use Rattle.std.specs.Option.{option_map}
use Rattle.std.proofs.lemmas.Option.{slice_get_read}
use Rattle.thrift_value.specs.declared.value.Value.{Value}
use Rattle.struct_skew.specs.TakenOut.{named_field, without_named}
use Rattle.struct_skew.proofs.slots.take_named.Goals as goal

pub returns-clause-taken : goal.returns-clause-taken
returns-clause-taken c =
    let sent = c.args.sent.now.items in
    let here : named_field sent (Some c.in-Some.place) ≡ Some c.take_item-value.result =
    slice_get_read sent (length c.as_slice.result.now) c.in-Some.place c.take_item-value.result (ap length c.as_slice.ensures.value) c.if-place-as_slice.false
    (c.take_item-value.ensures.taken c.take_item-value.result) in
    sym (ap (option_map (λ (f : ℤ × Value). f.1)) (ap (named_field sent) c.in-Some.is ∙ here))

pub returns-clause-left : goal.returns-clause-left
returns-clause-left c = c.take_item-value.ensures.left ∙ ap (without_named c.args.sent.now.items) (sym c.in-Some.is)
