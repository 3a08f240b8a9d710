use Rattle.std.proofs.Common.{ℤ, rules}
use Rattle.std.proofs.lemmas.List.Sorted.{answers_always}
use Rattle.thrift_value.specs.declared.value.Value.{Value}
use Rattle.struct_skew.proofs.FoundFields.{found_field}
use Rattle.struct_skew.proofs.written.is_found.Goals as goal

pub returns-in-Ok : goal.returns-in-Ok
returns-in-Ok c =
    let equal = c.in-Ok.ensures.position (λ (f : ℤ × Value). f.0) (answers_always _ _ _ (λ f a r g called. search rules)) in
    found_field c.args.id.now c.args.fields.now c.in-Ok.field-0 equal c.in-Ok.ensures.bound
