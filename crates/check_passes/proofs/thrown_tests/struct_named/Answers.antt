use Rattle.std.proofs.Common.{◌≡◌, ℕ, Option, Some, ap, sym, ◌∙◌}
use Rattle.std.specs.Option.{option_map}
use Rattle.idl_include.specs.TypeExpr.{name_expr}
use Rattle.idl_include.specs.DeclaredIn.{name_in}
use Rattle.idl_include.specs.Names.{an_alias, type_named}
use Rattle.idl_include.specs.SourcesOf.{program_in}
use Rattle.idl_names.specs.declared.tables.TypeName.{TypeName}
use Rattle.idl_names.specs.Meanings.{type_meant}
use Rattle.check_passes.specs.Right.{alias_known}
use Rattle.check_passes.specs.Exceptions.{struct_number_in, IsStructMeant}
use Rattle.check_passes.proofs.Thrown.{alias_told, ok_more}
use Rattle.check_passes.proofs.thrown_tests.struct_named.Goals as goal

pub returns-in-Some-Alias : goal.returns-in-Some-Alias
returns-in-Some-Alias c program files right =
    let same : type_named (program_in c.args.names.now) c.args.file c.as_slice.result.now ≡ type_named program c.args.file c.args.name.now.text =
    λ i. type_named (files i) c.args.file (c.as_slice.ensures i) in
    let told : Some (an_alias c.in-Some-Alias.number) ≡ type_named (program_in c.args.names.now) c.args.file c.as_slice.result.now =
    sym (ap (λ (t : TypeName). Some (type_meant t)) c.in-Some-Alias.field-0-is) ∙ c.in-Some-Alias.ensures in
    let named : type_named program c.args.file c.args.name.now.text ≡ Some (an_alias c.in-Some-Alias.number) = sym same ∙ sym told in
    ok_more c.struct_of_alias.result (λ (found : Option ℕ). option_map struct_number_in (alias_known c.args.aliases.now c.in-Some-Alias.number) ≡ Some found)
    (IsStructMeant program c.args.file (name_expr (name_in c.args.name.now)))
    (λ found meant. alias_told program c.args.file (name_in c.args.name.now) c.in-Some-Alias.number c.args.aliases.now found right named meant)
    c.struct_of_alias.ensures
