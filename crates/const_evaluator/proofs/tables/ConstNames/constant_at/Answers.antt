use Rattle.std.proofs.Common.{◌∙◌, ap, ℕ, List, Option, None, get_or}
use Rattle.std.specs.Option.{option_map, option_and_then}
use Rattle.idl_include.specs.Declarations.{ConstDecl}
use Rattle.idl_include.specs.Numbering.{is_filed_as}
use Rattle.idl_include.specs.ConstNames.{given_value, constant_at}
use Rattle.idl_include.specs.declared.sources.IdlFile.{IdlFile}
use Rattle.idl_include.specs.SourcesOf.{program_in}
use Rattle.const_evaluator.proofs.Meant.{value_of_found}
use Rattle.const_evaluator.proofs.tables.ConstNames.constant_at.Goals as goal

pub returns : goal.returns
returns c =
    let file = c.args.file in
    let name = c.args.name.now in
    ap (option_map given_value)
    (c.number_at.ensures ∙ ap (λ (ns : List (Option ℕ)). option_and_then (λ k. get_or ns k None) c.constant_defined-constant.result) c.as_slice.ensures.value)
    ∙ value_of_found (program_in c.self.inside.names.now) c.self.inside.constants.items c.self.invariant.values (is_filed_as (λ (d : ConstDecl). d.name) file name)
    c.constant_defined-constant.result c.constant_defined-constant.ensures
    ∙ ap (λ (fs : List IdlFile). constant_at (program_in fs) (record { file = file; name = name })) c.self.view_is
