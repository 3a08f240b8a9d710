use Rattle.std.proofs.Common.{◌∙◌, List, ap}
use Rattle.idl_include.specs.declared.sources.IdlFile.{IdlFile}
use Rattle.idl_include.specs.SourcesOf.{program_in}
use Rattle.idl_include.specs.Names.{type_defined}
use Rattle.idl_names.specs.NameMaps.{NameMap, number_in_file}
use Rattle.idl_names.proofs.Found.{type_is}
use Rattle.idl_names.proofs.tables.NameTables.type_defined.Goals as goal

pub returns : goal.returns
returns c =
    let file = c.args.file in
    let name = c.args.name.now in
    let at = λ (ms : List NameMap). number_in_file ms file name in
    c.first_type.ensures
    ∙ type_is (program_in c.self.inside.files.now) file name c.number_in_file-alias.result c.number_in_file-number.result c.number_in_file-structure.result
    (c.number_in_file-alias.ensures ∙ ap at c.as_slice.ensures.value ∙ c.self.invariant.aliases file name)
    (c.number_in_file-number.ensures ∙ ap at c.as_slice-2.ensures.value ∙ c.self.invariant.enumerations file name)
    (c.number_in_file-structure.ensures ∙ ap at c.as_slice-3.ensures.value ∙ c.self.invariant.structures file name)
    ∙ ap (λ (fs : List IdlFile). type_defined (program_in fs) (record { file = file; name = name })) c.self.view_is
