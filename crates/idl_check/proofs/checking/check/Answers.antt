use Rattle.std.proofs.Common.{List, sym, subst, ◌∙◌}
use Rattle.idl_include.specs.declared.sources.IdlFile.{IdlFile}
use Rattle.idl_include.specs.SourcesOf.{program_in, AreFiles}
use Rattle.idl_check.specs.Behind.{IsCheckOf}
use Rattle.idl_check.proofs.checking.check.Goals as goal

pub checked_by-requires-clause-files : goal.checked_by-requires-clause-files
checked_by-requires-clause-files c = subst AreFiles (sym (c.in_ok-names.ensures ∙ c.files-files.ensures)) c.requires

pub returns : goal.returns
returns c =
    let P : List IdlFile → Type 0 = λ files. IsCheckOf (program_in files) c.checked_by.result in
    subst P (c.in_ok-names.ensures ∙ c.files-files.ensures) c.checked_by.ensures
