use Rattle.std.proofs.Common.{rules, ◌≡◌, ℕ, List, refl, subst}
use Rattle.idl_include.specs.Loads.{IsTextRead, IsUnread}
use Rattle.streams.proofs.Causes.{on_ok}
use Rattle.idl_include.proofs.OneFile.{read_is}
use Rattle.idl_include.proofs.Failed.{failed_is, read_otherwise}
use Rattle.idl_include.proofs.reading.read_file.Goals as goal

pub returns-in-Ok-clause-told : goal.returns-in-Ok-clause-told
returns-in-Ok-clause-told g c =
    let P : List ℕ → Type 0 = λ text. IsTextRead c.args.name.now text c.document_of.result in
    read_is c.each_file_is_read_as_one_thing.ensures.one (g.F.Files.files c.args.files.now) c.args.name.now c.in-Ok.text.items c.document_of.result
    c.in-Ok.ensures.read.read c.in-Ok.ensures.read.within (subst P c.as_slice.ensures.value c.document_of.ensures.read)

pub returns-in-Ok-clause-failed : goal.returns-in-Ok-clause-failed
returns-in-Ok-clause-failed g c = read_otherwise (g.F.Files.files c.args.files.now) c.args.name.now c.document_of.result c.document_of.ensures.outer

pub returns-in-Err-clause-failed : goal.returns-in-Err-clause-failed
returns-in-Err-clause-failed g c =
    let named : c.new-file.result ≡ c.args.name.now = search rules in
    let P : List ℕ → Type 0 = λ name. IsUnread name c.in-Err.fail c.unread.result in
    failed_is (g.F.Files.files c.args.files.now) c.args.name.now _ c.in-Err.fail _ c.unread.result c.in-Err.ensures.read refl (subst P named c.unread.ensures)

pub returns-in-Ok-clause-kept : goal.returns-in-Ok-clause-kept
returns-in-Ok-clause-kept g c = on_ok c.document_of.result (c.in-Ok.ensures.cause.kept (λ e. absurd (let f : ⊥ = cc in f)))
