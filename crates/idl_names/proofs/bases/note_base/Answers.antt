use Rattle.idl_names.proofs.Based.{notes_include}
use Rattle.idl_names.proofs.bases.note_base.Goals as goal

pub returns-in-Some : goal.returns-in-Some
returns-in-Some c =
    let file = c.in-Some.file.now in
    let found = c.in-Some.ensures.lookup in
    let own = c.requires c.args.number file found.3.0 in
    notes_include c.args.files.now c.args.number file c.as_slice.result.now c.args.map.now c.note.new.map c.note.result found.3.0 found.1 own c.as_slice.ensures c.note.ensures
