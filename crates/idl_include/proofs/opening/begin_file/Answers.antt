use Rattle.std.proofs.Common.{◌≤◌, ◌<◌, length, refl, arith}
use Rattle.idl_include.specs.Loading.{most_files}
use Rattle.idl_include.specs.declared.faults.LoadStop.TheVariants as stops
use Rattle.idl_include.specs.Begun.{wanted_in}
use Rattle.idl_include.specs.Steps.{load_stage, file_left}
use Rattle.idl_include.proofs.Stages.{moves_to, ends_for_want}
use Rattle.idl_include.proofs.Begins.{too_many_ends, read_ends, start_goes, one_more}
use Rattle.idl_include.proofs.Followed.{steps_err}
use Rattle.idl_include.proofs.opening.begin_file.Goals as goal

pub returns-then-len-ge-MAX_FILES-clause-steps : goal.returns-then-len-ge-MAX_FILES-clause-steps
returns-then-len-ge-MAX_FILES-clause-steps g c = λ levels above.
    let full : most_files ≤ length c.args.begun.now.items = omega (arith, c.args.begun.now.ok.0, c.len.ensures) in
    too_many_ends levels above (g.F.Files.files c.args.files.now) (g.F.Files.faults c.args.files.now) c.args.name.now c.args.begun.now.items c.stop_at.result full c.stop_at.ensures

pub returns-in_err-document-clause-steps : goal.returns-in_err-document-clause-steps
returns-in_err-document-clause-steps g c = λ levels above.
    let room : length c.args.begun.now.items < most_files = omega (arith, c.args.begun.now.ok.0, c.len.ensures) in
    let e = c.in_err-document.ensures in
    steps_err c.from_residual.result c.in_err-document.field-0.0
    (load_stage (g.F.Files.files c.args.files.now) (g.F.Files.faults c.args.files.now) c.args.begun.now.items)
    (load_stage (g.F.Files.files c.read_file.new.files) (g.F.Files.faults c.read_file.new.files) c.args.begun.now.items)
    _ _ c.from_residual.ensures.1
    (read_ends levels above (g.F.Files.files c.args.files.now) (g.F.Files.files c.read_file.new.files) (g.F.Files.faults c.args.files.now) (g.F.Files.faults c.read_file.new.files)
    c.args.name.now c.args.begun.now.items c.in_err-document.field-0.0 room c.requires.fresh e.same e.later e.told e.failed e.rose e.quiet e.outer)

pub returns-in_err-wanted-clause-steps : goal.returns-in_err-wanted-clause-steps
returns-in_err-wanted-clause-steps g c = λ levels above.
    let e = c.in_ok-document.ensures in
    let a = load_stage (g.F.Files.files c.args.files.now) (g.F.Files.faults c.args.files.now) c.args.begun.now.items in
    let b = load_stage (g.F.Files.files c.read_file.new.files) (g.F.Files.faults c.read_file.new.files) c.start.new.begun.items in
    steps_err c.from_residual-in_err-wanted.result stops.NoMemory a b _ _ c.from_residual-in_err-wanted.ensures.1
    (ends_for_want a b (file_left _ above c.args.name.now c.args.begun.now.items) stops.NoMemory refl
    (moves_to (g.F.Files.files c.args.files.now) (g.F.Files.files c.read_file.new.files) (g.F.Files.faults c.args.files.now) (g.F.Files.faults c.read_file.new.files)
    c.args.begun.now.items c.start.new.begun.items e.same e.later c.in_err-wanted.ensures.kept) e.kept)

pub returns-clause-steps : goal.returns-clause-steps
returns-clause-steps g c = λ levels above.
    let room : length c.args.begun.now.items < most_files = omega (arith, c.args.begun.now.ok.0, c.len.ensures) in
    let e = c.in_ok-document.ensures in
    let law = c.a_document_declares_what_its_tree_does.ensures in
    start_goes law.declarations law.includes levels above (g.F.Files.files c.args.files.now) (g.F.Files.files c.read_file.new.files)
    (g.F.Files.faults c.args.files.now) (g.F.Files.faults c.read_file.new.files) c.args.name.now c.in_ok-document.document c.args.begun.now.items c.start.new.begun.items
    (wanted_in c.in_ok-wanted.wanted.items) c.requires.begun c.requires.fresh room e.text e.same e.kept e.told c.in_ok-wanted.ensures.started

pub returns-clause-one_more : goal.returns-clause-one_more
returns-clause-one_more g c = one_more _ _ _ _ _ c.in_ok-wanted.ensures.started
