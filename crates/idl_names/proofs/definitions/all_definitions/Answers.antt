use Rattle.std.proofs.Common.{rules}
use Rattle.idl_include.specs.SourcesOf.{program_in}
use Rattle.idl_names.specs.Listing.{listing_in, nothing_listed, with_files}
use Rattle.idl_names.proofs.Listed.{file_listed, files_listed}
use Rattle.idl_names.proofs.definitions.all_definitions.Goals as goal

pub loop-number-preserved : goal.loop-number-preserved
loop-number-preserved c =
    file_listed c.args.files.now c.loop-number.number c.in-Ok.number c.index-files-number.result (listing_in c.loop-number.all) (listing_in c.add_all.new.self)
    (with_files 0 (program_in c.args.files.now) nothing_listed) c.loop-number-test.true c.index-files-number.is (search rules)
    (search (rules, c.in_ok-add_all.ensures, c.as_slice.ensures.value)) c.loop-number.invariant

pub returns : goal.returns
returns c = files_listed c.args.files.now c.loop-number.number (listing_in c.loop-number.all) c.loop-number-test.false c.loop-number.invariant
