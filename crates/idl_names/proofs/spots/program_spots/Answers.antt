use Rattle.std.proofs.Common.{rules}
use Rattle.idl_include.specs.Numbering.{none_counted}
use Rattle.idl_include.specs.Spots.{spots_from}
use Rattle.idl_include.specs.SourcesOf.{program_in}
use Rattle.idl_names.specs.SpotsIn.{spots_in, counts_in}
use Rattle.idl_names.proofs.Spotted.{file_next, files_end}
use Rattle.idl_names.proofs.spots.program_spots.Goals as goal

pub loop-number-preserved : goal.loop-number-preserved
loop-number-preserved c =
    file_next c.args.files.now c.loop-number.number c.in-Ok.number c.index-files-number.result (counts_in c.loop-number.counts) (counts_in c.in_ok-counts.counts)
    (spots_in c.loop-number.spots.items) (spots_in c.put_file.new.spots.items) (spots_from 0 none_counted (program_in c.args.files.now))
    c.loop-number-test.true c.index-files-number.is (search rules) (search (rules, c.in_ok-counts.ensures.spots, c.as_slice.ensures.value))
    (search (rules, c.in_ok-counts.ensures.counts, c.as_slice.ensures.value)) c.loop-number.invariant

pub returns : goal.returns
returns c = files_end c.args.files.now c.loop-number.number (counts_in c.loop-number.counts) (spots_in c.loop-number.spots.items) c.loop-number-test.false c.loop-number.invariant
