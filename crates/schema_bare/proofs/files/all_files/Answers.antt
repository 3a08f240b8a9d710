use Rattle.std.proofs.Common.{map}
use Rattle.idl_include.specs.Numbering.{none_counted}
use Rattle.idl_include.specs.SourcesOf.{program_in}
use Rattle.idl_names.specs.SpotsIn.{counts_in}
use Rattle.schema.specs.SchemaOf.{plain_file}
use Rattle.check_model.specs.SchemaParts.{files_behind}
use Rattle.schema_bare.proofs.Filing.{file_next, files_end}
use Rattle.schema_bare.proofs.files.all_files.Goals as goal

pub loop-file-preserved : goal.loop-file-preserved
loop-file-preserved c =
    file_next c.args.files.now c.loop-file.file-index c.file-item.result (counts_in c.loop-file.counts) (counts_in c.in_ok-counts.counts) (map plain_file c.loop-file.made.items)
    (map plain_file c.put_file.new.made.items) (files_behind none_counted (program_in c.args.files.now)) c.loop-file-test.true c.file-item.is c.in_ok-counts.ensures.counts
    c.in_ok-counts.ensures.files c.loop-file.invariant

pub returns : goal.returns
returns c =
    files_end c.args.files.now c.loop-file.file-index (counts_in c.loop-file.counts) (map plain_file c.loop-file.made.items) c.loop-file-test.false c.loop-file.invariant
