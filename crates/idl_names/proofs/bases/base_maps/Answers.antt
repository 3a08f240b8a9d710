use Rattle.std.proofs.Common.{rules}
use Rattle.idl_include.specs.SourcesOf.{program_in}
use Rattle.idl_names.proofs.Based.{bases_next, bases_found}
use Rattle.idl_names.proofs.bases.base_maps.Goals as goal

pub loop-file-preserved : goal.loop-file-preserved
loop-file-preserved c =
    bases_next (program_in c.args.files.now) c.args.files.now c.loop-file.file-index c.file-item.result c.loop-file.maps.items c.put.new.all.items c.in_ok-map.map
    c.loop-file-test.true c.file-item.is c.in_ok-put.ensures (search (rules, c.in_ok-map.ensures, c.as_slice.ensures.value)) c.loop-file.invariant

pub returns : goal.returns
returns c = bases_found c.args.files.now c.loop-file.maps.items c.loop-file.file-index c.loop-file-test.false c.loop-file.invariant
