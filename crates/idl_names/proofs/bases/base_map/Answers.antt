use Rattle.idl_include.specs.SourcesOf.{program_in}
use Rattle.idl_names.proofs.Based.{included_next}
use Rattle.idl_names.proofs.bases.base_map.Goals as goal

pub loop-number-preserved : goal.loop-number-preserved
loop-number-preserved c =
    included_next (program_in c.args.files.now) c.args.includes.now c.loop-number.number-index c.loop-number.map c.note_base.new.map c.loop-number-test.true
    c.in_ok-note_base.ensures c.loop-number.invariant
