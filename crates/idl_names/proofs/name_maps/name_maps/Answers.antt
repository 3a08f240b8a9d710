use Rattle.std.proofs.Common.{rules}
use Rattle.idl_names.proofs.Numbered.{noted_next}
use Rattle.idl_names.proofs.name_maps.name_maps.Goals as goal

pub loop-number-preserved : goal.loop-number-preserved
loop-number-preserved g c =
    noted_next (λ x. x.file) (λ x. g.D.Named.text x.item.now) c.args.items.now c.loop-number.number c.in-Ok.number c.index-items-number.result c.name_bytes.result.now
    c.loop-number.maps.items c.note_in.new.maps.items c.loop-number-test.true c.index-items-number.is (search rules) c.name_bytes.ensures c.in_ok-note_in.ensures c.loop-number.invariant
