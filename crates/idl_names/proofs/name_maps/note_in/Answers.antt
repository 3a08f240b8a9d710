use Rattle.idl_names.proofs.Numbered.{noted_in}
use Rattle.idl_names.proofs.name_maps.note_in.Goals as goal

pub returns : goal.returns
returns c =
    noted_in c.note.result c.args.maps.now.items c.reach.new.maps.items c.args.file c.args.name.now c.args.number c.index_mut.result.now c.note.new.map
    c.reach.ensures.same c.in_ok-reach.ensures.reached c.index_mut.ensures.value c.note.ensures
