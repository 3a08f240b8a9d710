use Rattle.idl_include.specs.SourcesOf.{program_in}
use Rattle.schema_bare.specs.GivenLists.{struct_given}
use Rattle.schema_bare.proofs.Adding.{adds_none, adds_next, adds_all}
use Rattle.schema_bare.proofs.structs.put_structs.Goals as goal

pub loop-one-init : goal.loop-one-init
loop-one-init c = adds_none (program_in c.args.tables.now.names.now) c.args.structs.now.items

pub loop-one-preserved : goal.loop-one-preserved
loop-one-preserved c =
    adds_next (program_in c.args.tables.now.names.now) struct_given c.args.given.now c.loop-one.one-index c.one-item.result c.args.structs.now.items
    c.loop-one.structs.items c.put_made.new.structs.items c.loop-one-test.true c.one-item.is
    (c.in_ok-put_made.ensures (program_in c.args.tables.now.names.now) (struct_given c.one-item.result) c.struct_desc.ensures) c.loop-one.invariant

pub returns : goal.returns
returns c =
    adds_all (program_in c.args.tables.now.names.now) struct_given c.args.given.now c.loop-one.one-index c.args.structs.now.items c.loop-one.structs.items
    c.loop-one-test.false c.loop-one.invariant
