use Rattle.idl_include.specs.SourcesOf.{program_in}
use Rattle.schema_bare.specs.GivenLists.{args_given}
use Rattle.schema_bare.proofs.Adding.{adds_none, adds_next, adds_all}
use Rattle.schema_bare.proofs.structs.put_args.Goals as goal

pub loop-function-init : goal.loop-function-init
loop-function-init c = adds_none (program_in c.args.tables.now.names.now) c.args.structs.now.items

pub loop-function-preserved : goal.loop-function-preserved
loop-function-preserved c =
    adds_next (program_in c.args.tables.now.names.now) (args_given c.args.file) c.args.functions.now c.loop-function.function-index c.function-item.result
    c.args.structs.now.items c.loop-function.structs.items c.put_made.new.structs.items c.loop-function-test.true c.function-item.is
    (c.in_ok-put_made.ensures (program_in c.args.tables.now.names.now) (args_given c.args.file c.function-item.result) c.args_desc.ensures) c.loop-function.invariant

pub returns : goal.returns
returns c =
    adds_all (program_in c.args.tables.now.names.now) (args_given c.args.file) c.args.functions.now c.loop-function.function-index c.args.structs.now.items
    c.loop-function.structs.items c.loop-function-test.false c.loop-function.invariant
