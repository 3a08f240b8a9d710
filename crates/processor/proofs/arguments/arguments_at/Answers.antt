use Rattle.std.proofs.Common.{subst}
use Rattle.thrift_value.specs.TreeOf.{tree_of}
use Rattle.schema.specs.SchemaOf.{schema_of}
use Rattle.struct_skew.specs.ReadAs.{ArgFaultsOrNoMemory, read_then_projected}
use Rattle.call_model.specs.Arguments.{wire_of}
use Rattle.processor.proofs.Arguing.{arguments_read, wire_refused, skew_refused}
use Rattle.processor.proofs.arguments.arguments_at.Goals as goal

pub returns-in-Ok : goal.returns-in-Ok
returns-in-Ok c =
    arguments_read (schema_of c.args.schema.now) c.args.protocol c.args.which c.args.payload.now c.args.at (tree_of c.in-Ok.value) c.in-Ok._behind c.in-Ok.ensures

pub returns-in-Err-Wire : goal.returns-in-Err-Wire
returns-in-Err-Wire c =
    wire_refused (schema_of c.args.schema.now) c.args.protocol c.args.which c.args.payload.now c.args.at c.in-Err-Wire.fault
    (subst (λ f. ArgFaultsOrNoMemory f (read_then_projected (wire_of c.args.protocol) (schema_of c.args.schema.now) c.args.which c.args.payload.now c.args.at)) c.in-Err-Wire.field-0-is c.in-Err-Wire.ensures)

pub returns-in-Err-Skew : goal.returns-in-Err-Skew
returns-in-Err-Skew c =
    skew_refused (schema_of c.args.schema.now) c.args.protocol c.args.which c.args.payload.now c.args.at c.in-Err-Skew.fault
    (subst (λ f. ArgFaultsOrNoMemory f (read_then_projected (wire_of c.args.protocol) (schema_of c.args.schema.now) c.args.which c.args.payload.now c.args.at)) c.in-Err-Skew.field-0-is c.in-Err-Skew.ensures)
