use Rattle.std.proofs.Common.{◌∙◌, List, map, sym, ap}
use Rattle.schema.specs.PlainSchema.{PlainStruct}
use Rattle.schema.specs.SchemaOf.{schema_of}
use Rattle.check_model.specs.Evaluation.{default_of, fields_worth}
use Rattle.idl_const.specs.declared.ground.FieldEntry.{FieldEntry}
use Rattle.idl_const.specs.FieldEntries.{entry_in, given_in_memory, entries_worth}
use Rattle.const_evaluator.specs.ProgramGrounds.{ground_program}
use Rattle.const_evaluator.proofs.InTables.{no_struct}
use Rattle.const_evaluator.proofs.ground.ProgramGroundGround.entries.Goals as goal

pub returns-in-None : goal.returns-in-None
returns-in-None c = λ named at levels count.
    ap (λ (s : PlainStruct). fields_worth named (default_of (ground_program c.args.self.now) c.args.which) (map given_in_memory c.args.given.items) at levels count s.fields)
    (no_struct (schema_of c.args.self.now.schema.now) c.args.self.now.structs.items c.args.which c.requires.right.structs c.in-None.ensures)
    ∙ sym (ap (λ (row : List FieldEntry). entries_worth named at levels count (map entry_in row)) c.new.ensures.items)
