use Rattle.std.proofs.Common.{◌∙◌, List, Bool, map, sym, ap}
use Rattle.std.specs.List.{find, position_from}
use Rattle.std.specs.Str.{bytes_eq}
use Rattle.schema.specs.declared.types.FieldDesc.{FieldDesc}
use Rattle.schema.specs.PlainSchema.{PlainField, PlainStruct}
use Rattle.schema.specs.SchemaOf.{schema_of, plain_field}
use Rattle.const_evaluator.proofs.InTables.{struct_there, no_struct}
use Rattle.const_evaluator.proofs.ground.ProgramGroundGround.field_named.Goals as goal

pub field_of_name-requires : goal.field_of_name-requires
field_of_name-requires c = λ other.
    (c.requires.tables c.args.which c.in-Some.table.now (sym c.in-Some.ensures)).named other
    ∙ ap (λ (fs : List FieldDesc). position_from (λ (f : PlainField). bytes_eq f.name other) 0 (map plain_field fs)) (sym c.as_slice.ensures)

pub returns-in-Some : goal.returns-in-Some
returns-in-Some c =
    let test : PlainField → Bool = λ f. bytes_eq f.name c.args.name.now in
    c.field_of_name.ensures
    ∙ ap (λ (fs : List FieldDesc). find test (map plain_field fs)) c.as_slice.ensures
    ∙ sym (ap (λ (s : PlainStruct). find test s.fields)
    (struct_there (schema_of c.args.self.now.schema.now) c.args.self.now.structs.items c.args.which c.in-Some.table.now c.requires.structs c.in-Some.ensures))

pub returns-in-None : goal.returns-in-None
returns-in-None c =
    let test : PlainField → Bool = λ f. bytes_eq f.name c.args.name.now in
    sym (ap (λ (s : PlainStruct). find test s.fields) (no_struct (schema_of c.args.self.now.schema.now) c.args.self.now.structs.items c.args.which c.requires.structs c.in-None.ensures))
