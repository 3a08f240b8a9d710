use Rattle.std.proofs.Common.{◌≡◌, ◌++◌, OnOk, ap, sym, subst, ◌∙◌}
use Rattle.schema.specs.SchemaOf.{schema_of, plain_alias, plain_constant, plain_enum, plain_struct, plain_service}
use Rattle.schema.specs.SchemaText.{alias_in_text, constant_in_text, def_in_text, enum_in_text, service_in_text, struct_in_text}
use Rattle.schema.proofs.Pieces.{text_found, text_missed}
use Rattle.schema.proofs.text.put_def.Goals as goal

pub returns-in-Some : goal.returns-in-Some
returns-in-Some c =
    subst (λ text. OnOk c.put_alias.result (c.put_alias.new.into.items ≡ c.args.into.now.items ++ text))
    (text_found (alias_in_text (schema_of c.args.schema.now)) plain_alias c.args.schema.now.aliases c.as_slice.result.now c.in-Alias.n c.in-Some.found.now c.as_slice.ensures (c.in-Some.ensures {u = tt})
    ∙ ap (def_in_text (schema_of c.args.schema.now)) (sym c.in-Alias.is))
    c.put_alias.ensures

pub returns-in-None : goal.returns-in-None
returns-in-None c =
    text_missed (alias_in_text (schema_of c.args.schema.now)) plain_alias c.args.schema.now.aliases c.as_slice.result.now c.in-Alias.n c.args.into.now.items c.as_slice.ensures (c.in-None.ensures {u = tt})
    ∙ ap (λ d. c.args.into.now.items ++ def_in_text (schema_of c.args.schema.now) d) (sym c.in-Alias.is)

pub returns-in-Some-at : goal.returns-in-Some-at
returns-in-Some-at c =
    subst (λ text. OnOk c.put_constant.result (c.put_constant.new.into.items ≡ c.args.into.now.items ++ text))
    (text_found (constant_in_text (schema_of c.args.schema.now)) plain_constant c.args.schema.now.constants c.as_slice-in-Constant.result.now c.in-Constant.n c.in-Some-at.found.now c.as_slice-in-Constant.ensures (c.in-Some-at.ensures {u = tt})
    ∙ ap (def_in_text (schema_of c.args.schema.now)) (sym c.in-Constant.is))
    c.put_constant.ensures

pub returns-in-None-at : goal.returns-in-None-at
returns-in-None-at c =
    text_missed (constant_in_text (schema_of c.args.schema.now)) plain_constant c.args.schema.now.constants c.as_slice-in-Constant.result.now c.in-Constant.n c.args.into.now.items c.as_slice-in-Constant.ensures (c.in-None-at.ensures {u = tt})
    ∙ ap (λ d. c.args.into.now.items ++ def_in_text (schema_of c.args.schema.now) d) (sym c.in-Constant.is)

pub returns-in-Some-at-2 : goal.returns-in-Some-at-2
returns-in-Some-at-2 c =
    subst (λ text. OnOk c.put_enum.result (c.put_enum.new.into.items ≡ c.args.into.now.items ++ text))
    (text_found enum_in_text plain_enum c.args.schema.now.enums c.as_slice-in-Enum.result.now c.in-Enum.n c.in-Some-at-2.found.now c.as_slice-in-Enum.ensures (c.in-Some-at-2.ensures {u = tt})
    ∙ ap (def_in_text (schema_of c.args.schema.now)) (sym c.in-Enum.is))
    c.put_enum.ensures

pub returns-in-None-at-2 : goal.returns-in-None-at-2
returns-in-None-at-2 c =
    text_missed enum_in_text plain_enum c.args.schema.now.enums c.as_slice-in-Enum.result.now c.in-Enum.n c.args.into.now.items c.as_slice-in-Enum.ensures (c.in-None-at-2.ensures {u = tt})
    ∙ ap (λ d. c.args.into.now.items ++ def_in_text (schema_of c.args.schema.now) d) (sym c.in-Enum.is)

pub returns-in-Some-at-3 : goal.returns-in-Some-at-3
returns-in-Some-at-3 c =
    subst (λ text. OnOk c.put_struct.result (c.put_struct.new.into.items ≡ c.args.into.now.items ++ text))
    (text_found (struct_in_text (schema_of c.args.schema.now)) plain_struct c.args.schema.now.structs c.as_slice-in-Struct.result.now c.in-Struct.n c.in-Some-at-3.found.now c.as_slice-in-Struct.ensures (c.in-Some-at-3.ensures {u = tt})
    ∙ ap (def_in_text (schema_of c.args.schema.now)) (sym c.in-Struct.is))
    c.put_struct.ensures

pub returns-in-None-at-3 : goal.returns-in-None-at-3
returns-in-None-at-3 c =
    text_missed (struct_in_text (schema_of c.args.schema.now)) plain_struct c.args.schema.now.structs c.as_slice-in-Struct.result.now c.in-Struct.n c.args.into.now.items c.as_slice-in-Struct.ensures (c.in-None-at-3.ensures {u = tt})
    ∙ ap (λ d. c.args.into.now.items ++ def_in_text (schema_of c.args.schema.now) d) (sym c.in-Struct.is)

pub returns-in-Some-at-4 : goal.returns-in-Some-at-4
returns-in-Some-at-4 c =
    subst (λ text. OnOk c.put_service.result (c.put_service.new.into.items ≡ c.args.into.now.items ++ text))
    (text_found (service_in_text (schema_of c.args.schema.now)) plain_service c.args.schema.now.services c.as_slice-in-Service.result.now c.in-Service.n c.in-Some-at-4.found.now c.as_slice-in-Service.ensures (c.in-Some-at-4.ensures {u = tt})
    ∙ ap (def_in_text (schema_of c.args.schema.now)) (sym c.in-Service.is))
    c.put_service.ensures

pub returns-in-None-at-4 : goal.returns-in-None-at-4
returns-in-None-at-4 c =
    text_missed (service_in_text (schema_of c.args.schema.now)) plain_service c.args.schema.now.services c.as_slice-in-Service.result.now c.in-Service.n c.args.into.now.items c.as_slice-in-Service.ensures (c.in-None-at-4.ensures {u = tt})
    ∙ ap (λ d. c.args.into.now.items ++ def_in_text (schema_of c.args.schema.now) d) (sym c.in-Service.is)
