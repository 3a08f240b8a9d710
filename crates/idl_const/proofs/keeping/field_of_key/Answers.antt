use Rattle.std.proofs.Common.{ap, ◌∙◌}
use Rattle.std.specs.List.{find}
use Rattle.std.specs.Str.{bytes_eq}
use Rattle.schema.specs.PlainSchema.{PlainField}
use Rattle.schema.specs.SchemaOf.{plain_field}
use Rattle.idl_include.specs.DeclaredIn.{value_in, literal_in}
use Rattle.check_model.specs.Evaluation.{struct_numbered}
use Rattle.idl_const.proofs.Kept.{key_is, key_found, key_unknown, found_has_id}
use Rattle.idl_const.proofs.keeping.field_of_key.Goals as goal

pub returns-in-Some-clause-worth : goal.returns-in-Some-clause-worth
returns-in-Some-clause-worth g c count =
    key_found (struct_numbered (g.G.Ground.setting c.args.ground.now).schema c.args.which).fields count (value_in c.args.key.now) (literal_in c.in-Literal.literal) (plain_field c.in-Some.field.now)
    (key_is c.args.key.now c.in-Literal.literal c.in-Literal.is) (c.in-Some.ensures ∙ ap (λ n. find (λ (f : PlainField). bytes_eq f.name n) (struct_numbered (g.G.Ground.setting c.args.ground.now).schema c.args.which).fields) c.as_slice.ensures)

pub returns-in-Some-clause-known : goal.returns-in-Some-clause-known
returns-in-Some-clause-known g c =
    found_has_id (λ (f : PlainField). bytes_eq f.name c.as_slice.result.now) (struct_numbered (g.G.Ground.setting c.args.ground.now).schema c.args.which).fields (plain_field c.in-Some.field.now) c.in-Some.ensures

pub returns-in-None-clause-worth : goal.returns-in-None-clause-worth
returns-in-None-clause-worth g c count =
    key_unknown (struct_numbered (g.G.Ground.setting c.args.ground.now).schema c.args.which).fields count (value_in c.args.key.now) (literal_in c.in-Literal.literal)
    (key_is c.args.key.now c.in-Literal.literal c.in-Literal.is) (c.in-None.ensures ∙ ap (λ n. find (λ (f : PlainField). bytes_eq f.name n) (struct_numbered (g.G.Ground.setting c.args.ground.now).schema c.args.which).fields) c.as_slice.ensures)
