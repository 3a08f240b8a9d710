use Rattle.std.proofs.Common.{refl}
use Rattle.std.specs.List.{flat_map}
use Rattle.std.proofs.lemmas.List.{get_or_default}
use Rattle.schema.specs.SchemaOf.{schema_of}
use Rattle.schema.specs.SchemaText.{def_in_text}
use Rattle.schema.proofs.Pieces.{one_more, all_written}
use Rattle.schema.proofs.text.put_defs.Goals as goal

pub loop-def-preserved : goal.loop-def-preserved
loop-def-preserved c =
    one_more (def_in_text (schema_of c.args.schema.now)) (flat_map (def_in_text (schema_of c.args.schema.now))) (λ x xs. refl) c.args.defs.now c.loop-def.def-index _ _ c.loop-def.into.items _
    c.loop-def-test.true (get_or_default c.args.defs.now c.loop-def.def-index _ _ c.loop-def-test.true)
    c.loop-def.invariant c.in_ok-put_def.ensures

pub returns : goal.returns
returns c =
    all_written (def_in_text (schema_of c.args.schema.now)) (flat_map (def_in_text (schema_of c.args.schema.now))) (λ x xs. refl) c.args.defs.now c.loop-def.def-index _ c.loop-def.into.items refl
    c.loop-def-test.false c.loop-def.invariant
