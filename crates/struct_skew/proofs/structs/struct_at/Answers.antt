use Rattle.std.proofs.Common.{ap, ◌∙◌}
use Rattle.std.specs.List.{slice_get}
use Rattle.schema.specs.SchemaOf.{schema_of}
use Rattle.struct_skew.proofs.StructsAt.{struct_here}
use Rattle.struct_skew.proofs.structs.struct_at.Goals as goal

pub returns : goal.returns
returns c =
    struct_here (schema_of c.args.schema.now) c.args.schema.now.structs c.args.needed.now c.args.which c.in_ok-desc.desc.now c.in_ok-needs.needs.now
    c.requires.needed (c.in_ok-desc.ensures ∙ ap (λ s. slice_get s c.args.which) c.as_slice.ensures) c.in_ok-needs.ensures c.requires.sound.all_else.structs
