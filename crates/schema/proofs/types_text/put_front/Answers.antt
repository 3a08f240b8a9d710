use Rattle.std.proofs.Common.{◌≡◌, ◌++◌, OnOk, subst, ◌∙◌}
use Rattle.schema.specs.SchemaOf.{schema_of}
use Rattle.schema.proofs.Levels.{same_front}
use Rattle.schema.proofs.Pieces.{put_on_ok}
use Rattle.schema.proofs.types_text.put_front.Goals as goal

pub returns-in_default : goal.returns-in_default
returns-in_default c =
    let d = c.in_default in
    subst (λ w. OnOk c.extend_from_slice-in_default.result (c.extend_from_slice-in_default.new.self.items ≡ c.args.into.now.items ++ w))
    (c.as_bytes.ensures.value ∙ c.tag_word.ensures ∙ same_front (schema_of c.args.schema.now) c.args.kind.now d.not-Text d.not-Binary d.not-Enum d.not-Struct)
    (put_on_ok c.extend_from_slice-in_default.result _ _ _ c.extend_from_slice-in_default.ensures.items)
