use Rattle.std.proofs.Common.{refl, map}
use Rattle.std.specs.List.{flat_map}
use Rattle.schema.specs.SchemaOf.{schema_of, plain_file}
use Rattle.schema.specs.SchemaText.{file_in_text}
use Rattle.schema.proofs.Pieces.{one_more, all_written}
use Rattle.schema.proofs.text.put_files.Goals as goal

pub loop-file-preserved : goal.loop-file-preserved
loop-file-preserved c =
    one_more (λ f. file_in_text (schema_of c.args.schema.now) (plain_file f)) (λ fs. flat_map (file_in_text (schema_of c.args.schema.now)) (map plain_file fs)) (λ x xs. refl) c.args.files.now c.loop-file.file-index _ c.file-item.result c.loop-file.into.items _
    c.loop-file-test.true c.file-item.is c.loop-file.invariant c.in_ok-put_file.ensures

pub returns : goal.returns
returns c =
    all_written (λ f. file_in_text (schema_of c.args.schema.now) (plain_file f)) (λ fs. flat_map (file_in_text (schema_of c.args.schema.now)) (map plain_file fs)) (λ x xs. refl) c.args.files.now c.loop-file.file-index _ c.loop-file.into.items refl
    c.loop-file-test.false c.loop-file.invariant
