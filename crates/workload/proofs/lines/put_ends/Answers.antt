use Rattle.std.proofs.Common.{map, ap, ◌∙◌, refl, [], ◌∷◌}
use Rattle.std.proofs.lemmas.List.{map-append}
use Rattle.script_model.specs.ScriptLines.{input_end}
use Rattle.script_text.specs.Plans.{plain_line}
use Rattle.script_text.specs.declared.lines.ScriptLine.TheVariants.{Ends}
use Rattle.workload.proofs.Counting.{map_more}
use Rattle.workload.proofs.lines.put_ends.Goals as goal

pub loop-c-preserved : goal.loop-c-preserved
loop-c-preserved c =
    map_more input_end c.loop-c.c (map plain_line c.args.into.now.items) (input_end c.loop-c.c) c.loop-c.invariant
    (ap (map plain_line) c.in_ok-push.ensures.items ∙ map-append plain_line c.loop-c.into.items (Ends c.loop-c.c ∷ [])) refl
