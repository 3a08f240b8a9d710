use Rattle.std.proofs.Common.{rules, ◌≡◌, ◌==◌, ◌&&◌, true, slice_index, subst}
use Rattle.envelope.specs.Spelling.{strict_mark, strict_version}
use Rattle.stream_model.specs.Plan.{needs, strict_plan}
use Rattle.stream_reader.specs.declared.stage.HeadItem.TheVariants.{NameSize}
use Rattle.stream_reader.specs.Stages.{Walked, head_next}
use Rattle.stream_reader.proofs.Steps.{strict_begins}
use Rattle.stream_reader.proofs.walk.MessageWalk.strict.Goals as goal

pub returns-clause-plan : goal.returns-clause-plan
returns-clause-plan c = let
    first = c.args.first.now in
    let is : (slice_index first 0 == strict_mark && slice_index first 1 == strict_version) ≡ true = search (rules, c.is_version.ensures, c.if-not-is_version.false) in
    subst (λ (s : Walked). strict_plan s.most first ≡ needs 4 (head_next c.self.inside.most (NameSize (slice_index first 3)))) c.self.view_is
    (strict_begins c.self.inside.most first is)
