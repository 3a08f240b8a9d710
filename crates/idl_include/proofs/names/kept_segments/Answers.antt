use Rattle.std.proofs.Common.{◌+◌, ◌∙◌, [], drop, reverse, ap, sym}
use Rattle.std.proofs.lemmas.List.{at_drop_more, at_drop_all}
use Rattle.idl_include.specs.FileNames.{with_segments}
use Rattle.idl_include.specs.Texts.{texts}
use Rattle.idl_include.proofs.names.kept_segments.Goals as goal

pub loop-part-preserved : goal.loop-part-preserved
loop-part-preserved c =
    let parts = c.deref-part-items.result.now in
    let at = c.loop-part.part-index in
    ap (λ before. with_segments before (texts (drop (at + 1) parts))) c.in_ok-add_segment.ensures
    ∙ sym (at_drop_more (λ rest. with_segments (reverse (texts c.loop-part.kept.items)) (texts rest)) parts at _ c.loop-part-test.true)
    ∙ c.loop-part.invariant

pub returns : goal.returns
returns c =
    let parts = c.deref-part-items.result.now in
    let before = reverse (texts c.loop-part.kept.items) in
    sym (at_drop_all (λ rest. with_segments before (texts rest)) parts c.loop-part.part-index c.loop-part-test.false)
    ∙ c.loop-part.invariant
    ∙ ap (λ all. with_segments [] (texts all)) c.deref-part-items.ensures.value
    ∙ ap (with_segments []) c.in_ok-parts.ensures
