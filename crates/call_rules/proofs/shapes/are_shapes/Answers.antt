use Rattle.std.proofs.Common.{List, ℕ, map, ap, ◌∙◌}
use Rattle.std.specs.Borrow.{Bor}
use Rattle.std.specs.Cmp.Lexicographic.{pointwise}
use Rattle.std.specs.Str.{bytes_eq}
use Rattle.std.proofs.lemmas.Slice.Eq.{slice_eq-Decides, bytes_eq-Decides}
use Rattle.call_rules.proofs.shapes.are_shapes.Goals as goal

pub returns : goal.returns
returns c =
    let wanted : List (List ℕ) = map (λ (line : Bor (List ℕ)). line.now) c.args.lines.now in
    slice_eq-Decides bytes_eq-Decides c.args.shapes.now wanted c.are_lines.result
    (c.are_lines.ensures ∙ ap (λ (texts : List (List ℕ)). pointwise bytes_eq texts wanted) c.as_slice.ensures)
