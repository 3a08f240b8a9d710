use Rattle.std.proofs.Common.{◌≡◌, ◌<◌, ℕ, suc, List, ap, sym, map, length, ◌∙◌, arith}
use Rattle.streams.specs.declared.marks.Mark.{Mark}
use Rattle.std.proofs.lemmas.List.{map-id}
use Rattle.std.proofs.lemmas.Iterator.Adapters.{YieldsList-from_vec}
use Rattle.std.proofs.lemmas.Iterator.Consumers.{YieldsList-end}
use Rattle.cell_core.proofs.OutRows.{rows_of_all, rows_behind_all}
use Rattle.cell_core.proofs.outs.written.Goals as goal

pub walk-init : goal.walk-init
walk-init c =
    rows_of_all (map (λ row. row.items) c.in_ok-all.all.items) c.args.marks c.args.count c.in_ok-all.ensures

pub walk-preserved : goal.walk-preserved
walk-preserved c =
    ap (λ (rows : List (List ℕ)). rows_behind_all rows c.next.new.self) c.in_ok-add_mark.ensures
    ∙ ap (λ (marks : List Mark). rows_behind_all (map (λ row. row.items) c.walk.all.items) marks) (sym c.in-Some.ensures)
    ∙ c.walk.invariant

pub walk-smaller : goal.walk-smaller
walk-smaller c =
    let more : length c.walk.marks ≡ suc (length c.next.new.self) = ap length c.in-Some.ensures in
    let less : length c.next.new.self < length c.walk.marks = omega arith in
    less

pub returns : goal.returns
returns c =
    let rest : c.into_iter-row-iterator.result.rest.items ≡ c.walk.all.items = cc in
    let all = YieldsList-end (YieldsList-from_vec {s = c.into_iter-row-iterator.result} c.walk.all.items rest cc) c.loop-row.yielded c.loop-row.row-iterator c.loop-row.yielded_by c.next-in-loop-row.result c.next-in-loop-row.new.self c.in-None.is c.next-in-loop-row.ensures.steps in
    c.new-2.ensures ∙ c.loop-row.invariant
    ∙ ap (map (λ row. row.items)) (sym (map-id c.loop-row.yielded) ∙ all.0)
    ∙ ap (λ (marks : List Mark). rows_behind_all (map (λ row. row.items) c.walk.all.items) marks) (sym c.in_default.ensures.0)
    ∙ c.walk.invariant
