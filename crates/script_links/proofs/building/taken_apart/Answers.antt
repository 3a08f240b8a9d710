use Rattle.std.proofs.Common.{◌≡◌, List, length, map, replicate, sym, ap, ◌∙◌}
use Rattle.std.proofs.lemmas.List.{length-map}
use Rattle.script_model.specs.ScriptLines.{ScriptPlan}
use Rattle.script_text.specs.Plans.{plain_line, plain_rules}
use Rattle.script_links.specs.Steps.{step_of}
use Rattle.script_links.specs.Fresh.{dealt, fresh_links}
use Rattle.script_links.proofs.Beginning.{no_pieces}
use Rattle.script_links.proofs.building.taken_apart.Goals as goal

pub returns-clause-steps : goal.returns-clause-steps
returns-clause-steps c =
    c.in_ok-steps.ensures.steps ∙ ap (map step_of) (ap (map plain_line) c.into_vec.ensures ∙ ap (λ (p : ScriptPlan). p.lines) c.into_parts-lines.ensures)

pub returns-clause-links : goal.returns-clause-links
returns-clause-links c =
    let lines : map plain_line c.into_vec.result.items ≡ c.args.script.lines = ap (map plain_line) c.into_vec.ensures ∙ ap (λ (p : ScriptPlan). p.lines) c.into_parts-lines.ensures in
    let rules : map plain_rules c.into_vec-rules.result.items ≡ c.args.script.rules =
    ap (map plain_rules) c.into_vec-rules.ensures ∙ ap (λ (p : ScriptPlan). p.rules) c.into_parts-lines.ensures in
    let many : length c.into_vec-rules.result.items ≡ length c.args.script.rules = sym (length-map c.into_vec-rules.result.items plain_rules) ∙ ap length rules in
    let rows : c.deal.new.rows.items ≡ dealt c.args.script.lines (replicate (length c.args.script.rules) no_pieces) =
    c.in_ok-steps.ensures.rows ∙ (λ i. dealt (lines i) (c.in_ok-rows.ensures i)) ∙ ap (λ n. dealt c.args.script.lines (replicate n no_pieces)) (ap length c.as_slice.ensures.value ∙ many) in
    c.in_ok-links.ensures.links ∙ (λ i. fresh_links (rows i) (rules i))

pub returns-clause-count : goal.returns-clause-count
returns-clause-count c =
    c.in_ok-links.ensures.count ∙ sym (length-map c.into_vec-rules.result.items plain_rules)
    ∙ ap length (ap (map plain_rules) c.into_vec-rules.ensures ∙ ap (λ (p : ScriptPlan). p.rules) c.into_parts-lines.ensures)
