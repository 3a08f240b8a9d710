use Rattle.std.proofs.Common.{◌≡◌, ◌++◌, drop, map}
use Rattle.std.specs.List.{flat_map}
use Rattle.script_text.specs.LineForms.{rules_so}
use Rattle.script_text.specs.Printing.{line_said}
use Rattle.script_text.specs.Plans.{plain_rules}
use Rattle.script_text.proofs.print.put_rules.Given as goal

-- what was printed, and the print of what is left, is the print of all
abbrev pub invariant-loop-rule : goal.invariant-loop-rule
invariant-loop-rule l =
    l.into.items ++ flat_map line_said (map (rules_so l.c) (plain_rules (drop l.rule-index l.rules)))
    ≡ l.fn.into.items ++ flat_map line_said (map (rules_so l.c) (plain_rules l.rules))
