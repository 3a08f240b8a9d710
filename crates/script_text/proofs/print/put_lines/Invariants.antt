use Rattle.std.proofs.Common.{◌≡◌, ◌++◌, ◌≤◌, drop, map}
use Rattle.std.specs.List.{flat_map}
use Rattle.script_text.specs.Printing.{line_said, said_from}
use Rattle.script_text.specs.Plans.{plain_line, plain_rules}
use Rattle.script_text.proofs.print.put_lines.Given as goal

-- what was printed, and the print of what is left, is the print of all
abbrev pub invariant-loop-line : goal.invariant-loop-line
invariant-loop-line l = record {
  put : l.into.items ++ flat_map line_said (said_from l.c (map plain_rules l.rules) (map plain_line (drop l.line-index l.lines)))
      ≡ l.fn.into.items ++ flat_map line_said (said_from 0 (map plain_rules l.rules) (map plain_line l.lines));
  within : l.c ≤ l.line-index;
}
