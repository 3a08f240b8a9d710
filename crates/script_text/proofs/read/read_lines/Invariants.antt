use Rattle.std.proofs.Common.{◌≡◌, ◌+◌, ◌≤◌, length}
use Rattle.script_text.specs.TextLines.{text_lines}
use Rattle.script_text.specs.Reading.{nothing_read, read_from}
use Rattle.script_text.specs.Drafts.{so_far}
use Rattle.script_text.proofs.read.read_lines.Given as goal

-- what is read of the lines that are left is what is read of all
abbrev pub invariant-lines : goal.invariant-lines
invariant-lines l = record {
  same : read_from l.fn.workers l.fn.schedule l.fn.rest 1 nothing_read (text_lines l.fn.text)
      ≡ read_from l.fn.workers l.fn.schedule l.fn.rest l.number (so_far l.draft) (text_lines l.left);
  within : l.number + length l.left ≤ length l.fn.text + 1;
}

abbrev pub decreases-lines : goal.decreases-lines
decreases-lines l = length l.left
