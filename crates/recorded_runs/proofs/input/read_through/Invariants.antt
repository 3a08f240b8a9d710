use Rattle.std.proofs.Common.{◌≡◌, ◌-◌, vec_len}
use Rattle.streams.specs.Content.{told_before}
use Rattle.recorded_runs.proofs.input.read_through.Given as goal

-- what was read, in front of what is left, is what was there
abbrev pub invariant-reads : goal.invariant-reads
invariant-reads g l = record {
  told : g.S.Source.left l.fn.source ≡ told_before l.text.items (g.S.Source.left l.source);
  kept : g.S.Source.faults l.source ≡ g.S.Source.faults l.fn.source;
}

-- each read that isn't the last gives a byte
abbrev pub decreases-reads : goal.decreases-reads
decreases-reads g l = 67108865 - vec_len l.text
