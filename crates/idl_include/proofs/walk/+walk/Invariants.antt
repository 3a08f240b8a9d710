use Rattle.std.proofs.Common.{◌≡◌, ◌+◌, ◌*◌, drop}
use Rattle.idl_include.specs.Begun.{wanted_in}
use Rattle.idl_include.specs.Steps.{load_stage, includes_left, LoadProceeds}
use Rattle.idl_include.proofs.walk.+walk.Given as goal

-- levels, and what is called by what within one
abbrev pub decreases-load_file : goal.decreases-load_file
decreases-load_file g l = 3 * l.levels

abbrev pub decreases-follow : goal.decreases-follow
decreases-follow g l = 3 * l.levels + 1

abbrev pub decreases-follow_all : goal.decreases-follow_all
decreases-follow_all g l = 3 * l.levels + 2

-- loading went on to the includes that are left
abbrev pub invariant-follow_all-loop-one : goal.invariant-follow_all-loop-one
invariant-follow_all-loop-one g l = record {
  goes : LoadProceeds (load_stage (g.F.Files.files l.fn.files) (g.F.Files.faults l.fn.files) l.fn.begun.items)
      (load_stage (g.F.Files.files l.files) (g.F.Files.faults l.files) l.begun.items)
      (includes_left l.levels l.fn.above.items l.file l.of (wanted_in l.wanted) l.fn.begun.items)
      (includes_left l.levels l.fn.above.items l.file l.of (wanted_in (drop l.one-index l.wanted)) l.begun.items);
  above : l.above.items ≡ l.fn.above.items;
  sinks : g.F.Files.sink_faults l.files ≡ g.F.Files.sink_faults l.fn.files;
}
