use Rattle.std.proofs.Common.{◌-◌, length}
use Rattle.streams.specs.Places.{HasPassed}
use Rattle.streams.proofs.mem_files.MemFiles.place.Given as goal

-- the files before this place have other names
abbrev pub invariant-files : goal.invariant-files
invariant-files l = HasPassed l.self.files l.name l.at

abbrev pub decreases-files : goal.decreases-files
decreases-files l = length l.self.files - l.at
