-- The kinds in memory: what a value of each stands for, and what one call does to it.
use Rattle.std.specs.Prelude.{ℕ, ◌-◌, ◌^◌, ◌++◌, List, [], take, drop, Bool, nat_eq, if◌then◌else◌}
use Rattle.std.specs.List.{list_any}
use Rattle.streams.specs.Cause.{next_count, next_if_faulty}
use Rattle.streams.specs.Files.{File}
use Rattle.streams.specs.Making.{with_file}

-- a reader's bytes: those given, those left, the longest piece of one read, the numbers of the calls that are to
-- fail, the number of the next call, and the count of faults
pub record SourceState : Type 0 where
  pub given : List ℕ
  pub left : List ℕ
  pub piece : ℕ
  pub fails : List ℕ
  pub call : ℕ
  pub faults : ℕ

-- a writer's bytes: those taken, the longest piece of one write, the numbers of the calls that are to fail, the
-- number of the next call, the count of faults, and how many of them were want of memory
pub record SinkState : Type 0 where
  pub taken : List ℕ
  pub piece : ℕ
  pub fails : List ℕ
  pub call : ℕ
  pub faults : ℕ
  pub wants : ℕ

-- the call of this number is one that is to fail
abbrev pub is_listed : List ℕ → ℕ → Bool
is_listed fails call = list_any (λ number. nat_eq number call) fails

-- a read gave `count` bytes
abbrev pub after_read : SourceState → ℕ → SourceState
after_read r count = record r {
  given = r.given ++ take count r.left;
  left = drop count r.left;
  call = next_count r.call;
}

-- a read failed
abbrev pub after_failed_read : SourceState → SourceState
after_failed_read r = record r { call = next_count r.call; faults = next_count r.faults }

-- a write took these bytes
abbrev pub after_write : SinkState → List ℕ → SinkState
after_write w bytes = record w { taken = w.taken ++ bytes; call = next_count w.call }

-- a write failed: where its number isn't listed, for want of memory
abbrev pub after_failed_write : SinkState → SinkState
after_failed_write w = record w {
  call = next_count w.call;
  faults = next_count w.faults;
  wants = if is_listed w.fails w.call then w.wants else next_count w.wants;
}

-- Files in memory: the files, the numbers of the calls that are to fail, the numbers of the writes that are to fail on each sink that is made, the number of
-- the next call, the count of faults, how many of them were want of memory, and the count of sinks that came back with a fault.
pub record FilesState : Type 0 where
  pub files : List File
  pub fails : List ℕ
  pub sink_fails : List ℕ
  pub call : ℕ
  pub faults : ℕ
  pub wants : ℕ
  pub sink_faults : ℕ

-- a call, which counts no fault
abbrev pub after_file : FilesState → FilesState
after_file f = record f { call = next_count f.call }

-- a read failed
abbrev pub after_failed_file : FilesState → FilesState
after_failed_file f = record f { call = next_count f.call; faults = next_count f.faults }

-- a file of this name was made
abbrev pub after_made_file : FilesState → List ℕ → FilesState
after_made_file f name = record f { files = with_file f.files name []; call = next_count f.call }

-- none was made: where the number of the call isn't listed, for want of memory
abbrev pub after_unmade_file : FilesState → FilesState
after_unmade_file f = record f {
  call = next_count f.call;
  faults = next_count f.faults;
  wants = if is_listed f.fails f.call then f.wants else next_count f.wants;
}

-- the sink of the file of this name was handed back
abbrev pub after_sink : FilesState → List ℕ → SinkState → FilesState
after_sink f name out = record f { files = with_file f.files name out.taken; sink_faults = next_if_faulty out.faults f.sink_faults }

-- a sink that has taken nothing, takes each piece whole, and is to fail at these writes
abbrev pub empty_sink : List ℕ → SinkState
empty_sink fails = record { taken = []; piece = 2 ^ 64 - 1; fails = fails; call = 0; faults = 0; wants = 0 }
