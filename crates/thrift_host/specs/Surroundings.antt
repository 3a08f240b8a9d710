-- What surrounds the program.
use Rattle.std.specs.Prelude.{ℕ, List, Option}
use Rattle.streams.specs.Files.{File}
use Rattle.outside.specs.Binding.{PastLinks, HandedOut}
use Rattle.outside.specs.Calling.{PastPipe}
use Rattle.port_calls.specs.Called.{CallChange}
use Rattle.recorded_runs.specs.Recorded.{Streams}
use Rattle.port_serving.specs.Places.{PlaceChange}
use Rattle.thrift_host.specs.Errors.{Errors}
use Rattle.thrift_host.specs.Serving.{HostChange}

-- the files, where they are told; how many calls of theirs failed, and how many sinks came back that had failed
pub record FilesAround : Type 0 where
  pub held : Option (List File)
  pub faults : ℕ
  pub sink_faults : ℕ

-- what reads of the input will still give, where that is told; and how many failed
pub record InputAround : Type 0 where
  pub left : Option (List ℕ)
  pub faults : ℕ

-- what the output has taken, where that is told; and how many writes failed
pub record OutputAround : Type 0 where
  pub taken : Option (List ℕ)
  pub faults : ℕ

-- the links that came back and the pipes that were hung up, where they are told; how many of both were handed out and have come back; and how many faults were counted
pub record BinderAround : Type 0 where
  pub past : Option (List PastLinks)
  pub called : Option (List PastPipe)
  pub handed : HandedOut
  pub faults : ℕ

-- all of them, at one time
pub record Surroundings : Type 0 where
  pub files : FilesAround
  pub input : InputAround
  pub output : OutputAround
  pub errors : OutputAround
  pub binder : BinderAround

module _ (before after : Surroundings) where
  -- what was read and written
  abbrev pub streams_between : Streams
  streams_between = record { left_before = before.input.left; left = after.input.left; taken_before = before.output.taken; taken = after.output.taken }

  -- what became of the files, and of links
  abbrev pub place_between : PlaceChange
  place_between = record {
    files_before = before.files.held;
    files = after.files.held;
    sink_faults_before = before.files.sink_faults;
    sink_faults = after.files.sink_faults;
    past_before = before.binder.past;
    past = after.binder.past;
    handed_before = before.binder.handed;
    handed = after.binder.handed;
  }

  -- both
  abbrev pub change_between : HostChange
  change_between = record { streams = streams_between; place = place_between }

  -- what was dialled, and written
  abbrev pub dialled_between : CallChange
  dialled_between = record {
    dialled_before = record { called = before.binder.called; handed = before.binder.handed };
    dialled = record { called = after.binder.called; handed = after.binder.handed };
    taken_before = before.output.taken;
    taken = after.output.taken;
  }

  -- what was said
  abbrev pub errors_between : Errors
  errors_between = record {
    taken_before = before.errors.taken;
    taken = after.errors.taken;
    faults_before = before.errors.faults;
    faults = after.errors.faults;
  }
