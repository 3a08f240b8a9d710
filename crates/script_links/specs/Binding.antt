-- A binder in memory, and what a call of it leaves.
use Rattle.std.specs.Prelude.{ℕ, List, [], ◌∷◌, ◌++◌, if◌then◌else◌}
use Rattle.streams.specs.Cause.{next_count, next_if_faulty}
use Rattle.outside.specs.Binding.{PastLinks, HandedOut, one_more_out, one_more_back}
use Rattle.outside.specs.Calling.{PastPipe, next_if_either}
use Rattle.script_model.specs.ScriptLines.{ScriptPlan}
use Rattle.script_links.specs.Failing.{CountedCalls, FaultPlan, fails_next, after_counting}
use Rattle.script_links.specs.Listens.{ListeningScript}
use Rattle.script_links.specs.Answering.{PlainPipeReply, AnsweringPipe, no_pipe_reply, past_pipe}

-- A binder over a script: which of its calls to listen and to dial are to fail, counted together, and which calls on links that it makes; what the next pipe answers;
-- how many faults were counted; the links that came back, and the pipes that were hung up; and how many of both were handed out and have come back.
pub record BinderState : Type 0 where
  pub script : ScriptPlan
  pub calls : CountedCalls
  pub plan : FaultPlan
  pub answer : PlainPipeReply
  pub faults : ℕ
  pub past : List PastLinks
  pub called : List PastPipe
  pub handed : HandedOut

-- it was asked for links, or for a pipe
abbrev pub after_binder_call : BinderState → BinderState
after_binder_call b = record b { calls = after_counting b.calls; faults = if fails_next b.calls then next_count b.faults else b.faults }

-- it was asked for links, and made them
abbrev pub after_listening : BinderState → BinderState
after_listening b = record (after_binder_call b) { handed = one_more_out b.handed }

-- these links came back
abbrev pub after_return : ListeningScript → BinderState → BinderState
after_return links b = record b {
  faults = next_if_faulty links.net_faults b.faults;
  past = b.past ++ record { tape = links.served.tape; over = links.served.over; listening = links.listening } ∷ [];
  handed = one_more_back b.handed;
}

-- a pipe was dialled: what the next one answers isn't said
abbrev pub after_dial : BinderState → BinderState
after_dial b = record (after_binder_call b) { answer = no_pipe_reply; handed = one_more_out b.handed }

-- this pipe was hung up
abbrev pub after_hanging_up : AnsweringPipe → BinderState → BinderState
after_hanging_up pipe b = record b {
  faults = next_if_either pipe.read_faults pipe.write_faults b.faults;
  called = b.called ++ past_pipe pipe ∷ [];
  handed = one_more_back b.handed;
}
