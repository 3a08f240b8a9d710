-- Pipes in memory, of whose reads and writes some may be to fail.
use Rattle.std.specs.Prelude.{ℕ, Bool, false, ◌||◌, if◌then◌else◌, List, [], ◌++◌, take, drop, Option, None, Some}
use Rattle.streams.specs.Cause.{next_count}
use Rattle.outside.specs.Pipes.{PipeState, is_end}
use Rattle.outside.specs.Calling.{PastPipe}
use Rattle.script_links.specs.Failing.{CountedCalls, uncalled, fails_next, after_counting}

-- What a pipe is made with: what it answers, and the numbers of its reads and writes that are to fail, counted together from 0.
pub record PlainPipeReply : Type 0 where
  pub reply : List ℕ
  pub fails : List ℕ

-- nothing is answered, and no call is to fail
abbrev pub no_pipe_reply : PlainPipeReply
no_pipe_reply = record { reply = []; fails = [] }

-- the answer that was given, where one was
abbrev pub pipe_reply_given : Option PlainPipeReply → PlainPipeReply
pipe_reply_given None = no_pipe_reply
pipe_reply_given (Some answer) = answer

-- A pipe in memory: the port; what was written; what was read of the answer, and what is left of it; whether a read has answered the end; which reads and writes are
-- to fail; how many reads failed, and how many writes; and how many writes found no memory.
pub record AnsweringPipe : Type 0 where
  pub port : ℕ
  pub written : List ℕ
  pub given : List ℕ
  pub left : List ℕ
  pub ended : Bool
  pub calls : CountedCalls
  pub read_faults : ℕ
  pub write_faults : ℕ
  pub wants : ℕ

-- nothing has happened on it
abbrev pub fresh_mem_pipe : ℕ → PlainPipeReply → AnsweringPipe
fresh_mem_pipe port answer = record {
  port = port;
  written = [];
  given = [];
  left = answer.reply;
  ended = false;
  calls = uncalled answer.fails;
  read_faults = 0;
  write_faults = 0;
  wants = 0;
}

-- what it tells
abbrev pub mem_pipe_told : AnsweringPipe → PipeState
mem_pipe_told p = record {
  port = p.port;
  written = Some p.written;
  given = Some p.given;
  left = Some p.left;
  ended = Some p.ended;
  read_faults = p.read_faults;
  write_faults = p.write_faults;
}

-- what is kept of it once it was hung up
abbrev pub past_pipe : AnsweringPipe → PastPipe
past_pipe p = record { port = p.port; written = p.written; read = p.given; ended = p.ended }

-- a read for which so much was lent gave `count` bytes
abbrev pub after_receiving : ℕ → ℕ → AnsweringPipe → AnsweringPipe
after_receiving lent count p = record p {
  given = p.given ++ take count p.left;
  left = drop count p.left;
  ended = p.ended || is_end lent count;
  calls = after_counting p.calls;
}

-- a read failed
abbrev pub after_failed_receiving : AnsweringPipe → AnsweringPipe
after_failed_receiving p = record p { calls = after_counting p.calls; read_faults = next_count p.read_faults }

-- a write took these bytes
abbrev pub after_sending : List ℕ → AnsweringPipe → AnsweringPipe
after_sending bytes p = record p { written = p.written ++ bytes; calls = after_counting p.calls }

-- a write failed: where it wasn't to fail, for want of memory
abbrev pub after_failed_sending : AnsweringPipe → AnsweringPipe
after_failed_sending p = record p {
  calls = after_counting p.calls;
  write_faults = next_count p.write_faults;
  wants = if fails_next p.calls then p.wants else next_count p.wants;
}
