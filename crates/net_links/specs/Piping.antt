-- What a pipe over a socket tells: its port and its faults, and nothing of bytes.
use Rattle.std.specs.Prelude.{ℕ, None}
use Rattle.outside.specs.Pipes.{PipeState}

-- the port, and how many reads failed, and how many writes
pub record PipeAccount : Type 0 where
  pub port : ℕ
  pub read_faults : ℕ
  pub write_faults : ℕ

-- nothing has happened
abbrev pub fresh_net_pipe : ℕ → PipeAccount
fresh_net_pipe port = record { port = port; read_faults = 0; write_faults = 0 }

-- the same as what a pipe is to those who use it
abbrev pub net_pipe_told : PipeAccount → PipeState
net_pipe_told p = record {
  port = p.port;
  written = None;
  given = None;
  left = None;
  ended = None;
  read_faults = p.read_faults;
  write_faults = p.write_faults;
}
