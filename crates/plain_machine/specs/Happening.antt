-- On which connection something happens, and what that connection does then.
use Rattle.std.specs.Prelude.{ℕ, Option, None, Some}
use Rattle.machine_model.specs.Loop.{LoopConn, ConnEvent, opens, reads, ends, fails_read, writes, fails_write, gives_up}
use Rattle.machine_model.specs.Plain.{Moved, reads_plain, ends_plain, fails_read_plain, writes_plain, fails_write_plain, gives_up_plain}

-- the connection that an event is on, where it is there before
abbrev pub conn_at : ConnEvent → Option ℕ
conn_at opens = None
conn_at (reads c bytes) = Some c
conn_at (ends c) = Some c
conn_at (fails_read c) = Some c
conn_at (writes c count) = Some c
conn_at (fails_write c) = Some c
conn_at (gives_up c cause) = Some c

-- what it does then, where it can
abbrev pub conn_moves : ℕ → ConnEvent → LoopConn → Moved
conn_moves max opens conn = None
conn_moves max (reads c bytes) conn = reads_plain max c bytes conn
conn_moves max (ends c) conn = ends_plain c conn
conn_moves max (fails_read c) conn = fails_read_plain c conn
conn_moves max (writes c count) conn = writes_plain c count conn
conn_moves max (fails_write c) conn = fails_write_plain c conn
conn_moves max (gives_up c cause) conn = gives_up_plain c cause conn
