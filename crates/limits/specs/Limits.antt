-- The limits of the host, each once.
use Rattle.std.specs.Prelude.{ℕ}

-- the most connections that are open at one time, and so the most jobs that are under way, and the most connections of a script
abbrev pub most_connections : ℕ
most_connections = 1024

-- the longest payload of a frame that words may allow, in bytes; and the largest read budget
abbrev pub longest_payload : ℕ
longest_payload = 268435456

-- the most bytes that one read asks for
abbrev pub most_read : ℕ
most_read = 65536

-- the most levels of structs and containers of a value on the wire, of a constant and of a type
abbrev pub most_levels : ℕ
most_levels = 64

-- the most values that a value on the wire or a constant consists of, itself included
abbrev pub most_values : ℕ
most_values = 4000000

-- the longest payload of a frame where words don't say it, in bytes
abbrev pub usual_payload : ℕ
usual_payload = 16384000

-- the longest file of an IDL, in bytes
abbrev pub longest_idl_text : ℕ
longest_idl_text = 4194304

-- the longest script, in bytes
abbrev pub longest_script : ℕ
longest_script = 67108864
