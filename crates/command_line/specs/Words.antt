-- The program's words, and the command that they are.
--
--   check IDL
--   compat OLD NEW
--   rehearse IDL PROTOCOL WORKERS NAME=KIND [NAME=KIND ..]
--   record IDL PROTOCOL WORKERS NAME=KIND [NAME=KIND ..]
--   serve IDL PROTOCOL WORKERS NAME=KIND [NAME=KIND ..] --listen PORT --accept N --journal FILE
--   workload SEED SIZE WORKERS
--   call IDL PROTOCOL NAME METHOD ARGS --to PORT [--multiplexed]
--
-- `rehearse`, `record` and `serve` also take `--max-frame N`, `--read-budget N` and `--default NAME`.
use Rattle.std.specs.Prelude.{ℕ, List, [], ◌∷◌, codes, Option, None, option_map, option_and_then, if◌then◌else◌}
use Rattle.std.specs.Str.{bytes_eq}
use Rattle.command_line.specs.Numbers.{bounded_number, one_number, seed_of_word}
use Rattle.command_line.specs.Options.{Sayings, said_behind}
use Rattle.command_line.specs.Flags.{said_behind_with}
use Rattle.command_line.specs.Calls.{PlainAsking, asking_said}
use Rattle.command_line.specs.Served.{PlainServed, file_of_word, served_said, workers_of_word}

-- an IDL is checked; an IDL is compared with the one that comes after it; a script is rehearsed, or recorded, or connections to a port are served, as many as are accepted, with a journal; a
-- generated script is run; or a port is called
pub data PlainCommand : Type 0 where
  checks : (idl : List ℕ) → PlainCommand
  compares : (old : List ℕ) → (new : List ℕ) → PlainCommand
  rehearses : PlainServed → PlainCommand
  records : PlainServed → PlainCommand
  serves : PlainServed → (port : ℕ) → (accept : ℕ) → (journal : List ℕ) → PlainCommand
  runs : (seed : ℕ) → (size : ℕ) → (workers : ℕ) → PlainCommand
  calls : PlainAsking → PlainCommand

-- the options of `check`, `compat` and `workload`
abbrev pub no_options : List (List ℕ)
no_options = []

-- the options of `rehearse` and `record`
abbrev pub served_options : List (List ℕ)
served_options = codes "max-frame" ∷ codes "read-budget" ∷ codes "default" ∷ []

-- the options of `serve`
abbrev pub serve_options : List (List ℕ)
serve_options = codes "max-frame" ∷ codes "read-budget" ∷ codes "default" ∷ codes "listen" ∷ codes "accept" ∷ codes "journal" ∷ []

-- the options of `call`, and its flags
abbrev pub call_options : List (List ℕ)
call_options = codes "to" ∷ []

abbrev pub call_flags : List (List ℕ)
call_flags = codes "multiplexed" ∷ []

-- one word alone, the name of a file
abbrev pub file_alone : List (List ℕ) → Option (List ℕ)
file_alone (word ∷ []) = file_of_word word
file_alone _ = None

-- `check`
abbrev pub check_said : Sayings → Option PlainCommand
check_said said = option_map checks (file_alone (said []))

-- `compat`, by a word for each of the two
abbrev pub compat_with : (old new : List ℕ) → Option PlainCommand
compat_with old new = option_and_then (λ (first : List ℕ). option_map (λ (second : List ℕ). compares first second) (file_of_word new)) (file_of_word old)

-- `compat`, by the words in their places
abbrev pub compat_by : List (List ℕ) → Option PlainCommand
compat_by (old ∷ new ∷ []) = compat_with old new
compat_by _ = None

-- `compat`
abbrev pub compat_said : Sayings → Option PlainCommand
compat_said said = compat_by (said [])

-- where and how `serve` listens: the port, how many connections it accepts, and the journal's file
abbrev pub serve_with : PlainServed → (ports accepts journals : List (List ℕ)) → Option PlainCommand
serve_with served ports accepts journals =
    option_and_then (λ (port : ℕ). option_and_then (λ (accept : ℕ).
    option_map (λ (journal : List ℕ). serves served port accept journal) (file_alone journals))
    (one_number 1 1000000 accepts)) (one_number 1 65535 ports)

-- `serve`: all its own options are there
abbrev pub serve_said : Sayings → Option PlainCommand
serve_said said =
    option_and_then (λ (served : PlainServed). serve_with served (said (codes "listen")) (said (codes "accept")) (said (codes "journal"))) (served_said said)

-- `workload`, by a word for the seed, the size and the workers each
abbrev pub workload_with : (seed size workers : List ℕ) → Option PlainCommand
workload_with seed size workers =
    option_and_then (λ (start : ℕ). option_and_then (λ (frames : ℕ).
    option_map (λ (count : ℕ). runs start frames count) (workers_of_word workers))
    (bounded_number 1 1000000 size)) (seed_of_word seed)

-- `workload`, by the words in their places
abbrev pub workload_by : List (List ℕ) → Option PlainCommand
workload_by (seed ∷ size ∷ workers ∷ []) = workload_with seed size workers
workload_by _ = None

-- `workload`
abbrev pub workload_said : Sayings → Option PlainCommand
workload_said said = workload_by (said [])

-- what the words behind `check`, `compat`, `rehearse`, `record`, `serve`, `workload` and `call` are
abbrev pub check_behind : List (List ℕ) → Option PlainCommand
check_behind words = option_and_then check_said (said_behind no_options words)

abbrev pub compat_behind : List (List ℕ) → Option PlainCommand
compat_behind words = option_and_then compat_said (said_behind no_options words)

abbrev pub served_behind : List (List ℕ) → Option PlainServed
served_behind words = option_and_then served_said (said_behind served_options words)

abbrev pub serve_behind : List (List ℕ) → Option PlainCommand
serve_behind words = option_and_then serve_said (said_behind serve_options words)

abbrev pub workload_behind : List (List ℕ) → Option PlainCommand
workload_behind words = option_and_then workload_said (said_behind no_options words)

abbrev pub call_behind : List (List ℕ) → Option PlainAsking
call_behind words = option_and_then asking_said (said_behind_with call_options call_flags words)

-- the command of this name, with the words behind it
abbrev pub command_named : List ℕ → List (List ℕ) → Option PlainCommand
command_named name words =
    if bytes_eq name (codes "check") then check_behind words
    else if bytes_eq name (codes "rehearse") then option_map rehearses (served_behind words)
    else if bytes_eq name (codes "record") then option_map records (served_behind words)
    else if bytes_eq name (codes "serve") then serve_behind words
    else if bytes_eq name (codes "workload") then workload_behind words
    else if bytes_eq name (codes "compat") then compat_behind words
    else if bytes_eq name (codes "call") then option_map calls (call_behind words)
    else None

-- The command that the words are; none where they are no command.
abbrev pub words_of : List (List ℕ) → Option PlainCommand
words_of [] = None
words_of (name ∷ words) = command_named name words
