-- What a command serves: `IDL binary|compact WORKERS NAME=KIND [NAME=KIND ..]`, with the options `--max-frame N`, `--read-budget N` and
-- `--default NAME`.
use Rattle.std.specs.Prelude.{ℕ, nat_le, List, [], ◌∷◌, length, codes, Option, None, Some, option_map, option_and_then, if◌then◌else◌}
use Rattle.std.specs.Str.{bytes_eq}
use Rattle.conn_table.specs.declared.run_limits.Limits.{Limits}
use Rattle.envelope.specs.declared.head.Protocol.{Protocol}
use Rattle.envelope.specs.declared.head.Protocol.TheVariants.{Binary, Compact}
use Rattle.service_binding.specs.Pairs.{NamedKind}
use Rattle.command_line.specs.CommandPairs.{command_pairs}
use Rattle.command_line.specs.Limits.{limits_said}
use Rattle.command_line.specs.Numbers.{bounded_number}
use Rattle.command_line.specs.Options.{Sayings}

-- the name of the IDL's file, the protocol, the number of workers, the services with their handlers, the name of the default service, if one
-- is given, and the limits
pub record PlainServed : Type 0 where
  pub idl : List ℕ
  pub protocol : Protocol
  pub workers : ℕ
  pub pairs : List NamedKind
  pub default_service : Option (List ℕ)
  pub limits : Limits

-- a file's name, by its word, which isn't empty
abbrev pub file_of_word : List ℕ → Option (List ℕ)
file_of_word word = if nat_le 1 (length word) then Some word else None

-- the protocol that a word names
abbrev pub protocol_of_word : List ℕ → Option Protocol
protocol_of_word word =
    if bytes_eq word (codes "binary") then Some Binary else if bytes_eq word (codes "compact") then Some Compact else None

-- the number of workers that a word is: 0 to 8
abbrev pub workers_of_word : List ℕ → Option ℕ
workers_of_word word = bounded_number 0 8 word

-- the name of the default service, which isn't empty
abbrev pub default_of_word : List ℕ → Option (Option (List ℕ))
default_of_word word = if nat_le 1 (length word) then Some (Some word) else None

-- the name of the default service, by the values of its option; none where it is left out
abbrev pub default_name_given : List (List ℕ) → Option (Option (List ℕ))
default_name_given [] = Some None
default_name_given (word ∷ []) = default_of_word word
default_name_given _ = None

-- what is served, by a word for the IDL, the protocol and the workers each, the words of its pairs, its default service, and its limits
abbrev pub served_with : (idl protocol workers : List ℕ) (pairs : List (List ℕ)) → Option (List ℕ) → Limits → Option PlainServed
served_with idl protocol workers pairs default_service limits =
    option_and_then (λ (name : List ℕ). option_and_then (λ (spelling : Protocol). option_and_then (λ (count : ℕ).
    option_map (λ (bound : List NamedKind).
    record { idl = name; protocol = spelling; workers = count; pairs = bound; default_service = default_service; limits = limits })
    (command_pairs pairs)) (workers_of_word workers)) (protocol_of_word protocol)) (file_of_word idl)

-- what is served, by the words in their places
abbrev pub served_by : List (List ℕ) → Option (List ℕ) → Limits → Option PlainServed
served_by (idl ∷ protocol ∷ workers ∷ pairs) default_service limits = served_with idl protocol workers pairs default_service limits
served_by _ default_service limits = None

-- what is served, by what is said
abbrev pub served_said : Sayings → Option PlainServed
served_said said =
    option_and_then (λ (limits : Limits). option_and_then (λ (name : Option (List ℕ)). served_by (said []) name limits)
    (default_name_given (said (codes "default")))) (limits_said said)
