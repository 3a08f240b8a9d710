-- Lines of words, with one blank between two words.
use Rattle.std.specs.Prelude.{ℕ, zero, suc, ◌==◌, ◌++◌, List, [], ◌∷◌, None, Some, if◌then◌else◌}
use Rattle.envelope.specs.declared.head.Protocol.{Protocol}
use Rattle.service_binding.specs.Pairs.{NamedKind}
use Rattle.command_line.specs.Served.{PlainServed}

-- the words of a line, behind the bytes of the first one that were read
abbrev pub split_behind : List ℕ → List ℕ → List (List ℕ)
split_behind word [] = word ∷ []
split_behind word (b ∷ line) = if b == 32 then word ∷ split_behind [] line else split_behind (word ++ b ∷ []) line

-- the words of a line
abbrev pub split : List ℕ → List (List ℕ)
split line = split_behind [] line

-- what is served, part by part
abbrev pub served : (idl : List ℕ) → Protocol → (workers : ℕ) → List NamedKind → (max_frame : ℕ) → (read_budget : ℕ) → PlainServed
served idl protocol workers pairs max_frame read_budget = record {
  idl = idl;
  protocol = protocol;
  workers = workers;
  pairs = pairs;
  default_service = None;
  limits = record { max_frame = max_frame; read_budget = read_budget };
}

-- the same, with the name of a default
abbrev pub by_default : List ℕ → PlainServed → PlainServed
by_default name s = record s { default_service = Some name }

-- a pair so many times
abbrev pub many : ℕ → NamedKind → List NamedKind
many zero pair = []
many (suc n) pair = pair ∷ many n pair
