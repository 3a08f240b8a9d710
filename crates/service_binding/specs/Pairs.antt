-- Names of services with the kinds of their handlers, as words `NAME=KIND`.
use Rattle.std.specs.Prelude.{ℕ, ◌++◌, nat_le, ◌&&◌, List, [], ◌∷◌, length, codes, Option, None, Some, option_map, option_and_then, if◌then◌else◌}
use Rattle.std.specs.Str.{bytes_eq}
use Rattle.call_rules.specs.declared.kind.Kind.{Kind}
use Rattle.call_rules.specs.declared.kind.Kind.TheVariants.{Calculator, Store, Mirror}
use Rattle.service_binding.specs.Equals.{at_equals}

-- a name of a service, and the kind of the handler that serves it
abbrev pub NamedKind : Type 0
NamedKind = List ℕ × Kind

-- the word of a kind
abbrev pub word_of_kind : Kind → List ℕ
word_of_kind Calculator = codes "calculator"
word_of_kind Store = codes "store"
word_of_kind Mirror = codes "mirror"

-- the word of a pair
abbrev pub word_of_pair : NamedKind → List ℕ
word_of_pair pair = pair.0 ++ (codes "=" ++ word_of_kind pair.1)

-- the kind that a word names
abbrev pub handler_kind : List ℕ → Option Kind
handler_kind word =
    if bytes_eq word (codes "calculator") then Some Calculator else if bytes_eq word (codes "store") then Some Store
    else if bytes_eq word (codes "mirror") then Some Mirror else None

-- a pair of a name and a kind's word; a name isn't empty
abbrev pub pair_of_parts : List ℕ × List ℕ → Option NamedKind
pair_of_parts parts =
    if nat_le 1 (length parts.0) then option_map (λ (kind : Kind). (parts.0, kind)) (handler_kind parts.1) else None

-- the pair that a word is: it is cut at its first `=`
abbrev pub pair_of_word : List ℕ → Option NamedKind
pair_of_word word = option_and_then pair_of_parts (at_equals word)
