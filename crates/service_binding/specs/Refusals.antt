-- The errors' line of a pair or a default that is refused.
use Rattle.std.specs.Prelude.{ℕ, List, [], ◌∷◌, ◌++◌, codes, Option, None, Some}
use Rattle.std.specs.List.{slice_get}
use Rattle.text_out.specs.Line.{line_of}
use Rattle.service_binding.specs.Pairs.{NamedKind, word_of_pair}
use Rattle.service_binding.specs.declared.fault.BindKind.{BindKind}
use Rattle.service_binding.specs.declared.fault.BindKind.TheVariants.{UnknownService, SameService, UnknownKind, SameKind, Unsuited, NotBound}

-- the word of a reason
abbrev pub reason_word : BindKind → List ℕ
reason_word UnknownService = codes "UnknownService"
reason_word SameService = codes "SameService"
reason_word UnknownKind = codes "UnknownKind"
reason_word SameKind = codes "SameKind"
reason_word Unsuited = codes "Unsuited"
reason_word NotBound = codes "NotBound"

-- the default's name, where there is one
abbrev pub default_name_text : Option (List ℕ) → List ℕ
default_name_text None = []
default_name_text (Some name) = name

-- a pair's word; where there is no pair, the default's name
abbrev pub pair_at_text : Option NamedKind → Option (List ℕ) → List ℕ
pair_at_text None default_service = default_name_text default_service
pair_at_text (Some pair) default_service = word_of_pair pair

-- the line: `thriftd: bind`, the word of the pair at a place, behind the last pair the default's name, and why it is refused
abbrev pub refused_pair_text : List NamedKind → Option (List ℕ) → ℕ → BindKind → List ℕ
refused_pair_text pairs default_service place kind =
    line_of (codes "thriftd: bind " ++ pair_at_text (slice_get pairs place) default_service ++ 32 ∷ reason_word kind)
