-- Reading what opens maps, sets and lists.
use Rattle.std.specs.Prelude.{ℕ, List, Result}
use Rattle.thrift_value.specs.declared.tag.Tag.{Tag}
use Rattle.value_text.specs.Fronts.{◌>>=◌, behind_word, tag_at}

-- a word, with the tag behind it
abbrev pub tag_behind : List ℕ → List ℕ → Result (Tag × List ℕ) ℕ
tag_behind word text = behind_word word text >>= tag_at
