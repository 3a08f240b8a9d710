-- Values that have to come behind a last one, or needn't.
use Rattle.std.specs.Prelude.{ℕ, not, Bool, List, Option, Result, Ok, if◌then◌else◌}
use Rattle.thrift_value.specs.Tree.{Tree}
use Rattle.value_text.specs.Fronts.{◌>>=◌, stuck}
use Rattle.value_text.specs.Reading.{comes_behind}

-- a value that was read: where it has to come behind a last one and doesn't, the fault is the first byte behind it
abbrev pub in_order : Bool → Option Tree → Result (Tree × List ℕ) ℕ → Result (Tree × List ℕ) ℕ
in_order rising last read = read >>= λ x. if not rising then Ok x else if comes_behind last x.0 then Ok x else stuck x.1
