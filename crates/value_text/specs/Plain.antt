-- Bytes that stand in quoted text as they are.
use Rattle.std.specs.Prelude.{ℕ, Bool, false, ◌==◌, if◌then◌else◌}
use Rattle.text_out.specs.Bytes.{quotation_mark, escape_mark}
use Rattle.value_text.specs.Fronts.{is_printable}

-- a printable byte that is none of the two with an escape of their own
abbrev pub is_plain : ℕ → Bool
is_plain b = if b == quotation_mark then false else if b == escape_mark then false else is_printable b
