use Rattle.std.proofs.Common.{◌≡◌, ◌∷◌, [], ◌++◌, take, drop, vec_len}
use Rattle.std.specs.List.{flat_map}
use Rattle.text_out.specs.Quoted.{quoted_byte, quoted_of}
use Rattle.text_out.proofs.quote.Given as goal

-- what was written, and the text of what is left, is the text of all
abbrev pub invariant-loop-byte : goal.invariant-loop-byte
invariant-loop-byte l = record {
  written : l.into.items ++ (flat_map quoted_byte (drop l.byte-index l.bytes) ++ 34 ∷ []) ≡ l.fn.into.items ++ quoted_of l.bytes;
  kept : take (vec_len l.fn.into) l.into.items ≡ l.fn.into.items;
}
