use Rattle.std.proofs.Common.{◌≡◌, map, drop, string_bytes}
use Rattle.std.specs.List.{list_all}
use Rattle.command_line.specs.Clapped.{is_fit}
use Rattle.command_line.proofs.sorting.are_fit.Given as goal

-- the words left are fit if all are
abbrev pub invariant-loop-word : goal.invariant-loop-word
invariant-loop-word l = list_all is_fit (map string_bytes (drop l.word-index l.words)) ≡ list_all is_fit (map string_bytes l.words)
