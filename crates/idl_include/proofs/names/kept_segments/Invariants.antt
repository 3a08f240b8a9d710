use Rattle.std.proofs.Common.{◌≡◌, [], drop, reverse}
use Rattle.idl_include.specs.FileNames.{with_segments}
use Rattle.idl_include.specs.Texts.{texts}
use Rattle.idl_include.proofs.names.kept_segments.Given as goal

abbrev pub invariant-loop-part : goal.invariant-loop-part
invariant-loop-part l =
    with_segments (reverse (texts l.kept.items)) (texts (drop l.part-index l.part-items)) ≡ with_segments [] (texts l.part-items)
