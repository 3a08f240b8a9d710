use Rattle.std.proofs.Common.{◌≡◌, map, drop}
use Rattle.idl_include.specs.DeclaredIn.{definition_in}
use Rattle.idl_names.specs.Listing.{listing_in, with_definitions}
use Rattle.idl_names.proofs.definitions.Definitions.add_all.Given as goal

abbrev pub invariant-loop-definition : goal.invariant-loop-definition
invariant-loop-definition l =
    with_definitions l.file (map definition_in (drop l.definition-index l.definitions)) (listing_in l.self)
    ≡ with_definitions l.file (map definition_in l.definitions) (listing_in l.initial.self)
