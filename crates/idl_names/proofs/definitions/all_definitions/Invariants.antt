use Rattle.std.proofs.Common.{◌≡◌, drop}
use Rattle.idl_include.specs.SourcesOf.{program_in}
use Rattle.idl_names.specs.Listing.{listing_in, nothing_listed, with_files}
use Rattle.idl_names.proofs.definitions.all_definitions.Given as goal

abbrev pub invariant-loop-number : goal.invariant-loop-number
invariant-loop-number l =
    with_files l.number (program_in (drop l.number l.files)) (listing_in l.all) ≡ with_files 0 (program_in l.files) nothing_listed
