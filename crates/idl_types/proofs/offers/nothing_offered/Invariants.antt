use Rattle.std.proofs.Common.{◌≡◌, ℕ, None, slice_index_or}
use Rattle.idl_types.proofs.offers.nothing_offered.Given as goal

abbrev pub invariant-loop : goal.invariant-loop
invariant-loop l = (service : ℕ) → slice_index_or l.made.items service None ≡ None
