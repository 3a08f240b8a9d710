-- A chain of pipes that were hung up, one after others.
use Rattle.std.proofs.Common.{◌≡◌, List, [], ◌∷◌, ◌++◌, rules}
use Rattle.std.specs.Global.{Box}
use Rattle.script_links.specs.declared.called.CalledRow.{CalledRow}
use Rattle.script_links.specs.declared.called.CalledChain as chain
use Rattle.script_links.specs.declared.called.CalledChain.TheFolds.{the_lemmas}
use Rattle.script_links.specs.Called.{called_row, called_in_chain}

pub called_behind : (before : Box chain.CalledChain) (row : CalledRow) → called_in_chain (chain.Behind before row) ≡ called_in_chain before.value ++ called_row row ∷ []
called_behind before row = search (rules, the_lemmas)
