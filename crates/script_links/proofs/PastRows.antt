-- A chain of links that came back, one after others.
use Rattle.std.proofs.Common.{◌≡◌, List, [], ◌∷◌, ◌++◌, rules}
use Rattle.std.specs.Global.{Box}
use Rattle.script_links.specs.declared.past.PastRow.{PastRow}
use Rattle.script_links.specs.declared.past.PastChain as chain
use Rattle.script_links.specs.declared.past.PastChain.TheFolds.{the_lemmas}
use Rattle.script_links.specs.Past.{past_row, past_in_chain}

pub past_behind : (before : Box chain.PastChain) (row : PastRow) → past_in_chain (chain.Behind before row) ≡ past_in_chain before.value ++ past_row row ∷ []
past_behind before row = search (rules, the_lemmas)
