-- Links that came back, as plain data.
use Rattle.std.specs.Prelude.{List, [], ◌∷◌, ◌++◌}
use Rattle.outside.specs.LinksState.{Listening}
use Rattle.outside.specs.Binding.{PastLinks}
use Rattle.script_links.specs.declared.past.PastRow.{PastRow}
use Rattle.script_links.specs.declared.past.PastChain.{PastChain}
use Rattle.script_links.specs.declared.past.PastChain.TheOpen.{PastChain-F}
use Rattle.script_links.specs.declared.past.PastChain.TheOpen as layer
use Rattle.script_links.specs.declared.past.PastChain.TheFolds.{fold-PastChain}

-- what is kept of one
abbrev pub past_row : PastRow → PastLinks
past_row row = record { tape = row.tape; over = row.over; listening = record { port = row.port; accept = row.accept } }

-- one level of a chain, with those before it in their place
abbrev pub past_step : PastChain-F (List PastLinks) → List PastLinks
past_step layer.Nothing = []
past_step (layer.Behind before row) = before.value ++ past_row row ∷ []

-- the links of a chain that came back, the oldest first
abbrev pub past_in_chain : PastChain → List PastLinks
past_in_chain = fold-PastChain (List PastLinks) past_step
