-- Pipes that were hung up, as plain data.
use Rattle.std.specs.Prelude.{List, [], ◌∷◌, ◌++◌}
use Rattle.outside.specs.Calling.{PastPipe}
use Rattle.script_links.specs.declared.called.CalledRow.{CalledRow}
use Rattle.script_links.specs.declared.called.CalledChain.{CalledChain}
use Rattle.script_links.specs.declared.called.CalledChain.TheOpen.{CalledChain-F}
use Rattle.script_links.specs.declared.called.CalledChain.TheOpen as layer
use Rattle.script_links.specs.declared.called.CalledChain.TheFolds.{fold-CalledChain}

-- what is kept of one
abbrev pub called_row : CalledRow → PastPipe
called_row row = record { port = row.port; written = row.written.items; read = row.read.items; ended = row.ended }

-- one level of a chain, with those before it in their place
abbrev pub called_step : CalledChain-F (List PastPipe) → List PastPipe
called_step layer.Nothing = []
called_step (layer.Behind before row) = before.value ++ called_row row ∷ []

-- the pipes of a chain that were hung up, the oldest first
abbrev pub called_in_chain : CalledChain → List PastPipe
called_in_chain = fold-CalledChain (List PastPipe) called_step
