-- Lines of entries by which a report tells its run.
use Rattle.std.specs.Prelude.{List, ℕ}
use Rattle.script_model.specs.Rehearsal.{IsCallLine}
use Rattle.script_model.specs.Telling.{TellsConnections}
use Rattle.call_rules.specs.Entries.{CallEntry}
use Rattle.call_rules.specs.PlainCalls.{IsPlainCall}

-- Each plain call has a line of a call, by which its connection is told.
pub record TellCalls (line : CallEntry → List ℕ) : Type 0 where
  pub named : (e : CallEntry) → IsPlainCall e.call → IsCallLine (line e)
  pub connections : TellsConnections line
