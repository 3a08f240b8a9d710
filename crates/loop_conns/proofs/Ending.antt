-- A connection that is closed: what is left of the table, the places and the causes.
use Rattle.std.proofs.Common.{◌≡◌, ℕ, None, IsSome, slice_set, sym, subst}
use Rattle.host_model.specs.declared.cause.EndCause.{EndCause}
use Rattle.conn_table.specs.Slots.{slot_in, without_number}
use Rattle.conn_table.specs.Table.{TableView}
use Rattle.conn_refinement.specs.Tables.{IsSameBut}
use Rattle.conn_refinement.proofs.Tables.{but_gone, but_then}
use Rattle.loop_conns.specs.declared.connections.ConnStage.TheVariants.{Gone}
use Rattle.loop_conns.specs.declared.connections.LoopConnections.{LoopConnections}
use Rattle.loop_conns.specs.Tied.{IsOrderly}
use Rattle.loop_conns.specs.Ended.{EndsConnection}
use Rattle.loop_conns.proofs.Ordering.{left_orderly}

-- what a table's `remove` leaves
pub gone_here : (c : ℕ) (cause : EndCause) (old new : LoopConnections) → IsSome (slot_in c old.table.slots) → new.table ≡ record old.table { slots = without_number c old.table.slots }
    → slot_in c new.table.slots ≡ None → new.stages.items ≡ slice_set old.stages.items c Gone → new.causes.items ≡ slice_set old.causes.items c cause → EndsConnection c cause old new
gone_here c cause old new there table gone stages causes =
    record {
      table = subst (λ (t : TableView). IsSameBut c old.table t) (sym table) (but_gone old.table c);
      orderly = left_orderly c old.table new.table there table;
      gone = gone;
      stages = stages;
      causes = causes;
    }

-- after another change of that connection in the table
pub ends_behind : (c : ℕ) (cause : EndCause) (old new : LoopConnections) (mid : TableView) → IsSameBut c old.table mid → (IsOrderly old.table → IsOrderly mid)
    → EndsConnection c cause (record old { table = mid }) new → EndsConnection c cause old new
ends_behind c cause old new mid but orderly ended =
    record {
      table = but_then c old.table mid new.table but ended.table;
      orderly = λ o. ended.orderly (orderly o);
      gone = ended.gone;
      stages = ended.stages;
      causes = ended.causes;
    }
