-- What stopping leaves of the links' count of faults: it never falls, whichever links the loop is compared with.
use Rattle.std.proofs.Common.{ℕ, ◌≤◌, List, arith}
use Rattle.outside.specs.LinksState.{LinksState}
use Rattle.host_model.specs.declared.cause.EndCause.{EndCause}
use Rattle.host_model.specs.declared.cause.EndCause.TheVariants.{End, Cut, SizeFault, Envelope, ReadFault, WriteFault, NoMemory, Stopped}
use Rattle.conn_table.specs.Table.{TableView}
use Rattle.machine_model.specs.Loop.{LoopConn, Loop}
use Rattle.loop_conns.specs.declared.connections.ConnStage.{ConnStage}
use Rattle.loop_conns.specs.declared.connections.ConnStage.TheVariants.{Lean, Laden, Gone}
use Rattle.loop_conns.specs.declared.connections.LoopConnections.{LoopConnections}
use Rattle.loop_conns.specs.Tied.{CauseShows, StageTells, AreTied}
use Rattle.loop_conns.specs.Woven.{ServedAsk, HasWoven}
use Rattle.loop_conns.specs.Going.{longest_payload, AllKeepWoven}

module _ (first links : LinksState) where
  -- the links as they came in, with the count of faults that they have now
  abbrev lately : LinksState
  lately = record first { net_faults = links.net_faults }

  shows_lately : (c : ℕ) (cause : EndCause) → CauseShows first links c cause → CauseShows lately links c cause
  shows_lately c ReadFault h = h
  shows_lately c WriteFault h = h
  shows_lately c End h = h
  shows_lately c Cut h = h
  shows_lately c (SizeFault size) h = h
  shows_lately c (Envelope fault) h = h
  shows_lately c NoMemory h = h
  shows_lately c Stopped h = h

  place_lately : (table : TableView) (c : ℕ) (conn : LoopConn) (cause : EndCause) (place : ConnStage) → StageTells first links table c conn cause place → StageTells lately links table c conn cause place
  place_lately table c conn cause Lean h = h
  place_lately table c conn cause Laden h = h
  place_lately table c conn cause Gone h = record { gone = h.gone; link = h.link; ended = h.ended; shows = shows_lately c cause h.shows }

  tied_lately : (kept : LoopConnections) (loop : Loop) → AreTied first links kept loop → AreTied lately links kept loop
  tied_lately kept loop t =
      record {
        tape = t.tape;
        count = t.count;
        stages = t.stages;
        opened = t.opened;
        each = λ c l. place_lately kept.table c (loop.conns c) _ _ (t.each c l);
        unopened = t.unopened;
        numbered = t.numbered;
        orderly = t.orderly;
        listens = t.listens;
        faults = t.faults;
        net_faults = omega arith;
      }

-- where whichever loop comes on, the count of faults hasn't fallen
pub net_goes_on : (max : ℕ) → max ≤ longest_payload → (first l0 l1 : LinksState) (k0 k1 : LoopConnections) (asks : List ServedAsk) → AllKeepWoven l0 k0 l1 k1 → HasWoven max first l0 k0 asks
    → l0.net_faults ≤ l1.net_faults
net_goes_on max small first l0 l1 k0 k1 asks on w =
    let before : HasWoven max (lately first l0) l0 k0 asks = (
      w.0,
      record {
        weave = w.1.weave;
        woven = w.1.woven;
        asked = w.1.asked;
        tied = tied_lately first l0 k0 w.0 w.1.tied;
        within = w.1.within;
        lengths = w.1.lengths;
        rests = w.1.rests;
      },
    ) in
    (on max small (lately first l0) asks before).1.tied.net_faults
