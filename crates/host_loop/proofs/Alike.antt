-- Connections that are kept alike, but for the room that was taken for them.
use Rattle.std.proofs.Common.{◌≡◌, ℕ, false, None, IfSome, List, length, slice_index_or, sym, ap, ◌∙◌, subst}
use Rattle.std.specs.List.{AllByRecursion}
use Rattle.outside.specs.LinksState.{LinksState}
use Rattle.host_model.specs.declared.cause.EndCause.{EndCause}
use Rattle.host_model.specs.declared.cause.EndCause.TheVariants.{Stopped}
use Rattle.conn_table.specs.Slots.{slot_in}
use Rattle.conn_table.specs.Table.{TableView}
use Rattle.machine_model.specs.AtFronts.{KeepsWithin}
use Rattle.machine_model.specs.Loop.{Loop}
use Rattle.loop_conns.specs.declared.connections.ConnStage.{ConnStage}
use Rattle.loop_conns.specs.declared.connections.ConnStage.TheVariants.{Gone}
use Rattle.loop_conns.specs.declared.connections.LoopConnections.{LoopConnections}
use Rattle.loop_conns.specs.Tied.{StageTells, IsOrderly, AreTied, PhasesTell}
use Rattle.loop_conns.specs.Woven.{ServedAsk, IsPassedAtRest, IsWovenTo, LoopIsRunning}

module _ (max : ℕ) (first links : LinksState) (k0 k1 : LoopConnections) (asks : List ServedAsk) (table : k1.table ≡ k0.table) (stages : k1.stages.items ≡ k0.stages.items)
    (causes : k1.causes.items ≡ k0.causes.items) (owing : k1.owing ≡ k0.owing) where
  tied : (loop : Loop) → AreTied first links k0 loop → AreTied first links k1 loop
  tied loop t =
      record {
        tape = t.tape;
        count = t.count ∙ sym (ap length causes);
        stages = t.stages ∙ sym (ap length stages);
        opened = t.opened;
        each = λ c l.
            subst (λ (p : TableView × List EndCause × List ConnStage). StageTells first links p.0 c (loop.conns c) (slice_index_or p.1 c Stopped) (slice_index_or p.2 c Gone))
            (λ i. (sym table i, sym causes i, sym stages i)) (t.each c l);
        unopened = λ c l. subst (λ (v : TableView). (slot_in c v.slots ≡ None) × (links.is_open c ≡ false)) (sym table) (t.unopened c l);
        numbered = t.numbered;
        orderly = subst IsOrderly (sym table) t.orderly;
        listens = t.listens;
        faults = t.faults;
        net_faults = t.net_faults;
      }

  budget : k0.table.budget ≡ k1.table.budget
  budget = ap (λ (v : TableView). v.budget) (sym table)

  woven : (loop : Loop) → IsWovenTo max first links k0 asks loop → IsWovenTo max first links k1 asks loop
  woven loop w =
      record {
        weave = w.weave;
        woven = w.woven;
        asked = w.asked;
        tied = tied loop w.tied;
        within = subst (λ (n : ℕ). KeepsWithin max n loop) budget w.within;
        lengths = w.lengths;
        rests = subst (λ (n : ℕ). IfSome links.rests (AllByRecursion (IsPassedAtRest max n w.weave loop))) budget w.rests;
      }

  pub alike_goes : LoopIsRunning max first links k0 asks → LoopIsRunning max first links k1 asks
  alike_goes g =
      record {
        loop = g.loop;
        so_far = woven g.loop g.so_far;
        phases = subst (λ (v : TableView). PhasesTell max v g.loop) (sym table) g.phases;
        none_left = g.none_left;
        none_stopped = g.none_stopped;
        taken = g.taken;
        owing = owing ∙ g.owing;
        quiet = g.quiet;
      }
