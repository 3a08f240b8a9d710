-- Nothing happens in the machine: the loop goes on as it was.
use Rattle.std.proofs.Common.{◌≡◌, ℕ, ◌<◌, ◌⊎◌, None, List, [], slice_index_or, refl, sym, ap, ◌∙◌, subst, inl, inr, append-nil}
use Rattle.std.proofs.Math.Path.{fun_ext}
use Rattle.std.proofs.lemmas.Bool.{cases_eq}
use Rattle.std.proofs.lemmas.Option.{none-some}
use Rattle.outside.specs.LinksState.{LinksState}
use Rattle.host_model.specs.declared.cause.EndCause.{EndCause}
use Rattle.host_model.specs.declared.cause.EndCause.TheVariants.{Stopped}
use Rattle.conn_table.specs.Table.{slot_of}
use Rattle.machine_model.specs.Loop.{LoopConn, Loop, with_conn, changed}
use Rattle.machine_model.proofs.Lists.{put_same, put_other}
use Rattle.conn_refinement.specs.Phases.{IsOpenTied}
use Rattle.loop_conns.specs.declared.connections.ConnStage.{ConnStage}
use Rattle.loop_conns.specs.declared.connections.ConnStage.TheVariants.{Lean, Laden, Gone}
use Rattle.loop_conns.specs.declared.connections.LoopConnections.{LoopConnections}
use Rattle.loop_conns.specs.Tied.{StageTells, AreTied, PhasesTell}
use Rattle.loop_conns.specs.Woven.{ServedAsk, LoopIsRunning}
use Rattle.loop_conns.specs.Ended.{MovesOnly}
use Rattle.loop_conns.proofs.Tying.{ChangesOne, same_at, changed_tied, changed_phases, told_none}
use Rattle.loop_conns.proofs.Weaving.{none_woven}
use Rattle.loop_conns.proofs.Standing.{Standing}

-- a loop of which nothing has changed
kept_at : (conns : ℕ → LoopConn) (c x : ℕ) → with_conn conns c (conns c) x ≡ conns x
kept_at conns c x = go (cases_eq x c)
  where
    go : (x ≡ c) ⊎ (x ≡ c → ⊥) → with_conn conns c (conns c) x ≡ conns x
    go (inl e) = ap (with_conn conns c (conns c)) e ∙ put_same conns c (conns c) ∙ ap conns (sym e)
    go (inr n) = put_other conns c (conns c) x n

pub same_loop : (loop : Loop) (c : ℕ) → changed loop c (loop.conns c) [] ≡ loop
same_loop loop c =
    let conns : with_conn loop.conns c (loop.conns c) ≡ loop.conns = fun_ext (λ x. kept_at loop.conns c x) in
    λ i. record { tape = append-nil loop.tape i; count = loop.count; conns = conns i }

module _ (max : ℕ) (first l0 l1 : LinksState) (k0 k1 : LoopConnections) (asks : List ServedAsk) (g : LoopIsRunning max first l0 k0 asks) (c : ℕ) (place : ConnStage) (cause : EndCause) where
  -- One connection has changed where the machine's hasn't.
  pub quiet_goes : c < g.loop.count → ChangesOne c place cause [] [] l0 l1 k0 k1 → StageTells first l1 k1.table c (g.loop.conns c) cause place
      → ((g.loop.conns c).cause ≡ None → IsOpenTied max (slot_of c k1.table.slots).conn (g.loop.conns c)) → k1.owing ≡ k0.owing → LoopIsRunning max first l1 k1 asks
  quiet_goes below change tells phase owing =
      let tied : AreTied first l1 k1 g.loop =
      subst (AreTied first l1 k1) (same_loop g.loop c) (changed_tied first l0 l1 k0 k1 g.loop c (g.loop.conns c) place cause [] [] g.so_far.tied below change tells) in
      record {
        loop = g.loop;
        so_far =
            none_woven max first l0 l1 k0 k1 asks g.loop g.so_far tied change.table.budget (change.links.lengths ∙ told_none l0.lengths) change.links.others.rests;
        phases = subst (PhasesTell max k1.table) (same_loop g.loop c) (changed_phases max k0.table k1.table g.loop c (g.loop.conns c) [] g.phases change.table phase);
        none_left = g.none_left;
        none_stopped = g.none_stopped;
        taken = g.taken;
        owing = owing ∙ g.owing;
        quiet = change.links.others.net_faults ∙ g.quiet;
      }

-- A connection that is open was read from, or written to, and nothing moved.
pub rests_goes : (max : ℕ) (first l0 l1 : LinksState) (kept : LoopConnections) (asks : List ServedAsk) (g : LoopIsRunning max first l0 kept asks) (c : ℕ) → Standing l0 kept g.loop c
    → MovesOnly c [] [] l0 l1 → l1.is_open c ≡ l0.is_open c → LoopIsRunning max first l1 kept asks
rests_goes max first l0 l1 kept asks g c st moves link =
    quiet_goes max first l0 l1 kept kept asks g c (slice_index_or kept.stages.items c Gone) (slice_index_or kept.causes.items c Stopped) st.below
    (record {
      links = moves;
      table = record { budget = refl; others = λ x n. refl };
      orderly = λ o. o;
      stages = same_at Gone c (slice_index_or kept.stages.items c Gone) kept.stages.items kept.stages.items refl refl;
      causes = same_at Stopped c (slice_index_or kept.causes.items c Stopped) kept.causes.items kept.causes.items refl refl;
    })
    (go (slice_index_or kept.stages.items c Gone) (g.so_far.tied.each c st.below))
    (λ e. g.phases c st.below e) refl
  where
    go : (place : ConnStage) → StageTells first l0 kept.table c (g.loop.conns c) (slice_index_or kept.causes.items c Stopped) place
        → StageTells first l1 kept.table c (g.loop.conns c) (slice_index_or kept.causes.items c Stopped) place
    go Lean h = (record { there = h.0.there; link = link ∙ h.0.link; going = h.0.going; stopped = h.0.stopped }, h.1, h.2)
    go Laden h = (record { there = h.0.there; link = link ∙ h.0.link; going = h.0.going; stopped = h.0.stopped }, h.1, h.2)
    go Gone h = absurd (none-some (slice_index_or kept.causes.items c Stopped) (sym st.here.going ∙ h.ended))
