-- Connections are stopped, whatever is under way on them.
use Rattle.std.proofs.Common.{◌≡◌, ◌≢◌, ℕ, ◌+◌, ◌<◌, ◌≤◌, ◌⊎◌, List, [], ◌∷◌, ◌++◌, length, slice_index_or, refl, sym, ap, ◌∙◌, subst, inl, inr, arith}
use Rattle.std.proofs.lemmas.Bool.{cases_eq, cases_lt}
use Rattle.std.proofs.lemmas.Option.{slice_get-get_or}
use Rattle.std.proofs.lemmas.List.{get_or_past}
use Rattle.outside.specs.LinksState.{LinksState}
use Rattle.streams.specs.declared.marks.Mark.TheVariants.{Closed}
use Rattle.outside.specs.Closing.{Closes}
use Rattle.host_model.specs.declared.cause.EndCause.TheVariants.{Stopped}
use Rattle.machine_model.specs.Loop.{Loop, with_cause, changed, gives_up}
use Rattle.machine_model.specs.Machine.{HaveAllEnded}
use Rattle.loop_conns.specs.declared.connections.ConnStage.TheVariants.{Gone}
use Rattle.loop_conns.specs.declared.connections.LoopConnections.{LoopConnections}
use Rattle.loop_conns.specs.Tied.{StageTells, AreTied}
use Rattle.loop_conns.specs.Woven.{ServedAsk, HasWoven}
use Rattle.loop_conns.specs.Ended.{IsNumbered, EndsConnection}
use Rattle.loop_conns.specs.Going.{AreAllGone}
use Rattle.loop_conns.specs.Stopped.{StopsAlone}
use Rattle.loop_conns.proofs.Tying.{IsSetAt, set_at}
use Rattle.loop_conns.proofs.Standing.{Standing, standing}
use Rattle.loop_conns.proofs.Leaving.{moves_none, leaves_woven}
use Rattle.call_rules.specs.Desks.{longest_payload}

-- One that is open is stopped.
pub stops_woven : (max : ℕ) (small : max ≤ longest_payload) (first before links : LinksState) (old new : LoopConnections) (asks : List ServedAsk) (c : ℕ) → HasWoven max first before old asks
    → slice_index_or old.stages.items c Gone ≢ Gone → EndsConnection c Stopped old new → Closes c before links → HasWoven max first links new asks
stops_woven max small first before links old new asks c w open_at here closed =
    let st : Standing before old w.0 c = standing first before old w.0 c w.1.tied open_at in (
      changed w.0 c (with_cause (w.0.conns c) Stopped) ([] ++ Closed c ∷ []),
      leaves_woven max small first before before links old new old.table asks w.0 c st w.1.within.now (gives_up c Stopped) (with_cause (w.0.conns c) Stopped) Stopped [] []
          (record {
            happens = ((st.below, st.here.going), tt, refl);
            over = refl;
            lent_is = refl;
            moves = moves_none c before;
            but = record { budget = refl; others = λ x n. refl };
            orderly = λ o. o;
            here = here;
            closed = closed;
            shows = tt;
          })
          w.1,
    )

-- what stopping one leaves of the places and the causes
pub stopped_place : (c : ℕ) (old new : LoopConnections) → IsNumbered c old → EndsConnection c Stopped old new → slice_index_or old.causes.items c Stopped ≡ Stopped → StopsAlone c old new
stopped_place c old new known here stopped =
    record { count = stages.count; gone = stages.own; others = λ x h. go x h (cases_eq x c); causes = λ x. cause x (cases_eq x c) }
  where
    stages : IsSetAt Gone c Gone old.stages.items new.stages.items
    stages = set_at Gone c Gone old.stages.items new.stages.items known.0 here.stages

    causes : IsSetAt Stopped c Stopped old.causes.items new.causes.items
    causes = set_at Stopped c Stopped old.causes.items new.causes.items known.1 here.causes

    go : (x : ℕ) → slice_index_or old.stages.items x Gone ≡ Gone → (x ≡ c) ⊎ (x ≡ c → ⊥) → slice_index_or new.stages.items x Gone ≡ Gone
    go x h (inl e) = ap (λ i. slice_index_or new.stages.items i Gone) e ∙ stages.own
    go x h (inr n) = stages.others x n ∙ h

    cause : (x : ℕ) → (x ≡ c) ⊎ (x ≡ c → ⊥) → slice_index_or new.causes.items x Stopped ≡ slice_index_or old.causes.items x Stopped
    cause x (inl e) =
        ap (λ i. slice_index_or new.causes.items i Stopped) e ∙ causes.own ∙ sym stopped ∙ sym (ap (λ i. slice_index_or old.causes.items i Stopped) e)
    cause x (inr n) = causes.others x n

pub stopped_none : (c : ℕ) (kept : LoopConnections) → slice_index_or kept.stages.items c Gone ≡ Gone → StopsAlone c kept kept
stopped_none c kept gone = record { count = refl; gone = gone; others = λ x h. h; causes = λ x. refl }

-- those below a number are gone, and so is one more
pub gone_more : (c : ℕ) (old new : LoopConnections) → StopsAlone c old new → ((x : ℕ) → x < c → slice_index_or old.stages.items x Gone ≡ Gone) → (x : ℕ) → x < c + 1
    → slice_index_or new.stages.items x Gone ≡ Gone
gone_more c old new s below x l = go (cases_eq x c)
  where
    go : (x ≡ c) ⊎ (x ≡ c → ⊥) → slice_index_or new.stages.items x Gone ≡ Gone
    go (inl e) = ap (λ i. slice_index_or new.stages.items i Gone) e ∙ s.gone
    go (inr n) = s.others x (below x (omega arith))

pub all_gone : (n : ℕ) (kept : LoopConnections) → length kept.stages.items ≤ n → ((x : ℕ) → x < n → slice_index_or kept.stages.items x Gone ≡ Gone) → AreAllGone kept
all_gone n kept l below x = go (cases_lt x n)
  where
    go : (x < n) ⊎ (n ≤ x) → slice_index_or kept.stages.items x Gone ≡ Gone
    go (inl m) = below x m
    go (inr m) = get_or_past kept.stages.items x Gone (omega arith)

-- Where no connection is open, each has ended in the machine, by the cause that is kept.
pub ended_all : (first links : LinksState) (kept : LoopConnections) (loop : Loop) → AreTied first links kept loop → AreAllGone kept → HaveAllEnded loop kept.causes.items
ended_all first links kept loop t gone =
    record {
      count = sym t.count;
      each = λ c l.
          let count : loop.count ≡ length kept.causes.items = t.count in
          (subst (λ place. StageTells first links kept.table c (loop.conns c) (slice_index_or kept.causes.items c Stopped) place) (gone c) (t.each c l)).ended
          ∙ sym (slice_get-get_or kept.causes.items c Stopped (omega arith));
    }
