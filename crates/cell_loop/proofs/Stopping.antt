-- Connections that are open are ended, since the host stops, on both sides.
use Rattle.std.proofs.Common.{◌≡◌, ℕ, suc, ◌+◌, ◌<◌, ◌≤◌, ◌⊎◌, Option, None, Some, List, [], ◌∷◌, ◌++◌, map, length, slice_get, slice_index_or, refl, sym, ap, ◌∙◌, subst, inl, inr, option_map, arith}
use Rattle.std.proofs.lemmas.Bool.{cases_eq, cases_lt}
use Rattle.std.proofs.lemmas.Option.{same_Some, slice_get-map, slice_get-get_or, slice_get_within}
use Rattle.std.proofs.lemmas.List.{length-map, length-set, map-append, get_or-set_same, get_or-set_other}
use Rattle.streams.specs.declared.marks.Mark.TheVariants.{Closed}
use Rattle.host_model.specs.declared.cause.EndCause.{EndCause}
use Rattle.host_model.specs.declared.cause.EndCause.TheVariants.{Stopped}
use Rattle.host_model.specs.DeskRules.{DeskRules}
use Rattle.call_rules.specs.PlainCalls.{PlainCall, PlainAnswer}
use Rattle.call_rules.specs.Handling.{handler_rules}
use Rattle.machine_model.specs.Loop.{LoopConn, Loop, IsOpen, changed, with_cause}
use Rattle.machine_model.specs.Machine.{MachineEvent, EventsLead}
use Rattle.machine_model.proofs.Merging.{runs-append}
use Rattle.script_model.specs.Playing.{at_number}
use Rattle.cell_loop.specs.declared.loop_part.CellStage.{CellStage}
use Rattle.cell_loop.specs.declared.loop_part.CellStage.TheVariants.{Lean, Framed, Whole, Asked, Over}
use Rattle.cell_loop.specs.declared.loop_part.LoopPart.{LoopPart}
use Rattle.cell_loop.specs.Settings.{CellSetting, ServedCell, ServedPlay, desk_of_setting}
use Rattle.cell_loop.specs.LoopTied.{CellStageTells, IsLoopTied, HasRoomToClose}
use Rattle.cell_loop.specs.Closing.{IsClosed}
use Rattle.cell_loop.specs.LoopMoves.{IsLoopUnderWay, StandIsOver, LoopStops, StopsOne, StopsAll, AreAllOver, IsEndedLoop}
use Rattle.cell_loop.specs.Stops.{if_open, open_below, stop_of}
use Rattle.cell_loop.proofs.Halting.{IsLeftByStops, stops_leave, open_is_below}
use Rattle.cell_loop.proofs.Tying.{feeds_of, loop_changed}
use Rattle.cell_loop.proofs.Ending.{same_feeds, as_many_feeds, over_tied}

-- A part under way of whose connections some are stopped is one under way.
pub stops_way : (numbers : Loop → List ℕ) (old new : LoopPart) → IsLoopUnderWay old → LoopStops numbers old new → HasRoomToClose new → IsLoopUnderWay new
stops_way numbers old new under_way stops room =
    record {
      setting = under_way.setting;
      play = (stops under_way.setting under_way.play.cell under_way.play under_way.tied refl).0;
      tied = (stops under_way.setting under_way.play.cell under_way.play under_way.tied refl).2;
      room = room;
    }

-- none is stopped
pub stops_nothing : (part : LoopPart) → LoopStops (λ loop. []) part part
stops_nothing part s cell play t same = (play, ap (λ (loop : Loop). record cell { loop = loop }) (sym same), t)

-- those below a number are stopped, and then the one of this number
pub stops_further : (i : ℕ) (old mid new : LoopPart) → LoopStops (λ loop. open_below loop.conns i) old mid → LoopStops (λ loop. if_open (loop.conns i).cause i) mid new
    → LoopStops (λ loop. open_below loop.conns (i + 1)) old new
stops_further i old mid new first second s cell play t same =
    let d : DeskRules PlainCall PlainAnswer = desk_of_setting s in
    let one : (next : ServedPlay) × EventsLead d handler_rules cell (map stop_of (open_below cell.loop.conns i)) (record cell { loop = next.cell.loop }) × IsLoopTied s mid next =
    first s cell play t same in
    let between : ServedCell = record cell { loop = one.0.cell.loop } in
    let two : (next : ServedPlay) × EventsLead d handler_rules between (map stop_of (if_open (one.0.cell.loop.conns i).cause i)) (record between { loop = next.cell.loop }) × IsLoopTied s new next =
    second s between one.0 one.2 refl in
    let behind : ServedCell = record cell { loop = two.0.cell.loop } in
    let left : IsLeftByStops (open_below cell.loop.conns i) cell.loop one.0.cell.loop = stops_leave d handler_rules (open_below cell.loop.conns i) cell between one.1 in
    let cause : (one.0.cell.loop.conns i).cause ≡ (cell.loop.conns i).cause =
    ap (λ (k : LoopConn). k.cause) (left.others i (λ a. let l : i < i = open_is_below cell.loop.conns i i a in let f : ⊥ = omega arith in f)) in
    let last : EventsLead d handler_rules between (map stop_of (if_open (cell.loop.conns i).cause i)) behind =
    subst (λ (o : Option EndCause). EventsLead d handler_rules between (map stop_of (if_open o i)) behind) cause two.1 in
    let both : EventsLead d handler_rules cell (map stop_of (open_below cell.loop.conns i) ++ map stop_of (if_open (cell.loop.conns i).cause i)) behind =
    runs-append d handler_rules cell between behind (map stop_of (open_below cell.loop.conns i)) (map stop_of (if_open (cell.loop.conns i).cause i)) one.1 last in
    let joined : EventsLead d handler_rules cell (map stop_of (open_below cell.loop.conns (suc i))) behind =
    subst (λ (es : List MachineEvent). EventsLead d handler_rules cell es behind) (sym (map-append stop_of (open_below cell.loop.conns i) (if_open (cell.loop.conns i).cause i))) both in
    let next : suc i ≡ i + 1 = omega arith in
    (two.0, subst (λ (k : ℕ). EventsLead d handler_rules cell (map stop_of (open_below cell.loop.conns k)) behind) next joined, two.2)

-- a connection that is open is stopped
abbrev stopped_loop : Loop → ℕ → Loop
stopped_loop loop c = changed loop c (with_cause (loop.conns c) Stopped) (Closed c ∷ [])

abbrev stopped_play : ServedPlay → ℕ → ServedPlay
stopped_play play c = record play { cell = record play.cell { loop = stopped_loop play.cell.loop c }; admitted = at_number play.admitted c None }

-- a stand that isn't over is that of a connection without a cause
going_so : (s : CellSetting) (part : LoopPart) (play : ServedPlay) (c : ℕ) (stage : CellStage) → (StandIsOver stage → ⊥)
    → CellStageTells s.desk.max_frame part.table c (play.cell.loop.conns c) (play.admitted c) stage → (play.cell.loop.conns c).cause ≡ None
going_so s part play c Lean going t = t.0.tied.going
going_so s part play c Framed going t = t.0.tied.going
going_so s part play c Whole going t = t.0.tied.going
going_so s part play c Asked going t = t.0.tied.going
going_so s part play c (Over cause) going t = absurd (going tt)

stopped_stops : (c : ℕ) (old new : LoopPart) → c < length old.stages.items → (StandIsOver (slice_index_or old.stages.items c Lean) → ⊥) → IsClosed c Stopped old new
    → LoopStops (λ loop. if_open (loop.conns c).cause c) old new
stopped_stops c old new below going closed s cell play t same =
    let known : play.cell.loop.count ≡ length old.stages.items = t.count in
    let no_cause : (play.cell.loop.conns c).cause ≡ None = going_so s old play c (slice_index_or old.stages.items c Lean) going (t.stages c below) in
    let is_open : IsOpen play.cell.loop c = (omega arith, no_cause) in
    let next : ServedPlay = stopped_play play c in
    let after : Loop = stopped_loop play.cell.loop c in
    let lead : EventsLead (desk_of_setting s) handler_rules cell (stop_of c ∷ []) (record cell { loop = after }) = (
      record cell { loop = after },
      (after, (subst (λ (l : Loop). IsOpen l c) (sym same) is_open, tt, ap (λ (l : Loop). stopped_loop l c) (sym same)), refl),
      refl,
    ) in (
      next,
      subst (λ (o : Option EndCause). EventsLead (desk_of_setting s) handler_rules cell (map stop_of (if_open o c)) (record cell { loop = after }))
          (sym (ap (λ (l : Loop). (l.conns c).cause) same ∙ no_cause)) lead,
      over_tied s c Stopped old new play next (with_cause (play.cell.loop.conns c) Stopped) (Closed c ∷ []) t below closed.table closed.gone closed.stages closed.tape refl
          (loop_changed c (with_cause (play.cell.loop.conns c) Stopped) None (Closed c ∷ []) play next refl (λ x. refl))
          (as_many_feeds old.feeds new.feeds closed.feeds) (same_feeds old.feeds new.feeds play.unread play.finish play.rules closed.feeds (feeds_of s old play t)),
    )

pub stops_one : (c : ℕ) (old new : LoopPart) → c < length old.stages.items → (StandIsOver (slice_index_or old.stages.items c Lean) → ⊥) → IsClosed c Stopped old new → StopsOne c old new
stops_one c old new below going closed =
    record {
      stops = stopped_stops c old new below going closed;
      count = ap length closed.stages ∙ length-set old.stages.items c (Over Stopped);
      over = subst StandIsOver (sym own) tt;
      by_a_stop = λ _. own;
      others = λ x over. other x over (cases_eq c x);
    }
  where
    own : slice_index_or new.stages.items c Lean ≡ Over Stopped
    own = ap (λ xs. slice_index_or xs c Lean) closed.stages ∙ get_or-set_same old.stages.items c (Over Stopped) Lean below

    other : (x : ℕ) → StandIsOver (slice_index_or old.stages.items x Lean) → (c ≡ x) ⊎ (c ≡ x → ⊥) → StandIsOver (slice_index_or new.stages.items x Lean)
    other x over (inl e) = subst (λ k. StandIsOver (slice_index_or new.stages.items k Lean)) e (subst StandIsOver (sym own) tt)
    other x over (inr n) =
        subst StandIsOver
        (sym (ap (λ xs. slice_index_or xs x Lean) closed.stages ∙ get_or-set_other old.stages.items c x (Over Stopped) Lean (λ e. n (sym e)))) over

-- the cause of a stand that is over
abbrev pub cause_at : CellStage → EndCause
cause_at (Over cause) = cause
cause_at _ = Stopped

-- a connection that stands so has ended by it
caused_so : (s : CellSetting) (part : LoopPart) (play : ServedPlay) (c : ℕ) (stage : CellStage) → StandIsOver stage
    → CellStageTells s.desk.max_frame part.table c (play.cell.loop.conns c) (play.admitted c) stage → (play.cell.loop.conns c).cause ≡ Some (cause_at stage)
caused_so s part play c Lean over k = absurd over
caused_so s part play c Framed over k = absurd over
caused_so s part play c Whole over k = absurd over
caused_so s part play c Asked over k = absurd over
caused_so s part play c (Over cause) over k = k.2

-- one that has ended stays so
pub stops_none : (c : ℕ) (part : LoopPart) → c < length part.stages.items → StandIsOver (slice_index_or part.stages.items c Lean) → StopsOne c part part
stops_none c part below over =
    record {
      stops = λ s cell play t same.
          let cause : (cell.loop.conns c).cause ≡ Some (cause_at (slice_index_or part.stages.items c Lean)) =
          ap (λ (l : Loop). (l.conns c).cause) same ∙ caused_so s part play c (slice_index_or part.stages.items c Lean) over (t.stages c below) in (
            play,
            subst (λ (o : Option EndCause). EventsLead (desk_of_setting s) handler_rules cell (map stop_of (if_open o c)) (record cell { loop = play.cell.loop })) (sym cause)
                (ap (λ (loop : Loop). record cell { loop = loop }) (sym same)),
            t,
          );
      count = refl;
      over = over;
      by_a_stop = λ going. absurd (going over);
      others = λ x o. o;
    }

-- it is that of its cause
pub over_at : (stage : CellStage) → StandIsOver stage → stage ≡ Over (cause_at stage)
over_at Lean over = absurd over
over_at Framed over = absurd over
over_at Whole over = absurd over
over_at Asked over = absurd over
over_at (Over cause) over = refl

-- one connection more has ended
pub over_more : (i : ℕ) (old new : LoopPart) → StopsOne i old new → ((x : ℕ) → x < i → StandIsOver (slice_index_or old.stages.items x Lean)) → (x : ℕ) → x < i + 1
    → StandIsOver (slice_index_or new.stages.items x Lean)
over_more i old new stops all x below = go (cases_lt x i)
  where
    go : (x < i) ⊎ (i ≤ x) → StandIsOver (slice_index_or new.stages.items x Lean)
    go (inl l) = stops.others x (all x l)
    go (inr l) = let e : i ≡ x = omega arith in subst (λ k. StandIsOver (slice_index_or new.stages.items k Lean)) e stops.over

-- Where each connection has ended, so has the machine's loop.
module _ (part : LoopPart) (all : (x : ℕ) → x < length part.stages.items → StandIsOver (slice_index_or part.stages.items x Lean)) where
  abbrev causes : List EndCause
  causes = map cause_at part.stages.items

  stand_is : (x : ℕ) → x < length part.stages.items → slice_get part.stages.items x ≡ Some (Over (cause_at (slice_index_or part.stages.items x Lean)))
  stand_is x below = slice_get-get_or part.stages.items x Lean below ∙ ap Some (over_at (slice_index_or part.stages.items x Lean) (all x below))

  cause_is : (x : ℕ) → x < length part.stages.items → slice_get causes x ≡ Some (cause_at (slice_index_or part.stages.items x Lean))
  cause_is x below = slice_get-map cause_at part.stages.items x ∙ ap (option_map cause_at) (stand_is x below)

  all_over : AreAllOver part causes
  all_over =
      record {
        count = length-map part.stages.items cause_at;
        each = λ x cause is.
            let known : length causes ≡ length part.stages.items = length-map part.stages.items cause_at in
            let within : x < length causes = slice_get_within causes x cause is in
            let below : x < length part.stages.items = omega arith in
            stand_is x below ∙ ap (λ k. Some (Over k)) (same_Some (cause_at (slice_index_or part.stages.items x Lean)) cause (sym (cause_is x below) ∙ is));
      }

  pub ended_loop : (s : CellSetting) (play : ServedPlay) → IsLoopTied s part play → IsEndedLoop part play.cell.loop
  ended_loop s play t =
      record {
        tape = t.tape;
        causes = causes;
        over = all_over;
        ended = record {
          count = length-map part.stages.items cause_at ∙ sym t.count;
          each = λ x below.
              let known : play.cell.loop.count ≡ length part.stages.items = t.count in
              let within : x < length part.stages.items = omega arith in
              caused_so s part play x (slice_index_or part.stages.items x Lean) (all x within) (t.stages x within) ∙ sym (cause_is x within);
        };
      }

-- Where each connection has ended, all are stopped.
pub stops_all : (old new : LoopPart) → LoopStops (λ loop. open_below loop.conns (length old.stages.items)) old new
    → ((x : ℕ) → x < length new.stages.items → StandIsOver (slice_index_or new.stages.items x Lean)) → StopsAll old new
stops_all old new stops all s cell play t same =
    let end : (next : ServedPlay)
    × EventsLead (desk_of_setting s) handler_rules cell (map stop_of (open_below cell.loop.conns (length old.stages.items))) (record cell { loop = next.cell.loop }) × IsLoopTied s new next =
    stops s cell play t same in (
      end.0.cell.loop,
      subst (λ (k : ℕ). EventsLead (desk_of_setting s) handler_rules cell (map stop_of (open_below cell.loop.conns k)) (record cell { loop = end.0.cell.loop }))
          (sym (ap (λ (l : Loop). l.count) same ∙ t.count)) end.1,
      ended_loop new all s end.0 end.2,
    )
