-- The loop's part stays tied to a play where one connection changes on both sides.
use Rattle.std.proofs.Common.{◌≡◌, ℕ, ◌<◌, ◌≤◌, ◌⊎◌, Option, Some, List, [], ◌++◌, length, slice_get, slice_index_or, slice_set, unwrap_or, refl, sym, ap, ◌∙◌, subst, inl, inr, arith, IsSome}
use Rattle.std.specs.List.{AllByRecursion}
use Rattle.std.proofs.lemmas.Bool.{cases_eq, cases_lt}
use Rattle.std.proofs.lemmas.Option.{none-some, slice_get_past, slice_get-get_or, get_or_from_slice_get}
use Rattle.std.proofs.lemmas.List.{get_or-set_same, get_or-set_other, length-set}
use Rattle.streams.specs.declared.marks.Mark.{Mark}
use Rattle.conn_state.specs.Phase.{Phase}
use Rattle.conn_state.specs.Run.{EachIsByte}
use Rattle.conn_table.specs.declared.places.Slot.{Slot}
use Rattle.conn_table.specs.Slots.{slot_in, with_slot, with_added, without_number}
use Rattle.conn_table.specs.Table.{TableView, slot_of, fresh_slot}
use Rattle.conn_table.proofs.Sizing.{other_put, other_more, other_without, of_found}
use Rattle.machine_model.specs.Loop.{LoopConn, Loop, changed}
use Rattle.machine_model.proofs.Lists.{put_same, put_other}
use Rattle.script_model.specs.ScriptLines.{PlanRule}
use Rattle.script_model.specs.Playing.{InputFinish, at_number}
use Rattle.conn_refinement.proofs.Tables.{place_of}
use Rattle.cell_loop.specs.declared.feed.Feed.{Feed}
use Rattle.cell_loop.specs.declared.loop_part.CellStage.{CellStage}
use Rattle.cell_loop.specs.declared.loop_part.CellStage.TheVariants.{Lean, Framed, Whole, Asked, Over}
use Rattle.cell_loop.specs.declared.loop_part.LoopPart.{LoopPart}
use Rattle.cell_loop.specs.Settings.{CellSetting, ServedPlay}
use Rattle.cell_loop.specs.Feeds.{unread_in, finish_in, rules_in, HasSomePieces, BoundsSome}
use Rattle.conn_refinement.specs.Phases.{IsOpenTied}
use Rattle.cell_loop.specs.LoopTied.{IsInTable, HasAdmittedSize, CellStageTells, IsLoopTied}
use Rattle.conn_refinement.specs.Tables.{IsSameBut}
use Rattle.cell_loop.specs.Closing.{HasStand}

-- stands that differ in one connection
pub stand_set : (stages : List CellStage) (c : ℕ) (stage : CellStage) → c < length stages → HasStand c stage stages (slice_set stages c stage)
stand_set stages c stage l =
    record {
      count = length-set stages c stage;
      own = get_or-set_same stages c stage Lean l;
      others = λ x n. get_or-set_other stages c x stage Lean (λ e. n (sym e));
    }

pub stand_same : (stages : List CellStage) (c : ℕ) (stage : CellStage) → slice_index_or stages c Lean ≡ stage → HasStand c stage stages stages
stand_same stages c stage is = record { count = refl; own = is; others = λ x n. refl }

-- a value at one number that is the one that was there
pub kept_at : {X : Type 0} (f : ℕ → X) (c x : ℕ) → f x ≡ at_number f c (f c) x
kept_at f c x = go (cases_eq x c)
  where
    go : (x ≡ c) ⊎ (x ≡ c → ⊥) → f x ≡ at_number f c (f c) x
    go (inl e) = ap f e ∙ sym (ap (at_number f c (f c)) e ∙ put_same f c (f c))
    go (inr n) = sym (put_other f c (f c) x n)

-- a connection that is in the table now
pub in_table : (max : ℕ) (P : Phase → Type 0) (table : TableView) (c : ℕ) (slot : Slot) (conn : LoopConn) → slot_in c table.slots ≡ Some slot → P slot.conn.phase → IsOpenTied max slot.conn conn
    → IsInTable max P table c conn
in_table max P table c slot conn is p tied =
    let same : slot_of c table.slots ≡ slot = of_found c table.slots slot is in
    record {
      there = subst (λ o. IsSome o) (sym is) refl;
      in_its_phase = subst (λ (k : Slot). P k.conn.phase) (sym same) p;
      tied = subst (λ (k : Slot). IsOpenTied max k.conn conn) (sym same) tied;
    }

pub size_now : (table : TableView) (c : ℕ) (slot : Slot) → slot_in c table.slots ≡ Some slot → (slot_of c table.slots).size ≡ slot.size
size_now table c slot is = ap (λ (k : Slot). k.size) (of_found c table.slots slot is)

-- a connection of which nothing has changed stands as it did
module _ (max x : ℕ) (old new : TableView) (same : slot_in x new.slots ≡ slot_in x old.slots) where
  slots_same : slot_of x new.slots ≡ slot_of x old.slots
  slots_same = ap (λ o. unwrap_or o (fresh_slot x)) same

  in_moved : (P : Phase → Type 0) (conn : LoopConn) → IsInTable max P old x conn → IsInTable max P new x conn
  in_moved P conn t =
      record {
        there = subst (λ o. IsSome o) (sym same) t.there;
        in_its_phase = subst (λ (k : Slot). P k.conn.phase) (sym slots_same) t.in_its_phase;
        tied = subst (λ (k : Slot). IsOpenTied max k.conn conn) (sym slots_same) t.tied;
      }

  admitted_moved : (admitted : Option ℕ) → HasAdmittedSize old x admitted → HasAdmittedSize new x admitted
  admitted_moved admitted t =
      (subst (λ (k : Slot). IsSome k.size) (sym slots_same) t.0, t.1 ∙ ap (λ (k : Slot). k.size) (sym slots_same))

  pub stand_moved : (conn : LoopConn) (admitted : Option ℕ) (stage : CellStage) → CellStageTells max old x conn admitted stage → CellStageTells max new x conn admitted stage
  stand_moved conn admitted Lean t = (in_moved _ conn t.0, ap (λ (k : Slot). k.size) slots_same ∙ t.1, t.2)
  stand_moved conn admitted Framed t = (in_moved _ conn t.0, admitted_moved admitted t.1)
  stand_moved conn admitted Whole t = (in_moved _ conn t.0, admitted_moved admitted t.1)
  stand_moved conn admitted Asked t = (in_moved _ conn t.0, admitted_moved admitted t.1)
  stand_moved conn admitted (Over cause) t = (same ∙ t.0, t.1, t.2)

-- the same stand, told of equal parts
pub told_same : (max : ℕ) (table : TableView) (x : ℕ) (conn conn_now : LoopConn) (admitted admitted_now : Option ℕ) (stage stand_now : CellStage) → conn_now ≡ conn → admitted_now ≡ admitted
    → stand_now ≡ stage → CellStageTells max table x conn admitted stage → CellStageTells max table x conn_now admitted_now stand_now
told_same max table x conn conn_now admitted admitted_now stage stand_now a b e t =
    subst (λ k. CellStageTells max table x k admitted_now stand_now) (sym a)
    (subst (λ k. CellStageTells max table x conn k stand_now) (sym b) (subst (λ k. CellStageTells max table x conn admitted k) (sym e) t))

-- what feeds are tied to
pub record AreFeedsTied (feeds : List Feed) (unread : ℕ → List (List ℕ)) (finish : ℕ → Option InputFinish) (rules : ℕ → List PlanRule) : Type 0 where
  pub unread_is : (c : ℕ) → unread c ≡ unread_in feeds c
  pub finish_is : (c : ℕ) → finish c ≡ finish_in feeds c
  pub rules_are : (c : ℕ) → rules c ≡ rules_in feeds c
  pub pieces : AllByRecursion HasSomePieces feeds
  pub writes : (c : ℕ) → AllByRecursion BoundsSome (rules_in feeds c)

pub feeds_of : (s : CellSetting) (part : LoopPart) (play : ServedPlay) → IsLoopTied s part play → AreFeedsTied part.feeds.items play.unread play.finish play.rules
feeds_of s part play t = record { unread_is = t.unread; finish_is = t.finish; rules_are = t.rules; pieces = t.pieces; writes = t.writes }

-- connection c has changed in a play: to this, with this size admitted, and these marks more
pub record HasChanged (c : ℕ) (conn : LoopConn) (admitted : Option ℕ) (marks : List Mark) (old new : ServedPlay) : Type 0 where
  pub tape : new.cell.loop.tape ≡ old.cell.loop.tape ++ marks
  pub count : new.cell.loop.count ≡ old.cell.loop.count
  pub own : new.cell.loop.conns c ≡ conn
  pub others : (x : ℕ) → (c ≡ x → ⊥) → new.cell.loop.conns x ≡ old.cell.loop.conns x
  pub size : (x : ℕ) → new.admitted x ≡ at_number old.admitted c admitted x

pub loop_changed : (c : ℕ) (conn : LoopConn) (admitted : Option ℕ) (marks : List Mark) (old new : ServedPlay) → new.cell.loop ≡ changed old.cell.loop c conn marks
    → ((x : ℕ) → new.admitted x ≡ at_number old.admitted c admitted x) → HasChanged c conn admitted marks old new
loop_changed c conn admitted marks old new loop size =
    record {
      tape = ap (λ (k : Loop). k.tape) loop;
      count = ap (λ (k : Loop). k.count) loop;
      own = ap (λ (k : Loop). k.conns c) loop ∙ put_same old.cell.loop.conns c conn;
      others = λ x n. ap (λ (k : Loop). k.conns x) loop ∙ put_other old.cell.loop.conns c conn x (λ e. n (sym e));
      size = size;
    }

pub changed_tied : (s : CellSetting) (c : ℕ) (old new : LoopPart) (play next : ServedPlay) (conn : LoopConn) (admitted : Option ℕ) (stage : CellStage) (marks : List Mark) → IsLoopTied s old play
    → c < length old.stages.items → IsSameBut c old.table new.table → HasStand c stage old.stages.items new.stages.items → new.tape.items ≡ old.tape.items ++ marks
    → HasChanged c conn admitted marks play next → length new.feeds.items ≡ length old.feeds.items → AreFeedsTied new.feeds.items next.unread next.finish next.rules
    → CellStageTells s.desk.max_frame new.table c conn admitted stage → IsLoopTied s new next
changed_tied s c old new play next conn admitted stage marks t l table stages tape play_is count feeds tells =
    let fed : length old.stages.items ≤ length old.feeds.items = t.fed in
    let same : length new.stages.items ≡ length old.stages.items = stages.count in
    record {
      budget = table.budget ∙ t.budget;
      tape = play_is.tape ∙ ap (λ tape. tape ++ marks) t.tape ∙ sym tape;
      count = play_is.count ∙ t.count ∙ sym stages.count;
      stages = λ x below. each x (omega arith) (cases_eq c x);
      unopened = λ x beyond.
          let n : c ≡ x → ⊥ = λ e. let e2 : c ≡ x = e in let f : ⊥ = omega arith in f in
          let m : length old.stages.items ≤ x = omega arith in
          (table.others x n ∙ (t.unopened x m).0, play_is.size x ∙ put_other play.admitted c admitted x (λ e. n (sym e)) ∙ (t.unopened x m).1);
      unread = feeds.unread_is;
      finish = feeds.finish_is;
      rules = feeds.rules_are;
      pieces = feeds.pieces;
      writes = feeds.writes;
      fed = omega arith;
    }
  where
    each : (x : ℕ) → x < length old.stages.items → (c ≡ x) ⊎ (c ≡ x → ⊥)
        → CellStageTells s.desk.max_frame new.table x (next.cell.loop.conns x) (next.admitted x) (slice_index_or new.stages.items x Lean)
    each x below (inl e) =
        subst (λ x. CellStageTells s.desk.max_frame new.table x (next.cell.loop.conns x) (next.admitted x) (slice_index_or new.stages.items x Lean)) e
        (told_same s.desk.max_frame new.table c conn (next.cell.loop.conns c) admitted (next.admitted c) stage (slice_index_or new.stages.items c Lean)
        play_is.own (play_is.size c ∙ put_same play.admitted c admitted) stages.own tells)
    each x below (inr n) =
        told_same s.desk.max_frame new.table x (play.cell.loop.conns x) (next.cell.loop.conns x) (play.admitted x) (next.admitted x)
        (slice_index_or old.stages.items x Lean) (slice_index_or new.stages.items x Lean)
        (play_is.others x n)
        (play_is.size x ∙ put_other play.admitted c admitted x (λ e. n (sym e))) (stages.others x n)
        (stand_moved s.desk.max_frame x old.table new.table (table.others x n) (play.cell.loop.conns x) (play.admitted x) (slice_index_or old.stages.items x Lean) (t.stages x below))

-- how a connection stands that is tied
pub stands_so : (s : CellSetting) (c : ℕ) (part : LoopPart) (play : ServedPlay) (stage : CellStage) → IsLoopTied s part play → slice_get part.stages.items c ≡ Some stage
    → CellStageTells s.desk.max_frame part.table c (play.cell.loop.conns c) (play.admitted c) stage
stands_so s c part play stage t is =
    subst (λ k. CellStageTells s.desk.max_frame part.table c (play.cell.loop.conns c) (play.admitted c) k) (get_or_from_slice_get part.stages.items c stage Lean is)
    (t.stages c (place_of part.stages.items c stage is))
