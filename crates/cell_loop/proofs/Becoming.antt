-- The loop's part stays tied to a play after an event of one connection, where a feed alone has changed, and where there is more room.
use Rattle.std.proofs.Common.{◌≡◌, ℕ, suc, ◌<◌, ◌≤◌, ◌⊎◌, Option, None, Some, List, [], ◌∷◌, ◌++◌, length, drop, slice_get, slice_index_or, slice_set, Vec, Global, refl, sym, ap, ◌∙◌, subst, inl, inr, arith}
use Rattle.std.specs.List.{AllByRecursion}
use Rattle.std.proofs.lemmas.Bool.{cases_eq}
use Rattle.streams.specs.declared.marks.Mark.{Mark}
use Rattle.streams.specs.Rows.{TapeView}
use Rattle.host_model.specs.declared.cause.EndCause.{EndCause}
use Rattle.conn_table.specs.Slots.{slot_in}
use Rattle.conn_table.specs.Table.{TableView}
use Rattle.machine_model.specs.Loop.{LoopConn, changed}
use Rattle.machine_model.proofs.Lists.{put_same, put_other}
use Rattle.script_model.specs.ScriptLines.{PlanRule}
use Rattle.script_model.specs.Playing.{InputFinish, at_number, kept_while_open, freed_if_over, with_rules, with_unread, moved_on}
use Rattle.cell_loop.specs.declared.feed.Feed.{Feed}
use Rattle.cell_loop.specs.declared.loop_part.CellStage.{CellStage}
use Rattle.cell_loop.specs.declared.loop_part.CellStage.TheVariants.{Lean, Over}
use Rattle.cell_loop.specs.declared.loop_part.LoopPart.{LoopPart}
use Rattle.cell_loop.specs.Settings.{CellSetting, ServedPlay}
use Rattle.cell_loop.specs.Feeds.{unread_of, finish_of, rules_left, unread_in, finish_in, rules_in, HasFeed, BoundsSome}
use Rattle.cell_loop.specs.LoopTied.{CellStageTells, IsLoopTied}
use Rattle.conn_refinement.specs.Tables.{IsSameBut}
use Rattle.cell_loop.specs.Closing.{HasStand, HasMoreRoom}
use Rattle.cell_loop.proofs.Tying.{stand_set, kept_at, AreFeedsTied, feeds_of, HasChanged, loop_changed, changed_tied, told_same, stand_moved}

-- the play once connection c has come to this, with these marks
abbrev pub after_one : ℕ → LoopConn → List Mark → ServedPlay → ServedPlay
after_one c conn marks play =
    freed_if_over c (record play { cell = record play.cell { loop = changed play.cell.loop c conn marks }; moves = suc play.moves })

-- it has changed there, and its size is kept while it has no cause
pub one_changed : (c : ℕ) (conn : LoopConn) (marks : List Mark) (play : ServedPlay)
    → HasChanged c conn (kept_while_open conn.cause (play.admitted c)) marks play (after_one c conn marks play)
one_changed c conn marks play =
    loop_changed c conn (kept_while_open conn.cause (play.admitted c)) marks play (after_one c conn marks play) refl
    (λ x. ap (λ (k : LoopConn). at_number play.admitted c (kept_while_open k.cause (play.admitted c)) x) (put_same play.cell.loop.conns c conn))

-- feeds that are the same are tied as before
feeds_same : (s : CellSetting) (old new : LoopPart) (play : ServedPlay) → IsLoopTied s old play → new.feeds ≡ old.feeds → AreFeedsTied new.feeds.items play.unread play.finish play.rules
feeds_same s old new play t feeds =
    subst (λ (v : Vec Feed Global). AreFeedsTied v.items play.unread play.finish play.rules) (sym feeds) (feeds_of s old play t)

feeds_counted : (old new : LoopPart) → new.feeds ≡ old.feeds → length new.feeds.items ≡ length old.feeds.items
feeds_counted old new feeds = ap (λ (v : Vec Feed Global). length v.items) feeds

-- the connection has ended, and is gone
pub ended_tied : (s : CellSetting) (c : ℕ) (old new : LoopPart) (play : ServedPlay) (conn : LoopConn) (cause : EndCause) (marks : List Mark) → IsLoopTied s old play
    → c < length old.stages.items → conn.cause ≡ Some cause → IsSameBut c old.table new.table → slot_in c new.table.slots ≡ None
    → new.stages.items ≡ slice_set old.stages.items c (Over cause) → new.tape.items ≡ old.tape.items ++ marks → new.feeds ≡ old.feeds → IsLoopTied s new (after_one c conn marks play)
ended_tied s c old new play conn cause marks t l is table gone stages tape feeds =
    changed_tied s c old new play (after_one c conn marks play) conn (kept_while_open conn.cause (play.admitted c)) (Over cause) marks t l table
    (subst (λ (k : List CellStage). HasStand c (Over cause) old.stages.items k) (sym stages) (stand_set old.stages.items c (Over cause) l)) tape (one_changed c conn marks play)
    (feeds_counted old new feeds) (feeds_same s old new play t feeds) (gone, ap (λ o. kept_while_open o (play.admitted c)) is, is)

-- it is open yet, and stands so
pub open_tied : (s : CellSetting) (c : ℕ) (old new : LoopPart) (play : ServedPlay) (conn : LoopConn) (stage : CellStage) (marks : List Mark) → IsLoopTied s old play
    → c < length old.stages.items → conn.cause ≡ None → IsSameBut c old.table new.table → HasStand c stage old.stages.items new.stages.items
    → new.tape.items ≡ old.tape.items ++ marks → new.feeds ≡ old.feeds → CellStageTells s.desk.max_frame new.table c conn (play.admitted c) stage
    → IsLoopTied s new (after_one c conn marks play)
open_tied s c old new play conn stage marks t l is table stages tape feeds tells =
    changed_tied s c old new play (after_one c conn marks play) conn (kept_while_open conn.cause (play.admitted c)) stage marks t l table stages tape (one_changed c conn marks play)
    (feeds_counted old new feeds) (feeds_same s old new play t feeds)
    (subst (λ o. CellStageTells s.desk.max_frame new.table c conn (kept_while_open o (play.admitted c)) stage) (sym is) tells)

-- a feed alone has changed, on both sides
pub fed_only : (s : CellSetting) (old new : LoopPart) (play next : ServedPlay) → IsLoopTied s old play → new.table ≡ old.table → new.tape.items ≡ old.tape.items
    → new.stages.items ≡ old.stages.items → length new.feeds.items ≡ length old.feeds.items → next.cell.loop ≡ play.cell.loop → next.admitted ≡ play.admitted
    → AreFeedsTied new.feeds.items next.unread next.finish next.rules → IsLoopTied s new next
fed_only s old new play next t table tape stages count loop admitted feeds =
    let fed : length old.stages.items ≤ length old.feeds.items = t.fed in
    let same : length new.stages.items ≡ length old.stages.items = ap length stages in
    record {
      budget = ap (λ (v : TableView). v.budget) table ∙ t.budget;
      tape = ap (λ k. k.tape) loop ∙ t.tape ∙ sym tape;
      count = ap (λ k. k.count) loop ∙ t.count ∙ sym same;
      stages = λ x below.
          let l : x < length old.stages.items = omega arith in
          told_same s.desk.max_frame new.table x (play.cell.loop.conns x) (next.cell.loop.conns x) (play.admitted x) (next.admitted x) _ _ (ap (λ k. k.conns x) loop)
          (ap (λ f. f x) admitted) (ap (λ k. slice_index_or k x Lean) stages)
          (stand_moved s.desk.max_frame x old.table new.table (ap (λ (v : TableView). slot_in x v.slots) table) (play.cell.loop.conns x) (play.admitted x) _ (t.stages x l));
      unopened = λ x beyond.
          let m : length old.stages.items ≤ x = omega arith in
          (ap (λ (v : TableView). slot_in x v.slots) table ∙ (t.unopened x m).0, ap (λ f. f x) admitted ∙ (t.unopened x m).1);
      unread = feeds.unread_is;
      finish = feeds.finish_is;
      rules = feeds.rules_are;
      pieces = feeds.pieces;
      writes = feeds.writes;
      fed = omega arith;
    }

-- what is known of one feed and of the others is known of each
module _ {X : Type 0} (of_feed : Option Feed → X) (c : ℕ) (x : X) (old new : List Feed) (own : of_feed (slice_get new c) ≡ x)
    (others : (y : ℕ) → (c ≡ y → ⊥) → slice_get new y ≡ slice_get old y) where
  put_told : (f : ℕ → X) → ((y : ℕ) → f y ≡ of_feed (slice_get old y)) → (y : ℕ) → at_number f c x y ≡ of_feed (slice_get new y)
  put_told f told y = go (cases_eq c y)
    where
      go : (c ≡ y) ⊎ (c ≡ y → ⊥) → at_number f c x y ≡ of_feed (slice_get new y)
      go (inl e) = ap (at_number f c x) (sym e) ∙ put_same f c x ∙ sym own ∙ ap (λ k. of_feed (slice_get new k)) e
      go (inr n) = put_other f c x y (λ e. n (sym e)) ∙ told y ∙ sym (ap of_feed (others y n))

-- what a feed says, where there is one
abbrev unread_got : Option Feed → List (List ℕ)
unread_got o = elim o [ None ↦ [] | Some feed ↦ unread_of feed ]

abbrev finish_got : Option Feed → Option InputFinish
finish_got o = elim o [ None ↦ None | Some feed ↦ finish_of feed ]

abbrev rules_got : Option Feed → List PlanRule
rules_got o = elim o [ None ↦ [] | Some feed ↦ rules_left feed ]

-- feeds of which that of connection c is put in the place of another
pub fed_put : (c : ℕ) (unread : List (List ℕ)) (finish : Option InputFinish) (rules : List PlanRule) (old new : List Feed) (unreads : ℕ → List (List ℕ)) (finishes : ℕ → Option InputFinish)
    (ruled : ℕ → List PlanRule) → AreFeedsTied old unreads finishes ruled → HasFeed c unread finish rules old new → AllByRecursion BoundsSome rules
    → AreFeedsTied new (at_number unreads c unread) (at_number finishes c finish) (at_number ruled c rules)
fed_put c unread finish rules old new unreads finishes ruled tied has bounds =
    record {
      unread_is = put_told unread_got c unread old new has.unread_is has.others unreads tied.unread_is;
      finish_is = put_told finish_got c finish old new has.finish_is has.others finishes tied.finish_is;
      rules_are = put_told rules_got c rules old new has.rules_are has.others ruled tied.rules_are;
      pieces = has.pieces;
      writes = λ y. each y (cases_eq c y);
    }
  where
    each : (y : ℕ) → (c ≡ y) ⊎ (c ≡ y → ⊥) → AllByRecursion BoundsSome (rules_in new y)
    each y (inl e) = subst (λ k. AllByRecursion BoundsSome (rules_in new k)) e (subst (AllByRecursion BoundsSome) (sym has.rules_are) bounds)
    each y (inr n) = subst (λ o. AllByRecursion BoundsSome (rules_got o)) (sym (has.others y n)) (tied.writes y)

-- feeds are tied to what is the same everywhere
feeds_as : (feeds : List Feed) (unread other_unread : ℕ → List (List ℕ)) (finish other_finish : ℕ → Option InputFinish) (rules other_rules : ℕ → List PlanRule)
    → ((c : ℕ) → other_unread c ≡ unread c) → ((c : ℕ) → other_finish c ≡ finish c) → ((c : ℕ) → other_rules c ≡ rules c)
    → AreFeedsTied feeds unread finish rules → AreFeedsTied feeds other_unread other_finish other_rules
feeds_as feeds unread other_unread finish other_finish rules other_rules a b e tied =
    record {
      unread_is = λ c. a c ∙ tied.unread_is c;
      finish_is = λ c. b c ∙ tied.finish_is c;
      rules_are = λ c. e c ∙ tied.rules_are c;
      pieces = tied.pieces;
      writes = tied.writes;
    }

-- a value at one number that is known is the one that was there
pub kept_as : {X : Type 0} (c : ℕ) (f : ℕ → X) (v : X) → f c ≡ v → (x : ℕ) → f x ≡ at_number f c v x
kept_as c f v is x = kept_at f c x ∙ ap (λ k. at_number f c k x) is

-- what has changed of a part is the feed of connection c alone, of which this is left
module _ (s : CellSetting) (c : ℕ) (old new : LoopPart) (play : ServedPlay) (t : IsLoopTied s old play) (table : new.table ≡ old.table) (tape : new.tape ≡ old.tape)
    (stages : new.stages ≡ old.stages) where
  pub fed_so : (unread : List (List ℕ)) (finish : Option InputFinish) (rules : List PlanRule) (next : ServedPlay) → HasFeed c unread finish rules old.feeds.items new.feeds.items
      → AllByRecursion BoundsSome rules → next.cell.loop ≡ play.cell.loop → next.admitted ≡ play.admitted → ((x : ℕ) → next.unread x ≡ at_number play.unread c unread x)
      → ((x : ℕ) → next.finish x ≡ at_number play.finish c finish x) → ((x : ℕ) → next.rules x ≡ at_number play.rules c rules x) → IsLoopTied s new next
  fed_so unread finish rules next has bounds loop admitted a b e =
      fed_only s old new play next t table (ap (λ (v : TapeView). v.items) tape) (ap (λ (v : Vec CellStage Global). v.items) stages) has.count loop admitted
      (feeds_as new.feeds.items (at_number play.unread c unread) next.unread (at_number play.finish c finish) next.finish (at_number play.rules c rules) next.rules a b e
      (fed_put c unread finish rules old.feeds.items new.feeds.items play.unread play.finish play.rules (feeds_of s old play t) has bounds))

  -- the same is left of it, which is kept otherwise
  pub refed_tied : HasFeed c (unread_in old.feeds.items c) (finish_in old.feeds.items c) (rules_in old.feeds.items c) old.feeds.items new.feeds.items → IsLoopTied s new play
  refed_tied has =
      fed_so (unread_in old.feeds.items c) (finish_in old.feeds.items c) (rules_in old.feeds.items c) play has (t.writes c) refl refl
      (λ x. kept_as c play.unread (unread_in old.feeds.items c) (t.unread c) x) (λ x. kept_as c play.finish (finish_in old.feeds.items c) (t.finish c) x)
      (λ x. kept_as c play.rules (rules_in old.feeds.items c) (t.rules c) x)

  -- other pieces are left of it
  pub pieces_passed : (pieces : List (List ℕ)) → HasFeed c pieces (finish_in old.feeds.items c) (rules_in old.feeds.items c) old.feeds.items new.feeds.items
      → IsLoopTied s new (with_unread c pieces play)
  pieces_passed pieces has =
      fed_so pieces (finish_in old.feeds.items c) (rules_in old.feeds.items c) (with_unread c pieces play) has (t.writes c) refl refl
      (λ x. refl) (λ x. kept_as c play.finish (finish_in old.feeds.items c) (t.finish c) x) (λ x. kept_as c play.rules (rules_in old.feeds.items c) (t.rules c) x)

  -- its first rule is used up
  pub rules_passed : (rule : PlanRule) (rules : List PlanRule) → play.rules c ≡ rule ∷ rules
      → HasFeed c (unread_in old.feeds.items c) (finish_in old.feeds.items c) (drop 1 (rules_in old.feeds.items c)) old.feeds.items new.feeds.items
      → IsLoopTied s new (with_rules c rules play)
  rules_passed rule rules are has =
      let left : drop 1 (rules_in old.feeds.items c) ≡ rules = ap (drop 1) (sym (t.rules c) ∙ are) in
      fed_so (unread_in old.feeds.items c) (finish_in old.feeds.items c) rules (with_rules c rules play)
      (subst (λ k. HasFeed c (unread_in old.feeds.items c) (finish_in old.feeds.items c) k old.feeds.items new.feeds.items) left has)
      (subst (AllByRecursion BoundsSome) left (dropped (rules_in old.feeds.items c) (t.writes c))) refl refl
      (λ x. kept_as c play.unread (unread_in old.feeds.items c) (t.unread c) x) (λ x. kept_as c play.finish (finish_in old.feeds.items c) (t.finish c) x) (λ x. refl)
    where
      dropped : (xs : List PlanRule) → AllByRecursion BoundsSome xs → AllByRecursion BoundsSome (drop 1 xs)
      dropped [] all = tt
      dropped (x ∷ xs) all = all.1

-- a move that the machine doesn't see changes nothing of it
pub moved_tied : (s : CellSetting) (part : LoopPart) (play : ServedPlay) → IsLoopTied s part play → IsLoopTied s part (moved_on play)
moved_tied s part play t = fed_only s part part play (moved_on play) t refl refl refl refl refl refl (feeds_of s part play t)

-- there is more room, and nothing else has changed
pub more_room_tied : (s : CellSetting) (old new : LoopPart) (play : ServedPlay) → HasMoreRoom old new → IsLoopTied s old play → IsLoopTied s new play
more_room_tied s old new play more t =
    fed_only s old new play play t more.table more.tape more.stages (feeds_counted old new more.feeds) refl refl (feeds_same s old new play t more.feeds)
