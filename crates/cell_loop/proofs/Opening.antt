-- The next connection is opened on both sides, where one more may be open.
use Rattle.std.proofs.Common.{Vec, Global, ◌≡◌, ℕ, suc, ◌+◌, ◌*◌, ◌^◌, ◌<◌, ◌≤◌, ◌⊎◌, Bool, true, false, Option, None, Some, [], ◌∷◌, ◌++◌, length, slice_index_or, refl, sym, ap, ◌∙◌, subst, inl, inr, option_map, arith}
use Rattle.std.proofs.lemmas.Bool.{cases_eq, cases_lt, lt-ltb, le-ltb, true≢false}
use Rattle.std.proofs.lemmas.List.{length_push, get_or_push, get_or_append_left}
use Rattle.std.specs.Vec.{vec_capacity}
use Rattle.host_model.specs.declared.cause.EndCause.{EndCause}
use Rattle.streams.specs.declared.marks.Mark.TheVariants.{Opened}
use Rattle.conn_state.specs.Phase.{fresh_conn}
use Rattle.conn_table.specs.Slots.{most_connections, slot_in, with_added, HaveRisingNumbers}
use Rattle.conn_table.specs.Table.{TableView, fresh_slot}
use Rattle.conn_table.proofs.Rising.{count_added}
use Rattle.conn_table.proofs.Sizing.{found_more, other_more}
use Rattle.machine_model.specs.Loop.{new_conn, with_conn, open_among}
use Rattle.machine_model.specs.Plain.{when, with_loop, opened_plain}
use Rattle.machine_model.proofs.Lists.{put_same, put_other}
use Rattle.cell_loop.specs.declared.loop_part.CellStage.TheVariants.{Lean}
use Rattle.cell_loop.specs.declared.loop_part.LoopPart.{LoopPart}
use Rattle.cell_loop.specs.Settings.{CellSetting, ServedCell, ServedPlay}
use Rattle.cell_loop.specs.Moving.{HasNoMove, GoesTo, one_opening}
use Rattle.conn_refinement.specs.Phases.{IsLean, IsOpenTied}
use Rattle.cell_loop.specs.LoopTied.{CellStageTells, IsLoopTied, HasRoomToClose}
use Rattle.cell_loop.specs.Closing.{HasMoreRoom}
use Rattle.cell_loop.specs.LoopMoves.{HasSameHall}
use Rattle.conn_refinement.proofs.Tables.{no_bytes}
use Rattle.cell_loop.proofs.Tying.{AreFeedsTied, feeds_of, in_table, size_now, stand_moved, told_same}
use Rattle.cell_loop.proofs.Ending.{once, same_feeds, as_many_feeds}
use Rattle.cell_loop.proofs.Counting.{open_counted}

-- the play with one more connection
abbrev pub opened_play : ServedPlay → ServedPlay
opened_play play = record play { cell = record play.cell { loop = opened_plain play.cell.loop }; moves = suc play.moves }

abbrev told_opening : ServedPlay → Option ServedCell → Option ServedPlay
told_opening play o = option_map (λ (cell : ServedCell). record play { cell = cell; moves = suc play.moves }) o

fresh_tied : (max : ℕ) → IsOpenTied max fresh_conn new_conn
fresh_tied max = record { going = refl; counted = refl; tells = ((refl, refl), refl, omega arith, refl, no_bytes) }

-- as many are open as may be
pub none_opens : (s : CellSetting) (part : LoopPart) (play : ServedPlay) → IsLoopTied s part play → HaveRisingNumbers part.table.slots → length part.table.slots ≡ most_connections
    → HasNoMove (one_opening s) play
none_opens s part play t rising full passes enough memory =
    let all : open_among play.cell.loop.conns play.cell.loop.count ≡ length part.table.slots = open_counted s part play t rising in
    let many : length part.table.slots ≡ 1024 = full in
    ap (λ b. told_opening play (with_loop play.cell (when b (Some (opened_plain play.cell.loop)))))
    (le-ltb (open_among play.cell.loop.conns play.cell.loop.count) most_connections (omega arith))

module _ (s : CellSetting) (old new : LoopPart) (play : ServedPlay) (c : ℕ) (t : IsLoopTied s old play) (is : length old.stages.items ≡ c)
    (table : new.table ≡ record old.table { slots = with_added (fresh_slot c) old.table.slots }) (tape : new.tape.items ≡ old.tape.items ++ Opened c ∷ [])
    (stages : new.stages.items ≡ old.stages.items ++ Lean ∷ []) (feeds : new.feeds ≡ old.feeds) (more : length old.stages.items < length old.feeds.items) where
  count : play.cell.loop.count ≡ c
  count = t.count ∙ is

  known : length new.stages.items ≡ c + 1
  known = ap length stages ∙ length_push old.stages.items Lean ∙ ap (λ n. n + 1) is

  beyond : length old.stages.items ≤ c
  beyond = let e : length old.stages.items ≡ c = is in omega arith

  found : slot_in c new.table.slots ≡ Some (fresh_slot c)
  found = ap (λ (v : TableView). slot_in c v.slots) table ∙ found_more (fresh_slot c) old.table.slots (t.unopened c beyond).0

  others : (x : ℕ) → (c ≡ x → ⊥) → slot_in x new.table.slots ≡ slot_in x old.table.slots
  others x n = ap (λ (v : TableView). slot_in x v.slots) table ∙ other_more (fresh_slot c) x old.table.slots n

  abbrev next : ServedPlay
  next = opened_play play

  abbrev Tells : ℕ → Type 0
  Tells x = CellStageTells s.desk.max_frame new.table x (next.cell.loop.conns x) (next.admitted x) (slice_index_or new.stages.items x Lean)

  own_conn : next.cell.loop.conns c ≡ new_conn
  own_conn = ap (λ k. with_conn play.cell.loop.conns k new_conn c) count ∙ put_same play.cell.loop.conns c new_conn

  own_stand : slice_index_or new.stages.items c Lean ≡ Lean
  own_stand = ap (λ xs. slice_index_or xs c Lean) stages ∙ get_or_push old.stages.items Lean Lean c is

  own_tells : Tells c
  own_tells =
      told_same s.desk.max_frame new.table c new_conn (next.cell.loop.conns c) None (next.admitted c) Lean (slice_index_or new.stages.items c Lean) own_conn (t.unopened c beyond).1 own_stand
      (in_table s.desk.max_frame IsLean new.table c (fresh_slot c) new_conn found tt (fresh_tied s.desk.max_frame), size_now new.table c (fresh_slot c) found, refl)

  other_tells : (x : ℕ) → (c ≡ x → ⊥) → x < length old.stages.items → Tells x
  other_tells x n below =
      told_same s.desk.max_frame new.table x (play.cell.loop.conns x) (next.cell.loop.conns x) (play.admitted x) (next.admitted x)
      (slice_index_or old.stages.items x Lean) (slice_index_or new.stages.items x Lean)
      (put_other play.cell.loop.conns play.cell.loop.count new_conn x (λ e. n (sym (e ∙ count)))) refl
      (ap (λ xs. slice_index_or xs x Lean) stages ∙ get_or_append_left old.stages.items (Lean ∷ []) Lean x below)
      (stand_moved s.desk.max_frame x old.table new.table (others x n) (play.cell.loop.conns x) (play.admitted x) (slice_index_or old.stages.items x Lean) (t.stages x below))

  tells : (x : ℕ) → x < length new.stages.items → (c ≡ x) ⊎ (c ≡ x → ⊥) → Tells x
  tells x below (inl e) = subst Tells e own_tells
  tells x below (inr n) = other_tells x n (by (cases_lt x (length old.stages.items)))
    where
      by : (x < length old.stages.items) ⊎ (length old.stages.items ≤ x) → x < length old.stages.items
      by (inl l) = l
      by (inr l) =
          let k : length new.stages.items ≡ c + 1 = known in
          let m : length old.stages.items ≡ c = is in
          absurd (n (let e : c ≡ x = omega arith in e))

  all_feeds : AreFeedsTied new.feeds.items play.unread play.finish play.rules
  all_feeds = same_feeds old.feeds new.feeds play.unread play.finish play.rules feeds (feeds_of s old play t)

  pub opened_tied : IsLoopTied s new next
  opened_tied =
      let k : length new.stages.items ≡ c + 1 = known in
      let m : length old.stages.items ≡ c = is in
      let n : length old.stages.items < length old.feeds.items = more in
      let f : length new.feeds.items ≡ length old.feeds.items = as_many_feeds old.feeds new.feeds feeds in
      let q : play.cell.loop.count ≡ c = count in
      record {
        budget = ap (λ (v : TableView). v.budget) table ∙ t.budget;
        tape = (λ i. t.tape i ++ Opened (count i) ∷ []) ∙ sym tape;
        count = omega arith;
        stages = λ x below. tells x below (cases_eq c x);
        unopened = λ x past.
            let far : c ≡ x → ⊥ = λ e. let e2 : c ≡ x = e in let g : ⊥ = omega arith in g in
            (others x far ∙ (t.unopened x (omega arith)).0, (t.unopened x (omega arith)).1);
        unread = all_feeds.unread_is;
        finish = all_feeds.finish_is;
        rules = all_feeds.rules_are;
        pieces = all_feeds.pieces;
        writes = all_feeds.writes;
        fed = omega arith;
      }

  -- one more may be open
  pub opens_one : HaveRisingNumbers old.table.slots → length old.table.slots < most_connections → GoesTo (one_opening s) (λ after. IsLoopTied s new after × HasSameHall play after) play
  opens_one rising fits =
      let all : open_among play.cell.loop.conns play.cell.loop.count ≡ length old.table.slots = open_counted s old play t rising in
      let few : length old.table.slots < 1024 = fits in (
        next,
        once (one_opening s) play next refl
            (λ passes enough memory.
            ap (λ b. told_opening play (with_loop play.cell (when b (Some (opened_plain play.cell.loop)))))
            (lt-ltb (open_among play.cell.loop.conns play.cell.loop.count) most_connections (omega arith))),
        (opened_tied, (refl, refl)),
      )

-- where not as many are open as may be, there is room for one more
pub room_for_one : (full : Bool) (open_now : ℕ) → (open_now ≡ most_connections → full ≡ true) → open_now ≤ most_connections → full ≡ false → open_now < most_connections
room_for_one full open_now told few vacant = by (cases_lt open_now most_connections)
  where
    by : (open_now < most_connections) ⊎ (most_connections ≤ open_now) → open_now < most_connections
    by (inl l) = l
    by (inr l) = absurd (true≢false (sym (told (let e : open_now ≡ most_connections = omega arith in e)) ∙ vacant))

-- room is left behind it
pub opened_room : (old mid new : LoopPart) (c : ℕ) → HasMoreRoom old mid → HasRoomToClose old → length old.table.slots < most_connections → length mid.stages.items ≡ c → c < 2 ^ 32
    → length mid.tape.items + (1 + 2 * most_connections) ≤ mid.tape.capacity → length mid.stages.items < vec_capacity mid.ends
    → new.table ≡ record mid.table { slots = with_added (fresh_slot c) mid.table.slots } → new.tape.items ≡ mid.tape.items ++ Opened c ∷ [] → new.tape.capacity ≡ mid.tape.capacity
    → new.stages.items ≡ mid.stages.items ++ Lean ∷ [] → new.ends ≡ mid.ends → HasRoomToClose new
opened_room old mid new c more room few is fits marks causes table tape capacity stages ends =
    let slots : length new.table.slots ≡ suc (length mid.table.slots) =
    ap (λ (v : TableView). length v.slots) table ∙ count_added (fresh_slot c) mid.table.slots in
    let same : length mid.table.slots ≡ length old.table.slots = ap (λ (v : TableView). length v.slots) more.table in
    let taped : length new.tape.items ≡ length mid.tape.items + 1 = ap length tape ∙ length_push mid.tape.items (Opened c) in
    let known : length new.stages.items ≡ length mid.stages.items + 1 = ap length stages ∙ length_push mid.stages.items Lean in
    let for_ends : vec_capacity new.ends ≡ vec_capacity mid.ends = ap (λ (v : Vec EndCause Global). vec_capacity v) ends in
    let number : length new.stages.items ≡ suc c = omega arith in
    record {
      for_marks = omega arith;
      for_causes = omega arith;
      none_yet = ap (λ (v : Vec EndCause Global). v.items) ends ∙ more.ends ∙ room.none_yet;
      numbered = subst (λ n. n ≤ 2 ^ 32) (sym number) fits;
    }
