use Rattle.std.proofs.Common.{◌≡◌, ◌+◌, ◌<◌, ◌≤◌, ℕ, suc, None, Some, List, length, ap, ◌∙◌, sym, subst, arith, refl}
use Rattle.std.specs.Prelude.{insert, if◌then◌else◌}
use Rattle.std.specs.List.{AllByRecursion}
use Rattle.slab.specs.Slab.{get}
use Rattle.conn_table.specs.declared.places.Row.{Row}
use Rattle.conn_table.specs.Rows.{key_in, rank_below, IsRising}
use Rattle.conn_table.specs.Slots.{slot_in, with_added}
use Rattle.conn_table.specs.Places.{kept_in, IsPlaced}
use Rattle.conn_table.proofs.Placing.{length-kept, none_kept, added, added_placed, added_rising, length-inserted}
use Rattle.conn_table.proofs.places.Places.insert.Goals as goal

below_most : (kept rows : ℕ) → kept ≡ rows → kept < 1024 → rows < 1024
below_most kept rows e l = omega arith

has_room : (slots rows capacity : ℕ) → slots ≡ rows → rows < 1024 → 1024 ≤ capacity → slots + 1 ≤ capacity
has_room slots rows capacity e l r = omega arith

pub insert_reserved-key-requires : goal.insert_reserved-key-requires
insert_reserved-key-requires c =
    let l = below_most _ _ (sym (ap length c.self.view_is) ∙ length-kept c.self.inside.slots c.self.inside.rows.items c.self.invariant.placed) c.requires.room in
    has_room _ _ _ c.self.invariant.counted l c.self.invariant.room

vec_below : (items len rows capacity : ℕ) → items ≡ len → items ≡ rows → rows < 1024 → 1024 ≤ capacity → len < capacity
vec_below items len rows capacity a b l r = omega arith

one_more : (old new items rows : ℕ) → new ≡ old + 1 → old ≡ rows → items ≡ suc rows → new ≡ items
one_more old new items rows a b e = omega arith

still_few : (items rows : ℕ) → items ≡ suc rows → rows < 1024 → items ≤ 1024
still_few items rows e l = omega arith

pub invariant_of-self : goal.invariant_of-self
invariant_of-self c =
    let slab = c.self.inside.slots in
    let rows : List Row = c.self.inside.rows.items in
    let row : Row = record { number = c.args.slot.number; key = c.insert_reserved-key.result } in
    let l = below_most _ _ (sym (ap length c.self.view_is) ∙ length-kept slab rows c.self.invariant.placed) c.requires.room in
    let ok = c.insert.ensures.succeeds (vec_below _ _ _ _ c.as_slice.ensures.len (ap length c.as_slice.ensures.value) l c.self.invariant.rows_room) in
    let place : c.rank_of-place.result ≡ rank_below row.number rows = c.rank_of-place.ensures.rank_below ∙ ap (rank_below row.number) c.as_slice.ensures.value in
    let items : c.insert.new.self.items ≡ insert rows (rank_below row.number rows) row =
    c.insert.ensures.items ∙ ap (λ b. if b then insert rows c.rank_of-place.result row else rows) ok ∙ ap (λ i. insert rows i row) place in
    let absent : key_in row.number rows ≡ None = none_kept slab row.number rows c.self.invariant.placed (ap (slot_in row.number) c.self.view_is ∙ c.requires.vacant) in
    let is : get c.insert_reserved-key.new.self row.key ≡ Some c.args.slot = c.insert_reserved-key.ensures.updates.changed in
    let others = c.insert_reserved-key.ensures.updates.others in
    let n : length c.insert.new.self.items ≡ suc (length rows) = ap length items ∙ length-inserted rows row.number row in
    record {
      rising = subst IsRising (sym items) (added_rising slab c.insert_reserved-key.new.self row.key others row rows c.self.invariant.rising absent);
      placed = subst (AllByRecursion (IsPlaced c.insert_reserved-key.new.self)) (sym items)
          (added_placed slab c.insert_reserved-key.new.self row.key others c.args.slot row rows is refl refl c.insert_reserved-key.ensures.was_vacant c.self.invariant.placed);
      counted = one_more _ _ _ _ c.insert_reserved-key.ensures.len c.self.invariant.counted n;
      few = still_few _ _ n l;
      room = subst (λ k. 1024 ≤ k) (sym c.insert_reserved-key.ensures.capacity) c.self.invariant.room;
      rows_room = at_least _ _ c.self.invariant.rows_room c.insert.ensures.capacity;
    }
  where
    at_least : (x y : ℕ) → 1024 ≤ x → x ≤ y → 1024 ≤ y
    at_least x y a b = omega arith

pub returns : goal.returns
returns c =
    let slab = c.self.inside.slots in
    let rows : List Row = c.self.inside.rows.items in
    let row : Row = record { number = c.args.slot.number; key = c.insert_reserved-key.result } in
    let l = below_most _ _ (sym (ap length c.self.view_is) ∙ length-kept slab rows c.self.invariant.placed) c.requires.room in
    let ok = c.insert.ensures.succeeds (vec_below _ _ _ _ c.as_slice.ensures.len (ap length c.as_slice.ensures.value) l c.self.invariant.rows_room) in
    let place : c.rank_of-place.result ≡ rank_below row.number rows = c.rank_of-place.ensures.rank_below ∙ ap (rank_below row.number) c.as_slice.ensures.value in
    let items : c.insert.new.self.items ≡ insert rows (rank_below row.number rows) row =
    c.insert.ensures.items ∙ ap (λ b. if b then insert rows c.rank_of-place.result row else rows) ok ∙ ap (λ i. insert rows i row) place in
    let is : get c.insert_reserved-key.new.self row.key ≡ Some c.args.slot = c.insert_reserved-key.ensures.updates.changed in
    ap (kept_in c.insert_reserved-key.new.self) items
    ∙ added slab c.insert_reserved-key.new.self row.key c.insert_reserved-key.ensures.updates.others c.args.slot row rows is refl refl c.insert_reserved-key.ensures.was_vacant c.self.invariant.placed
    ∙ ap (with_added c.args.slot) c.self.view_is
