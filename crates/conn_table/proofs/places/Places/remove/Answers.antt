use Rattle.std.proofs.Common.{◌≡◌, ◌+◌, ◌<◌, ◌≤◌, ℕ, List, length, get_or, ap, ◌∙◌, sym, subst, arith}
use Rattle.std.specs.Prelude.{remove}
use Rattle.std.specs.List.{AllByRecursion}
use Rattle.std.proofs.lemmas.Option.{slice_get_within, get_or_from_slice_get}
use Rattle.slab.specs.Slab.{get}
use Rattle.conn_table.specs.declared.places.Row.{Row}
use Rattle.conn_table.specs.Rows.{rank_below, IsRising}
use Rattle.conn_table.specs.Slots.{slot_in, without_number}
use Rattle.conn_table.specs.Places.{kept_in, IsPlaced}
use Rattle.conn_table.proofs.Ranks.{rank_found}
use Rattle.conn_table.proofs.Placing.{value_of, key_of_kept, removed, removed_rising, length-removed}
use Rattle.conn_table.proofs.Rising.{kept_rising, gone}
use Rattle.conn_table.proofs.places.Places.remove.Goals as goal

pub remove-row-requires : goal.remove-row-requires
remove-row-requires c =
    let rows : List Row = c.self.inside.rows.items in
    let v = value_of _ c.requires in
    let t = key_of_kept c.self.inside.slots c.args.number rows v.0 c.self.invariant.placed (ap (slot_in c.args.number) c.self.view_is ∙ v.1) in
    let f = rank_found c.args.number t.0 rows c.self.invariant.rising t.1 in
    let place : c.rank_of-place.result ≡ rank_below c.args.number rows = c.rank_of-place.ensures.rank_below ∙ ap (rank_below c.args.number) c.as_slice.ensures.value in
    let l : rank_below c.args.number rows < length rows = slice_get_within rows (rank_below c.args.number rows) f.0 f.1 in
    within _ _ _ _ place (ap length (sym c.as_slice.ensures.value) ∙ c.as_slice.ensures.len) l
  where
    within : (i j items len : ℕ) → i ≡ j → items ≡ len → j < items → i < len
    within i j items len a b l = omega arith

pub invariant_of-self : goal.invariant_of-self
invariant_of-self c =
    let slab = c.self.inside.slots in
    let rows : List Row = c.self.inside.rows.items in
    let v = value_of _ c.requires in
    let t = key_of_kept slab c.args.number rows v.0 c.self.invariant.placed (ap (slot_in c.args.number) c.self.view_is ∙ v.1) in
    let f = rank_found c.args.number t.0 rows c.self.invariant.rising t.1 in
    let place : c.rank_of-place.result ≡ rank_below c.args.number rows = c.rank_of-place.ensures.rank_below ∙ ap (rank_below c.args.number) c.as_slice.ensures.value in
    let items : c.remove-row.new.self.items ≡ remove rows (rank_below c.args.number rows) = c.remove-row.ensures.items ∙ ap (λ i. remove rows i) place in
    let same : c.remove-row.result.key ≡ t.0 =
    ap (λ (row : Row). row.key) (c.remove-row.ensures.value ∙ ap (λ i. get_or rows i c.remove-row.result) place ∙ get_or_from_slice_get rows (rank_below c.args.number rows) f.0 c.remove-row.result f.1) ∙ f.3 in
    let r = removed slab c.remove.new.self t.0 (λ k n. c.remove.ensures.updates.others k (λ e. n (e ∙ same))) c.args.number rows c.self.invariant.rising c.self.invariant.placed t.1 in
    let n : length (remove rows (rank_below c.args.number rows)) + 1 ≡ length rows = length-removed rows c.args.number (slice_get_within rows (rank_below c.args.number rows) f.0 f.1) in
    record {
      rising = subst IsRising (sym items) (removed_rising slab c.remove.new.self t.0 (λ k n. c.remove.ensures.updates.others k (λ e. n (e ∙ same))) c.args.number rows c.self.invariant.rising);
      placed = subst (AllByRecursion (IsPlaced c.remove.new.self)) (sym items) r.1;
      counted = one_less _ _ _ _ _ c.remove.ensures.len c.self.invariant.counted (ap length items) n;
      few = still_few _ _ _ (ap length items) n c.self.invariant.few;
      room = subst (λ k. 1024 ≤ k) (sym c.remove.ensures.capacity) c.self.invariant.room;
      rows_room = subst (λ k. 1024 ≤ k) (sym c.remove-row.ensures.capacity) c.self.invariant.rows_room;
    }
  where
    one_less : (old new rows items left : ℕ) → new + 1 ≡ old → old ≡ rows → items ≡ left → left + 1 ≡ rows → new ≡ items
    one_less old new rows items left a b e n = omega arith

    still_few : (items left rows : ℕ) → items ≡ left → left + 1 ≡ rows → rows ≤ 1024 → items ≤ 1024
    still_few items left rows e n l = omega arith

pub returns-clause-old : goal.returns-clause-old
returns-clause-old c =
    let rows : List Row = c.self.inside.rows.items in
    let v = value_of _ c.requires in
    let t = key_of_kept c.self.inside.slots c.args.number rows v.0 c.self.invariant.placed (ap (slot_in c.args.number) c.self.view_is ∙ v.1) in
    let f = rank_found c.args.number t.0 rows c.self.invariant.rising t.1 in
    let place : c.rank_of-place.result ≡ rank_below c.args.number rows = c.rank_of-place.ensures.rank_below ∙ ap (rank_below c.args.number) c.as_slice.ensures.value in
    let same : c.remove-row.result.key ≡ t.0 =
    ap (λ (row : Row). row.key) (c.remove-row.ensures.value ∙ ap (λ i. get_or rows i c.remove-row.result) place ∙ get_or_from_slice_get rows (rank_below c.args.number rows) f.0 c.remove-row.result f.1) ∙ f.3 in
    v.1 ∙ sym t.2 ∙ ap (get c.self.inside.slots) (sym same) ∙ c.remove.ensures.value

pub returns-clause-new : goal.returns-clause-new
returns-clause-new c =
    let slab = c.self.inside.slots in
    let rows : List Row = c.self.inside.rows.items in
    let v = value_of _ c.requires in
    let t = key_of_kept slab c.args.number rows v.0 c.self.invariant.placed (ap (slot_in c.args.number) c.self.view_is ∙ v.1) in
    let f = rank_found c.args.number t.0 rows c.self.invariant.rising t.1 in
    let place : c.rank_of-place.result ≡ rank_below c.args.number rows = c.rank_of-place.ensures.rank_below ∙ ap (rank_below c.args.number) c.as_slice.ensures.value in
    let items : c.remove-row.new.self.items ≡ remove rows (rank_below c.args.number rows) = c.remove-row.ensures.items ∙ ap (λ i. remove rows i) place in
    let same : c.remove-row.result.key ≡ t.0 =
    ap (λ (row : Row). row.key) (c.remove-row.ensures.value ∙ ap (λ i. get_or rows i c.remove-row.result) place ∙ get_or_from_slice_get rows (rank_below c.args.number rows) f.0 c.remove-row.result f.1) ∙ f.3 in
    let r = removed slab c.remove.new.self t.0 (λ k n. c.remove.ensures.updates.others k (λ e. n (e ∙ same))) c.args.number rows c.self.invariant.rising c.self.invariant.placed t.1 in
    ap (kept_in c.remove.new.self) items ∙ r.0 ∙ ap (without_number c.args.number) c.self.view_is

pub returns-clause-gone : goal.returns-clause-gone
returns-clause-gone c =
    let slab = c.self.inside.slots in
    let rows : List Row = c.self.inside.rows.items in
    let v = value_of _ c.requires in
    let t = key_of_kept slab c.args.number rows v.0 c.self.invariant.placed (ap (slot_in c.args.number) c.self.view_is ∙ v.1) in
    let f = rank_found c.args.number t.0 rows c.self.invariant.rising t.1 in
    let place : c.rank_of-place.result ≡ rank_below c.args.number rows = c.rank_of-place.ensures.rank_below ∙ ap (rank_below c.args.number) c.as_slice.ensures.value in
    let items : c.remove-row.new.self.items ≡ remove rows (rank_below c.args.number rows) = c.remove-row.ensures.items ∙ ap (λ i. remove rows i) place in
    let same : c.remove-row.result.key ≡ t.0 =
    ap (λ (row : Row). row.key) (c.remove-row.ensures.value ∙ ap (λ i. get_or rows i c.remove-row.result) place ∙ get_or_from_slice_get rows (rank_below c.args.number rows) f.0 c.remove-row.result f.1) ∙ f.3 in
    let r = removed slab c.remove.new.self t.0 (λ k n. c.remove.ensures.updates.others k (λ e. n (e ∙ same))) c.args.number rows c.self.invariant.rising c.self.invariant.placed t.1 in
    ap (λ l. slot_in c.args.number (kept_in c.remove.new.self l)) items ∙ ap (slot_in c.args.number) r.0 ∙ gone c.args.number (kept_in slab rows) (kept_rising slab rows c.self.invariant.rising c.self.invariant.placed)
